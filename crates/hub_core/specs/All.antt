-- The words that proofs of this crate and of those above use, under one name.
pub use Rattle.std.specs.List.{list_all, list_any}
pub use Rattle.std.specs.Option.{option_map}
pub use Rattle.std.specs.Str.{is_utf8}
pub use Rattle.ws_kinds.specs.All.{ConfigValue, NoteValue, accepted, busy, failed, given, head, no_room, opened, peer_close, ping_got, pong_got, tick, OrderValue, order_value, order_values, publish, send, subscribe, unsubscribe, has_topic, is_pair, topics_of, with_topic, without_topic, AreNoted, IsNoted, close}
pub use Rattle.ws_kinds.specs.declared.kind.Kind.{Kind}
pub use Rattle.ws_kinds.specs.declared.kind.Kind.TheVariants.{Binary, Text}
pub use Rattle.ws_kinds.specs.declared.note.Left.{Left}
pub use Rattle.ws_kinds.specs.declared.note.Left.TheVariants.{Finished, Idle, LinkFailed, PeerEnd}
pub use Rattle.ws_kinds.specs.declared.note.Phase.{Phase}
pub use Rattle.ws_kinds.specs.declared.note.Phase.TheVariants.{Ending, Gone, Head, Leaving, Open}
pub use Rattle.ws_kinds.specs.declared.note.Why.{Why}
pub use Rattle.ws_kinds.specs.declared.note.Why.TheVariants.{BadTopic, Forbidden, Memory, NotOpen, TooMany, BadCode}
pub use Rattle.wire_meaning.specs.All.{Item, close_item, is_droppable, replied, spelled, whole, header, opcode_number, is_sendable}
pub use Rattle.wire_meaning.specs.declared.frame.Opcode.{Opcode}
pub use Rattle.wire_meaning.specs.declared.frame.Opcode.TheVariants.{Begins, Close, Continuation, Ping, Pong, Reserved}
pub use Rattle.link_trait.specs.All.{CountsFault, NetState}
pub use Rattle.frame_writer.specs.All.{is_sent_opcode}
pub use Rattle.topic_tree.specs.All.{ChangesTopics, IsLast, IsNext}
pub use Rattle.topic_guard.specs.Admits.{admits}
pub use Rattle.run_meaning.specs.All.{dropped_by, dropped_of, gather, has_number, is_gone_by_in, is_gone_in, number_of, taken, taken_by, took_by, total, writes, cause_of, data_frame, is_open, leaves_open, moved, topics_left, is_gone_by, is_left, is_of, is_sending, is_turn, Standing, first_reason, is_bad_topic, needs_memory, unless_gone, why_at, why_publish, why_send, why_subscribe, why_unsubscribe, MayRefuse, is_link_failure, is_outgoing, refuses, for_memory, for_reason, QuietCount, new_count, one_heard, is_reading, by_note, frames_of, Tell, at_turn, has_news, marked, nothing_told, one_dropped, tell_by, tell_by_all, is_leaving, is_ping_due, is_end_due, is_uncounted, close_frame, closing, is_bad_close, why_close}
pub use Rattle.hub_lines.specs.All.{Beside, KeepsLine, SameElsewhere, SameLinesElsewhere, ShortRings, Starts, Ties, is_sender, nothing, only, part_below, published, receives, served, then_also, DropsFairly, TakesAll, TakesFront, joined, Held, IsCounted, Stands, StandsFor, held_at, held_octets, Moves, Others, buffered_at, with_pending, Entry, HubState, PartingValue, Server, TellingValue, cork_at, entry_at, entry_of, has_entry, is_gone, is_present, new_entry, no_entry, numbered_at, pending_at, phase_at, ring_at, server, ShortWhereHeld, fell_short, is_dropped, is_silent, short_after, short_from, taken_of, Quiet}
pub use Rattle.hub_notes.specs.All.{Arrives, Makes, has_frames, Advances, Appends, Proceeds, KeepsFront, KeepsFronts, RingsWait, SameDrops, Waits, items_at, FailsAfter, NetAfter, RoseBy, TrafficAfter, TakesTold, news_at, Progress, due_at, due_of, may_all_come, may_come, may_leave_by, progress_after, progress_after_all, progress_at, progress_by, progress_obeys, standings_at, topics_at, CountsBeside, CountsBy, SameCounts, count_of, counts_at, leaves_at, Obeys, Serves, ServesAll, ChangesOne, IsTable, TableState, TakesDue, due_when_gone, is_kept, table_of, TellsBy, held_in, tell_at, tell_of, EndsTurn, FinishesIfEmpty, FinishesOne, Offers, Rise, finishes, next_count, ping_due_at, end_due_at, Ticks, IsNextEntry}
pub use Rattle.hub_notes.specs.declared.arrival.Arrival.TheVariants.{Taken}
pub use Rattle.socket_core.specs.All.{IsSent, can_drop, octets_of, LeavesLinkWhole, PassesOctets, TellsFailure, TellsRing, drops_in}
pub use Rattle.socket_core.specs.declared.item.Item.{Item as Puttable}
pub use Rattle.socket_core.specs.declared.item.Item.TheVariants.{Frame, Reply, Spelled}
pub use Rattle.socket_core.specs.declared.socket.Kept.{Kept}
pub use Rattle.socket_core.specs.declared.socket.Kept.TheVariants.{Backlog, Clear, Dropped, Failed}
pub use Rattle.hub_table.specs.All.{parting_value}
pub use Rattle.hub_tellings.specs.All.{AreRisingRows, ChangesRow, IsNextRow, TellingsState, has_row}
pub use Rattle.hub_core.specs.Answers.{TellsPut, reason_of}
pub use Rattle.hub_core.specs.At.{at}
pub use Rattle.hub_core.specs.Changes.{ChangesHub, Ends, Goes, Leaves, OffersRing, Passes, PutsItem, tell_after}
pub use Rattle.hub_core.specs.Closing.{BeginsToLeave, Closes}
pub use Rattle.hub_core.specs.Publishing.{Publishes, PublishesMessage, PutsUnless, count_below, number_in, receivers}
pub use Rattle.hub_core.specs.Puts.{MayPut, OffersHeld, Puts}
pub use Rattle.hub_core.specs.Rows.{KeepsRows, Settles, SettlesRows, SettlesUpTo}
pub use Rattle.hub_core.specs.Sends.{GivesOctets, LosesLink, Notes, Sends, SendsMessage}
pub use Rattle.hub_core.specs.Serving.{NotesUnserved, ServesByEachRule, ServesOrder}
pub use Rattle.hub_core.specs.State.{IsHub, hub_of, may_hold, server_of}
pub use Rattle.hub_core.specs.Told.{IsNextNews, MarksTold}
pub use Rattle.hub_core.specs.Ticking.{Recounts}
pub use Rattle.hub_ticks.specs.Ticking.{CountsOne, TicksBelow, TicksIfThere}
pub use Rattle.idle_close.specs.QuietValue.{is_gone as is_end, is_ping}
pub use Rattle.ws_kinds.specs.NoteValue.{pinged}
