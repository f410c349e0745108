-- The words that proofs of this crate and of those above use, under one name.
pub use Rattle.std.specs.List.{flat_map, list_all, list_any}
pub use Rattle.ws_kinds.specs.All.{ConfigValue, EventValue, NoteValue, OrderValue, close, publish, send, subscribe, unsubscribe, has_topic, topics_of, with_topic, without_topic, AreNoted}
pub use Rattle.ws_kinds.specs.declared.note.Left.{Left}
pub use Rattle.ws_kinds.specs.declared.note.Left.TheVariants.{Finished, Idle, LinkFailed, PeerEnd}
pub use Rattle.ws_kinds.specs.declared.note.Phase.{Phase}
pub use Rattle.ws_kinds.specs.declared.note.Phase.TheVariants.{Ending, Gone, Head, Leaving, Open}
pub use Rattle.ws_kinds.specs.declared.note.Why.{Why}
pub use Rattle.wire_meaning.specs.All.{Item, all_spelled, close_item, reply, spelled, whole, Event, reading}
pub use Rattle.wire_meaning.specs.declared.frame.Opcode.TheVariants.{Pong}
pub use Rattle.link_trait.specs.All.{HasNoTraffic, Nexts, ReadTold, Reads, SameTraffic, SameTrafficBut, Shuts, passed_after, passing, NetState}
pub use Rattle.link_trait.specs.declared.net.NetEvent.{NetEvent}
pub use Rattle.link_trait.specs.declared.net.NetRead.{NetRead}
pub use Rattle.frame_reader.specs.All.{ahead, has_ended, is_end, raw_of, coming, HasStepped, events_of}
pub use Rattle.frame_reader.specs.Step.{is_last}
pub use Rattle.frame_reader.specs.declared.reader.Reader.{Reader}
pub use Rattle.frame_reader.specs.declared.reader.State.{State}
pub use Rattle.frame_reader.specs.declared.reader.State.TheVariants.{AtFrameStart, Ended, InDataFrame}
pub use Rattle.frame_reader.specs.declared.step.Step.{Step}
pub use Rattle.frame_reader.specs.declared.step.Step.TheVariants.{Close, Ping}
pub use Rattle.route_table.specs.All.{RouteTable}
pub use Rattle.upgrade_head.specs.All.{Judged, Verdict, admit, answer_text, more, refuse}
pub use Rattle.run_meaning.specs.All.{Covers, TopicsEnd, same, accepted_by, closed_by, closes, gather, given, given_by, has_number, is_accepted, is_gone_by_in, number_of, only_if, taken, taken_by, took_by, total, writes, IsFair, without, Carried, Carries, Heard, IsLife, Lived, Reaches, first_frames, frames_in, heard, heard_by, is_frame_heard, last_frame, life_by, opened, read, refused, to_hear, Line, World, after_own, answered, appended, cause_of, closed_by_server, closing, data_frame, event_of, first_world, is_gone_phase, is_open, is_refused, leaves_open, line_after, moved, noted, noted_all, obey, obeyed, orders_of, phase, plain, put, run, sends, step, topics_left, unknown, world, Follows, Mark, is_aside, is_inner, marks_by, marks_of, arrival, conn_of, is_acceptance, is_event, is_gone_by, is_left, is_of, is_unserved, window, Ordered, Standing, event_at, is_away, standing_of, standings, unless_gone, why_at, Answers, Performs, is_outgoing, refuses, serves, AreAdmitted, AreReplies, is_admitted, is_opened, is_opened_in, entries, is_arrival, is_entry, by_note, by_order, is_for, items_of, line_by, line_by_all, notes_of, standings_after}
pub use Rattle.hub_lines.specs.All.{IsNewTo, KeepsLine, Settled, Starts, nothing, only, served, DropsFairly, TakesFront, item_at, kept, AreFairNotes, FairFor, FairLine, FairTold, Held, IsFairDrop, Stands, StandsFor, StandsTold, held_at, Entry, HubState, PartingValue, Server, entry_at, has_entry, is_present, no_entry, numbered_at, pending_at, phase_at, ring_at, server, is_dropped, is_silent, taken_of, took_sum}
pub use Rattle.hub_notes.specs.All.{Advances, Appends, Does, Proceeds, KeepsFront, SameDrops, items_at, FailsAfter, NetAfter, Progress, due_at, due_of, may_all_step, may_step, progress_after, progress_after_all, progress_at, progress_by, progress_by_step, progress_by_steps, progress_obeys, standing_in, standings_at, topics_at, ServesAll, AreAbove, AreRising, TakesDue, is_kept, table_of}
pub use Rattle.run_laws.specs.Agrees.{Agrees, AgreesAt, IsToldOnce, is_early, line_progress, untold}
pub use Rattle.run_laws.specs.Hears.{HearsAll, HearsFrames, HearsFront, HearsHead, to_come}
pub use Rattle.run_laws.specs.Numbers.{AreUnlike}
pub use Rattle.run_laws.specs.Readers.{IsFed, IsRead, ReaderView, is_all, is_over, reader_view}
pub use Rattle.run_laws.specs.Steps.{FollowsAt, FollowsBut}
pub use Rattle.run_laws.specs.Tests.{is_closed, is_of_orders, is_quiet, is_wordless}
pub use Rattle.run_laws.specs.Unheard.{is_hearing, is_unheard, note_of_event}
pub use Rattle.run_laws.specs.Unread.{is_at_most_arrival, is_unread}
