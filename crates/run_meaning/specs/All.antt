-- The words that proofs of this crate and of those above use, under one name.
pub use Rattle.std.specs.List.{flat_map, list_all, list_any}
pub use Rattle.ws_kinds.specs.All.{ConfigValue, EventValue, NoteValue, note_value, OrderValue, close, publish, send, subscribe, unsubscribe, has_topic, with_topic, without_topic}
pub use Rattle.ws_kinds.specs.declared.kind.Kind.{Kind}
pub use Rattle.ws_kinds.specs.declared.note.Left.{Left}
pub use Rattle.ws_kinds.specs.declared.note.Left.TheVariants.{Finished, Idle, LinkFailed, PeerEnd}
pub use Rattle.ws_kinds.specs.declared.note.Note.{Note}
pub use Rattle.ws_kinds.specs.declared.note.Phase.{Phase}
pub use Rattle.ws_kinds.specs.declared.note.Phase.TheVariants.{Ending, Gone, Head, Leaving, Open}
pub use Rattle.ws_kinds.specs.declared.note.Why.{Why}
pub use Rattle.ws_kinds.specs.declared.note.Why.TheVariants.{Absent, BadCode, BadText, BadTopic, Forbidden, NotOpen, TooBig, TooMany}
pub use Rattle.wire_meaning.specs.All.{Item, all_spelled, reply, spelled, Event, reading}
pub use Rattle.link_trait.specs.All.{SameTraffic, NetState}
pub use Rattle.route_table.specs.All.{RouteTable}
pub use Rattle.upgrade_head.specs.All.{FieldList, fields_of, head_end, Judged, JudgedHead, Verdict, admit, answer_text, asks_to_upgrade, by_key, by_path, has_version, is_get, more, path_of, refuse, route_of, unended, key_of}
pub use Rattle.run_meaning.specs.Bridge.{Covers, TopicsEnd}
pub use Rattle.run_meaning.specs.Bridge.Covers.{same}
pub use Rattle.run_meaning.specs.Counts.{accepted_by, closed_by, closes, dropped_by, drops as dropped_of, drops, ends_short, gather, given, given_by, has_number, is_accepted, is_gone_by_in, is_gone_in, number_of, only_if, taken, taken_by, took_by, total, writes}
pub use Rattle.run_meaning.specs.Echo.{EchoLine, echo_after, echo_by, echo_lines, echo_own, echo_said, echo_server, echo_start, echo_view, sent_back}
pub use Rattle.run_meaning.specs.Events.{events, events_from, one_or_none, state_after}
pub use Rattle.run_meaning.specs.Fair.{Fair, IsFair}
pub use Rattle.run_meaning.specs.Kept.{kept, kept_of, without}
pub use Rattle.run_meaning.specs.Life.{Carried, Carries, Heard, IsLife, Lived, LivedThroughout, Reaches, first_frames, frames_in, heard, heard_by, is_frame_heard, last_frame, life_by, opened, read, refused, to_hear}
pub use Rattle.run_meaning.specs.Lines.{Line, World, after_own, answered, appended, cause_of, close_frame, closed_by_server, closing, conns_after, data_frame, event_of, first_world, is_frame, is_gone_phase, is_naming, is_open, is_refused, is_still, is_subscribed, leaves_alone, leaves_open, line_after, moved, noted, noted_all, obey, obeyed, orders_of, param_after, perform, phase, plain, put, route_after, run, sends, serve, step, topics_left, unknown, world}
pub use Rattle.run_meaning.specs.Network.{Follows, Mark, is_aside, is_inner, marks_by, marks_of}
pub use Rattle.run_meaning.specs.Network.Mark.{arrival, tick, turn}
pub use Rattle.run_meaning.specs.Notes.{conn_of, is_acceptance, is_event, is_from_outside, is_gone, is_gone_by, is_left, is_of, is_sending, is_some_of, is_turn, is_unserved, until, window}
pub use Rattle.run_meaning.specs.Orders.{AllJustified, Justified, JustifiedBelow, Names, Ordered, Standing, asked, at_order, event_at, first_reason, is_away, is_bad_close, is_bad_text, is_bad_topic, may_be_gone, named, named_by, needs_memory, standing_of, standings, underway, unless_gone, why_at, why_close, why_publish, why_send, why_subscribe, why_unsubscribe}
pub use Rattle.run_meaning.specs.Orders.Justified.{by_gone, by_memory, by_reason}
pub use Rattle.run_meaning.specs.Performs.{Answers, MayRefuse, Performs, is_link_failure, is_outgoing}
pub use Rattle.run_meaning.specs.Performs.Answers.{refuses, serves}
pub use Rattle.run_meaning.specs.Performs.MayRefuse.{for_memory, for_reason}
pub use Rattle.run_meaning.specs.Quiet.{QuietCount, count_by, count_from, is_leaving, is_tick, is_uncounted, new_count, one_heard, one_tick, quiet}
pub use Rattle.run_meaning.specs.Replies.{AreAdmitted, AreReplies, HasReplies, is_admitted, is_opened, is_opened_in}
pub use Rattle.run_meaning.specs.Right.{NoneDue, Right, RightRun, Sound, entries, is_arrival, is_busy, is_entry, may_follow_gone}
pub use Rattle.run_meaning.specs.Server.{Server as Meaning, Server, every_topic, served_by}
pub use Rattle.run_meaning.specs.Serving.{Serving}
pub use Rattle.run_meaning.specs.Settled.{BetweenTurns, Held, IsTurn, LeftAtEnd, Settled, is_ending, is_last_note, is_reading, is_sudden}
pub use Rattle.run_meaning.specs.Settled.BetweenTurns.{after_turn, at_first}
pub use Rattle.run_meaning.specs.Steps.{Step, appended_by, by_note, by_order, frames_of, is_for, items_by, items_of, line_by, line_by_all, notes_of, of_notes, standing_after, standing_after_all, standing_by, standing_obeys, standings_after}
pub use Rattle.run_meaning.specs.Tell.{Tell, at_turn, has_news, is_telling, is_told, marked, nothing_told, one_dropped, tell_by, tell_by_all}
pub use Rattle.run_meaning.specs.Told.{AreTold, IsToldRight, ToldRight, has_to_tell, held_after, tell, tell_from, tell_noted}
pub use Rattle.run_meaning.specs.View.{item_list, item_value, item_values, line_value}
pub use Rattle.run_meaning.specs.Timely.{TicksRight, Timely, ends_stretch, in_stretch, is_by_tick, is_end_due, is_ping_due, is_pinged, is_ticking, one_if, stretch}
