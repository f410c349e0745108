-- The words that proofs of this crate and of those above use, under one name.
pub use Rattle.std.specs.List.{flat_map, list_all, list_any}
pub use Rattle.ws_kinds.specs.All.{ConfigValue, EventValue, WhatValue, NoteValue, OrderValue, close, publish, send, subscribe, unsubscribe, has_topic, with_topic, without_topic, AreNoted}
pub use Rattle.ws_kinds.specs.declared.conn.Conn.{Conn}
pub use Rattle.ws_kinds.specs.declared.kind.Kind.{Kind}
pub use Rattle.ws_kinds.specs.declared.note.Left.{Left}
pub use Rattle.ws_kinds.specs.declared.note.Left.TheVariants.{Finished, Idle, LinkFailed, PeerEnd}
pub use Rattle.ws_kinds.specs.declared.note.Phase.{Phase}
pub use Rattle.ws_kinds.specs.declared.note.Phase.TheVariants.{Ending, Gone, Head, Leaving, Open}
pub use Rattle.ws_kinds.specs.declared.note.Why.{Why}
pub use Rattle.ws_kinds.specs.declared.note.Why.TheVariants.{Absent}
pub use Rattle.wire_meaning.specs.All.{Item, all_spelled, close_item, reply, whole, Event}
pub use Rattle.wire_meaning.specs.declared.frame.Opcode.TheVariants.{Pong}
pub use Rattle.link_trait.specs.All.{HasNoTraffic, Nexts, Reads, Same, SameLinks, SameTraffic, Shuts, Tells, is_rest, NetState}
pub use Rattle.link_trait.specs.declared.net.NetEvent.{NetEvent}
pub use Rattle.link_trait.specs.declared.net.NetRead.{NetRead}
pub use Rattle.route_table.specs.All.{RouteTable}
pub use Rattle.upgrade_head.specs.All.{Judged, refuse, undecided, refusal_text}
pub use Rattle.run_meaning.specs.All.{accepted_by, closes, dropped_by, drops, gather, given, has_number, is_accepted, is_gone_in, only_if, taken, taken_by, total, Fair, kept, kept_of, Carried, Carries, Heard, Lived, LivedThroughout, frames_in, heard, is_frame_heard, last_frame, opened, read, Line, World, after_own, cause_of, closed_by_server, closing, data_frame, event_of, first_world, is_frame, is_gone_phase, is_open, is_refused, leaves_open, line_after, moved, noted, noted_all, obey, obeyed, orders_of, param_after, phase, plain, put, route_after, run, step, topics_left, unknown, world, Follows, Mark, marks_by, marks_of, arrival, tick, turn, conn_of, is_acceptance, is_event, is_gone, is_of, is_some_of, is_turn, is_unserved, window, Justified, Ordered, asked, at_order, event_at, named, standings, unless_gone, why_at, why_send, by_gone, by_memory, by_reason, is_outgoing, NoneDue, Right, Sound, entries, is_arrival, is_busy, is_from_outside, may_follow_gone, LeftAtEnd, is_ending, is_last_note, is_reading, is_sudden, Step, by_note, by_order, is_for, notes_of, of_notes, AreTold, ToldRight, Timely}
pub use Rattle.hub_lines.specs.All.{IsNewTo, Settled, Ties, nothing, only, served, TakesAll, StandsFor, held_at, held_octets, Entry, HubState, PartingValue, Server, entry_at, has_entry, is_present, numbered_at, phase_at, ring_at, server, is_dropped, taken_of}
pub use Rattle.hub_notes.specs.All.{Arrives, Makes, has_frames, Advances, Appends, Does, Proceeds, RingsWait, items_at, FailsAfter, Progress, due_at, may_all_come, may_all_step, may_come, may_step, progress_after, progress_after_all, progress_at, progress_by, progress_by_steps, progress_obeys, standings_at, ServesAll, IsTable, TakesDue, table_of, Ticks, is_of_tick, EndsTurn, Offers, finishes}
pub use Rattle.hub_notes.specs.declared.arrival.Arrival.{Arrival}
pub use Rattle.hub_notes.specs.declared.arrival.Arrival.TheVariants.{Busy, Memory, Taken}
pub use Rattle.run_laws.specs.All.{Agrees, HearsAll, HearsFrames, HearsFront, to_come, AreUnlike, IsFed, IsRead, ReaderView, is_over, FollowsBut, is_closed, is_of_orders, is_quiet, is_wordless, is_hearing, is_unheard, note_of_event, is_at_most_arrival, is_unread}
pub use Rattle.run_kept.specs.Arrivals.{arrival_note}
pub use Rattle.run_kept.specs.Ends.{AreThere, backlog_at, is_late}
pub use Rattle.run_kept.specs.Giving.{OrdersServed, event_for}
pub use Rattle.run_kept.specs.Kept.{HearsAt, IntakeView, IsRouted, Kept, RestsAt, SameButReader}
pub use Rattle.run_kept.specs.Known.{IsHere, Known, Shows}
pub use Rattle.run_kept.specs.Passing.{is_idle, is_passing}
pub use Rattle.run_kept.specs.Read.{AreRead}
pub use Rattle.run_kept.specs.Sounds.{AreSound}
pub use Rattle.run_kept.specs.Tests.{is_at_end, is_departure, is_inner, is_refusal_of}
