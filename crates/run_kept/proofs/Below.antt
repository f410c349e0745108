-- What the proofs of this crate use of the crates below, of std, and of its own specs.
pub use Rattle.std.proofs.Common.{Bool, List, None, Option, Some, [], add-zero, ap, append-nil, append_assoc, arith, cond, false, inl, inr, is_none, is_some, length, map, nat_eq, not, refl, slice_get, subst, suc, sym, take, true, zero, ℕ, ⊎_elim, ◌&&◌, ◌++◌, ◌+◌, ◌-◌, ◌<◌, ◌^◌, ◌||◌, ◌∙◌, ◌∷◌, ◌≡◌, ◌≢◌, ◌≤◌, ◌⊎◌}
pub use Rattle.std.proofs.Math.Bool.{and-false, or-true, or_assoc}
pub use Rattle.std.proofs.lemmas.Bool.{cases_eq, not-true}
pub use Rattle.std.proofs.lemmas.Bool.Decides.{nat_tests}
pub use Rattle.std.proofs.lemmas.Grind.{flat_map-append}
pub use Rattle.std.proofs.lemmas.List.{append_cancel_left, append_cancel_right, take_all}
pub use Rattle.run_kept.specs.All.{flat_map, list_all, list_any, ConfigValue, EventValue, WhatValue, NoteValue, OrderValue, close, publish, send, subscribe, unsubscribe, has_topic, with_topic, without_topic, AreNoted, Conn, Kind, Left, Finished, Idle, LinkFailed, PeerEnd, Phase, Ending, Gone, Head, Leaving, Open, Why, Absent, Item, all_spelled, close_item, reply, whole, Event, Pong, HasNoTraffic, Nexts, Reads, Same, SameLinks, SameTraffic, Shuts, Tells, is_rest, NetState, NetEvent, NetRead, RouteTable, Judged, refuse, undecided, refusal_text, accepted_by, closes, dropped_by, drops, gather, given, has_number, is_accepted, is_gone_in, only_if, taken, taken_by, total, Fair, kept, kept_of, Carried, Carries, Heard, Lived, LivedThroughout, frames_in, heard, is_frame_heard, last_frame, opened, read, Line, World, after_own, cause_of, closed_by_server, closing, data_frame, event_of, first_world, is_frame, is_gone_phase, is_open, is_refused, leaves_open, line_after, moved, noted, noted_all, obey, obeyed, orders_of, param_after, phase, plain, put, route_after, run, step, topics_left, unknown, world, Follows, Mark, marks_by, marks_of, arrival, tick, turn, conn_of, is_acceptance, is_event, is_gone, is_of, is_some_of, is_turn, is_unserved, window, Justified, Ordered, asked, at_order, event_at, named, standings, unless_gone, why_at, why_send, by_gone, by_memory, by_reason, is_outgoing, NoneDue, Right, Sound, entries, is_arrival, is_busy, is_from_outside, may_follow_gone, LeftAtEnd, is_ending, is_last_note, is_reading, is_sudden, Step, by_note, by_order, is_for, notes_of, of_notes, AreTold, ToldRight, Timely, IsNewTo, Settled, Ties, nothing, only, served, TakesAll, StandsFor, held_at, held_octets, Entry, HubState, PartingValue, Server, entry_at, has_entry, is_present, numbered_at, phase_at, ring_at, server, is_dropped, taken_of, Arrives, Makes, has_frames, Advances, Appends, Does, Proceeds, RingsWait, items_at, FailsAfter, Progress, due_at, may_all_come, may_all_step, may_come, may_step, progress_after, progress_after_all, progress_at, progress_by, progress_by_steps, progress_obeys, standings_at, ServesAll, IsTable, TakesDue, table_of, Ticks, is_of_tick, EndsTurn, Offers, finishes, Arrival, Busy, Memory, Taken, Agrees, HearsAll, HearsFrames, HearsFront, to_come, AreUnlike, IsFed, IsRead, ReaderView, is_over, FollowsBut, is_closed, is_of_orders, is_quiet, is_wordless, is_hearing, is_unheard, note_of_event, is_at_most_arrival, is_unread, arrival_note, AreThere, backlog_at, is_late, OrdersServed, event_for, HearsAt, IntakeView, IsRouted, Kept, RestsAt, SameButReader, IsHere, Known, Shows, is_idle, is_passing, AreRead, AreSound, is_at_end, is_departure, is_inner, is_refusal_of}
pub use Rattle.ws_kinds.proofs.Facts.{and_left, and_right, and_true, by_cases, clash, is_unequal as is_other, equal_is as is_same, same_number as itself, or_false, or_left, or_right}
pub use Rattle.run_meaning.proofs.All.{has_number-append, world_frames, lines_after, noted_line, notes_by, other_line, own_line, all_follow, all_then, none_follow, notes_of-notes, outgoing_no_order, outgoing_within, within_no_event, ordered_none, accepted-append, drops-append, early, gather-append, given-append, gone-append, late, list_all-append, list_any-append, place_of, taken-append, named-none, sound_one, act, gone_stays, moves_shown, none_moves, obey_does, obey_not, open_shown, accepted_more, throughout_octets, throughout_other, throughout_turn, perform-line, refused_more, step_event, step_plain, window_event, world_plain}
pub use Rattle.hub_lines.proofs.All.{settled_held, none_of, is_dropped_note}
pub use Rattle.hub_notes.proofs.All.{advances_does, dropped_named, may_then, progress_then, away_by_phase, none_stays, outgoing_unaccepted, phase_of_away, present_is_not_gone, rest_unaccepted, unaccepted, unaccepted_then}
pub use Rattle.run_laws.proofs.All.{but_none, follows_none, gathers_none, none_but, other_accepted, same_or_not, agrees_accepted, agrees_aside, agrees_closed, agrees_due, agrees_net, agrees_told, agrees_untold, ends_of, rests_of, told_is, took_after, accepted_follows, at_none, busy_follows, no_room_follows, unread_accepts, unread_ended, unread_given, at_steps, unclosed, call_marked, agrees_carried, agrees_phase, kept_spelled, agrees_entries, agrees_first, new_above, unlike_more, not_counted, not_own, uncounted_given, uncounted_gone, uncounted_taken, uncounted_writes, agrees_fair, come_none, frames_end, frames_fed, frames_leave, frames_read, front_of_all, front_of_frames, front_of_head, head_fed, head_new, head_refused, head_waits, hears_more, hears_same, agrees_hub_phase, agrees_last, agrees_note, agrees_open, agrees_quiet, agrees_told_phase, due_taken, items_close, items_failed, items_head, items_opened, items_ping, heard-append, heard_then_event, heard_then_head, heard_then_opened, heard_unheard, lived_of_all, lived_of_front, orders_follow, proceeds_follows, all_progress, wordless_line, wordless_lines, end_read, fault_read, later_read, octets_read, away_by_gone, there_by_phase, agrees_orders, ordered_orders, orders_keep, orders_notes, orders_unaccepting, outgoing_of_orders, served_notes, aside_but, aside_follows, next_but, next_unmarked, shut_follows, accepted_known, accepted_own, act_some, closing_some, line_more, moved_some, none_obeys, obeyed_keeps, obeys_by, ordered_more, phase_some, state_more, step_same, unaccepted_left, unaccepted_phase, world_more}
