-- The same, and the lemmas that the proofs of functions and of crates above use.
pub use Rattle.run_kept.proofs.Below.{Bool, List, None, Option, Some, [], add-zero, ap, append-nil, append_assoc, arith, cond, false, inl, inr, is_none, is_some, length, map, nat_eq, not, refl, slice_get, subst, suc, sym, take, true, zero, ℕ, ⊎_elim, ◌&&◌, ◌++◌, ◌+◌, ◌-◌, ◌<◌, ◌^◌, ◌||◌, ◌∙◌, ◌∷◌, ◌≡◌, ◌≢◌, ◌≤◌, ◌⊎◌, and-false, or-true, or_assoc, cases_eq, not-true, nat_tests, flat_map-append, append_cancel_left, append_cancel_right, take_all, flat_map, list_all, list_any, and_left, and_right, and_true, by_cases, clash, is_other, is_same, itself, or_false, or_left, or_right, ConfigValue, EventValue, WhatValue, NoteValue, OrderValue, close, publish, send, subscribe, unsubscribe, has_topic, with_topic, without_topic, AreNoted, Conn, Kind, Left, Finished, Idle, LinkFailed, PeerEnd, Phase, Ending, Gone, Head, Leaving, Open, Why, Absent, Item, all_spelled, close_item, reply, whole, Event, Pong, HasNoTraffic, Nexts, Reads, Same, SameLinks, SameTraffic, Shuts, Tells, is_rest, NetState, NetEvent, NetRead, RouteTable, Judged, refuse, undecided, refusal_text, has_number-append, world_frames, lines_after, noted_line, other_line, own_line, all_follow, all_then, none_follow, outgoing_no_order, outgoing_within, within_no_event, ordered_none, accepted-append, drops-append, early, gather-append, given-append, gone-append, late, list_all-append, list_any-append, place_of, taken-append, named-none, sound_one, act, gone_stays, moves_shown, none_moves, obey_does, obey_not, open_shown, accepted_more, throughout_octets, throughout_other, throughout_turn, perform-line, refused_more, step_event, step_plain, window_event, world_plain, accepted_by, closes, dropped_by, drops, gather, given, has_number, is_accepted, is_gone_in, only_if, taken, taken_by, total, Fair, kept, kept_of, Carried, Carries, Heard, Lived, LivedThroughout, frames_in, heard, is_frame_heard, last_frame, opened, read, Line, World, after_own, cause_of, closed_by_server, closing, data_frame, event_of, first_world, is_frame, is_gone_phase, is_open, is_refused, leaves_open, line_after, moved, noted, noted_all, obey, obeyed, orders_of, param_after, phase, plain, put, route_after, run, step, topics_left, unknown, world, Follows, Mark, marks_by, marks_of, arrival, tick, turn, conn_of, is_acceptance, is_event, is_gone, is_of, is_some_of, is_turn, is_unserved, window, Justified, Ordered, asked, at_order, event_at, named, standings, unless_gone, why_at, why_send, by_gone, by_memory, by_reason, is_outgoing, NoneDue, Right, Sound, entries, is_arrival, is_busy, is_from_outside, may_follow_gone, LeftAtEnd, is_ending, is_last_note, is_reading, is_sudden, Step, by_note, by_order, is_for, notes_of, of_notes, AreTold, ToldRight, Timely, settled_held, none_of, is_dropped_note, IsNewTo, Settled, Ties, nothing, only, served, TakesAll, StandsFor, held_at, held_octets, Entry, HubState, PartingValue, Server, entry_at, has_entry, is_present, numbered_at, phase_at, ring_at, server, is_dropped, dropped_named, may_then, progress_then, away_by_phase, none_stays, outgoing_unaccepted, phase_of_away, present_is_not_gone, rest_unaccepted, unaccepted, unaccepted_then, Arrives, Makes, has_frames, Advances, Appends, Does, Proceeds, RingsWait, items_at, FailsAfter, Progress, due_at, may_all_come, may_all_step, may_come, may_step, progress_after, progress_after_all, progress_at, progress_by, progress_by_steps, progress_obeys, standings_at, ServesAll, IsTable, TakesDue, table_of, Ticks, is_of_tick, EndsTurn, Offers, finishes, Arrival, Busy, Memory, but_none, follows_none, gathers_none, none_but, other_accepted, same_or_not, agrees_accepted, agrees_aside, agrees_closed, agrees_due, agrees_net, agrees_told, agrees_untold, ends_of, rests_of, told_is, accepted_follows, at_none, busy_follows, no_room_follows, call_marked, agrees_carried, agrees_phase, kept_spelled, agrees_entries, agrees_first, new_above, unlike_more, not_counted, not_own, uncounted_given, uncounted_gone, uncounted_taken, uncounted_writes, agrees_fair, come_none, frames_end, frames_fed, frames_leave, frames_read, front_of_all, front_of_frames, front_of_head, head_fed, head_new, head_refused, head_waits, hears_more, hears_same, agrees_hub_phase, agrees_last, agrees_note, agrees_open, agrees_quiet, agrees_told_phase, due_taken, items_close, items_failed, items_head, items_opened, items_ping, heard-append, heard_then_event, heard_then_head, heard_then_opened, heard_unheard, lived_of_all, lived_of_front, orders_follow, proceeds_follows, all_progress, wordless_line, wordless_lines, end_read, fault_read, later_read, octets_read, away_by_gone, there_by_phase, agrees_orders, ordered_orders, orders_keep, orders_notes, orders_unaccepting, outgoing_of_orders, served_notes, aside_but, aside_follows, next_but, next_unmarked, shut_follows, accepted_known, accepted_own, act_some, closing_some, line_more, moved_some, none_obeys, obeyed_keeps, obeys_by, ordered_more, phase_some, state_more, step_same, unaccepted_left, unaccepted_phase, world_more, Agrees, HearsAll, HearsFrames, HearsFront, to_come, AreUnlike, IsFed, IsRead, ReaderView, is_over, FollowsBut, is_closed, is_of_orders, is_quiet, is_wordless, is_hearing, is_unheard, note_of_event, is_at_most_arrival, is_unread, arrival_note, AreThere, backlog_at, is_late, OrdersServed, event_for, HearsAt, IntakeView, IsRouted, Kept, RestsAt, SameButReader, IsHere, Known, Shows, is_idle, is_passing, AreRead, AreSound, is_at_end, is_departure, is_inner, is_refusal_of}
pub use Rattle.run_kept.proofs.ArrivingLemmas.{kept_arrived}
pub use Rattle.run_kept.proofs.CallLemmas.{due_accepted, here_there, inner_there, none_due, sound_call, sound_closed, sound_comes, sound_octets, sound_proceed, sound_serves, sound_shown, sound_time, unlike_arrival, unlike_still}
pub use Rattle.run_kept.proofs.EndLemmas.{new_away as away, left_at_end, new_away, there_after, there_arrived, there_does, there_first, there_same, there_shut}
pub use Rattle.run_kept.proofs.EntryLemmas.{IsAway, away_after, entry_before, entry_none, entry_through, order_phase, phase_has_entry}
pub use Rattle.run_kept.proofs.GivingLemmas.{closed_given, message_given, not_read, opened_given, told_before, told_given}
pub use Rattle.run_kept.proofs.IntakeLemmas.{GoesOn, Seen, Taken, heard_beside, hears_on, is_beside, orders_beside, orders_idle, other_beside, outgoing_beside, rests_judged, taken_lines, taken_note, taken_order, taken_put}
pub use Rattle.run_kept.proofs.KnownLemmas.{accepted_one, gone_accepted, gone_one, here_by, here_note, here_notes, here_order, known_world, shows_alike, shows_call, shows_known, shows_one, shows_sound, shows_told, some_is}
pub use Rattle.run_kept.proofs.PassingLemmas.{kept_passing, kept_plain, none_reads, passing_accepts, same_numbers, same_told, seen_beside, taken_as, taken_of}
pub use Rattle.run_kept.proofs.PhaseLemmas.{after_gone, after_some, gone_after, gone_ever, gone_own, gone_then, phase_after, world_gone}
pub use Rattle.run_kept.proofs.PlaceLemmas.{all_back, all_front, comes_there, inner_unaccepted, outgoing_inner, outgoing_one, own_of, some_comes, sound_arrival, sound_finished, sound_given, sound_inner, sound_more, sound_none, sound_tick, sound_told}
pub use Rattle.run_kept.proofs.ReadLemmas.{read_call, read_same, reads_by as reading_at, reading_shown, reads_by}
pub use Rattle.run_kept.proofs.ReadingCalls.{IsOwn, entries_stay, kept_call, no_numbers, own_note, seen_own, seen_sent}
pub use Rattle.run_kept.proofs.ReadingLemmas.{close_kept, ended_kept, failed_kept, failure_kept, given_kept, later_kept, passed_kept, ping_kept, pong_kept, refused_kept, stepped_kept, waits_kept}
pub use Rattle.run_kept.proofs.Resting.{shut_kept}
pub use Rattle.run_kept.proofs.RightLemmas.{kept_lived, kept_right_there, kept_settled_there, there_is}
pub use Rattle.run_kept.proofs.SoundTurnLemmas.{sound_offer, sound_turn}
pub use Rattle.run_kept.proofs.ThroughoutLemmas.{lived_through_turn}
pub use Rattle.run_kept.proofs.TurnLemmas.{rest_links, turn_read, turn_settled_there, turn_there, turn_waits}
pub use Rattle.run_kept.proofs.TickLemmas.{agrees_tick, tick_accepts, tick_advances, tick_beside, tick_event, tick_inner, tick_unmarked, tick_unread, tick_unserved}
pub use Rattle.run_kept.proofs.TurningLemmas.{agrees_now, kept_busy, kept_first, kept_memory, kept_net, kept_no_room, kept_offered, kept_readable, kept_shut, kept_tick, kept_turned, kept_writable, taken_same}
pub use Rattle.run_kept.proofs.UnknownLemmas.{none_dropped, unknown_line}
