-- The same, and the lemmas that the proofs of functions and of crates above use.
pub use Rattle.run_laws.proofs.Below.{Bool, List, None, Option, Some, [], add-zero, ap, append-nil, append_assoc, arith, cond, drop, false, is_some, length, length-append, map, nat_eq, nat_lt, not, refl, subst, suc, sym, take, true, zero, ℕ, ⊎_elim, ◌&&◌, ◌++◌, ◌+◌, ◌-◌, ◌<◌, ◌^◌, ◌||◌, ◌∙◌, ◌∷◌, ◌≡◌, ◌≢◌, ◌≤◌, and-false, or-true, or_assoc, or_false, and_from, cases_eq, not-true, nat_tests, flat_map-append, drop-append-le, length-take-le, map-append, slice_get-get_or, flat_map, list_all, list_any, and_left, and_right, and_true, below, by_cases, clash, is_other, is_same, itself, or_left, or_none, or_right, plus_none, ConfigValue, EventValue, NoteValue, OrderValue, close, publish, send, subscribe, unsubscribe, has_topic, topics_of, with_topic, without_topic, AreNoted, Left, Finished, Idle, LinkFailed, PeerEnd, Phase, Ending, Gone, Head, Leaving, Open, Why, Item, all_spelled, close_item, reply, spelled, whole, Event, reading, Pong, HasNoTraffic, Nexts, ReadTold, Reads, SameTraffic, SameTrafficBut, Shuts, passed_after, passing, NetState, NetEvent, NetRead, ahead, has_ended, is_end, raw_of, coming, HasStepped, events_of, is_last, Reader, State, AtFrameStart, Ended, InDataFrame, Step, Close, Ping, RouteTable, judged_stays, Judged, Verdict, admit, answer_text, more, refuse, follows_aside, other_left, world_conns, has_number-append, first_behind, lines_after, noted_line, other_line, own_line, all_follow, all_then, none_follow, none_then, notes_of-append, notes_of-notes, event_lines, event_ordered, event_state, ordered_other, accepted-append, closes-append, gather-append, given-append, gone_by-append, list_all-append, list_any-append, taken-append, writes-append, heard_one, accepts_none, act, ends_left, ends_obeys, gone_moves, items_steps, leaves_shown, moves_shown, none_moves, obey_acts, open_shown, perform-line, world_plain, Covers, TopicsEnd, same, accepted_by, closed_by, closes, gather, given, given_by, has_number, is_accepted, is_gone_by_in, number_of, only_if, taken, taken_by, took_by, total, writes, IsFair, without, Carried, Carries, Heard, IsLife, Lived, Reaches, first_frames, frames_in, heard, heard_by, is_frame_heard, last_frame, life_by, opened, read, refused, to_hear, Line, World, after_own, answered, appended, cause_of, closed_by_server, closing, data_frame, event_of, first_world, is_gone_phase, is_open, is_refused, leaves_open, line_after, moved, noted, noted_all, obey, obeyed, orders_of, phase, plain, put, run, sends, step, topics_left, unknown, world, Follows, Mark, is_aside, is_inner, marks_by, marks_of, arrival, conn_of, is_acceptance, is_event, is_gone_by, is_left, is_of, is_unserved, window, Ordered, Standing, event_at, is_away, standing_of, standings, unless_gone, why_at, Answers, Performs, is_outgoing, refuses, serves, AreAdmitted, AreReplies, is_admitted, is_opened, is_opened_in, entries, is_arrival, is_entry, by_note, by_order, is_for, items_of, line_by, line_by_all, notes_of, standings_after, fair_at, taken_some, none_of, kept_same, faired_silent, silent_sum, sum_more, IsNewTo, KeepsLine, Settled, Starts, nothing, only, served, DropsFairly, TakesFront, item_at, kept, AreFairNotes, FairFor, FairLine, FairTold, Held, IsFairDrop, Stands, StandsFor, StandsTold, held_at, Entry, HubState, PartingValue, Server, entry_at, has_entry, is_present, no_entry, numbered_at, pending_at, phase_at, ring_at, server, is_dropped, is_silent, taken_of, took_sum, dropped_named, drops_as, drops_still, fairly_later, fairly_longer, short_named, silent_undropped, took_named, front_later, away_by_phase, outgoing_unaccepted, phase_of_away, rest_unaccepted, unaccepted, unaccepted_then, Advances, Appends, Does, Proceeds, KeepsFront, SameDrops, items_at, FailsAfter, NetAfter, Progress, due_at, due_of, may_all_step, may_step, progress_after, progress_after_all, progress_at, progress_by, progress_by_step, progress_by_steps, progress_obeys, standing_in, standings_at, topics_at, ServesAll, AreAbove, AreRising, TakesDue, is_kept, table_of, Agrees, AgreesAt, IsToldOnce, is_early, line_progress, untold, HearsAll, HearsFrames, HearsFront, HearsHead, to_come, AreUnlike, IsFed, IsRead, ReaderView, is_all, reader_view, FollowsAt, FollowsBut, is_closed, is_of_orders, is_quiet, is_wordless, is_unheard, note_of_event, is_at_most_arrival, is_unread}
pub use Rattle.run_laws.proofs.Adding.{Adds, at_adds, at_same, but_adds, but_none, follows_none, gathers_none, marks_come, marks_more, none_but, other_accepted, same_number, same_or_not, was_accepted}
pub use Rattle.run_laws.proofs.AgreeLemmas.{agrees_accepted, agrees_aside, agrees_call, agrees_closed, agrees_due, agrees_net, agrees_of, agrees_told, agrees_untold, at_call, ends_of, rests_of, told_is, took_after}
pub use Rattle.run_laws.proofs.Arriving.{accepted_follows, at_none, busy_follows, no_room_follows}
pub use Rattle.run_laws.proofs.Calling.{after_adds, call_adds, call_marked, call_plain, none_accepted}
pub use Rattle.run_laws.proofs.CarryLemmas.{agrees_carried, agrees_phase, kept_spelled}
pub use Rattle.run_laws.proofs.CountLemmas.{agrees_entries, agrees_entry, agrees_first, new_above, unlike_more}
pub use Rattle.run_laws.proofs.Counting.{not_counted, other as not_own, other, uncounted_given, uncounted_gone, uncounted_taken, uncounted_writes}
pub use Rattle.run_laws.proofs.FairLemmas.{agrees_fair, fair_of}
pub use Rattle.run_laws.proofs.HearLemmas.{come_none, frames_end, frames_fed, frames_leave, frames_read, front_of_all, front_of_frames, front_of_head, head_admitted, head_fed, head_new, head_refused, head_waits, hears_more, hears_same, silent, step_is_read}
pub use Rattle.run_laws.proofs.HubLemmas.{agrees_hub_phase, agrees_last, agrees_note, agrees_open, agrees_quiet, agrees_told_phase, agrees_why, due_taken, items_close, items_failed, items_head, items_opened, items_ping, quiet_unaccepted, quiet_unclosed, quiet_wordless}
pub use Rattle.run_laws.proofs.Lives.{heard-append, heard_event, heard_head, heard_opened, heard_then_event, heard_then_head, heard_then_opened, heard_unheard, lived_of_all, lived_of_front, unheard_all, unheard_one}
pub use Rattle.run_laws.proofs.Proceeding.{orders_follow, proceeds_follows, unread_accepts, unread_ended, unread_given}
pub use Rattle.run_laws.proofs.ProgressLemmas.{Ends, all_none, all_progress, closes_same, due_shown, early_before, leaves_early, none_before, once_more, one_progress, one_wordless, outgoing_unclosed, outgoing_wordless, progress_is, told_none, unclosed, wordless_line, wordless_lines}
pub use Rattle.run_laws.proofs.Reading.{end_read, fault_read, later_read, octets_read}
pub use Rattle.run_laws.proofs.Replying.{admitted_longer, opened_more, opened_now, replies_before, reply_of_opened}
pub use Rattle.run_laws.proofs.RestLemmas.{Rests, SaysNothing, away_by_gone, rests_as, rests_then, there_by_phase, there_known}
pub use Rattle.run_laws.proofs.StepLemmas.{EndsSo, agrees_covers, agrees_more, agrees_orders, at_steps, ordered_orders, orders_keep, orders_notes, orders_unaccepting, outgoing_of_orders, served_notes, steps_keep}
pub use Rattle.run_laws.proofs.Telling.{aside_but, aside_follows, next_but, next_unmarked, shut_but, shut_follows}
pub use Rattle.run_laws.proofs.WorldLemmas.{accepted_known, accepted_own, act_some, closing_some, line_more, moved_some, none_obeys, obeyed_keeps, obeys_by, ordered_more, phase_some, run_keeps, state_more, step_keeps, step_same, unaccepted_left, unaccepted_phase, world_more}
