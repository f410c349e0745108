-- The same, and the lemmas that the proofs of functions and of crates above use.
pub use Rattle.mem_net.proofs.Below.{Bool, Err, IfNone, IfSome, List, None, Ok, Option, Result, Some, [], ap, append_assoc, arith, drop, false, get_or, if◌then◌else◌, inl, inr, is_none, length, length-append, length-drop, length-set, map, max, min, nat_eq, nat_le, nat_lt, not, option_map, refl, replicate, rules, slice_get, slice_set, subst, suc, sym, take, take-append-drop, true, zero, ℕ, ◌&&◌, ◌++◌, ◌+◌, ◌-◌, ◌<◌, ◌^◌, ◌||◌, ◌∙◌, ◌∷◌, ◌≡◌, ◌≢◌, ◌≤◌, ◌⊎◌, or_false, drop-append_seam, take-add, take-append_seam, take-length, cases_eq, cases_lt, or_true, nat_tests, flat_map-append, append-nil, drop-append-le, drop-drop, drop-take, drop_all, drop_more, length-replicate, length-take, length-take-le, map-append, replicate-append-replicate, take-take, take_more, All-from_get_or, list_all-append, list_any-append, list_any_none, searched, fold_push, sum_by-set, get_or_from_slice_get, slice_get-get_or, slice_get-map, slice_get_read, slice_get_within, fold, list_all, list_any, sum_by, IsBinarySearchResult, nat_cmp, result_ok, and_left, and_right, or_left, or_right, same_number, BreaksRead, CountsFault, CountsNetReadFaults, Ends, NetGives, NetGivesWithin, Nexts, Reads, Same, SameBut, SameLinks, SameNet, SameTraffic, SameTrafficBut, Shuts, Writes, passed_after, Act, NetEvent, NetRead, NetWrote, arrivals, arrives_by, credit_by, credit_of, event_of, finish_by, finish_of, is_end, is_fault, is_write_failure, or_then, passes, passes_by, sent, sent_by, writes_fail, LinkReads, LinkState, LinkWrites, arrives, changes, comes, counted, failing_changed, faults_in_answer, finishes, gained, is_finish, is_ready, is_untold, new_link, room_for, shuts, tells, AllTold, FollowsSchedule, IsOfShut, IsPassedOver, IsWithin, LinkFollows, LinkTakes, MemNetState, PassesOver, Takes, TakesByActs, is_short, link_at, link_of, net_state, new_links, passed_by, readies_left, start_net, Does, IsChanging, IsFinishing, IsSending, Keeps, Repeats, Rises, Skips, is_last, are_sound_after, can_send, has_arrived, has_ended, is_arrival, is_number, is_rising, is_sound, is_sound_after, Change, Finish}
pub use Rattle.mem_net.proofs.Acting.{Found, Leaves, arrival_among, arrive_leaves, arrived_take, arrives_somewhere, change_leaves, changing_arrived, come_leaves, coming_long, find, finish_leaves, finishing_arrived, moves, new_number, not_live, not_there, place_within, read_at, new_number as rising_is_new, sending_arrived, state, tick_leaves, turn_leaves}
pub use Rattle.mem_net.proofs.Fitting.{IsApart, IsStill, arrived_push, finish_push, finishes_later, fits_apart, fits_arrive, fits_change, fits_come, fits_finish, not_answered, or_then_assoc, or_then_later, sent_push}
pub use Rattle.mem_net.proofs.Links.{came_more, piece_waits, read_more, waits_long}
pub use Rattle.mem_net.proofs.Moving.{IsNext, Moves, Passes, answers_quiet, drop_next, either, fits_all, fits_unmoved, moved_but, moved_elsewhere, moved_here, moved_same, moved_sum, next_done, next_fits, next_rest, next_within, no_stops, passed_before, passes_few, passes_push, quiet_passed, take_next}
pub use Rattle.mem_net.proofs.Places.{Rises-push, above, found_none, link_elsewhere, link_here, link_nowhere, link_there, rises_at}
pub use Rattle.mem_net.proofs.Preparing.{links_arrive, links_send, place_made, sends_arrived, sound_take, starts, unsent}
pub use Rattle.mem_net.proofs.Resting.{Again, Touches, again, all_told, fits_told, fits_weaker, live_arrived, none_found, stops, told_again, touched, touched_named, touched_passed, touched_room}
pub use Rattle.mem_net.proofs.Schedules.{arrived, below, rises_from, rises_with, sound_at, sound_from, sound_rises}
pub use Rattle.mem_net.proofs.Telling.{Alike, Quiet, accepts, followed, frees, less_room, nothing_passes, passing_passed, readies, same_least, same_named, same_net, same_traffic, skips, ticks, told_moved, told_unmoved, turns, unmoved, unmoved_links, unmoved_traffic}
pub use Rattle.mem_net.proofs.Using.{Read, Shut, Wrote, fail_leaves, neither, read_leaves, shut_leaves, took_leaves}
