-- What the proofs of this crate use of the crates below, of std, and of its own specs.
pub use Rattle.std.proofs.Common.{Bool, Err, IfNone, IfSome, List, None, Ok, Option, Result, Some, [], ap, append_assoc, arith, drop, false, get_or, if◌then◌else◌, inl, inr, is_none, length, length-append, length-drop, length-set, map, max, min, nat_eq, nat_le, nat_lt, not, option_map, refl, replicate, rules, slice_get, slice_set, subst, suc, sym, take, take-append-drop, true, zero, ℕ, ◌&&◌, ◌++◌, ◌+◌, ◌-◌, ◌<◌, ◌^◌, ◌||◌, ◌∙◌, ◌∷◌, ◌≡◌, ◌≢◌, ◌≤◌, ◌⊎◌}
pub use Rattle.std.proofs.Math.Bool.{or-false as or_false}
pub use Rattle.std.proofs.Math.Seq.{drop-append_seam, take-add, take-append_seam, take-length}
pub use Rattle.std.proofs.lemmas.Bool.{cases_eq, cases_lt, or_right as or_true}
pub use Rattle.std.proofs.lemmas.Bool.Decides.{nat_tests}
pub use Rattle.std.proofs.lemmas.Grind.{flat_map-append}
pub use Rattle.std.proofs.lemmas.List.{append-nil, drop-append-le, drop-drop, drop-take, drop_all, drop_more, length-replicate, length-take, length-take-le, map-append, replicate-append-replicate, take-take, take_more}
pub use Rattle.std.proofs.lemmas.List.Elements.{All-from_get_or}
pub use Rattle.std.proofs.lemmas.List.Folds.{list_all-append, list_any-append, list_any_none}
pub use Rattle.std.proofs.lemmas.List.Sorted.{searched}
pub use Rattle.std.proofs.lemmas.List.Sums.{fold_push, sum_by-set}
pub use Rattle.std.proofs.lemmas.Option.{get_or_from_slice_get, slice_get-get_or, slice_get-map, slice_get_read, slice_get_within}
pub use Rattle.mem_net.specs.All.{EndsWithTurnAct, fold, list_all, list_any, sum_by, IsBinarySearchResult, nat_cmp, result_ok, BreaksRead, CountsFault, CountsNetReadFaults, Ends, NetGives, NetGivesWithin, Nexts, Reads, Same, SameBut, SameLinks, SameNet, SameTraffic, SameTrafficBut, Shuts, Writes, passed_after, Act, NetEvent, NetRead, NetWrote, arrivals, arrives_by, credit_by, credit_of, event_of, finish_by, finish_of, is_end, is_fault, is_write_failure, or_then, passes, passes_by, sent, sent_by, writes_fail, LinkReads, LinkState, LinkWrites, arrives, changes, comes, counted, failing_changed, faults_in_answer, finishes, gained, is_finish, is_ready, is_untold, new_link, room_for, shuts, tells, AllTold, FollowsSchedule, IsOfShut, IsPassedOver, IsWithin, LinkFollows, LinkTakes, MemNetState, PassesOver, Takes, TakesByActs, is_short, takes_less, was_short, link_at, link_of, net_state, new_links, passed_by, readies_left, start_net, Does, IsChanging, IsFinishing, IsSending, Keeps, Repeats, Rises, Skips, is_last, are_sound_after, can_send, has_arrived, has_ended, is_arrival, is_number, is_rising, is_sound, is_sound_after, Change, Finish}
pub use Rattle.ws_kinds.proofs.Facts.{and_left, and_right, or_left, or_right, same_number}
