-- The words that proofs of this crate and of those above use, under one name.
pub use Rattle.std.specs.List.{fold, list_all, list_any, sum_by}
pub use Rattle.std.specs.List.Sorted.{IsBinarySearchResult}
pub use Rattle.std.specs.Ordering.{nat_cmp}
pub use Rattle.std.specs.Result.{result_ok}
pub use Rattle.link_trait.specs.All.{BreaksRead, CountsFault, CountsNetReadFaults, Ends, NetGives, NetGivesWithin, Nexts, Reads, Same, SameBut, SameLinks, SameNet, SameTraffic, SameTrafficBut, Shuts, Writes, passed_after}
pub use Rattle.link_trait.specs.declared.act.Act.{Act}
pub use Rattle.link_trait.specs.declared.net.NetEvent.{NetEvent}
pub use Rattle.link_trait.specs.declared.net.NetRead.{NetRead}
pub use Rattle.link_trait.specs.declared.net.NetWrote.{NetWrote}
pub use Rattle.mem_net.specs.Acts.{arrivals, arrives_by, credit_by, credit_of, event_of, finish_by, finish_of, is_end, is_fault, is_write_failure, or_then, passes, passes_by, sent, sent_by, writes_fail}
pub use Rattle.mem_net.specs.LinkState.{LinkReads, LinkState, LinkWrites, arrives, changes, comes, counted, credit_changed, failing_changed, faults_in_answer, finishes, gained, is_finish, is_ready, is_untold, new_link, room_for, shuts, tells}
pub use Rattle.mem_net.specs.MemNet.{AllTold, EndsWithTurnAct, FollowsSchedule, IsBelow, IsEventAt, IsOfShut, IsPassedOver, IsWithin, LinkFollows, LinkTakes, MemNetState, PassesOver, Takes, TakesByActs, TellsInOrder, TellsLast, is_short, takes_less, was_short, link_at, link_of, net_state, new_links, passed_by, readies_left, start_net}
pub use Rattle.mem_net.specs.MemSteps.{ChangesAt, Does, DoesEvent, FinishesAt, GoesOn, IsChanging, IsFinishing, IsSending, Keeps, Repeats, Rises, SendsAt, Skips, TellsAct, is_last}
pub use Rattle.mem_net.specs.Schedule.{are_sound_after, can_send, has_arrived, has_ended, is_arrival, is_below, is_ending, is_number, is_rising, is_sound, is_sound_after}
pub use Rattle.mem_net.specs.declared.mem_link.Change.{Change}
pub use Rattle.mem_net.specs.declared.mem_link.Finish.{Finish}
