-- The same, and the lemmas that the proofs of functions and of crates above use.
pub use Rattle.hub_notes.proofs.Below.{Bool, List, None, Option, Some, [], ap, append-nil, append_assoc, arith, cond, false, get_or, inl, inr, length, length-append, map, nat_eq, nat_lt, not, refl, subst, suc, sym, take, true, ℕ, ◌&&◌, ◌++◌, ◌+◌, ◌-◌, ◌<◌, ◌^◌, ◌||◌, ◌∙◌, ◌∷◌, ◌≡◌, ◌≤◌, ◌⊎◌, take-suc, nat_tests, length-map, length-take-le, map-append, list_all, list_any, and_left, and_right, and_true, by_cases, clash, count_same, or-assoc, or_false, or_left, or_right, stays_false, stays_live, ConfigValue, NoteValue, OrderValue, close, publish, send, subscribe, unsubscribe, with_topic, without_topic, AreNoted, IsNoted, Kind, Left, LinkFailed, Phase, Ending, Gone, Head, Leaving, Open, Why, Memory, Item, NetState, has_number-append, notes_of-append, notes_of-notes, and-assoc, gone-append, gone_by-append, list_all-append, list_any-append, taken-append, writes-append, items-append, none_moves, performs_more, all_then, open_standing, accepted_by, dropped_by, ends_short, gather, has_number, is_accepted, is_gone_by_in, is_gone_in, number_of, only_if, taken, total, writes, closing, data_frame, is_open, leaves_open, moved, sends, topics_left, is_acceptance, is_gone, is_of, is_turn, Standing, needs_memory, unless_gone, why_at, Answers, is_link_failure, is_outgoing, refuses, serves, for_memory, for_reason, is_uncounted, Step, appended_by, by_note, by_order, frames_of, is_for, items_by, items_of, notes_of, of_notes, standing_after, standing_after_all, standing_by, standing_obeys, standings_after, tell_by_all, dropped_append, fairs_undropped, taken_some, suc_is, kept_append, kept_same, keeps_as, keeps_same, keeps_then, fairs_longer, silent_drops, Keeps, KeepsLine, Ties, nothing, only, then_also, DropsFairly, TakesFront, kept, AreFairNotes, FairFor, IsCounted, HubState, Server, entry_at, is_present, numbered_at, drops, is_dropped, is_silent, short_after, short_from, taken_of, took_by, took_sum, Advances, Appends, Does, Proceeds, KeepsFront, KeepsFronts, SameDrops, items_at, FailsAfter, NetAfter, RoseBy, TrafficAfter, Progress, may_all_come, may_all_step, may_come, may_step, progress_after, progress_after_all, progress_at, progress_by, progress_by_step, progress_by_steps, progress_obeys, standing_in, standings_at, CountsBeside, SameCounts, Obeys, Serves, ServesAll, TellsBy, tell_at}
pub use Rattle.hub_notes.proofs.CallLemmas.{advances_same, advances_then, proceeds_after_quiet, proceeds_before_quiet, proceeds_first, proceeds_last, proceeds_same, proceeds_then}
pub use Rattle.hub_notes.proofs.DoesLemmas.{advances_does, does_notes, does_order, does_same, does_then, framed, items_outgoing, notes_step, obeys_same, serves_more, serves_none, standing_steps, standings_does, notes_step as steps_of_notes, steps_then}
pub use Rattle.hub_notes.proofs.DropLemmas.{dropped_named, drops_as, drops_still, drops_then, fairly_later, fairly_longer, fairly_now, short_named, silent_undropped, took_named, undropped}
pub use Rattle.hub_notes.proofs.FrontLemmas.{appends_after_nothing, appends_as, appends_before_nothing, appends_same, appends_then, count_before, count_before as fewer, front_later, front_same, front_then, fronts_as, fronts_same, fronts_then}
pub use Rattle.hub_notes.proofs.NetLemmas.{fails_same, fails_then, net_same, net_then, number_then, rose_same, rose_then, traffic_same, traffic_then}
pub use Rattle.hub_notes.proofs.NoteLemmas.{counts_then, may_both, may_then, outgoing_both, outgoing_then, progress_then, same_counts, same_then, tells_then, told_none, told_one, told_then, turnless}
pub use Rattle.hub_notes.proofs.OrderLemmas.{TopicsEnd, changed, only_turned, refused, refused_memory, sent, served_by, serves_seen}
pub use Rattle.hub_notes.proofs.TieLemmas.{other_note as after_other, own_note as after_own, away_by_phase, gone_is_away, none_if_gone, none_stays, other_note as other, other_note, outgoing_unaccepted, own_note as own, own_note, phase_of_away, present_before, present_is_not_gone, rest_unaccepted, tie_follows, ties_accept, ties_after, ties_proceed, unaccepted, unaccepted_then}
pub use Rattle.hub_notes.proofs.TickLemmas.{all_still, causes, outgoing_of_tick, sent_stayed, sent_unpinged, shown_twice, stayed, tick_calm, tick_unaccepted, tick_uncounted}
