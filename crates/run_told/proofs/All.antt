-- The same, and the lemmas that the proofs of functions and of crates above use.
pub use Rattle.run_told.proofs.Below.{Bool, List, None, Option, Some, [], ap, append-nil, append_assoc, arith, cond, false, inl, inr, is_some, length, length-append, min, nat_eq, nat_lt, not, refl, subst, sym, true, ℕ, ⊎_elim, ◌&&◌, ◌++◌, ◌+◌, ◌-◌, ◌<◌, ◌^◌, ◌||◌, ◌∙◌, ◌∷◌, ◌≡◌, ◌≢◌, ◌≤◌, ◌⊎◌, and-false, or-true, nat_tests, append_cancel_left, list_all, list_any, and_left, and_right, and_true, by_cases, clash, equal_is, less_is, no_more, not_less_is, or_false, or_left, or_right, stays_false, unequal_is, ConfigValue, NoteValue, OrderValue, close, publish, send, subscribe, unsubscribe, with_topic, without_topic, AreNoted, IsNoted, Phase, Ending, Gone, Head, Leaving, Open, all_spelled, can_drop, reply, whole, Pong, NetState, all_follow, none_follow, none_then, notes_of-notes, drops-append, list_any-append, place_of, place_of_one, taken-append, early, late, new, old, none_moves, open_shown, world_plain, accepted_by, drops, has_number, is_accepted, taken, kept, kept_of, Carries, World, closing, is_gone_phase, is_open, leaves_open, moved, phase, plain, topics_left, world, is_of, is_turn, is_away, unless_gone, is_outgoing, Server, Step, by_note, by_order, notes_of, of_notes, Tell, at_turn, has_news, is_telling, is_told, marked, nothing_told, one_dropped, tell_by, tell_by_all, AreTold, IsToldRight, ToldRight, has_to_tell, held_after, tell, tell_from, tell_noted, keeps_note, short_silent, present_entry, split_told, Settled, nothing, HubState, TellingValue, entry_at, is_gone, is_present, ring_at, server, notes_step, fairly_later, appends_after_nothing, fails_same, net_same, told_none, told_one, told_then, rest_unaccepted, Advances, Appends, Does, Proceeds, KeepsFront, SameDrops, items_at, FailsAfter, NetAfter, IsNextTold, NoneToTell, TakesTold, news_at, Progress, due_at, may_all_come, may_all_step, may_come, may_step, progress_after, progress_at, progress_by, progress_by_steps, progress_obeys, standings_at, topics_at, ServesAll, IsTable, table_of, EndsTelling, TellsBy, held_in, tell_at, tell_of, EndsTurn, finishes, rests_of, agrees_carried, early_before, orders_notes, outgoing_of_orders, phase_some, Agrees, is_early, is_of_orders, KeepsOwed, TellsAll, TellsBut, TellsTo, is_told_or_left, HoldsAs, IsTold, Tellings, TellsNext, Trace, drops_back, is_empty_back, trace, trace_from, traced, was_held_back, was_held_from, drop, mark, turn_with}
pub use Rattle.run_told.proofs.NotingLemmas.{noted_next}
pub use Rattle.run_told.proofs.OwingLemmas.{Owes, done_first, done_later, steps_late, steps_owe}
pub use Rattle.run_told.proofs.PassLemmas.{all_told, owed_aside, owed_call, owed_same, owed_steps, owed_then, pass_ends, pass_lasts, pass_more, pass_next, pass_starts}
pub use Rattle.run_told.proofs.PhaseLemmas.{away_shown, early_shown, here_known, late_closing, open_is, present_shown}
pub use Rattle.run_told.proofs.TellLemmas.{tell_turn, tell_within}
pub use Rattle.run_told.proofs.TellingLemmas.{finishes_silent, finishes_turnless, holds_as, news_is, next_right, right_first, right_more, right_orders, right_proceed, right_told, served_of_orders, served_turnless, tellings_call, tellings_end, tellings_first, tellings_orders, tellings_proceed, tellings_turn, told_call, told_end, told_first, told_next, told_orders, told_proceed}
pub use Rattle.run_told.proofs.TraceLemmas.{read_drained, read_dropped}
