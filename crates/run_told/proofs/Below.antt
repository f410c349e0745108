-- What the proofs of this crate use of the crates below, of std, and of its own specs.
pub use Rattle.std.proofs.Common.{Bool, List, None, Option, Some, [], ap, append-nil, append_assoc, arith, cond, false, inl, inr, is_some, length, length-append, min, nat_eq, nat_lt, not, refl, subst, sym, true, ℕ, ⊎_elim, ◌&&◌, ◌++◌, ◌+◌, ◌-◌, ◌<◌, ◌^◌, ◌||◌, ◌∙◌, ◌∷◌, ◌≡◌, ◌≢◌, ◌≤◌, ◌⊎◌}
pub use Rattle.std.proofs.Math.Bool.{and-false, or-true}
pub use Rattle.std.proofs.lemmas.Bool.Decides.{nat_tests}
pub use Rattle.std.proofs.lemmas.List.{append_cancel_left}
pub use Rattle.run_told.specs.All.{list_all, list_any, ConfigValue, NoteValue, OrderValue, close, publish, send, subscribe, unsubscribe, with_topic, without_topic, AreNoted, IsNoted, Phase, Ending, Gone, Head, Leaving, Open, all_spelled, can_drop, reply, whole, Pong, NetState, accepted_by, drops, has_number, is_accepted, taken, kept, kept_of, Carries, World, closing, is_gone_phase, is_open, leaves_open, moved, phase, plain, topics_left, world, is_of, is_turn, is_away, unless_gone, is_outgoing, Server, Step, by_note, by_order, notes_of, of_notes, Tell, at_turn, has_news, is_telling, is_told, marked, nothing_told, one_dropped, tell_by, tell_by_all, AreTold, IsToldRight, ToldRight, has_to_tell, held_after, tell, tell_from, tell_noted, Settled, nothing, HubState, TellingValue, entry_at, is_gone, is_present, ring_at, server, Advances, Appends, Does, Proceeds, KeepsFront, SameDrops, items_at, FailsAfter, NetAfter, IsNextTold, NoneToTell, TakesTold, news_at, Progress, due_at, may_all_come, may_all_step, may_come, may_step, progress_after, progress_at, progress_by, progress_by_steps, progress_obeys, standings_at, topics_at, ServesAll, IsTable, table_of, EndsTelling, TellsBy, held_in, tell_at, tell_of, EndsTurn, finishes, Agrees, is_early, is_of_orders, KeepsOwed, TellsAll, TellsBut, TellsTo, is_told_or_left, HoldsAs, IsTold, Tellings, TellsNext, Trace, drops_back, is_empty_back, trace, trace_from, traced, was_held_back, was_held_from, drop, mark, turn_with}
pub use Rattle.ws_kinds.proofs.Facts.{and_left, and_right, and_true, by_cases, clash, equal_is, less_is, no_more, not_less_is, or_false, or_left, or_right, stays_false, unequal_is}
pub use Rattle.run_meaning.proofs.All.{all_follow, none_follow, none_then, notes_of-notes, drops-append, list_any-append, place_of, place_of_one, taken-append, new, old, none_moves, open_shown, world_plain}
pub use Rattle.run_meaning.proofs.Parts.Placed.{early, late}
pub use Rattle.hub_lines.proofs.All.{keeps_note, short_silent, present_entry, split_told}
pub use Rattle.hub_notes.proofs.All.{notes_step, fairly_later, appends_after_nothing, fails_same, net_same, told_none, told_one, told_then, rest_unaccepted}
pub use Rattle.run_laws.proofs.All.{rests_of, agrees_carried, early_before, orders_notes, outgoing_of_orders, phase_some}
