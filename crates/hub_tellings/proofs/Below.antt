-- What the proofs of this crate use of the crates below, of std, and of its own specs.
pub use Rattle.std.proofs.Common.{Bool, Err, IfErr, IfOk, List, None, Ok, Option, Result, Some, [], ap, arith, cond, false, get_or, length, nat_eq, nat_lt, not, refl, rules, set, subst, suc, sym, true, vec_capacity, zero, ℕ, ◌&&◌, ◌+◌, ◌<◌, ◌||◌, ◌∙◌, ◌∷◌, ◌≡◌, ◌≢◌, ◌≤◌}
pub use Rattle.std.proofs.lemmas.Bool.Decides.{nat_tests}
pub use Rattle.std.proofs.lemmas.Cmp.{ranked}
pub use Rattle.std.proofs.lemmas.List.{get_or-set_same, get_or_default, length-set}
pub use Rattle.std.proofs.lemmas.List.Sorted.{IsNonDecreasingBy-from_default, answers_always}
pub use Rattle.hub_tellings.specs.All.{insert, remove, slice_get, IsBinarySearchResult, IsNonDecreasingBy, IsSearchInRange, option_map, nat_cmp, ordering_index, Tell, at_turn, has_news, marked, nothing_told, one_dropped, Entry, TellingValue, has_entry, AreAbove, AreRising, tell_in, tell_of, AreRisingRows, AreRowsAbove, ChangesRow, IsGapFor, IsNextRow, IsRowAt, TellingsState, has_row, no_row, number_at}
pub use Rattle.ws_kinds.proofs.Facts.{by_cases, clash, equal_is, is_equal, is_unequal, unequal_is}
