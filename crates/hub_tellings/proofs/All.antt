-- The same, and the lemmas that the proofs of functions and of crates above use.
pub use Rattle.hub_tellings.proofs.Below.{Bool, Err, IfErr, IfOk, List, None, Ok, Option, Result, Some, [], ap, arith, cond, false, get_or, length, nat_eq, nat_lt, not, refl, rules, set, subst, suc, sym, true, vec_capacity, zero, ℕ, ◌&&◌, ◌+◌, ◌<◌, ◌||◌, ◌∙◌, ◌∷◌, ◌≡◌, ◌≢◌, ◌≤◌, nat_tests, ranked, get_or-set_same, get_or_default, length-set, IsNonDecreasingBy-from_default, answers_always, insert, remove, slice_get, IsBinarySearchResult, IsNonDecreasingBy, IsSearchInRange, option_map, nat_cmp, ordering_index, by_cases, clash, equal_is, is_equal, is_unequal, unequal_is, Tell, at_turn, has_news, marked, nothing_told, one_dropped, Entry, TellingValue, has_entry, AreAbove, AreRising, tell_in, tell_of, AreRisingRows, AreRowsAbove, ChangesRow, IsGapFor, IsNextRow, IsRowAt, TellingsState, has_row, no_row, number_at}
pub use Rattle.hub_tellings.proofs.RowLemmas.{fewer_rows, fewer_rows_without, gap_has, has_at, idle_held, idle_is, next_found, next_missed, nothing_of, read_again, row_added, row_away, row_changed, row_removed, row_same, row_stays, row_then, row_there, searched_rows, state, still_at, tell_at, tell_missed, tell_there}
