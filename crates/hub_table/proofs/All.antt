-- The same, and the lemmas that the proofs of functions and of crates above use.
pub use Rattle.hub_table.proofs.Below.{ContainsKey-within, Updates-with_value, ContainsKey, Slab, Updates, get, slab_len, with_value, Bool, Greater, IsSome, List, None, Option, Some, [], ap, arith, cond, false, get_or, if◌then◌else◌, is_some, length, length-append, max, nat_eq, nat_lt, not, refl, rules, subst, suc, sym, true, zero, ℕ, ◌&&◌, ◌++◌, ◌+◌, ◌<◌, ◌||◌, ◌∙◌, ◌∷◌, ◌≡◌, ◌≢◌, ◌≤◌, subst₂, nat_tests, length-insert, searched, sum_by-set, insert_entry, is_at, insert, remove, slice_get, IsBinarySearchResult, lookup, remove_entry, option_map, unwrap_or, match_ordering, nat_cmp, Err, Ok, by_cases, clash, equal_is, is_equal, is_less, is_unequal, less_is, not_less, not_less_is, unequal_is, ConfigValue, Phase, Ending, Gone, Head, Leaving, Open, is_open, none_of, present_entry, joined, Entry, PartingValue, entry_of, has_entry, is_gone, most_held, most_held_in, new_entry, no_entry, due_of, AreAbove, AreRising, ChangesOne, IsNextEnding, IsNextEntry, IsTable, TableState, TakesDue, due_when_gone, is_kept, length_one, octets_few, IsPuttable, can_drop, octets_of, can_enter, goes_on, CountsRinged, OffersOnce, PassesOctets, counts_of, heard_socket, ticked_socket, AreConnections, AreKept, IsConnection, IsOwn, cause, connection_in, connection_of, ends, entered, entries_of, is_due, is_ending, no_connection, numbers_where, parted, partings_of, put_before, replaced, table_state, told, with_socket, without, AreStored, ConnectionMapState, IsIndexed, listed, stored_at, AreGreater, AreRisingNumbers, NumberSetState, added, first_above, first_of, marked, removed, parting_value, Connection, Parting, is_leaving, Quiet, QuietCount, is_end_due, is_ping_due, IsNextKey}
pub use Rattle.hub_table.proofs.ChangeLemmas.{above_all, becomes_added, becomes_counted, becomes_entered, becomes_forgotten, becomes_parted, becomes_put, becomes_told, cause_is, config_of, due_else, due_open, due_read, due_stays, enters_no_head, entry_enters, first_forgotten, first_told, fits_inside, gone_is, held_after, left_none, left_open, most_in, none_due, not_gone, phase_read, state_added, takes, there_by_phase, there_put}
pub use Rattle.hub_table.proofs.ConnectionLemmas.{Becomes, above_less, becomes_replaced, becomes_without, changes_one, connection_first, connection_later, due_becomes, due_is, due_none, each_added, each_of, each_replaced, each_without, entries_added, entry_becomes, entry_conn, entry_is, is_table, later_has, later_in, length_entries, length_replaced, length_without, none_below, nothing_of, own_number, replaced_cases, replaced_elsewhere, replaced_here, rising_last, rising_replaced, rising_without, there_becomes, there_replaced, without_cases, without_elsewhere, without_here}
pub use Rattle.hub_table.proofs.HeldLemmas.{found_is, missed_is, no_phase, none_held, read_held, read_count, none_count, read_phase}
pub use Rattle.hub_table.proofs.IndexLemmas.{IsFirstDue, first_due, length_where, next_is, none_next, none_due as nothing_due, where_added, where_in, where_out, where_replaced, where_same, where_without}
pub use Rattle.hub_table.proofs.MapLemmas.{contains, due_fits, ending_fits, ending_stays, found_here, found_none, has_key, index_added, index_removed, index_written, insert_last, key_has, key_stored, len_written, length_listed, next_entry, marked_fits, others, socket_written, stored_of, stored_written, taken_out, under_key, written}
pub use Rattle.hub_table.proofs.NumberLemmas.{above_found, above_missed, added_at, added_found, added_missed, in_order, more_by_one, removed_cases, removed_found, removed_here, removed_missed, rising_added, rising_marked}
pub use Rattle.hub_table.proofs.RangeLemmas.{first_above_is, none_above}
