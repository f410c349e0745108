-- What the proofs of this crate use of the crates below, of std, and of its own specs.
pub use Rattle.slab.proofs.SlabLemmas.{ContainsKey-within, Updates-with_value}
pub use Rattle.hub_table.specs.All.{ContainsKey, Slab, Updates, get, slab_len, with_value, insert_entry, is_at, insert, remove, slice_get, IsBinarySearchResult, lookup, remove_entry, option_map, unwrap_or, match_ordering, nat_cmp, Err, Ok, ConfigValue, Phase, Ending, Gone, Head, Leaving, Open, QuietCount, is_end_due, is_leaving, is_open, is_ping_due, joined, Entry, Quiet, PartingValue, entry_of, has_entry, is_gone, most_held, most_held_in, new_entry, no_entry, due_of, AreAbove, AreRising, ChangesOne, IsNextEnding, IsNextEntry, IsTable, TableState, TakesDue, due_when_gone, is_kept, IsPuttable, can_drop, octets_of, can_enter, goes_on, CountsRinged, OffersOnce, PassesOctets, counts_of, heard_socket, ticked_socket, AreConnections, AreKept, IsConnection, IsOwn, cause, connection_in, connection_of, ends, entered, entries_of, is_due, is_ending, no_connection, numbers_where, parted, partings_of, put_before, replaced, table_state, told, with_socket, without, AreStored, ConnectionMapState, IsIndexed, listed, stored_at, AreGreater, AreRisingNumbers, NumberSetState, added, first_above, first_of, marked, removed, parting_value, Connection, Parting, IsNextKey}
pub use Rattle.std.proofs.Common.{Bool, Greater, IsSome, List, None, Option, Some, [], ap, arith, cond, false, get_or, if◌then◌else◌, is_some, length, length-append, max, nat_eq, nat_lt, not, refl, rules, subst, suc, sym, true, zero, ℕ, ◌&&◌, ◌++◌, ◌+◌, ◌<◌, ◌||◌, ◌∙◌, ◌∷◌, ◌≡◌, ◌≢◌, ◌≤◌}
pub use Rattle.std.proofs.Math.Path.{subst₂}
pub use Rattle.std.proofs.lemmas.Bool.Decides.{nat_tests}
pub use Rattle.std.proofs.lemmas.List.Edits.{length-insert}
pub use Rattle.std.proofs.lemmas.List.Sorted.{searched}
pub use Rattle.std.proofs.lemmas.List.Sums.{sum_by-set}
pub use Rattle.ws_kinds.proofs.Facts.{by_cases, clash, equal_is, is_equal, is_less, is_unequal, less_is, not_less, not_less_is, unequal_is}
pub use Rattle.hub_lines.proofs.All.{none_of, present_entry}
pub use Rattle.socket_core.proofs.All.{length_one, octets_few}
