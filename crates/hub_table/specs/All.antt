-- The words that proofs of this crate and of those above use, under one name.
pub use Rattle.slab.specs.Slab.{ContainsKey, Slab, Updates, get, slab_len, with_value}
pub use Rattle.std.specs.BTreeMap.{insert_entry, is_at}
pub use Rattle.std.specs.List.{insert, remove, slice_get}
pub use Rattle.std.specs.List.Sorted.{IsBinarySearchResult}
pub use Rattle.std.specs.Map.{lookup, remove_entry}
pub use Rattle.std.specs.Option.{option_map, unwrap_or}
pub use Rattle.std.specs.Ordering.{match_ordering, nat_cmp}
pub use Rattle.std.specs.declared.result.Result.TheVariants.{Err, Ok}
pub use Rattle.ws_kinds.specs.All.{ConfigValue}
pub use Rattle.ws_kinds.specs.declared.note.Phase.{Phase}
pub use Rattle.ws_kinds.specs.declared.note.Phase.TheVariants.{Ending, Gone, Head, Leaving, Open}
pub use Rattle.run_meaning.specs.All.{QuietCount, is_end_due, is_leaving, is_open, is_ping_due}
pub use Rattle.hub_lines.specs.All.{joined, Entry, PartingValue, Quiet, entry_of, has_entry, is_gone, most_held, most_held_in, new_entry, no_entry}
pub use Rattle.hub_notes.specs.All.{due_of, AreAbove, AreRising, ChangesOne, IsNextEnding, IsNextEntry, IsTable, TableState, TakesDue, due_when_gone, is_kept}
pub use Rattle.socket_core.specs.All.{IsPuttable, can_drop, octets_of, can_enter, goes_on, CountsRinged, OffersOnce, PassesOctets, counts_of, heard_socket, ticked_socket}
pub use Rattle.hub_table.specs.Connection.{AreConnections, AreKept, IsConnection, IsOwn, cause, connection_in, connection_of, ends, entered, entries_of, is_due, is_ending, no_connection, numbers_where, parted, partings_of, put_before, replaced, table_state, told, with_socket, without}
pub use Rattle.hub_table.specs.ConnectionMap.{AreStored, ConnectionMapState, IsIndexed, IsKept, IsNextKey, listed, stored_at}
pub use Rattle.hub_table.specs.NumberSet.{AreGreater, AreRisingNumbers, NumberSetState, added, first_above, first_of, marked, removed}
pub use Rattle.hub_table.specs.Parting.{parting_value}
pub use Rattle.hub_table.specs.declared.connection.Connection.{Connection}
pub use Rattle.hub_table.specs.declared.parting.Parting.{Parting}
