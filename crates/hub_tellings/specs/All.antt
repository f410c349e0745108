-- The words that proofs of this crate and of those above use, under one name.
pub use Rattle.std.specs.List.{insert, remove, slice_get}
pub use Rattle.std.specs.List.Sorted.{IsBinarySearchResult, IsNonDecreasingBy, IsSearchInRange}
pub use Rattle.std.specs.Option.{option_map}
pub use Rattle.std.specs.Ordering.{nat_cmp, ordering_index}
pub use Rattle.run_meaning.specs.All.{Tell, at_turn, has_news, marked, nothing_told, one_dropped}
pub use Rattle.hub_lines.specs.All.{Entry, TellingValue, has_entry}
pub use Rattle.hub_notes.specs.All.{AreAbove, AreRising, tell_in, tell_of}
pub use Rattle.hub_tellings.specs.Tellings.{AreRisingRows, AreRowsAbove, ChangesRow, IsGapFor, IsNextRow, IsRowAt, TellingsState, has_row, no_row, number_at}
