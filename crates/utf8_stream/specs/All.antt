-- The words that proofs of this crate and of those above use, under one name.
pub use Rattle.std.specs.Cmp.{both_ways}
pub use Rattle.std.specs.Str.{IsValidUpTo, is_utf8}
unfoldable pub use Rattle.std.specs.Str.Lossy.{utf8_error_len, utf8_valid_len}
pub use Rattle.wire_meaning.specs.All.{is_text_front}
pub use Rattle.utf8_stream.specs.Stream.{Follows, accepts, is_front}
pub use Rattle.utf8_stream.specs.Unfinished.{IsCarried, IsUnfinished, IsWholeUpTo, carried_octets}
pub use Rattle.utf8_stream.specs.contracts.stream.Text.{the_type}
pub use Rattle.utf8_stream.specs.declared.stream.Text.{Text}
pub use Rattle.utf8_stream.specs.declared.stream.Text.TheVariants.{Bad, Front}
pub use Rattle.utf8_stream.specs.declared.stream.Utf8.{Utf8}
