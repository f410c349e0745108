-- What the proofs of this crate use of the crates below, of std, and of its own specs.
pub use Rattle.std.proofs.Common.{Bool, IsUtf8, List, None, Option, Some, [], ap, append_assoc, arith, drop, false, flat_map, get_or, inl, inr, is_none, is_some, length, length-append, length-drop, refl, subst, suc, sym, take, true, zero, ℕ, ◌++◌, ◌+◌, ◌-◌, ◌<◌, ◌==◌, ◌∙◌, ◌∷◌, ◌≡◌, ◌≤◌}
pub use Rattle.std.proofs.Math.Seq.{take-add, take-append-add}
pub use Rattle.std.proofs.lemmas.Bool.{and_parts, cases_lt, false_from_ne_true, ne_eqb}
pub use Rattle.std.proofs.lemmas.List.{append-nil, drop-drop, drop_all, drop_at, drop_more, get_or-drop, get_or_append_left, length-take, take-append-drop, take-append-le, take-take, take_all, take_at, take_rest}
pub use Rattle.std.proofs.lemmas.List.Concat.{flat_map-append}
pub use Rattle.std.proofs.lemmas.Str.{IsCharBoundary-after_ascii, IsCharBoundary-from_take, IsCharBoundary-start, IsUtf8-append, IsUtf8-drop, IsUtf8-encode, IsUtf8-from_is_utf8, IsUtf8-nil, IsUtf8-take, is_utf8-from_IsUtf8, len_utf8_bounds, length-encode}
pub use Rattle.utf8_stream.specs.All.{both_ways, IsValidUpTo, is_utf8, is_text_front, Follows, accepts, is_front, IsCarried, IsUnfinished, IsWholeUpTo, carried_octets, the_type, Text, Bad, Front, Utf8}
unfoldable pub use Rattle.utf8_stream.specs.All.{utf8_error_len, utf8_valid_len}
pub use Rattle.wire_meaning.proofs.All.{continuation_of, front_of_continued, longest, not_front}
