-- The same, and the lemmas that the proofs of functions and of crates above use.
pub use Rattle.utf8_stream.proofs.Below.{Bool, IsUtf8, List, None, Option, Some, [], ap, append_assoc, arith, drop, false, flat_map, get_or, inl, inr, is_none, is_some, length, length-append, length-drop, refl, subst, suc, sym, take, true, zero, ℕ, ◌++◌, ◌+◌, ◌-◌, ◌<◌, ◌==◌, ◌∙◌, ◌∷◌, ◌≡◌, ◌≤◌, take-add, take-append-add, and_parts, cases_lt, false_from_ne_true, ne_eqb, append-nil, drop-drop, drop_all, drop_at, drop_more, get_or-drop, get_or_append_left, length-take, take-append-drop, take-append-le, take-take, take_all, take_at, take_rest, flat_map-append, IsCharBoundary-after_ascii, IsCharBoundary-from_take, IsCharBoundary-start, IsUtf8-append, IsUtf8-drop, IsUtf8-encode, IsUtf8-from_is_utf8, IsUtf8-nil, IsUtf8-take, is_utf8-from_IsUtf8, len_utf8_bounds, length-encode, both_ways, IsValidUpTo, is_utf8, continuation_of, front_of_continued, longest, not_front, is_text_front, Follows, accepts, is_front, IsCarried, IsUnfinished, IsWholeUpTo, carried_octets, the_type, Text, Bad, Front, Utf8}
unfoldable pub use Rattle.utf8_stream.proofs.Below.{utf8_error_len, utf8_valid_len}
pub use Rattle.utf8_stream.proofs.FrontLemmas.{IsUnfinished-from_open, IsUnfinished-nil, IsWholeUpTo-behind, IsWholeUpTo-cut, IsWholeUpTo-some, IsWholeUpTo-text, first_leads, is_text_front-drop, is_text_front-from_error, is_utf8-behind, is_utf8-parted, text_before_lead, text_behind, text_without_lead}
pub use Rattle.utf8_stream.proofs.StreamLemmas.{Follows-None, Follows-Some, Follows-behind, Follows-end, Follows-malformed, Follows-push, accepts-from_is_text_front, accepts-nil, accepts-pushed, carried_lt, is_text_front-None, is_text_front-Some, is_text_front-from_accepts, is_text_front-state, is_utf8-malformed, is_utf8-pieces, joined_text}
