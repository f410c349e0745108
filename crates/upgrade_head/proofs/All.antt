-- The same, and the lemmas that the proofs of functions and of crates above use.
pub use Rattle.upgrade_head.proofs.Below.{request_unique, skip_ows_no, skip_ows_yes, slice_empty, slice_first, slice_last, RequestHead, skip_ows, IsHeaderWithin, header_bytes, FindsNeedle, OccursAt, All, Bool, Bor, List, MatchOption, None, Option, Some, [], ap, arith, codes, drop, false, get_or, get_or-drop, if◌then◌else◌, inl, inr, length, length-append, length-drop, length-take, map, nat_lt, option_copied, position, refl, reverse, rules, slice_range, subst, suc, sym, take, true, zero, ℕ, ⊎_elim, ◌++◌, ◌+◌, ◌-◌, ◌<◌, ◌==◌, ◌∙◌, ◌∷◌, ◌≡◌, ◌≢◌, ◌≤◌, ◌⊎◌, take-append-add, cases_Bool, nat_tests, common_steps, drop_more, reverse-reverse, take-append-le, take_all, take_more, All-rest, bytes_eq-Decides, IsFirstChunk, before_first, list_any, position_or_len, bytes_eq, str_eq_ignore_ascii_case, RouteTable, FieldList, has_element, has_value, values_of, IsHead, empty_line, end_behind, head_end, Judged, JudgedHead, Verdict, by_parts, more, refuse, unended, checked_key, is_key, fields_seen, is_element, lists, parts_after}
unfoldable pub use Rattle.upgrade_head.proofs.Below.{trim_ows}
pub use Rattle.upgrade_head.proofs.FieldLemmas.{one_more}
pub use Rattle.upgrade_head.proofs.HeadLemmas.{end-None, end-Some, head_end-full, head_end-stays, head_end-within}
pub use Rattle.upgrade_head.proofs.JudgedLemmas.{judged_stays, judged_unique}
pub use Rattle.upgrade_head.proofs.KeyLemmas.{key_is, whole_chunk}
pub use Rattle.upgrade_head.proofs.PathLemmas.{before-None, before-Some}
pub use Rattle.upgrade_head.proofs.TextLemmas.{three_unless}
pub use Rattle.upgrade_head.proofs.WordLemmas.{after_comma, after_other}
