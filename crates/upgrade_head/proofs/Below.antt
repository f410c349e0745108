-- What the proofs of this crate use of the crates below, of std, and of its own specs.
pub use Rattle.httparse.proofs.GrammarLemmas.{request_unique}
pub use Rattle.httparse.proofs.TrimLemmas.{skip_ows_no, skip_ows_yes, slice_empty, slice_first, slice_last}
pub use Rattle.upgrade_head.specs.All.{RequestHead, skip_ows, IsHeaderWithin, header_bytes, FindsNeedle, OccursAt, IsFirstChunk, before_first, list_any, position_or_len, bytes_eq, str_eq_ignore_ascii_case, RouteTable, FieldList, has_element, has_value, values_of, IsHead, empty_line, end_behind, head_end, Judged, JudgedHead, Verdict, by_parts, more, refuse, unended, checked_key, is_key, fields_seen, is_element, lists, parts_after}
unfoldable pub use Rattle.upgrade_head.specs.All.{trim_ows}
pub use Rattle.std.proofs.Common.{All, Bool, Bor, List, MatchOption, None, Option, Some, [], ap, arith, codes, drop, false, get_or, get_or-drop, if◌then◌else◌, inl, inr, length, length-append, length-drop, length-take, map, nat_lt, option_copied, position, refl, reverse, rules, slice_range, subst, suc, sym, take, true, zero, ℕ, ⊎_elim, ◌++◌, ◌+◌, ◌-◌, ◌<◌, ◌==◌, ◌∙◌, ◌∷◌, ◌≡◌, ◌≢◌, ◌≤◌, ◌⊎◌}
pub use Rattle.std.proofs.Math.Seq.{take-append-add}
pub use Rattle.std.proofs.lemmas.Bool.{cases_Bool}
pub use Rattle.std.proofs.lemmas.Bool.Decides.{nat_tests}
pub use Rattle.std.proofs.lemmas.Grind.{common_steps}
pub use Rattle.std.proofs.lemmas.List.{drop_more, reverse-reverse, take-append-le, take_all, take_more}
pub use Rattle.std.proofs.lemmas.List.Elements.{All-rest}
pub use Rattle.std.proofs.lemmas.Slice.Eq.{bytes_eq-Decides}
