-- The words that proofs of this crate and of those above use, under one name.
pub use Rattle.httparse.specs.Grammar.{RequestHead, skip_ows}
unfoldable pub use Rattle.httparse.specs.Grammar.{trim_ows}
pub use Rattle.httparse.specs.Spans.{IsHeaderWithin, header_bytes}
pub use Rattle.memchr.specs.Find.{FindsNeedle, OccursAt}
pub use Rattle.std.specs.Array.{IsFirstChunk}
pub use Rattle.std.specs.List.{before_first, list_any, position_or_len}
pub use Rattle.std.specs.Str.{bytes_eq, str_eq_ignore_ascii_case}
pub use Rattle.route_table.specs.All.{RouteTable}
pub use Rattle.upgrade_head.specs.Field.{FieldList, fields_of, has_element, has_field, has_value, only_of, only_value, values_of}
pub use Rattle.upgrade_head.specs.Head.{IsHead, IsWholeHead, empty_line, end_behind, head_end}
pub use Rattle.upgrade_head.specs.Judged.{IsDecided, IsInRange, Judged, JudgedHead, Verdict, admit, answer_text, asks_to_upgrade, by_key, by_parts, by_path, has_version, is_get, is_offered, more, path_of, protocol_of, refuse, route_of, more as undecided, unended}
pub use Rattle.upgrade_head.specs.Key.{accept_text, checked_key, is_base64, is_key, key_of}
pub use Rattle.upgrade_head.specs.Texts.{is_refusal, protocol_line, refusal_text, reply_text}
pub use Rattle.upgrade_head.specs.View.{fields_seen, verdict_of}
pub use Rattle.upgrade_head.specs.Word.{is_element, is_same, lists, parts_after}
