-- What the proofs of this crate use of the crates below, of std, and of its own specs.
pub use Rattle.route_table.specs.All.{IsText, placed, next_at, part_of, walk, wild_from, wild_stop, Scan, add_name_byte, after_close, after_feed, after_shape, closed_scan, feed, feed_closed, feed_name_closed, feed_name_opened, feed_named, feed_opened, feed_outside, finish, on_shape, open_name, parse_route, push_byte, scan_start, shape_error, wild_token, InsertsRead, RouteOf, route_from, RowsOf, catch_all_token, comes_before, param_token, better, cuts, first, has_slash, longest_from, longest_suffix, or_else, own, same_text, segment, slash, step, with_suffix, InsertError, InvalidParam, bytes_decides, ends_with, IsCharBoundary, first_value, value_of, AllRows, IsRow, IsWhole, front_of, rest_of}
unfoldable pub use Rattle.route_table.specs.All.{scan, param_step, seek}
pub use Rattle.std.proofs.Common.{Bool, Err, Fits, IsUtf8, List, None, Ok, Option, Result, Some, [], add-zero, ap, append-nil, append_assoc, arith, cond, drop, drop_at, false, get_or, get_or-append-add, inl, inr, leb, length, length-append, ltb, nat_eq, refl, rules, subst, suc, sym, take, take-append-drop, take_at, true, w8, zero, ℕ, ◌&&◌, ◌++◌, ◌+◌, ◌-◌, ◌<◌, ◌==◌, ◌||◌, ◌∙◌, ◌∷◌, ◌≡◌, ◌≢◌, ◌≤◌, ◌⊎◌}
pub use Rattle.std.proofs.lemmas.Bool.Decides.{nat_tests}
pub use Rattle.std.proofs.lemmas.List.{get_or_at, length-map}
pub use Rattle.std.proofs.lemmas.Str.{IsCharBoundary-after_ascii, IsCharBoundary-before_ascii, IsCharBoundary-end, IsCharBoundary-from_take, IsCharBoundary-start, IsUtf8-append, IsUtf8-between, IsUtf8-drop, IsUtf8-from_ascii, IsUtf8-nil, IsUtf8-take}
pub use Rattle.std.proofs.lemmas.Str.Ascii.{IsAscii-cons, IsAscii-nil}
