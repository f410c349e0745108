-- The same, and the lemmas that the proofs of functions and of crates above use.
pub use Rattle.route_table.proofs.Below.{IsText, placed, next_at, part_of, walk, wild_from, wild_stop, Scan, add_name_byte, after_close, after_feed, after_shape, closed_scan, feed, feed_closed, feed_name_closed, feed_name_opened, feed_named, feed_opened, feed_outside, finish, on_shape, open_name, parse_route, push_byte, scan_start, shape_error, wild_token, InsertsRead, RouteOf, route_from, RowsOf, catch_all_token, comes_before, param_token, better, cuts, first, has_slash, longest_from, longest_suffix, or_else, own, same_text, segment, slash, step, with_suffix, InsertError, InvalidParam, Bool, Err, Fits, IsUtf8, List, None, Ok, Option, Result, Some, [], add-zero, ap, append-nil, append_assoc, arith, cond, drop, drop_at, false, get_or, get_or-append-add, inl, inr, leb, length, length-append, ltb, nat_eq, refl, rules, subst, suc, sym, take, take-append-drop, take_at, true, w8, zero, ℕ, ◌&&◌, ◌++◌, ◌+◌, ◌-◌, ◌<◌, ◌==◌, ◌||◌, ◌∙◌, ◌∷◌, ◌≡◌, ◌≢◌, ◌≤◌, ◌⊎◌, nat_tests, get_or_at, length-map, IsCharBoundary-after_ascii, IsCharBoundary-before_ascii, IsCharBoundary-end, IsCharBoundary-from_take, IsCharBoundary-start, IsUtf8-append, IsUtf8-between, IsUtf8-drop, IsUtf8-from_ascii, IsUtf8-nil, IsUtf8-take, IsAscii-cons, IsAscii-nil, bytes_decides, ends_with, IsCharBoundary, first_value, value_of, AllRows, IsRow, IsWhole, front_of, rest_of}
unfoldable pub use Rattle.route_table.proofs.Below.{scan, param_step, seek}
pub use Rattle.route_table.proofs.PartLemmas.{IsWildTail, boundary_between, drop_behind, first_part_text, first_value_text, fitting_value_text, found_row, front_of-literal, part_text, rest_of-literal, segment_boundary, segment_split, stop_boundary, suffix_boundary, text_of_octets, wild_from-literal, wild_tail}
pub use Rattle.route_table.proofs.PatternLemmas.{Closes, EndsText, IsAfter, IsBefore, Keeps, Moved, Moves, Pushes, after_ascii, after_moves, ascii_text, before_ascii, before_moves, boundary_push, closed_moved, closed_whole, either_moves, ended_moves, ends_more, feed_moved, finish_whole, inserted_rows, literal_whole, more_rows, name_closed_moved, name_opened_moved, named_moved, opened_moved, outside_moves, parse_whole, placed_rows, scan_step, scan_whole, text_push, wild_tokens, wild_whole}
pub use Rattle.route_table.proofs.RowLemmas.{FitsPath, TailFits, cut_by, either_answer, fits_more, less_rows, longest_cuts, own_row, param_fits, param_rows, seek_end, seek_fits, seek_none, seek_row, step_rows, suffix_fits, suffix_rows}
