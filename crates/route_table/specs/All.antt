-- The words that proofs of this crate and of those above use, under one name.
pub use Rattle.matchit.specs.Level.{IsText}
pub use Rattle.matchit.specs.Order.{placed}
pub use Rattle.matchit.specs.Params.{next_at, part_of, walk, wild_from, wild_stop}
pub use Rattle.matchit.specs.Route.{Scan, add_name_byte, after_close, after_feed, after_shape, closed_scan, feed, feed_closed, feed_name_closed, feed_name_opened, feed_named, feed_opened, feed_outside, finish, on_shape, open_name, parse_route, push_byte, scan_start, shape_error, wild_token}
unfoldable pub use Rattle.matchit.specs.Route.{scan}
pub use Rattle.matchit.specs.Router.{InsertsRead, RouteOf, route_from}
pub use Rattle.matchit.specs.Rows.{RowsOf, catch_all_token, comes_before, param_token}
pub use Rattle.matchit.specs.Seek.{better, cuts, first, has_slash, longest_from, longest_suffix, or_else, own, same_text, segment, slash, step, with_suffix}
unfoldable pub use Rattle.matchit.specs.Seek.{param_step, seek}
pub use Rattle.matchit.specs.declared.error.InsertError.{InsertError}
pub use Rattle.matchit.specs.declared.error.InsertError.TheVariants.{InvalidParam}
pub use Rattle.std.specs.Cmp.Lexicographic.{bytes_decides}
pub use Rattle.std.specs.List.{ends_with}
pub use Rattle.std.specs.Str.{IsCharBoundary}
pub use Rattle.route_table.specs.Table.{RouteTable, answer_of, first_value, found, found_at, is_refused, is_refused_as, names_of, no_routes, rows_with, value_of, with_route}
pub use Rattle.route_table.specs.Whole.{AllRows, IsRow, IsTable, IsWhole, front_of, rest_of}
