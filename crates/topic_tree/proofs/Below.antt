-- What the proofs of this crate use of the crates below, of std, and of its own specs.
pub use Rattle.std.proofs.Common.{Bool, Err, List, None, Ok, Option, Result, Some, [], ap, append-nil, arith, cond, false, length, map, nat_eq, not, refl, rules, subst, sym, take, true, ℕ, ◌&&◌, ◌++◌, ◌+◌, ◌<◌, ◌||◌, ◌∙◌, ◌∷◌, ◌≡◌, ◌≤◌}
pub use Rattle.std.proofs.lemmas.Bool.Decides.{nat_tests}
pub use Rattle.std.proofs.lemmas.Cmp.{nat_list_cmp_total, nat_list_eq_equiv, ranked, tied_itself}
pub use Rattle.std.proofs.lemmas.Fn.{filter_same}
pub use Rattle.std.proofs.lemmas.List.{length_push}
pub use Rattle.std.proofs.lemmas.List.Folds.{list_any-append, list_any_more}
pub use Rattle.std.proofs.lemmas.Map.Keys.{IsDistinct-push}
pub use Rattle.std.proofs.lemmas.Map.Steps.{set_value_same}
pub use Rattle.std.proofs.lemmas.Map.Text.{is_eq-slice_cmp}
pub use Rattle.std.proofs.lemmas.Map.Views.{any-filter_same}
pub use Rattle.std.proofs.lemmas.Option.{IfSome_then, get_or_from_slice_get}
pub use Rattle.std.proofs.lemmas.Result.{on_err_weaker, on_ok_weaker}
pub use Rattle.std.proofs.lemmas.Slice.Eq.{bytes_eq-Decides}
pub use Rattle.topic_tree.specs.All.{BTreeMap, IsOrdered, WritesThrough, get, is_at, IsLeBy, BTreeSet, IsKeyInRange, IsKeyRangeOf, Updates, contains, nat_cmp_is, tied_then, slice_cmp, AllByRecursion, filter, list_any, slice_get, keys_of, lookup, set_value, IfNone, IfSome, is_some, unwrap_or, is_eq, is_gt, nat_cmp, ordering_reverse, ordering_then, OnOk, is_err, bytes_eq, Ordering, Equal, Greater, Less, Excluded, Unbounded, AreThePairs, AreTopics, has_subscriber, subscriber, subscriber_cmp, pairs_of, ChangesTopics, IsNext, has_topic, is_pair, topics_of, without_topic, Subscriber, Subscribers}
unfoldable pub use Rattle.topic_tree.specs.All.{IsDistinct, IsStrictlySortedBy}
