-- The same, and the lemmas that the proofs of functions and of crates above use.
pub use Rattle.topic_tree.proofs.Below.{Bool, Err, List, None, Ok, Option, Result, Some, [], ap, append-nil, arith, cond, false, length, map, nat_eq, not, refl, rules, subst, sym, take, true, ℕ, ◌&&◌, ◌++◌, ◌+◌, ◌<◌, ◌||◌, ◌∙◌, ◌∷◌, ◌≡◌, ◌≤◌, nat_tests, nat_list_cmp_total, nat_list_eq_equiv, ranked, tied_itself, filter_same, length_push, list_any-append, list_any_more, IsDistinct-push, set_value_same, is_eq-slice_cmp, any-filter_same, IfSome_then, get_or_from_slice_get, on_err_weaker, on_ok_weaker, bytes_eq-Decides, BTreeMap, IsOrdered, WritesThrough, get, is_at, IsLeBy, BTreeSet, IsKeyInRange, IsKeyRangeOf, Updates, contains, nat_cmp_is, tied_then, slice_cmp, AllByRecursion, filter, list_any, slice_get, keys_of, lookup, set_value, IfNone, IfSome, is_some, unwrap_or, is_eq, is_gt, nat_cmp, ordering_reverse, ordering_then, OnOk, is_err, bytes_eq, Ordering, Equal, Greater, Less, Excluded, Unbounded, AreThePairs, AreTopics, has_subscriber, subscriber, subscriber_cmp, pairs_of, ChangesTopics, IsNext, has_topic, is_pair, topics_of, without_topic, Subscriber, Subscribers}
unfoldable pub use Rattle.topic_tree.proofs.Below.{IsDistinct, IsStrictlySortedBy}
pub use Rattle.topic_tree.proofs.OrderLemmas.{added, next_is, none_left, of_another, refuted, removed}
pub use Rattle.topic_tree.proofs.PairLemmas.{at_number, changed, found, unchanged, written}
pub use Rattle.topic_tree.proofs.SameLemmas.{changes_nothing, next_same, none_then, same_added, same_at_first, same_dropped, same_removed, went_well}
pub use Rattle.topic_tree.proofs.TopicLemmas.{any_mapped, behind_has, filter_mapped, no_topics, topics_behind, topics_without, walked, without_absent, without_has}
