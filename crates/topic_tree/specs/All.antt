-- The words that proofs of this crate and of those above use, under one name.
pub use Rattle.std.specs.BTreeMap.{BTreeMap, IsOrdered, WritesThrough, get, is_at}
pub use Rattle.std.specs.BTreeMap.Range.{IsLeBy}
pub use Rattle.std.specs.BTreeSet.{BTreeSet, IsKeyInRange, IsKeyRangeOf, Updates, contains}
pub use Rattle.std.specs.Cmp.{nat_cmp_is, tied_then}
pub use Rattle.std.specs.Cmp.Lexicographic.{slice_cmp}
pub use Rattle.std.specs.List.{AllByRecursion, filter, list_any, slice_get}
unfoldable pub use Rattle.std.specs.List.{IsDistinct}
unfoldable pub use Rattle.std.specs.List.Sorted.{IsStrictlySortedBy}
pub use Rattle.std.specs.Map.{keys_of, lookup, set_value}
pub use Rattle.std.specs.Option.{IfNone, IfSome, is_some, unwrap_or}
pub use Rattle.std.specs.Ordering.{is_eq, is_gt, nat_cmp, ordering_reverse, ordering_then}
pub use Rattle.std.specs.Result.{OnOk, is_err}
pub use Rattle.std.specs.Str.{bytes_eq}
pub use Rattle.std.specs.declared.cmp.Ordering.{Ordering}
pub use Rattle.std.specs.declared.cmp.Ordering.TheVariants.{Equal, Greater, Less}
pub use Rattle.std.specs.declared.ops.Bound.TheVariants.{Excluded, Unbounded}
pub use Rattle.topic_tree.specs.Pairs.{AreThePairs, AreTopics}
pub use Rattle.topic_tree.specs.Subscribers.{has_subscriber, subscriber, subscriber_cmp}
pub use Rattle.topic_tree.specs.Subscriptions.{pairs_of}
pub use Rattle.topic_tree.specs.Topics.{ChangesTopics, IsLast, IsNext}
pub use Rattle.ws_kinds.specs.Topics.{has_topic, is_pair, topics_of, with_topic, without_topic}
pub use Rattle.topic_tree.specs.declared.subscribers.Subscriber.{Subscriber}
pub use Rattle.topic_tree.specs.declared.subscribers.Subscribers.{Subscribers}
