-- The subscribers of each topic.
use Rattle.std.specs.Prelude.{ℕ, List, Bool}
use Rattle.std.specs.declared.cmp.Ordering.{Ordering}
use Rattle.std.specs.Ordering.{ordering_then, nat_cmp}
use Rattle.std.specs.Cmp.Lexicographic.{slice_cmp}
use Rattle.std.specs.BTreeSet.{contains}
use Rattle.topic_tree.specs.declared.subscribers.Subscriber.{Subscriber}
use Rattle.topic_tree.specs.declared.subscribers.Subscribers.{Subscribers}

-- a connection as a subscriber of a topic
abbrev pub subscriber : List ℕ → ℕ → Subscriber
subscriber topic conn = record { topic = record { items = topic }; conn = conn }

-- by their topics, octet by octet, and those of one topic by their numbers
abbrev pub subscriber_cmp : Subscriber → Subscriber → Ordering
subscriber_cmp one other = ordering_then (slice_cmp nat_cmp one.topic.items other.topic.items) (nat_cmp one.conn other.conn)

-- the connection is a subscriber of the topic
abbrev pub has_subscriber : Subscribers → List ℕ → ℕ → Bool
has_subscriber subscribers topic conn = contains subscriber_cmp subscribers.all (subscriber topic conn)
