-- What holds of the topics of each connection, and of the subscribers of each topic beside them.
use Rattle.std.specs.Prelude.{◌≡◌, ◌≤◌, ℕ, List, true, length}
use Rattle.std.specs.List.{IsDistinct}
use Rattle.std.specs.Str.{bytes_eq}
use Rattle.ws_kinds.specs.Topics.{topics_of, has_topic, is_pair}
use Rattle.topic_tree.specs.Subscribers.{has_subscriber}
use Rattle.topic_tree.specs.declared.subscribers.Subscribers.{Subscribers}

-- the topics of one connection
pub record AreTopics (topics : List (List ℕ)) : Type 0 where
  pub few : length topics ≤ 64
  -- each stands once
  pub once : IsDistinct bytes_eq topics
  -- none has more than 64 octets
  pub short : (topic : List ℕ) → has_topic topic topics ≡ true → length topic ≤ 64

pub record AreThePairs (pairs : List (ℕ × List ℕ)) (subscribers : Subscribers) : Type 0 where
  -- both have the same pairs
  pub same : (topic : List ℕ) (conn : ℕ) → has_subscriber subscribers topic conn ≡ is_pair pairs topic conn
  pub topics : (conn : ℕ) → AreTopics (topics_of pairs conn)
