use Rattle.topic_tree.proofs.Below.{◌≡◌, ℕ, List, not, ◌&&◌, nat_eq, take, has_topic, has_subscriber}
use Rattle.topic_tree.proofs.topics.remove_each.Given as goal

-- the connection is a subscriber of none of the topics so far
abbrev pub invariant-walk : goal.invariant-walk
invariant-walk l = (t : List ℕ) (c : ℕ) → has_subscriber l.subscribers t c ≡ (not (nat_eq l.conn.0 c && has_topic t (take l.place l.topics)) && has_subscriber l.initial.subscribers t c)
