-- Who subscribed to what: pairs of a connection's number and a topic, and the topics of each connection in the order of its
-- subscribing.
use Rattle.std.specs.Prelude.{ℕ, List, [], ◌∷◌, ◌++◌, Bool, not, nat_eq, bytes_eq, filter, if◌then◌else◌}
use Rattle.std.specs.List.{list_any}

-- the topics of a connection, in the order of the pairs
abbrev pub topics_of : List (ℕ × List ℕ) → ℕ → List (List ℕ)
topics_of [] conn = []
topics_of (first ∷ rest) conn = if nat_eq first.0 conn then first.1 ∷ topics_of rest conn else topics_of rest conn

-- the topic is among these
abbrev pub has_topic : List ℕ → List (List ℕ) → Bool
has_topic topic topics = list_any (bytes_eq topic) topics

-- these topics with this one behind them, unless it is there
abbrev pub with_topic : List ℕ → List (List ℕ) → List (List ℕ)
with_topic topic topics = if has_topic topic topics then topics else topics ++ topic ∷ []

-- these topics without this one
abbrev pub without_topic : List ℕ → List (List ℕ) → List (List ℕ)
without_topic topic topics = filter (λ other. not (bytes_eq topic other)) topics

-- the connection subscribed to the topic
abbrev pub is_pair : List (ℕ × List ℕ) → List ℕ → ℕ → Bool
is_pair pairs topic conn = has_topic topic (topics_of pairs conn)
