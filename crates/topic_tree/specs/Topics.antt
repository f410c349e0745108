-- What becomes of the topics of connections, and who of those that pass a test comes next.
use Rattle.std.specs.Prelude.{◌≡◌, ◌<◌, ℕ, List, Bool, true, false, nat_eq, if◌then◌else◌}
use Rattle.ws_kinds.specs.Topics.{topics_of}

-- one connection's topics become what a function makes of them, and those of all others stay
abbrev pub ChangesTopics : ℕ → (List (List ℕ) → List (List ℕ)) → List (ℕ × List ℕ) → List (ℕ × List ℕ) → Type 0
ChangesTopics conn change old new = (other : ℕ) → topics_of new other ≡ (if nat_eq conn other then change (topics_of old other) else topics_of old other)

-- the least number above `after` that passes a test
pub record IsNext (passes : ℕ → Bool) (after conn : ℕ) : Type 0 where
  pub above : after < conn
  pub has : passes conn ≡ true
  pub least : (other : ℕ) → after < other → other < conn → passes other ≡ false

-- no number above `after` passes it
abbrev pub IsLast : (ℕ → Bool) → ℕ → Type 0
IsLast passes after = (other : ℕ) → after < other → passes other ≡ false
