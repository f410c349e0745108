-- Nothing follows a Close or a Failed.
use Rattle.wire_meaning.proofs.Below.{◌≡◌, ℕ, true, false, List, [], ◌∷◌, ◌++◌, Option, Event, is_last, Begun, reads}
use Rattle.wire_meaning.proofs.ReadingLemmas.{reads_by}

-- wherever a last event stands, the list ends
abbrev EndsThere : List Event → Type 0
EndsThere events = (before after : List Event) (event : Event) → events ≡ before ++ event ∷ after → is_last event ≡ true → after ≡ []

nil_ends : EndsThere []
nil_ends [] after event e last = absurd cc
nil_ends (x ∷ before) after event e last = absurd cc

nil_after : (event' : Event) → EndsThere (event' ∷ [])
nil_after event' [] after event e last = cc
nil_after event' (x ∷ []) after event e last = absurd cc
nil_after event' (x ∷ y ∷ before) after event e last = absurd cc

cons_ends : (event' : Event) (events : List Event) → is_last event' ≡ false → EndsThere events → EndsThere (event' ∷ events)
cons_ends event' events goes tail [] after event e last = absurd (let h : event' ≡ event = cc in let f : is_last event ≡ false = rw (← h) goes in cc)
cons_ends event' events goes tail (x ∷ before) after event e last = tail before after event (let h : events ≡ before ++ event ∷ after = cc in h) last

pub nothing_follows : (max : ℕ) (begun : Option Begun) (octets : List ℕ) (before after : List Event) (event : Event)
    → reads max begun octets ≡ before ++ event ∷ after → is_last event ≡ true → after ≡ []
nothing_follows max begun octets = reads_by EndsThere max nil_ends (λ event _. nil_after event) (λ event events goes _ tail. cons_ends event events goes tail) begun octets
