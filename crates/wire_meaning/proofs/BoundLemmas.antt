-- The events of a reading are those that can be told.
use Rattle.wire_meaning.proofs.Below.{◌≡◌, ℕ, ◌≤◌, List, [], ◌∷◌, ◌++◌, Option, None, subst, arith, AllByRecursion, Event, message, ping, pong, closed, failed, Begun, reads, CanBeTold, IsShort, AreShort}
use Rattle.wire_meaning.proofs.ReadingLemmas.{reads_by}

pub reads_told : (max : ℕ) (begun : Option Begun) (octets : List ℕ) → AllByRecursion (CanBeTold max) (reads max begun octets)
reads_told max begun octets = reads_by (AllByRecursion (CanBeTold max)) max tt (λ event t. (t, tt)) (λ event events _ t told. (t, told)) begun octets

told_at : (max : ℕ) (before after : List Event) (event : Event) → AllByRecursion (CanBeTold max) (before ++ event ∷ after) → CanBeTold max event
told_at max [] after event told = told.0
told_at max (x ∷ before) after event told = told_at max before after event told.1

-- each event of a reading
pub reads_told_at : (max : ℕ) (begun : Option Begun) (octets : List ℕ) (before after : List Event) (event : Event) → reads max begun octets ≡ before ++ event ∷ after → CanBeTold max event
reads_told_at max begun octets before after event e = told_at max before after event (subst (AllByRecursion (CanBeTold max)) e (reads_told max begun octets))

told_short : (most max : ℕ) (event : Event) → max ≤ most → 125 ≤ most → CanBeTold max event → IsShort most event
told_short most max (message kind octets) m c told = let t = told.0 in omega arith
told_short most max (ping payload) m c told = omega arith
told_short most max (pong payload) m c told = omega arith
told_short most max (closed code reason) m c told = tt
told_short most max (failed code) m c told = tt

short_all : (most max : ℕ) (events : List Event) → max ≤ most → 125 ≤ most → AllByRecursion (CanBeTold max) events → AreShort most events
short_all most max [] m c told = tt
short_all most max (event ∷ events) m c told = (told_short most max event m c told.0, short_all most max events m c told.1)

pub reading_short : (most max : ℕ) (octets : List ℕ) → max ≤ most → 125 ≤ most → AreShort most (reads max None octets)
reading_short most max octets m c = short_all most max (reads max None octets) m c (reads_told max None octets)
