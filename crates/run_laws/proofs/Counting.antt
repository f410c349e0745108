-- A connection that no note names but by its arrival is not counted.
use Rattle.run_laws.proofs.Below.{◌≡◌, ℕ, List, [], ◌∷◌, ◌++◌, Some, Bool, true, false, not, ◌||◌, ◌&&◌, nat_eq, refl, sym, ap, ◌∙◌, append_assoc, arith, subst, nat_tests, list_all, and_from, Left, NoteValue, conn_of, is_of, is_left, is_gone_by, took_by, taken_by, given_by, writes, taken, given, total, only_if, is_gone_by_in, is_accepted, is_arrival, accepted-append, and_left, and_right, or_left, is_at_most_arrival}
use Rattle.ws_kinds.specs.NoteValue as note
use Rattle.run_laws.proofs.Adding.{gathers_none}

pub other : (b : Bool) → (not b || false) ≡ true → b ≡ false
other false e = refl
other true e = sym e

-- ---- one note

wrote_none : (c : ℕ) (this : NoteValue) → is_at_most_arrival c this ≡ true → took_by c this ≡ []
wrote_none c (note.took d o t) e = ap (λ (z : Bool). only_if z (o, t)) (other (nat_eq d c) e)
wrote_none c _ e = refl

took_none : (c : ℕ) (this : NoteValue) → is_at_most_arrival c this ≡ true → taken_by c this ≡ []
took_none c (note.took d o t) e = ap (λ (z : Bool). only_if z t) (other (nat_eq d c) e)
took_none c _ e = refl

gave_none : (c : ℕ) (this : NoteValue) → is_at_most_arrival c this ≡ true → given_by c this ≡ []
gave_none c (note.given d k) e = ap (λ (z : Bool). only_if z k) (other (nat_eq d c) e)
gave_none c _ e = refl

left_none : (c : ℕ) (l : Left) (this : NoteValue) → is_at_most_arrival c this ≡ true → is_gone_by c l this ≡ false
left_none c l (note.gone d m) e = ap (λ (z : Bool). z && is_left l m) (other (nat_eq d c) e)
left_none c l _ e = refl

-- ---- all of them

pub uncounted_writes : (c : ℕ) (ns : List NoteValue) → list_all (is_at_most_arrival c) ns ≡ true → writes c ns ≡ []
uncounted_writes c ns e = gathers_none (is_at_most_arrival c) (took_by c) (wrote_none c) ns e

pub uncounted_taken : (c : ℕ) (ns : List NoteValue) → list_all (is_at_most_arrival c) ns ≡ true → taken c ns ≡ 0
uncounted_taken c ns e = ap total (gathers_none (is_at_most_arrival c) (taken_by c) (took_none c) ns e)

pub uncounted_given : (c : ℕ) (ns : List NoteValue) → list_all (is_at_most_arrival c) ns ≡ true → given c ns ≡ 0
uncounted_given c ns e = ap total (gathers_none (is_at_most_arrival c) (given_by c) (gave_none c) ns e)

pub uncounted_gone : (c : ℕ) (l : Left) (ns : List NoteValue) → list_all (is_at_most_arrival c) ns ≡ true → is_gone_by_in c l ns ≡ false
uncounted_gone c l [] e = refl
uncounted_gone c l (this ∷ rest) e =
    ap (λ (z : Bool). z || is_gone_by_in c l rest) (left_none c l this (and_left (is_at_most_arrival c this) (list_all (is_at_most_arrival c) rest) e))
    ∙ uncounted_gone c l rest (and_right (is_at_most_arrival c this) (list_all (is_at_most_arrival c) rest) e)

-- ---- a connection that is not accepted yet

names : (c : ℕ) (this : NoteValue) → is_of c this ≡ true → conn_of this ≡ Some c
names c this e = grind (arith, nat_tests)

-- no note names it before it is accepted, but by its arrival
abbrev OnlyArrives : ℕ → List NoteValue → Type 0
OnlyArrives c ns = (before rest : List NoteValue) (this : NoteValue) → ns ≡ before ++ this ∷ rest → conn_of this ≡ Some c → is_accepted c before ≡ false → is_arrival this ≡ true

at_most : (c : ℕ) (this : NoteValue) → (is_of c this ≡ true → is_arrival this ≡ true) → is_at_most_arrival c this ≡ true
at_most c this h = one (is_of c this) (is_arrival this) h
  where
    one : (own arrives : Bool) → (own ≡ true → arrives ≡ true) → (not own || arrives) ≡ true
    one true arrives h = h refl
    one false arrives h = refl

behind : (c : ℕ) (before ns : List NoteValue) → OnlyArrives c (before ++ ns) → is_accepted c (before ++ ns) ≡ false → list_all (is_at_most_arrival c) ns ≡ true
behind c before [] only away = refl
behind c before (this ∷ rest) only away =
    let early = or_left (is_accepted c before) (is_accepted c (this ∷ rest)) (sym (accepted-append c before (this ∷ rest)) ∙ away) in
    let shift : (before ++ this ∷ []) ++ rest ≡ before ++ this ∷ rest = append_assoc before (this ∷ []) rest in
    and_from (is_at_most_arrival c this) (list_all (is_at_most_arrival c) rest)
    (at_most c this (λ own. only before rest this refl (names c this own) early))
    (behind c (before ++ this ∷ []) rest (subst (λ (z : List NoteValue). OnlyArrives c z) (sym shift) only) (ap (λ (z : List NoteValue). is_accepted c z) shift ∙ away))

pub not_counted : (c : ℕ) (ns : List NoteValue) → is_accepted c ns ≡ false
    → ((before rest : List NoteValue) (this : NoteValue) → ns ≡ before ++ this ∷ rest → conn_of this ≡ Some c → is_accepted c before ≡ false → is_arrival this ≡ true)
    → list_all (is_at_most_arrival c) ns ≡ true
not_counted c ns away only = behind c [] ns only away
