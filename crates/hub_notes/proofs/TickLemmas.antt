-- Notes that may follow a tick.
use Rattle.hub_notes.proofs.Below.{◌≡◌, ℕ, suc, List, [], ◌∷◌, Option, Some, None, Bool, true, false, cond, ◌&&◌, ◌||◌, nat_eq, refl, sym, ap, ◌∙◌, list_all, list_any, NoteValue, Left, LinkFailed, Phase, Head, Open, Leaving, Ending, Gone, is_gone, is_gone_by_in, is_gone_in, number_of, unless_gone, is_outgoing, is_uncounted, is_acceptance, by_cases, clash, and_left, and_right, or_left, or_right, all_follow, none_follow, Progress, progress_by, progress_after, progress_after_all, is_of_tick}
use Rattle.ws_kinds.specs.declared.note.Left.TheVariants.{Idle, PeerEnd, Finished}
use Rattle.ws_kinds.specs.NoteValue as note
use Rattle.run_meaning.specs.Notes.{is_gone_by, is_left}
use Rattle.run_meaning.specs.Timely.{is_pinged, ends_stretch}

-- ---- what these notes tell

outgoing_one : (n : NoteValue) → is_outgoing n ≡ true → is_of_tick n ≡ true
outgoing_one (note.took c o t) e = refl
outgoing_one (note.dropped c i h) e = refl
outgoing_one (note.gone c PeerEnd) e = e
outgoing_one (note.gone c LinkFailed) e = refl
outgoing_one (note.gone c Idle) e = refl
outgoing_one (note.gone c Finished) e = e
outgoing_one _ e = clash false refl e

pub outgoing_of_tick : (ns : List NoteValue) → list_all is_outgoing ns ≡ true → list_all is_of_tick ns ≡ true
outgoing_of_tick ns e = all_follow is_outgoing is_of_tick outgoing_one ns e

uncounted_one : (n : NoteValue) → is_of_tick n ≡ true → is_uncounted n ≡ true
uncounted_one note.tick e = e
uncounted_one (note.accepted c) e = e
uncounted_one (note.given c k) e = e
uncounted_one _ e = refl

pub tick_uncounted : (ns : List NoteValue) → list_all is_of_tick ns ≡ true → list_all is_uncounted ns ≡ true
tick_uncounted ns e = all_follow is_of_tick is_uncounted uncounted_one ns e

calm_one : (n : NoteValue) → is_of_tick n ≡ true → ends_stretch n ≡ false
calm_one (note.accepted c) e = clash false refl e
calm_one (note.busy c) e = clash false refl e
calm_one (note.no_room c) e = clash false refl e
calm_one (note.given c k) e = clash false refl e
calm_one note.tick e = clash false refl e
calm_one note.turn e = clash false refl e
calm_one _ e = refl

pub tick_calm : (ns : List NoteValue) → list_all is_of_tick ns ≡ true → list_any ends_stretch ns ≡ false
tick_calm ns e = none_follow is_of_tick ends_stretch calm_one ns e

unaccepted_one : (n : NoteValue) → is_of_tick n ≡ true → is_acceptance n ≡ false
unaccepted_one (note.accepted c) e = clash false refl e
unaccepted_one _ e = refl

pub tick_unaccepted : (ns : List NoteValue) → list_all is_of_tick ns ≡ true → list_any is_acceptance ns ≡ false
tick_unaccepted ns e = none_follow is_of_tick is_acceptance unaccepted_one ns e

unpinged_one : (c : ℕ) (n : NoteValue) → is_outgoing n ≡ true → is_pinged c n ≡ false
unpinged_one c (note.pinged d) e = clash false refl e
unpinged_one c _ e = refl

pub sent_unpinged : (c : ℕ) (ns : List NoteValue) → list_all is_outgoing ns ≡ true → number_of (is_pinged c) ns ≡ 0
sent_unpinged c [] e = refl
sent_unpinged c (n ∷ ns) e =
    ap (λ (z : Bool). cond z (suc (number_of (is_pinged c) ns)) (number_of (is_pinged c) ns)) (unpinged_one c n (and_left (is_outgoing n) (list_all is_outgoing ns) e))
    ∙ sent_unpinged c ns (and_right (is_outgoing n) (list_all is_outgoing ns) e)

no_cause : (b : Bool) → (b && false) ≡ false
no_cause true = refl
no_cause false = refl

stayed_one : (c : ℕ) (n : NoteValue) → is_outgoing n ≡ true → is_gone_by c Idle n ≡ false
stayed_one c (note.gone d PeerEnd) e = no_cause (nat_eq d c)
stayed_one c (note.gone d LinkFailed) e = no_cause (nat_eq d c)
stayed_one c (note.gone d Idle) e = clash false refl e
stayed_one c (note.gone d Finished) e = no_cause (nat_eq d c)
stayed_one c _ e = refl

pub sent_stayed : (c : ℕ) (ns : List NoteValue) → list_all is_outgoing ns ≡ true → is_gone_by_in c Idle ns ≡ false
sent_stayed c ns e = none_follow is_outgoing (is_gone_by c Idle) (stayed_one c) ns e

-- one that is gone is so for one of two causes
cause_one : (c : ℕ) (n : NoteValue) → is_of_tick n ≡ true → is_gone c n ≡ true → is_gone_by c LinkFailed n ≡ false → is_gone_by c Idle n ≡ true
cause_one c (note.gone d PeerEnd) e g l = clash false refl e
cause_one c (note.gone d LinkFailed) e g l = clash (nat_eq d c && true) l (ap (λ (z : Bool). z && true) g)
cause_one c (note.gone d Idle) e g l = ap (λ (z : Bool). z && true) g
cause_one c (note.gone d Finished) e g l = clash false refl e
cause_one c _ e g l = clash false refl g

or_true : (b : Bool) → (b || true) ≡ true
or_true true = refl
or_true false = refl

pub causes : (c : ℕ) (ns : List NoteValue) → list_all is_of_tick ns ≡ true → is_gone_in c ns ≡ true → is_gone_by_in c LinkFailed ns ≡ false → is_gone_by_in c Idle ns ≡ true
causes c [] e g l = clash false refl g
causes c (n ∷ ns) e g l =
    let l0 = or_left (is_gone_by c LinkFailed n) (is_gone_by_in c LinkFailed ns) l in
    let l1 = or_right (is_gone_by c LinkFailed n) (is_gone_by_in c LinkFailed ns) l in
    by_cases (is_gone c n)
    (λ here. ap (λ (z : Bool). z || is_gone_by_in c Idle ns) (cause_one c n (and_left (is_of_tick n) (list_all is_of_tick ns) e) here l0))
    (λ later.
    ap (λ (z : Bool). is_gone_by c Idle n || z) (causes c ns (and_right (is_of_tick n) (list_all is_of_tick ns) e) (sym (ap (λ (z : Bool). z || is_gone_in c ns) later) ∙ g) l1)
    ∙ or_true (is_gone_by c Idle n))

-- one that is not gone is so for no cause
pub stayed : (c : ℕ) (left : Left) (ns : List NoteValue) → is_gone_in c ns ≡ false → is_gone_by_in c left ns ≡ false
stayed c left [] e = refl
stayed c left (n ∷ ns) e = both (is_gone_by c left n) (is_gone_by_in c left ns) (one n (or_left (is_gone c n) (is_gone_in c ns) e)) (stayed c left ns (or_right (is_gone c n) (is_gone_in c ns) e))
  where
    both : (x y : Bool) → x ≡ false → y ≡ false → (x || y) ≡ false
    both x y p q = ap (λ (z : Bool). z || y) p ∙ q

    one : (m : NoteValue) → is_gone c m ≡ false → is_gone_by c left m ≡ false
    one (note.gone d cause) h = ap (λ (z : Bool). z && is_left left cause) h
    one _ h = refl

-- ---- what they make of a connection

abbrev progress : Option Phase → List (List ℕ) → Option (ℕ × List ℕ) → Progress
progress p ts x = record { phase = p; topics = ts; due = x }

some_is : (p : Phase) → None ≡ Some p → ⊥
some_is p e = cc

own_took : (c o t : ℕ) (p : Option Phase) (ts : List (List ℕ)) (x : Option (ℕ × List ℕ)) → unless_gone p ≡ p → progress_by (note.took c o t) (progress p ts x) ≡ progress p ts x
own_took c o t None ts x h = refl
own_took c o t (Some Head) ts x h = refl
own_took c o t (Some Open) ts x h = refl
own_took c o t (Some Leaving) ts x h = refl
own_took c o t (Some Ending) ts x h = refl
own_took c o t (Some Gone) ts x h = absurd (some_is Gone h)

own_dropped : (c i k : ℕ) (p : Option Phase) (ts : List (List ℕ)) (x : Option (ℕ × List ℕ)) → unless_gone p ≡ p → progress_by (note.dropped c i k) (progress p ts x) ≡ progress p ts x
own_dropped c i k None ts x h = refl
own_dropped c i k (Some Head) ts x h = refl
own_dropped c i k (Some Open) ts x h = refl
own_dropped c i k (Some Leaving) ts x h = refl
own_dropped c i k (Some Ending) ts x h = refl
own_dropped c i k (Some Gone) ts x h = absurd (some_is Gone h)

own_pinged : (c : ℕ) (p : Option Phase) (ts : List (List ℕ)) (x : Option (ℕ × List ℕ)) → unless_gone p ≡ p → progress_by (note.pinged c) (progress p ts x) ≡ progress p ts x
own_pinged c None ts x h = refl
own_pinged c (Some Head) ts x h = refl
own_pinged c (Some Open) ts x h = refl
own_pinged c (Some Leaving) ts x h = refl
own_pinged c (Some Ending) ts x h = refl
own_pinged c (Some Gone) ts x h = absurd (some_is Gone h)

one_still : (c : ℕ) (n : NoteValue) (p : Progress) → is_of_tick n ≡ true → is_gone c n ≡ false → unless_gone p.phase ≡ p.phase → progress_after c n p ≡ p
one_still c (note.took d o t) p e g h = one (nat_eq d c)
  where
    one : (b : Bool) → cond b (progress_by (note.took d o t) p) p ≡ p
    one true = own_took d o t p.phase p.topics p.due h
    one false = refl
one_still c (note.dropped d i k) p e g h = one (nat_eq d c)
  where
    one : (b : Bool) → cond b (progress_by (note.dropped d i k) p) p ≡ p
    one true = own_dropped d i k p.phase p.topics p.due h
    one false = refl
one_still c (note.pinged d) p e g h = one (nat_eq d c)
  where
    one : (b : Bool) → cond b (progress_by (note.pinged d) p) p ≡ p
    one true = own_pinged d p.phase p.topics p.due h
    one false = refl
one_still c (note.gone d left) p e g h = ap (λ (z : Bool). cond z (progress_by (note.gone d left) p) p) g
one_still c _ p e g h = clash false refl e

-- one that is not gone is as before
pub all_still : (c : ℕ) (ns : List NoteValue) (p : Progress) → list_all is_of_tick ns ≡ true → is_gone_in c ns ≡ false → unless_gone p.phase ≡ p.phase → progress_after_all c ns p ≡ p
all_still c [] p e g h = refl
all_still c (n ∷ ns) p e g h =
    ap (progress_after_all c ns) (one_still c n p (and_left (is_of_tick n) (list_all is_of_tick ns) e) (or_left (is_gone c n) (is_gone_in c ns) g) h)
    ∙ all_still c ns p (and_right (is_of_tick n) (list_all is_of_tick ns) e) (or_right (is_gone c n) (is_gone_in c ns) g) h

pub shown_twice : (p : Option Phase) → unless_gone (unless_gone p) ≡ unless_gone p
shown_twice None = refl
shown_twice (Some Head) = refl
shown_twice (Some Open) = refl
shown_twice (Some Leaving) = refl
shown_twice (Some Ending) = refl
shown_twice (Some Gone) = refl
