-- Which connections are there after a call, by its notes, and that their links are live.
use Rattle.hub_notes.proofs.Below.{◌≡◌, ℕ, List, [], ◌∷◌, ◌++◌, Option, Some, None, Bool, true, false, cond, not, ◌&&◌, ◌||◌, refl, sym, ap, ◌∙◌, list_all, list_any, Left, Phase, Head, Open, Leaving, Ending, Gone, NoteValue, is_of, is_gone, is_acceptance, gather, accepted_by, has_number, is_accepted, is_gone_in, moved, list_any-append, has_number-append, HubState, Server, is_present, entry_at, Ties, is_outgoing, Progress, progress_at, progress_by, progress_after, progress_after_all, unless_gone, Advances, Proceeds, by_cases, clash, or_left, or_right, and_left, and_right, none_moves}
use Rattle.ws_kinds.specs.NoteValue as note
use Rattle.hub_lines.specs.State as hub

-- ---- notes that say that a connection was accepted

one_unaccepted : (c : ℕ) (n : NoteValue) → is_acceptance n ≡ false → has_number c (accepted_by n) ≡ false
one_unaccepted c (note.accepted d) e = clash true e refl
one_unaccepted c _ e = refl

-- where no note says so of any connection, none says so of this one
pub unaccepted : (ns : List NoteValue) (c : ℕ) → list_any is_acceptance ns ≡ false → is_accepted c ns ≡ false
unaccepted [] c e = refl
unaccepted (n ∷ ns) c e =
    has_number-append c (accepted_by n) (gather accepted_by ns)
    ∙ ap (λ (z : Bool). z || is_accepted c ns) (one_unaccepted c n (or_left (is_acceptance n) (list_any is_acceptance ns) e))
    ∙ unaccepted ns c (or_right (is_acceptance n) (list_any is_acceptance ns) e)

pub unaccepted_then : (xs ys : List NoteValue) → list_any is_acceptance xs ≡ false → list_any is_acceptance ys ≡ false → list_any is_acceptance (xs ++ ys) ≡ false
unaccepted_then xs ys e h = list_any-append is_acceptance xs ys ∙ ap (λ (z : Bool). z || list_any is_acceptance ys) e ∙ h

one_outgoing : (n : NoteValue) → is_outgoing n ≡ true → is_acceptance n ≡ false
one_outgoing (note.accepted d) e = clash false refl e
one_outgoing _ e = refl

-- a note of what was to be sent does not say so
pub outgoing_unaccepted : (ns : List NoteValue) → list_all is_outgoing ns ≡ true → list_any is_acceptance ns ≡ false
outgoing_unaccepted [] e = refl
outgoing_unaccepted (n ∷ ns) e =
    ap (λ (z : Bool). z || list_any is_acceptance ns) (one_outgoing n (and_left (is_outgoing n) (list_all is_outgoing ns) e))
    ∙ outgoing_unaccepted ns (and_right (is_outgoing n) (list_all is_outgoing ns) e)

-- ---- a connection without a phase

gone_moves : (phase : Option Phase) (d : ℕ) (left : Left) → unless_gone (moved phase (note.gone d left)) ≡ None
gone_moves None d left = refl
gone_moves (Some Head) d left = refl
gone_moves (Some Open) d left = refl
gone_moves (Some Leaving) d left = refl
gone_moves (Some Ending) d left = refl
gone_moves (Some Gone) d left = refl

pub own_note : (c : ℕ) (n : NoteValue) (p : Progress) → is_of c n ≡ true → progress_after c n p ≡ progress_by n p
own_note c n p e = ap (λ (z : Bool). cond z (progress_by n p) p) e

pub other_note : (c : ℕ) (n : NoteValue) (p : Progress) → is_of c n ≡ false → progress_after c n p ≡ p
other_note c n p e = ap (λ (z : Bool). cond z (progress_by n p) p) e

abbrev phase_of : Progress → Option Phase
phase_of p = p.phase

one_none : (c : ℕ) (n : NoteValue) (p : Progress) → has_number c (accepted_by n) ≡ false → p.phase ≡ None → (progress_after c n p).phase ≡ None
one_none c n p e away = by_cases (is_of c n)
    (λ own. ap phase_of (own_note c n p own) ∙ ap (λ (z : Option Phase). unless_gone (moved z n)) away ∙ ap unless_gone (none_moves c n e own))
    (λ other. ap phase_of (other_note c n p other) ∙ away)

one_gone : (c : ℕ) (n : NoteValue) (p : Progress) → is_gone c n ≡ true → (progress_after c n p).phase ≡ None
one_gone c (note.gone d left) p e = ap phase_of (own_note c (note.gone d left) p e) ∙ gone_moves p.phase d left
one_gone c _ p e = clash false refl e

pub rest_unaccepted : (c : ℕ) (n : NoteValue) (ns : List NoteValue) → is_accepted c (n ∷ ns) ≡ false → (has_number c (accepted_by n) ≡ false) × (is_accepted c ns ≡ false)
rest_unaccepted c n ns e =
    let both = sym (has_number-append c (accepted_by n) (gather accepted_by ns)) ∙ e in
    (or_left (has_number c (accepted_by n)) (is_accepted c ns) both, or_right (has_number c (accepted_by n)) (is_accepted c ns) both)

-- it gets one only by a note that says that it was accepted
pub none_stays : (c : ℕ) (ns : List NoteValue) (p : Progress) → is_accepted c ns ≡ false → p.phase ≡ None → (progress_after_all c ns p).phase ≡ None
none_stays c [] p e away = away
none_stays c (n ∷ ns) p e away =
    let u = rest_unaccepted c n ns e in
    none_stays c ns (progress_after c n p) u.1 (one_none c n p u.0 away)

-- it has none after a note that says that it is gone
pub none_if_gone : (c : ℕ) (ns : List NoteValue) (p : Progress) → is_accepted c ns ≡ false → is_gone_in c ns ≡ true → (progress_after_all c ns p).phase ≡ None
none_if_gone c [] p e gone = clash false refl gone
none_if_gone c (n ∷ ns) p e gone =
    let u = rest_unaccepted c n ns e in
    by_cases (is_gone c n)
    (λ here. none_stays c ns (progress_after c n p) u.1 (one_gone c n p here))
    (λ later. none_if_gone c ns (progress_after c n p) u.1 (sym (ap (λ (z : Bool). z || is_gone_in c ns) later) ∙ gone))

-- ---- a connection that is there

no_phase : (phase : Phase) → unless_gone (Some phase) ≡ None → not (hub.is_gone phase) ≡ false
no_phase Head e = absurd (let z : Some Head ≡ None = e in cc)
no_phase Open e = absurd (let z : Some Open ≡ None = e in cc)
no_phase Leaving e = absurd (let z : Some Leaving ≡ None = e in cc)
no_phase Ending e = absurd (let z : Some Ending ≡ None = e in cc)
no_phase Gone e = refl

some_phase : (phase : Phase) → not (hub.is_gone phase) ≡ false → unless_gone (Some phase) ≡ None
some_phase Head e = clash true e refl
some_phase Open e = clash true e refl
some_phase Leaving e = clash true e refl
some_phase Ending e = clash true e refl
some_phase Gone e = refl

-- a connection is away exactly where it has no phase
pub away_by_phase : (h : HubState) (c : ℕ) → (progress_at h c).phase ≡ None → is_present h c ≡ false
away_by_phase h c e = no_phase (entry_at h c).phase e

pub phase_of_away : (h : HubState) (c : ℕ) → is_present h c ≡ false → (progress_at h c).phase ≡ None
phase_of_away h c e = some_phase (entry_at h c).phase e

-- ---- after a call

pub present_before : (ns : List NoteValue) (c : ℕ) (a b : Server) → Advances ns a b → is_accepted c ns ≡ false → is_present b.hub c ≡ true → is_present a.hub c ≡ true
present_before ns c a b x e there = by_cases (is_present a.hub c)
    (λ was. was)
    (λ away. clash (is_present b.hub c) (away_by_phase b.hub c (ap phase_of (x.progress c) ∙ none_stays c ns (progress_at a.hub c) e (phase_of_away a.hub c away))) there)

pub gone_is_away : (ns : List NoteValue) (c : ℕ) (a b : Server) → Advances ns a b → is_accepted c ns ≡ false → is_gone_in c ns ≡ true → is_present b.hub c ≡ false
gone_is_away ns c a b x e gone = away_by_phase b.hub c (ap phase_of (x.progress c) ∙ none_if_gone c ns (progress_at a.hub c) e gone)

-- who is there was not gone
pub present_is_not_gone : (ns : List NoteValue) (c : ℕ) (a b : Server) → Advances ns a b → is_accepted c ns ≡ false → is_present b.hub c ≡ true → is_gone_in c ns ≡ false
present_is_not_gone ns c a b x e there = by_cases (is_gone_in c ns)
    (λ gone. clash (is_present b.hub c) (gone_is_away ns c a b x e gone) there)
    (λ none. none)

-- one connection that was not accepted stays live
pub tie_follows : (ns : List NoteValue) (c : ℕ) (a b : Server) → Advances ns a b → is_accepted c ns ≡ false → (is_present a.hub c ≡ true → a.net.live c ≡ true) → is_present b.hub c ≡ true → b.net.live c ≡ true
tie_follows ns c a b x e tie there =
    x.net.live c ∙ ap (λ (z : Bool). a.net.live c && not z) (present_is_not_gone ns c a b x e there)
    ∙ ap (λ (z : Bool). z && true) (tie (present_before ns c a b x e there))

pub ties_after : (ns : List NoteValue) (a b : Server) → Advances ns a b → list_any is_acceptance ns ≡ false → Ties a → Ties b
ties_after ns a b x e ties c there = tie_follows ns c a b x (unaccepted ns c e) (ties c) there

pub ties_proceed : (first last : List NoteValue) (a b : Server) → Proceeds first last a b → list_any is_acceptance first ≡ false → list_any is_acceptance last ≡ false → Ties a → Ties b
ties_proceed first last a b x e h ties =
    let sent = outgoing_unaccepted x.sending x.outgoing in
    ties_after (first ++ (x.sending ++ last)) a b x.advances (unaccepted_then first (x.sending ++ last) e (unaccepted_then x.sending last sent h)) ties

-- each connection that was accepted is live
pub ties_accept : (ns : List NoteValue) (a b : Server) → Advances ns a b → ((c : ℕ) → is_accepted c ns ≡ true → b.net.live c ≡ true) → Ties a → Ties b
ties_accept ns a b x live ties c there = by_cases (is_accepted c ns)
    (λ new. live c new)
    (λ old. tie_follows ns c a b x old (ties c) there)
