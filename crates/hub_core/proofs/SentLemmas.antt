-- Notes of what became of one connection's octets: they leave each connection as far as it is, and say nothing of others.
use Rattle.hub_core.proofs.Below.{zero, length, ◌≡◌, ◌≢◌, ℕ, List, [], ◌∷◌, ◌++◌, Option, Some, None, Bool, true, false, cond, suc, nat_eq, ◌||◌, refl, sym, ap, ◌∙◌, subst, arith, ⊎_elim, cases_eq, one_more, nat_tests, list_all, Left, Phase, Head, Open, Leaving, Ending, Gone, NoteValue, gather, total, number_of, took_by, taken_by, dropped_by, writes, taken, dropped_of, is_gone_in, is_gone_by_in, Tell, one_dropped, tell_by, tell_by_all, drops_in, Kept, Clear, Backlog, Dropped, Failed, tell_after, is_of, is_gone_by, is_sending, moved, leaves_open, topics_left, cause_of, short_from, short_after, fell_short, is_silent, ShortWhereHeld, silent_short, AreNoted, is_outgoing, is_link_failure, Progress, progress_by, progress_after, progress_after_all, may_come, may_all_come, unless_gone, clash, and_left, and_right, all_as, none_follow}
use Rattle.ws_kinds.specs.NoteValue as note
use Rattle.run_meaning.specs.Notes.{is_gone}

-- ---- what holds of each note

zero_of : (p q : NoteValue → Bool) → ((n : NoteValue) → p n ≡ true → q n ≡ false) → (ns : List NoteValue) → list_all p ns ≡ true → number_of q ns ≡ 0
zero_of p q h [] e = refl
zero_of p q h (n ∷ ns) e =
    ap (λ (z : Bool). cond z (suc (number_of q ns)) (number_of q ns)) (h n (and_left (p n) (list_all p ns) e)) ∙ zero_of p q h ns (and_right (p n) (list_all p ns) e)

nothing_of : {A : Type 0} (p : NoteValue → Bool) (f : NoteValue → List A) → ((n : NoteValue) → p n ≡ true → f n ≡ []) → (ns : List NoteValue) → list_all p ns ≡ true → gather f ns ≡ []
nothing_of p f h [] e = refl
nothing_of {A} p f h (n ∷ ns) e = ap (λ (z : List A). z ++ gather f ns) (h n (and_left (p n) (list_all p ns) e)) ∙ nothing_of p f h ns (and_right (p n) (list_all p ns) e)

-- ---- single notes

other_number : (c d x : ℕ) → nat_eq d c ≡ true → x ≢ c → nat_eq d x ≡ false
other_number c d x e ne = grind (arith, nat_tests)

number_other : (c d x : ℕ) → nat_eq d c ≡ true → x ≢ c → nat_eq x d ≡ false
number_other c d x e ne = grind (arith, nat_tests)

one_outgoing : (c : ℕ) (n : NoteValue) → is_sending c n ≡ true → is_outgoing n ≡ true
one_outgoing c (note.took d o m) e = refl
one_outgoing c (note.dropped d i h) e = refl
one_outgoing c _ e = clash false refl e

one_failure : (c : ℕ) (n : NoteValue) → is_sending c n ≡ true → is_link_failure n ≡ false
one_failure c (note.took d o m) e = refl
one_failure c (note.dropped d i h) e = refl
one_failure c _ e = clash false refl e

one_gone : (c x : ℕ) (n : NoteValue) → is_sending c n ≡ true → is_gone x n ≡ false
one_gone c x (note.took d o m) e = refl
one_gone c x (note.dropped d i h) e = refl
one_gone c x _ e = clash false refl e

one_gone_by : (c x : ℕ) (left : Left) (n : NoteValue) → is_sending c n ≡ true → is_gone_by x left n ≡ false
one_gone_by c x left (note.took d o m) e = refl
one_gone_by c x left (note.dropped d i h) e = refl
one_gone_by c x left _ e = clash false refl e

one_other : (c x : ℕ) → x ≢ c → (n : NoteValue) → is_sending c n ≡ true → is_of x n ≡ false
one_other c x ne (note.took d o m) e = other_number c d x e ne
one_other c x ne (note.dropped d i h) e = other_number c d x e ne
one_other c x ne _ e = clash false refl e

one_silent : (c x : ℕ) → x ≢ c → (n : NoteValue) → is_sending c n ≡ true → is_silent x n ≡ true
one_silent c x ne (note.took d o m) e = ap (λ (z : Bool). cond z false true) (number_other c d x e ne)
one_silent c x ne (note.dropped d i h) e = ap (λ (z : Bool). cond z false true) (number_other c d x e ne)
one_silent c x ne _ e = clash false refl e

one_wrote : (c x : ℕ) → x ≢ c → (n : NoteValue) → is_sending c n ≡ true → took_by x n ≡ []
one_wrote c x ne (note.took d o m) e = ap (λ (z : Bool). cond z ((o, m) ∷ []) []) (other_number c d x e ne)
one_wrote c x ne (note.dropped d i h) e = refl
one_wrote c x ne _ e = clash false refl e

one_taken : (c x : ℕ) → x ≢ c → (n : NoteValue) → is_sending c n ≡ true → taken_by x n ≡ []
one_taken c x ne (note.took d o m) e = ap (λ (z : Bool). cond z (m ∷ []) []) (other_number c d x e ne)
one_taken c x ne (note.dropped d i h) e = refl
one_taken c x ne _ e = clash false refl e

one_moved : (c : ℕ) (n : NoteValue) (phase : Option Phase) → is_sending c n ≡ true → moved phase n ≡ phase
one_moved c (note.took d o m) None e = refl
one_moved c (note.took d o m) (Some Head) e = refl
one_moved c (note.took d o m) (Some Open) e = refl
one_moved c (note.took d o m) (Some Leaving) e = refl
one_moved c (note.took d o m) (Some Ending) e = refl
one_moved c (note.took d o m) (Some Gone) e = refl
one_moved c (note.dropped d i h) None e = refl
one_moved c (note.dropped d i h) (Some Head) e = refl
one_moved c (note.dropped d i h) (Some Open) e = refl
one_moved c (note.dropped d i h) (Some Leaving) e = refl
one_moved c (note.dropped d i h) (Some Ending) e = refl
one_moved c (note.dropped d i h) (Some Gone) e = refl
one_moved c _ phase e = clash false refl e

one_may : (c : ℕ) (n : NoteValue) (phase : Phase) → is_sending c n ≡ true → may_come (Some phase) n ≡ true
one_may c (note.took d o m) Head e = refl
one_may c (note.took d o m) Open e = refl
one_may c (note.took d o m) Leaving e = refl
one_may c (note.took d o m) Ending e = refl
one_may c (note.took d o m) Gone e = refl
one_may c (note.dropped d i h) Head e = refl
one_may c (note.dropped d i h) Open e = refl
one_may c (note.dropped d i h) Leaving e = refl
one_may c (note.dropped d i h) Ending e = refl
one_may c (note.dropped d i h) Gone e = refl
one_may c _ phase e = clash false refl e

-- ---- all of them

pub sent_outgoing : (c : ℕ) (ns : List NoteValue) → list_all (is_sending c) ns ≡ true → list_all is_outgoing ns ≡ true
sent_outgoing c ns e = all_as (is_sending c) is_outgoing (one_outgoing c) ns e

pub sent_failures : (c : ℕ) (ns : List NoteValue) → list_all (is_sending c) ns ≡ true → number_of is_link_failure ns ≡ 0
sent_failures c ns e = zero_of (is_sending c) is_link_failure (one_failure c) ns e

pub sent_gone : (c x : ℕ) (ns : List NoteValue) → list_all (is_sending c) ns ≡ true → is_gone_in x ns ≡ false
sent_gone c x ns e = none_follow (is_sending c) (is_gone x) (one_gone c x) ns e

pub sent_gone_by : (c x : ℕ) (left : Left) (ns : List NoteValue) → list_all (is_sending c) ns ≡ true → is_gone_by_in x left ns ≡ false
sent_gone_by c x left ns e = none_follow (is_sending c) (is_gone_by x left) (one_gone_by c x left) ns e

pub sent_silent : (c x : ℕ) (ns : List NoteValue) → x ≢ c → list_all (is_sending c) ns ≡ true → list_all (is_silent x) ns ≡ true
sent_silent c x ns ne e = all_as (is_sending c) (is_silent x) (one_silent c x ne) ns e

pub sent_wrote : (c x : ℕ) (ns : List NoteValue) → x ≢ c → list_all (is_sending c) ns ≡ true → writes x ns ≡ []
sent_wrote c x ns ne e = nothing_of (is_sending c) (took_by x) (one_wrote c x ne) ns e

pub sent_taken : (c x : ℕ) (ns : List NoteValue) → x ≢ c → list_all (is_sending c) ns ≡ true → taken x ns ≡ 0
sent_taken c x ns ne e = ap total (nothing_of (is_sending c) (taken_by x) (one_taken c x ne) ns e)

-- ---- how far a connection is

abbrev pub progress_with : Option Phase → List (List ℕ) → Option (ℕ × List ℕ) → Progress
progress_with phase topics due = record { phase = phase; topics = topics; due = due }

abbrev due_with : Option Phase → Option Phase → NoteValue → Option (ℕ × List ℕ) → Option (ℕ × List ℕ)
due_with from to n due = cond (leaves_open from to) (Some (cause_of n)) due

never_leaves : (phase : Option Phase) → leaves_open phase phase ≡ false
never_leaves None = refl
never_leaves (Some Head) = refl
never_leaves (Some Open) = refl
never_leaves (Some Leaving) = refl
never_leaves (Some Ending) = refl
never_leaves (Some Gone) = refl

one_by : (n : NoteValue) (phase : Option Phase) (topics : List (List ℕ)) (due : Option (ℕ × List ℕ)) → moved phase n ≡ phase → unless_gone phase ≡ phase → progress_by n (progress_with phase topics due) ≡ progress_with phase topics due
one_by n phase topics due e there =
    ap (λ (z : Option Phase). progress_with (unless_gone z) (topics_left phase z topics) (due_with phase z n due)) e
    ∙ ap (λ (z : Option Phase). progress_with z (topics_left phase phase topics) (due_with phase phase n due)) there
    ∙ ap (λ (z : Bool). progress_with phase (cond z [] topics) (cond z (Some (cause_of n)) due)) (never_leaves phase)

same_either : (b : Bool) (p q : Progress) → q ≡ p → cond b q p ≡ p
same_either true p q e = e
same_either false p q e = refl

one_still : (c x : ℕ) (n : NoteValue) (p : Progress) → is_sending c n ≡ true → unless_gone p.phase ≡ p.phase → progress_after x n p ≡ p
one_still c x n p e there = same_either (is_of x n) p (progress_by n p) (one_by n p.phase p.topics p.due (one_moved c n p.phase e) there)

pub sent_progress : (c x : ℕ) (ns : List NoteValue) (p : Progress) → list_all (is_sending c) ns ≡ true → unless_gone p.phase ≡ p.phase → progress_after_all x ns p ≡ p
sent_progress c x [] p e there = refl
sent_progress c x (n ∷ ns) p e there =
    ap (λ (z : Progress). progress_after_all x ns z) (one_still c x n p (and_left (is_sending c n) (list_all (is_sending c) ns) e) there)
    ∙ sent_progress c x ns p (and_right (is_sending c n) (list_all (is_sending c) ns) e) there

if_own : (b v : Bool) → v ≡ true → cond b v true ≡ true
if_own true v e = e
if_own false v e = refl

if_other : (b v : Bool) → b ≡ false → cond b v true ≡ true
if_other true v e = clash true e refl
if_other false v e = refl

may_here : (c : ℕ) (n : NoteValue) (p : Progress) (phase : Phase) → p.phase ≡ Some phase → is_sending c n ≡ true → cond (is_of c n) (may_come p.phase n) true ≡ true
may_here c n p phase there e = if_own (is_of c n) (may_come p.phase n) (ap (λ (z : Option Phase). may_come z n) there ∙ one_may c n phase e)

may_there : (c x : ℕ) (n : NoteValue) (p : Progress) → x ≢ c → is_sending c n ≡ true → cond (is_of x n) (may_come p.phase n) true ≡ true
may_there c x n p ne e = if_other (is_of x n) (may_come p.phase n) (one_other c x ne n e)

-- each may come, as long as the connection is there
pub sent_may : (c x : ℕ) (ns : List NoteValue) (p : Progress) → (x ≡ c → (phase : Phase) × (p.phase ≡ Some phase)) → list_all (is_sending c) ns ≡ true → unless_gone p.phase ≡ p.phase → may_all_come x ns p ≡ true
sent_may c x [] p phase e there = refl
sent_may c x (n ∷ ns) p phase e there =
    let own = and_left (is_sending c n) (list_all (is_sending c) ns) e in
    let rest = sent_may c x ns p phase (and_right (is_sending c n) (list_all (is_sending c) ns) e) there in
    one_more (cond (is_of x n) (may_come p.phase n) true) (may_all_come x ns (progress_after x n p))
    (⊎_elim
    (λ (q : x ≡ c). let here = phase q in subst (λ (z : ℕ). cond (is_of z n) (may_come p.phase n) true ≡ true) (sym q) (may_here c n p here.0 here.1 own))
    (λ (ne : x ≢ c). may_there c x n p ne own)
    (cases_eq x c))
    (ap (λ (z : Progress). may_all_come x ns z) (one_still c x n p own there) ∙ rest)

-- ---- what the watch tells of a connection of which the notes tell no octets and no drops

pub silent_short_from : (x : ℕ) (b : Bool) (before ns : List NoteValue) → list_all (is_silent x) ns ≡ true → short_from x b (before ++ ns) ≡ short_from x b before
silent_short_from x b [] [] e = refl
silent_short_from x b [] (n ∷ ns) e =
    ap (λ (z : Bool). short_from x z ns) (silent_short x b n (and_left (is_silent x n) (list_all (is_silent x) ns) e))
    ∙ silent_short_from x b [] ns (and_right (is_silent x n) (list_all (is_silent x) ns) e)
silent_short_from x b (m ∷ before) ns e = silent_short_from x (short_after x b m) before ns e

-- a watch that tells now told before, and then these notes
pub split_notes : (t0 t1 : Option (List NoteValue)) (ns now : List NoteValue) → AreNoted t0 ns t1 → t1 ≡ Some now → (before : List NoteValue) × (t0 ≡ Some before) × (now ≡ before ++ ns)
split_notes (Some old) (Some new) ns now told e = (old, refl, let h : new ≡ now = cc in sym h ∙ told)
split_notes None (Some new) ns now told e = absurd told
split_notes t0 None ns now told e = cc

pub short_still : (x : ℕ) (ring : List ℕ) (t0 t1 : Option (List NoteValue)) (ns : List NoteValue) → AreNoted t0 ns t1 → list_all (is_silent x) ns ≡ true → ShortWhereHeld x ring t0 → ShortWhereHeld x ring t1
short_still x ring t0 t1 ns told silent s some now e =
    let q = split_notes t0 t1 ns now told e in
    ap (fell_short x) q.2 ∙ silent_short_from x false q.0 ns silent ∙ s some q.0 q.1

-- no link failed by these notes, and then others come
pub failures_after : (c : ℕ) (ns more : List NoteValue) → list_all (is_sending c) ns ≡ true → number_of is_link_failure (ns ++ more) ≡ number_of is_link_failure more
failures_after c [] more e = refl
failures_after c (n ∷ ns) more e =
    ap (λ (z : Bool). cond z (suc (number_of is_link_failure (ns ++ more))) (number_of is_link_failure (ns ++ more))) (one_failure c n (and_left (is_sending c n) (list_all (is_sending c) ns) e))
    ∙ failures_after c ns more (and_right (is_sending c n) (list_all (is_sending c) ns) e)

pub gone_by_after : (c x : ℕ) (left : Left) (ns more : List NoteValue) → list_all (is_sending c) ns ≡ true → is_gone_by_in x left (ns ++ more) ≡ is_gone_by_in x left more
gone_by_after c x left [] more e = refl
gone_by_after c x left (n ∷ ns) more e =
    ap (λ (z : Bool). z || is_gone_by_in x left (ns ++ more)) (one_gone_by c x left n (and_left (is_sending c n) (list_all (is_sending c) ns) e))
    ∙ gone_by_after c x left ns more (and_right (is_sending c n) (list_all (is_sending c) ns) e)

-- ---- what is to be told

abbrev times : ℕ → Tell → Tell
times zero t = t
times (suc n) t = times n (one_dropped t)

times_both : (xs ys : List ℕ) (t : Tell) → times (length (xs ++ ys)) t ≡ times (length ys) (times (length xs) t)
times_both [] ys t = refl
times_both (x ∷ xs) ys t = times_both xs ys (one_dropped t)

one_tell : (c : ℕ) (n : NoteValue) (t : Tell) → is_sending c n ≡ true → tell_by c n t ≡ times (length (dropped_by c n)) t
one_tell c (note.took d o m) t e = refl
one_tell c (note.dropped d i h) t e = ap (λ (z : Bool). cond z (one_dropped t) t) e ∙ sym (ap (λ (z : Bool). times (length (cond z (i ∷ []) [])) t) e)
one_tell c _ t e = clash false refl e

all_tell : (c : ℕ) (ns : List NoteValue) (t : Tell) → list_all (is_sending c) ns ≡ true → tell_by_all c ns t ≡ times (length (dropped_of c ns)) t
all_tell c [] t e = refl
all_tell c (n ∷ ns) t e =
    ap (tell_by_all c ns) (one_tell c n t (and_left (is_sending c n) (list_all (is_sending c) ns) e))
    ∙ all_tell c ns (times (length (dropped_by c n)) t) (and_right (is_sending c n) (list_all (is_sending c) ns) e)
    ∙ sym (times_both (dropped_by c n) (dropped_of c ns) t)

times_as : (kept : Kept) (t : Tell) → times (drops_in kept) t ≡ tell_after kept t
times_as Clear t = refl
times_as (Backlog held) t = refl
times_as (Dropped held) t = refl
times_as Failed t = refl

-- an item is dropped exactly where the answer says so
pub sent_tells : (c : ℕ) (kept : Kept) (ns : List NoteValue) (t : Tell) → list_all (is_sending c) ns ≡ true → length (dropped_of c ns) ≡ drops_in kept → tell_by_all c ns t ≡ tell_after kept t
sent_tells c kept ns t e count = all_tell c ns t e ∙ ap (λ (z : ℕ). times z t) count ∙ times_as kept t

one_untold : (c x : ℕ) (n : NoteValue) (t : Tell) → x ≢ c → is_sending c n ≡ true → tell_by x n t ≡ t
one_untold c x (note.took d o m) t ne e = refl
one_untold c x (note.dropped d i h) t ne e = ap (λ (z : Bool). cond z (one_dropped t) t) (other_number c d x e ne)
one_untold c x _ t ne e = clash false refl e

pub sent_untold : (c x : ℕ) (ns : List NoteValue) (t : Tell) → x ≢ c → list_all (is_sending c) ns ≡ true → tell_by_all x ns t ≡ t
sent_untold c x [] t ne e = refl
sent_untold c x (n ∷ ns) t ne e =
    ap (tell_by_all x ns) (one_untold c x n t ne (and_left (is_sending c n) (list_all (is_sending c) ns) e)) ∙ sent_untold c x ns t ne (and_right (is_sending c n) (list_all (is_sending c) ns) e)
