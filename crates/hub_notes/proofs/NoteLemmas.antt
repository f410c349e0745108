-- Notes one after another.
use Rattle.hub_notes.proofs.Below.{◌≡◌, ℕ, List, [], ◌∷◌, ◌++◌, Option, Some, None, Bool, true, false, cond, ◌&&◌, refl, sym, ap, ◌∙◌, append-nil, append_assoc, list_all, list_any, NoteValue, IsNoted, AreNoted, is_of, is_turn, and-assoc, list_all-append, list_any-append, tell_by_all, all_then, HubState, tell_at, TellsBy, or_left, or_right, and_left, and_right, is_uncounted, SameCounts, CountsBeside, is_outgoing, Progress, progress_after, progress_after_all, may_come, may_all_come}

-- ---- what the watch is told

pub told_then : (t0 t1 t2 : Option (List NoteValue)) (xs ys : List NoteValue) → AreNoted t0 xs t1 → AreNoted t1 ys t2 → AreNoted t0 (xs ++ ys) t2
told_then (Some a) (Some b) (Some d) xs ys p q = q ∙ ap (λ (z : List NoteValue). z ++ ys) p ∙ append_assoc a xs ys
told_then (Some a) (Some b) None xs ys p q = tt {0}
told_then (Some a) None (Some d) xs ys p q = absurd q
told_then (Some a) None None xs ys p q = tt {0}
told_then None (Some b) t2 xs ys p q = absurd p
told_then None None (Some d) xs ys p q = absurd q
told_then None None None xs ys p q = tt {0}

pub told_one : (t t' : Option (List NoteValue)) (x : NoteValue) → IsNoted t x t' → AreNoted t (x ∷ []) t'
told_one (Some a) (Some b) x p = p
told_one (Some a) None x p = tt {0}
told_one None (Some b) x p = absurd p
told_one None None x p = tt {0}

pub told_none : (t : Option (List NoteValue)) → AreNoted t [] t
told_none (Some a) = sym (append-nil a)
told_none None = tt {0}

-- ---- what notes make of a connection

pub progress_then : (c : ℕ) (xs ys : List NoteValue) (p : Progress) → progress_after_all c (xs ++ ys) p ≡ progress_after_all c ys (progress_after_all c xs p)
progress_then c [] ys p = refl
progress_then c (x ∷ xs) ys p = progress_then c xs ys (progress_after c x p)

pub may_then : (c : ℕ) (xs ys : List NoteValue) (p : Progress) → may_all_come c (xs ++ ys) p ≡ (may_all_come c xs p && may_all_come c ys (progress_after_all c xs p))
may_then c [] ys p = refl
may_then c (x ∷ xs) ys p =
    let may = cond (is_of c x) (may_come p.phase x) true in
    let q = progress_after c x p in
    ap (λ (z : Bool). may && z) (may_then c xs ys q) ∙ and-assoc may (may_all_come c xs q) (may_all_come c ys (progress_after_all c xs q))

-- both may come, the second where the first came
pub may_both : (c : ℕ) (xs ys : List NoteValue) (p : Progress) → may_all_come c xs p ≡ true → may_all_come c ys (progress_after_all c xs p) ≡ true → may_all_come c (xs ++ ys) p ≡ true
may_both c xs ys p e h = may_then c xs ys p ∙ ap (λ (z : Bool). z && may_all_come c ys (progress_after_all c xs p)) e ∙ h

-- ---- notes of what was to be sent

pub outgoing_then : (xs ys : List NoteValue) → list_all is_outgoing (xs ++ ys) ≡ (list_all is_outgoing xs && list_all is_outgoing ys)
outgoing_then xs ys = list_all-append is_outgoing xs ys

pub outgoing_both : (xs ys : List NoteValue) → list_all is_outgoing xs ≡ true → list_all is_outgoing ys ≡ true → list_all is_outgoing (xs ++ ys) ≡ true
outgoing_both xs ys e h = outgoing_then xs ys ∙ ap (λ (z : Bool). z && list_all is_outgoing ys) e ∙ h

-- ---- what stands to be told

pub turnless : (xs ys : List NoteValue) → list_any is_turn (xs ++ ys) ≡ false → (list_any is_turn xs ≡ false) × (list_any is_turn ys ≡ false)
turnless xs ys e =
    let both = sym (list_any-append is_turn xs ys) ∙ e in
    (or_left (list_any is_turn xs) (list_any is_turn ys) both, or_right (list_any is_turn xs) (list_any is_turn ys) both)

pub tells_then : (xs ys : List NoteValue) (h k l : HubState) → TellsBy xs h k → TellsBy ys k l → TellsBy (xs ++ ys) h l
tells_then xs ys h k l p q e c =
    let none = turnless xs ys e in
    q none.1 c ∙ ap (tell_by_all c ys) (p none.0 c) ∙ sym (all_then c xs ys (tell_at h c))

-- ---- counts of ticks

pub same_then : (h k l : HubState) → SameCounts h k → SameCounts k l → SameCounts h l
same_then h k l p q c there = let y = q c there in let x = p c y.0 in (x.0, y.1 ∙ x.1)

pub counts_then : (xs ys : List NoteValue) (h k l : HubState) → CountsBeside xs h k → CountsBeside ys k l → CountsBeside (xs ++ ys) h l
counts_then xs ys h k l p q e =
    let both = sym (list_all-append is_uncounted xs ys) ∙ e in
    same_then h k l (p (and_left (list_all is_uncounted xs) (list_all is_uncounted ys) both)) (q (and_right (list_all is_uncounted xs) (list_all is_uncounted ys) both))

pub same_counts : (h : HubState) → SameCounts h h
same_counts h c there = (there, refl)
