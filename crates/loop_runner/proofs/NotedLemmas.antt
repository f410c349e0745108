-- What the notes that are added tell: turns, and links that failed.
use Rattle.loop_runner.proofs.Below.{◌≡◌, ◌≤◌, ◌+◌, ◌-◌, ◌^◌, ◌⊎◌, inl, inr, ℕ, suc, List, [], ◌∷◌, ◌++◌, Option, Some, None, Bool, true, false, cond, refl, sym, ap, ◌∙◌, subst, arith, list_any, NoteValue, AreNoted, NetState, number_of, is_turn, is_link_failure, HubState, Server, server, or_left, or_right, RoseBy, number_then, OfNotes, NotesTurns, RisesBeyond, ◌||◌}

pub number_none : {A : Type 0} (test : A → Bool) (xs : List A) → list_any test xs ≡ false → number_of test xs ≡ 0
number_none test [] e = refl
number_none test (x ∷ xs) e =
    ap (λ (z : Bool). cond z (suc (number_of test xs)) (number_of test xs)) (or_left (test x) (list_any test xs) e) ∙ number_none test xs (or_right (test x) (list_any test xs) e)

pub none_numbered : {A : Type 0} (test : A → Bool) (xs : List A) → number_of test xs ≡ 0 → list_any test xs ≡ false
none_numbered test [] e = refl
none_numbered test (x ∷ xs) e = one (test x) (none_numbered test xs) e
  where
    one : (b : Bool) → (number_of test xs ≡ 0 → list_any test xs ≡ false) → cond b (suc (number_of test xs)) (number_of test xs) ≡ 0 → (b || list_any test xs) ≡ false
    one true rest e = absurd (omega arith)
    one false rest e = rest e

-- ---- of the notes then and now

-- these were added
of_noted : (t u : Option (List NoteValue)) (ms : List NoteValue) (P : List NoteValue → List NoteValue → Type 0) → AreNoted t ms u → ((notes : List NoteValue) → P notes (notes ++ ms)) → OfNotes t u P
of_noted (Some old) (Some new) ms P is h after e =
    let same : after ≡ new = cc in
    (old, refl, subst (λ (z : List NoteValue). P old z) (sym (same ∙ is)) (h old))
of_noted None (Some new) ms P is h after e = absurd is
of_noted (Some old) None ms P is h after e = absurd (let z : None ≡ Some after = e in cc)
of_noted None None ms P is h after e = absurd (let z : None ≡ Some after = e in cc)

-- some were, and then more
of_both : (t u v : Option (List NoteValue)) (P Q R : List NoteValue → List NoteValue → Type 0) → OfNotes t u P → OfNotes u v Q → ((x y z : List NoteValue) → P x y → Q y z → R x z) → OfNotes t v R
of_both t u v P Q R p q both after e =
    let y = q after e in
    let x = p y.0 y.1 in
    (x.0, x.1, both x.0 y.0 after x.2 y.2)

-- ---- turns

abbrev MoreTurns : ℕ → List NoteValue → List NoteValue → Type 0
MoreTurns count notes after = number_of is_turn after ≡ number_of is_turn notes + count

pub turns_same : (t : Option (List NoteValue)) → NotesTurns 0 t t
turns_same t after e = (after, e, omega arith)

pub turns_noted : (count : ℕ) (ms : List NoteValue) (t u : Option (List NoteValue)) → AreNoted t ms u → number_of is_turn ms ≡ count → NotesTurns count t u
turns_noted count ms t u is turns = of_noted t u ms (MoreTurns count) is (λ notes. number_then is_turn notes ms ∙ ap (λ (z : ℕ). number_of is_turn notes + z) turns)

pub turns_both : (m n : ℕ) (t u v : Option (List NoteValue)) → NotesTurns m t u → NotesTurns n u v → NotesTurns (m + n) t v
turns_both m n t u v p q = of_both t u v (MoreTurns m) (MoreTurns n) (MoreTurns (m + n)) p q (λ x y z. sum m n (number_of is_turn x) (number_of is_turn y) (number_of is_turn z))
  where
    sum : (m n x y z : ℕ) → y ≡ x + m → z ≡ y + n → z ≡ x + (m + n)
    sum m n x y z e h = omega arith

-- ---- links that failed

abbrev MoreFaults : (more owed a b : ℕ) → List NoteValue → List NoteValue → Type 0
MoreFaults more owed a b notes after = (a + number_of is_link_failure after + more ≤ b + number_of is_link_failure notes + owed) ⊎ (2 ^ 64 - 1 ≤ b)

-- nothing was noted
pub links_still : (more : ℕ) (h g : HubState) (a b : NetState) (t : Option (List NoteValue)) → (a.faults + more ≤ b.faults) ⊎ (2 ^ 64 - 1 ≤ b.faults) → RisesBeyond more 0 (server h a t) (server g b t)
links_still more h g a b t rises after e = (after, e, over (2 ^ 64 - 1) more a.faults b.faults (number_of is_link_failure after) rises)
  where
    over : (last more a b n : ℕ) → (a + more ≤ b) ⊎ (last ≤ b) → (a + n + more ≤ b + n + 0) ⊎ (last ≤ b)
    over last more a b n (inl least) = inl (omega arith)
    over last more a b n (inr full) = inr full

-- these were noted, and the count rose by some of them
pub links_noted : (count owed : ℕ) (ms : List NoteValue) (a b : Server) → number_of is_link_failure ms ≡ count + owed → AreNoted a.told ms b.told → RoseBy count a.net.faults b.net.faults → RisesBeyond 0 owed a b
links_noted count owed ms a b all is rose = of_noted a.told b.told ms (MoreFaults 0 owed a.net.faults b.net.faults) is
    (λ notes. over (2 ^ 64 - 1) count owed a.net.faults b.net.faults (number_of is_link_failure notes) (number_of is_link_failure ms) (number_of is_link_failure (notes ++ ms)) (number_then is_link_failure notes ms) all rose.each)
  where
    over : (last count owed a b n k both : ℕ) → both ≡ n + k → k ≡ count + owed → (a + count ≤ b) ⊎ (last ≤ b) → (a + both + 0 ≤ b + n + owed) ⊎ (last ≤ b)
    over last count owed a b n k both e h (inl least) = inl (omega arith)
    over last count owed a b n k both e h (inr full) = inr full

pub links_both : (m o n p : ℕ) (a b d : Server) → RisesBeyond m o a b → RisesBeyond n p b d → b.net.faults ≤ d.net.faults → RisesBeyond (m + n) (o + p) a d
links_both m o n p a b d x y least = of_both a.told b.told d.told (MoreFaults m o a.net.faults b.net.faults) (MoreFaults n p b.net.faults d.net.faults) (MoreFaults (m + n) (o + p) a.net.faults d.net.faults) x y
    (λ u v w e h. over (2 ^ 64 - 1) m o n p a.net.faults b.net.faults d.net.faults (number_of is_link_failure u) (number_of is_link_failure v) (number_of is_link_failure w) e h least)
  where
    over : (last m o n p a b d x y z : ℕ) → (a + y + m ≤ b + x + o) ⊎ (last ≤ b) → (b + z + n ≤ d + y + p) ⊎ (last ≤ d) → b ≤ d → (a + z + (m + n) ≤ d + x + (o + p)) ⊎ (last ≤ d)
    over last m o n p a b d x y z (inl e) (inl h) r = inl (omega arith)
    over last m o n p a b d x y z (inr full) (inl h) r = inr (omega arith)
    over last m o n p a b d x y z e (inr full) r = inr full

-- a rise that was owed
pub links_paid : (a b : Server) → RisesBeyond 1 1 a b → RisesBeyond 0 0 a b
links_paid a b x after e = let y = x after e in (y.0, y.1, over (2 ^ 64 - 1) (a.net.faults + number_of is_link_failure after) b.net.faults (number_of is_link_failure y.0) y.2)
  where
    over : (last k b n : ℕ) → (k + 1 ≤ b + n + 1) ⊎ (last ≤ b) → (k + 0 ≤ b + n + 0) ⊎ (last ≤ b)
    over last k b n (inl least) = inl (omega arith)
    over last k b n (inr full) = inr full
