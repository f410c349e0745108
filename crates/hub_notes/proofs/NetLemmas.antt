-- What notes one after another say of the net.
use Rattle.hub_notes.proofs.Below.{◌≡◌, ◌≤◌, ◌⊎◌, ◌+◌, ◌^◌, ◌-◌, ℕ, List, [], ◌∷◌, ◌++◌, Bool, true, false, cond, suc, not, ◌&&◌, ◌||◌, inl, inr, refl, sym, ap, ◌∙◌, subst, append-nil, append_assoc, arith, LinkFailed, NoteValue, NetState, writes, taken, number_of, is_gone_in, is_gone_by_in, writes-append, taken-append, gone-append, gone_by-append, or-assoc, or_left, or_right, or_false, and_true, stays_live, is_link_failure, TrafficAfter, NetAfter, RoseBy, FailsAfter}

-- ---- traffic

pub traffic_then : (xs ys : List NoteValue) (a b d : NetState) → TrafficAfter xs a b → TrafficAfter ys b d → TrafficAfter (xs ++ ys) a d
traffic_then xs ys a b d p q = record {
  wrote = λ c. q.wrote c ∙ ap (λ (z : List (ℕ × ℕ)). z ++ writes c ys) (p.wrote c) ∙ append_assoc (a.wrote c) (writes c xs) (writes c ys)
      ∙ ap (λ (z : List (ℕ × ℕ)). a.wrote c ++ z) (sym (writes-append c xs ys));
  taken = λ c. let e = p.taken c in let h = q.taken c in let k = taken-append c xs ys in omega arith;
  given = λ c. q.given c ∙ p.given c;
  ended = λ c. q.ended c ∙ p.ended c;
  passed = q.passed ∙ p.passed;
  rested = q.rested ∙ p.rested;
}

pub traffic_same : (a : NetState) → TrafficAfter [] a a
traffic_same a = record {
  wrote = λ c. sym (append-nil (a.wrote c));
  taken = λ c. let e : taken c [] ≡ 0 = refl in omega arith;
  given = λ c. refl;
  ended = λ c. refl;
  passed = refl;
  rested = refl;
}

-- ---- the net

pub net_then : (xs ys : List NoteValue) (a b d : NetState) → NetAfter xs a b → NetAfter ys b d → NetAfter (xs ++ ys) a d
net_then xs ys a b d p q = record {
  net = record { tells = q.net.tells ∙ p.net.tells; schedule = q.net.schedule ∙ p.net.schedule };
  told = λ t. traffic_then xs ys a b d (p.told t) (q.told (p.net.tells ∙ t));
  live = λ c. q.live c ∙ ap (λ (z : Bool). z && not (is_gone_in c ys)) (p.live c) ∙ stays_live (a.live c) (is_gone_in c xs) (is_gone_in c ys)
      ∙ ap (λ (z : Bool). a.live c && not z) (sym (gone-append c xs ys));
  due = λ c e.
      let both = sym (gone-append c xs ys) ∙ e in
      q.due c (or_right (is_gone_in c xs) (is_gone_in c ys) both) ∙ p.due c (or_left (is_gone_in c xs) (is_gone_in c ys) both);
  named = q.named ∙ p.named;
  port = q.port ∙ p.port;
  room = let e = p.room in let h = q.room in omega arith;
}

pub net_same : (a : NetState) → NetAfter [] a a
net_same a = record {
  net = record { tells = refl; schedule = refl };
  told = λ t. traffic_same a;
  live = λ c. and_true (a.live c);
  due = λ c e. refl;
  named = refl;
  port = refl;
  room = omega arith;
}

-- ---- writes that failed

pub number_then : {A : Type 0} (p : A → Bool) (xs ys : List A) → number_of p (xs ++ ys) ≡ number_of p xs + number_of p ys
number_then p [] ys = let e : number_of p [] ≡ 0 = refl in omega arith
number_then p (x ∷ xs) ys = one (p x) (number_of p xs) (number_of p ys) (number_of p (xs ++ ys)) (number_then p xs ys)
  where
    one : (b : Bool) (m n k : ℕ) → k ≡ m + n → cond b (suc k) k ≡ cond b (suc m) m + n
    one true m n k e = omega arith
    one false m n k e = e

-- two rises, up to an end
rose_each : (count more old mid new last : ℕ) → (old + count ≤ mid) ⊎ (last ≤ mid) → (mid + more ≤ new) ⊎ (last ≤ new) → (old + (count + more) ≤ new) ⊎ (last ≤ new)
rose_each count more old mid new last (inl a) (inl b) = inl (omega arith)
rose_each count more old mid new last (inr a) (inl b) = inr (omega arith)
rose_each count more old mid new last e (inr b) = inr b

pub rose_then : (count more old mid new : ℕ) → RoseBy count old mid → RoseBy more mid new → RoseBy (count + more) old new
rose_then count more old mid new p q = record { least = let a = p.least in let b = q.least in omega arith; each = rose_each count more old mid new (2 ^ 64 - 1) p.each q.each }

pub rose_same : (count : ℕ) → RoseBy 0 count count
rose_same count = record { least = omega arith; each = inl (omega arith) }

pub fails_then : (xs ys : List NoteValue) (a b d : NetState) → b.tells ≡ a.tells → FailsAfter xs a b → FailsAfter ys b d → FailsAfter (xs ++ ys) a d
fails_then xs ys a b d tells p q = record {
  broken = λ t c.
      q.broken (tells ∙ t) c ∙ ap (λ (z : Bool). z || is_gone_by_in c LinkFailed ys) (p.broken t c)
      ∙ sym (or-assoc (a.broken c) (is_gone_by_in c LinkFailed xs) (is_gone_by_in c LinkFailed ys))
      ∙ ap (λ (z : Bool). a.broken c || z) (sym (gone_by-append c LinkFailed xs ys));
  faults = subst (λ (z : ℕ). RoseBy z a.faults d.faults) (sym (number_then is_link_failure xs ys))
      (rose_then (number_of is_link_failure xs) (number_of is_link_failure ys) a.faults b.faults d.faults p.faults q.faults);
}

pub fails_same : (a : NetState) → FailsAfter [] a a
fails_same a = record { broken = λ t c. or_false (a.broken c); faults = rose_same a.faults }
