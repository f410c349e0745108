-- One verdict on the octets, which stays.
use Rattle.upgrade_head.proofs.Below.{◌≡◌, Bool, ◌≢◌, ℕ, ◌≤◌, inl, inr, true, false, nat_lt, List, [], ◌++◌, Option, Some, None, length, take, refl, sym, ap, subst, ◌∙◌, arith, length-append, MatchOption, RequestHead, request_unique, RouteTable, IsHead, head_end, take-append-le, nat_tests, Verdict, more, refuse, by_parts, JudgedHead, Judged, unended}
use Rattle.upgrade_head.proofs.HeadLemmas.{head_end-stays, head_end-within, head_end-full}

head_unique : (octets : List ℕ) (h k : RequestHead) → IsHead octets h → IsHead octets k → h ≡ k
head_unique octets h k a b = (request_unique octets h k [] [] a.0 b.0).0

too_long : (size : ℕ) → 8192 ≤ size → unended size ≡ refuse 431
too_long size long = grind (arith, nat_tests)

-- where no head ends, and more octets are not needed, there are 8,192
full : (size : ℕ) (v : Verdict) → v ≡ unended size → v ≢ more → 8192 ≤ size
full size v is other = by_test (nat_lt size 8192) refl
  where
    by_test : (test : Bool) → nat_lt size 8192 ≡ test → 8192 ≤ size
    by_test true short = absurd (other (is ∙ rw short))
    by_test false long = grind (arith, nat_tests)

module _ (table : RouteTable) where
  judged_head_unique : (octets : List ℕ) (v w : Verdict) → JudgedHead table octets v → JudgedHead table octets w → v ≡ w
  judged_head_unique octets v w (inl a) (inl b) = a.2 ∙ ap (λ (h : RequestHead). by_parts table (length octets) h) (head_unique octets a.0 b.0 a.1 b.1) ∙ sym b.2
  judged_head_unique octets v w (inl a) (inr b) = absurd (b.0 (a.0, a.1))
  judged_head_unique octets v w (inr a) (inl b) = absurd (a.0 (b.0, b.1))
  judged_head_unique octets v w (inr a) (inr b) = a.1 ∙ sym b.1

  -- what is decided by where the head ends
  abbrev by_end : List ℕ → Verdict → Option ℕ → Type 0
  by_end octets v found = MatchOption found (v ≡ unended (length octets)) (λ end. JudgedHead table (take end octets) v)

  by_end_unique : (octets : List ℕ) (found : Option ℕ) (v w : Verdict) → by_end octets v found → by_end octets w found → v ≡ w
  by_end_unique octets None v w a b = a ∙ sym b
  by_end_unique octets (Some end) v w a b = judged_head_unique (take end octets) v w a b

  pub judged_unique : (octets : List ℕ) (v w : Verdict) → Judged table octets v → Judged table octets w → v ≡ w
  judged_unique octets v w a b = by_end_unique octets (head_end octets) v w a b

  stays : (octets behind : List ℕ) (v : Verdict) (found : Option ℕ) → head_end octets ≡ found → by_end octets v found → v ≢ more → Judged table (octets ++ behind) v
  stays octets behind v (Some end) is judged other =
      let same : take end octets ≡ take end (octets ++ behind) = sym (take-append-le end octets behind (head_end-within octets end is)) in
      subst (by_end (octets ++ behind) v) (sym (head_end-stays octets behind end is)) (subst (λ (head : List ℕ). JudgedHead table head v) same judged)
  stays octets behind v None is judged other =
      let size = full (length octets) v judged other in
      let sizes : 8192 ≤ length (octets ++ behind) = omega (arith, length-append octets behind, size) in
      subst (by_end (octets ++ behind) v) (sym (head_end-full octets behind size ∙ is)) (judged ∙ too_long (length octets) size ∙ sym (too_long (length (octets ++ behind)) sizes))

  pub judged_stays : (octets behind : List ℕ) (v : Verdict) → Judged table octets v → v ≢ more → Judged table (octets ++ behind) v
  judged_stays octets behind v judged other = stays octets behind v (head_end octets) refl judged other
