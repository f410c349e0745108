-- The keys above a number.
use Rattle.hub_table.proofs.Below.{◌≡◌, ◌<◌, ℕ, List, [], ◌∷◌, Option, Some, None, Bool, true, false, is_some, refl, sym, ap, ◌∙◌, subst, nat_cmp, slice_get, Greater, IsNextKey}
use Rattle.std.proofs.lemmas.Cmp.{ranked}
use Rattle.std.specs.BTreeMap.{BTreeMap, get}
use Rattle.std.specs.BTreeMap.Range.{IsEntryInRange, IsLeBy, IsRangeOf}
use Rattle.std.specs.Cmp.{nat_cmp_is}
use Rattle.std.specs.Option.{IfSome}
use Rattle.std.specs.Ordering.{is_gt}
use Rattle.std.specs.declared.cmp.Ordering.TheVariants.{Less}
use Rattle.std.specs.declared.ops.Bound.TheVariants.{Excluded, Unbounded}

no_key : (o : Option ℕ) → (is_some o ≡ true → ⊥) → o ≡ None
no_key None f = refl
no_key (Some k) f = absurd (f refl)

module _ (m : BTreeMap ℕ ℕ) (a : ℕ) (r : List (ℕ × ℕ)) (inside : IsRangeOf nat_cmp (Excluded a) Unbounded m r) where
  pub none_above : r ≡ [] → IsNextKey m.entries a None
  none_above e = λ c l. inside.5 e c (sym (nat_cmp_is a c Less l), tt {0})

  pub first_above_is : (n k : ℕ) (rest : List (ℕ × ℕ)) → r ≡ (n, k) ∷ rest → IsNextKey m.entries a (Some n)
  first_above_is n k rest first =
      let head : IsEntryInRange nat_cmp (Excluded a) Unbounded m (n, k) = subst (λ (z : List (ℕ × ℕ)). IfSome (slice_get z 0) (IsEntryInRange nat_cmp (Excluded a) Unbounded m)) first inside.1 in (
        ranked a n Less (sym head.0.0),
        ap is_some head.1,
        λ c l below. no_key (get nat_cmp m c)
            (λ has. let low : is_gt (nat_cmp n c) ≡ false = subst (λ (z : List (ℕ × ℕ)). IfSome (slice_get z 0) (λ x. IsLeBy nat_cmp x.0 c)) first (inside.2 c (sym (nat_cmp_is a c Less l), tt {0}) has) in
            let high : true ≡ false = ap is_gt (nat_cmp_is n c Greater below) ∙ low in cc),
      )
