-- A message that is put for one subscriber after another.
use Rattle.hub_core.proofs.Below.{◌≡◌, ◌≢◌, ◌⊎◌, inl, inr, ⊎_elim, ◌<◌, ◌≤◌, ◌+◌, ℕ, List, [], ◌∷◌, ◌++◌, Option, Bool, true, false, cond, not, ◌&&◌, nat_lt, refl, sym, ap, ◌∙◌, subst, append-nil, arith, cases_eq, Kind, data_frame, Item, Server, is_present, only, nothing, then_also, only_here, only_other, Progress, progress_at, standings_at, Proceeds, Appends, by_cases, clash, proceeds_then, proceeds_same, appends_then, appends_as, appends_same, is_less, is_not_less, has_topic, is_pair, is_sender, part_below, published, below_no, below_yes, Ties, IsTable, table_of, IsNext, IsLast, PutsUnless}
use Rattle.hub_core.proofs.StandLemmas.{sent_or_gone, appends_gone}

module _ (from : Option ℕ) (topic : List ℕ) (kind : Kind) (body : List ℕ) (a b : Server) where
  abbrev frames : ℕ → List Item
  frames = published a.hub.pairs from topic kind body

  abbrev has_before : ℕ → Bool
  has_before c = is_pair a.hub.pairs topic c

  abbrev has_now : ℕ → Bool
  has_now c = is_pair b.hub.pairs topic c

  unsubscribed : (c : ℕ) → has_before c ≡ false → frames c ≡ []
  unsubscribed c e = one (is_sender from c) (has_before c) e
    where
      one : (s h : Bool) → h ≡ false → cond (not s && h) (data_frame kind body ∷ []) [] ≡ []
      one s true e = clash true e refl
      one true false e = refl
      one false false e = refl

  subscribed : (c : ℕ) → has_before c ≡ true → is_sender from c ≡ false → frames c ≡ data_frame kind body ∷ []
  subscribed c e other = ap (λ (z : Bool). cond (not z && has_before c) (data_frame kind body ∷ []) []) other ∙ ap (λ (z : Bool). cond z (data_frame kind body ∷ []) []) e

  sender : (c : ℕ) → is_sender from c ≡ true → frames c ≡ []
  sender c e = ap (λ (z : Bool). cond (not z && has_before c) (data_frame kind body ∷ []) []) e

  -- who did not subscribe now was not to get it, or is gone
  passed_over : (x : Proceeds [] [] a b) (c : ℕ) → has_now c ≡ false → (frames c ≡ []) ⊎ (is_present b.hub c ≡ false)
  passed_over x c none = by_cases (has_before c)
      (λ was. one was (sent_or_gone a b x c))
      (λ not_before. inl (unsubscribed c not_before))
    where
      one : has_before c ≡ true → (progress_at b.hub c ≡ progress_at a.hub c) ⊎ (is_present b.hub c ≡ false) → (frames c ≡ []) ⊎ (is_present b.hub c ≡ false)
      one was (inl same) = clash (has_now c) none (ap (λ (z : Progress). has_topic topic z.topics) same ∙ was)
      one was (inr away) = inr away

  -- from one bound to a later one, between which nobody is subscribed now
  pub further : (low high : ℕ) → low ≤ high → (x : Proceeds [] [] a b) → ((c : ℕ) → low ≤ c → c < high → has_now c ≡ false) → Appends (part_below frames low) a b → Appends (part_below frames high) a b
  further low high le x none app = appends_gone (part_below frames low) (part_below frames high) a b app (λ c. by_cases (nat_lt c low)
      (λ l. let l' = is_less c low l in inl (below_yes frames low c l' ∙ sym (below_yes frames high c (omega arith))))
      (λ l. let l' = is_not_less c low l in by_cases (nat_lt c high)
      (λ m. let m' = is_less c high m in between c l' m' (passed_over x c (none c l' m')))
      (λ m. let m' = is_not_less c high m in inl (below_no frames low c l' ∙ sym (below_no frames high c m')))))
    where
      between : (c : ℕ) → low ≤ c → c < high → (frames c ≡ []) ⊎ (is_present b.hub c ≡ false)
          → (part_below frames low c ≡ part_below frames high c) ⊎ ((is_present b.hub c ≡ false) × (more : List Item) × (part_below frames high c ≡ part_below frames low c ++ more))
      between c l m (inl e) = inl (below_no frames low c l ∙ sym e ∙ sym (below_yes frames high c m))
      between c l m (inr away) = inr (away, frames c, below_yes frames high c m ∙ ap (λ (z : List Item). z ++ frames c) (sym (below_no frames low c l)))

  -- and to the end
  pub to_end : (low : ℕ) (x : Proceeds [] [] a b) → ((c : ℕ) → low ≤ c → has_now c ≡ false) → Appends (part_below frames low) a b → Appends frames a b
  to_end low x none app = appends_gone (part_below frames low) frames a b app (λ c. by_cases (nat_lt c low)
      (λ l. inl (below_yes frames low c (is_less c low l)))
      (λ l. let l' = is_not_less c low l in behind c l' (passed_over x c (none c l'))))
    where
      behind : (c : ℕ) → low ≤ c → (frames c ≡ []) ⊎ (is_present b.hub c ≡ false) → (part_below frames low c ≡ frames c) ⊎ ((is_present b.hub c ≡ false) × (more : List Item) × (frames c ≡ part_below frames low c ++ more))
      behind c l (inl e) = inl (below_no frames low c l ∙ sym e)
      behind c l (inr away) = inr (away, frames c, ap (λ (z : List Item). z ++ frames c) (sym (below_no frames low c l)))

  -- who subscribed now and is there did so before
  was_subscribed : (x : Proceeds [] [] a b) (c : ℕ) → has_now c ≡ true → is_present b.hub c ≡ true → has_before c ≡ true
  was_subscribed x c now there = one (sent_or_gone a b x c)
    where
      one : (progress_at b.hub c ≡ progress_at a.hub c) ⊎ (is_present b.hub c ≡ false) → has_before c ≡ true
      one (inl same) = ap (λ (z : Progress). has_topic topic z.topics) (sym same) ∙ now
      one (inr away) = clash (is_present b.hub c) away there

-- so far it is put for those up to a number
pub record PublishesTo (after : ℕ) (from : Option ℕ) (topic : List ℕ) (kind : Kind) (body : List ℕ) (a b : Server) : Type 0 where
  pub proceeds : Proceeds [] [] a b
  pub appends : Appends (part_below (published a.hub.pairs from topic kind body) (after + 1)) a b

-- the next one
pub publishes_next : (after conn : ℕ) (from : Option ℕ) (topic : List ℕ) (kind : Kind) (body : List ℕ) (a b d : Server) → PublishesTo after from topic kind body a b → IsNext (is_pair b.hub.pairs topic) after conn → is_present b.hub conn ≡ true
    → PutsUnless (is_sender from conn) conn (data_frame kind body) b d → PublishesTo conn from topic kind body a d
publishes_next after conn from topic kind body a b d x next there puts = by_sender (is_sender from conn) refl puts
  where
    f : ℕ → List Item
    f = published a.hub.pairs from topic kind body

    so_far : Appends (part_below f conn) a b
    so_far = further from topic kind body a b (after + 1) conn (above next.above) x.proceeds (λ c low high. next.least c (higher c low) high) x.appends
      where
        above : after < conn → after + 1 ≤ conn
        above l = omega arith

        higher : (c : ℕ) → after + 1 ≤ c → after < c
        higher c l = omega arith

    by_sender : (s : Bool) → is_sender from conn ≡ s → PutsUnless s conn (data_frame kind body) b d → PublishesTo conn from topic kind body a d
    by_sender true own same = subst (λ (z : Server). PublishesTo conn from topic kind body a z) (sym same) (record {
      proceeds = x.proceeds;
      appends = appends_as (part_below f conn) (part_below f (conn + 1)) a b so_far (λ c. ⊎_elim
          (λ (q : c ≡ conn). subst (λ (z : ℕ). part_below f conn z ≡ part_below f (conn + 1) z) (sym q)
          (below_no f conn conn (omega arith) ∙ sym (below_yes f (conn + 1) conn (omega arith) ∙ sender from topic kind body a b conn own)))
          (λ (ne : c ≢ conn). others c ne)
          (cases_eq c conn));
    })
      where
        others : (c : ℕ) → c ≢ conn → part_below f conn c ≡ part_below f (conn + 1) c
        others c ne = by_cases (nat_lt c conn)
            (λ l. let l' = is_less c conn l in below_yes f conn c l' ∙ sym (below_yes f (conn + 1) c (omega arith)))
            (λ l. let l' = is_not_less c conn l in below_no f conn c l' ∙ sym (below_no f (conn + 1) c (omega arith)))
    by_sender false other both = record {
      proceeds = proceeds_then [] [] a b d x.proceeds both.proceeds;
      appends = appends_as (then_also (part_below f conn) (only conn item)) (part_below f (conn + 1)) a d (appends_then (part_below f conn) (only conn item) a b d so_far both.appends) (λ c. ⊎_elim
          (λ (q : c ≡ conn). subst (λ (z : ℕ). part_below f conn z ++ only conn item z ≡ part_below f (conn + 1) z) (sym q)
          (ap (λ (z : List Item). z ++ only conn item conn) (below_no f conn conn (omega arith)) ∙ only_here conn item
          ∙ sym (below_yes f (conn + 1) conn (omega arith) ∙ subscribed from topic kind body a b conn (was_subscribed from topic kind body a b x.proceeds conn next.has there) other)))
          (λ (ne : c ≢ conn). ap (λ (z : List Item). part_below f conn c ++ z) (only_other conn c item ne) ∙ append-nil (part_below f conn c) ∙ others c ne)
          (cases_eq c conn));
    }
      where
        item : Item
        item = data_frame kind body

        others : (c : ℕ) → c ≢ conn → part_below f conn c ≡ part_below f (conn + 1) c
        others c ne = by_cases (nat_lt c conn)
            (λ l. let l' = is_less c conn l in below_yes f conn c l' ∙ sym (below_yes f (conn + 1) c (omega arith)))
            (λ l. let l' = is_not_less c conn l in below_no f conn c l' ∙ sym (below_no f (conn + 1) c (omega arith)))

-- what else is as it was
pub unless_kept : (own : Bool) (conn : ℕ) (item : Item) (b d : Server) → PutsUnless own conn item b d → Ties b → IsTable (table_of b.hub) → (Ties d) × (d.hub.named ≡ b.hub.named) × (d.hub.config ≡ b.hub.config) × IsTable (table_of d.hub)
unless_kept true conn item b d same ties table = (
  subst Ties (sym same) ties,
  ap (λ (z : Server). z.hub.named) same,
  ap (λ (z : Server). z.hub.config) same,
  subst (λ (z : Server). IsTable (table_of z.hub)) (sym same) table,
)
unless_kept false conn item b d x ties table = (x.ties, x.named, x.appends.lines.config, x.table)

-- the first bound, below which there is only number 0
pub publishes_none : (from : Option ℕ) (topic : List ℕ) (kind : Kind) (body : List ℕ) (s : Server) → (standings_at s.hub 0).topics ≡ [] → PublishesTo 0 from topic kind body s s
publishes_none from topic kind body s none = record {
  proceeds = proceeds_same s;
  appends = appends_as nothing (part_below f (0 + 1)) s s (appends_same s) (λ c. by_cases (nat_lt c 1)
      (λ l. subst (λ (z : ℕ). [] ≡ part_below f (0 + 1) z) (zero_is c (is_less c 1 l)) (sym (below_yes f (0 + 1) 0 (omega arith) ∙ unsubscribed from topic kind body s s 0 (ap (has_topic topic) none))))
      (λ l. let l' = is_not_less c 1 l in sym (below_no f (0 + 1) c (omega arith))));
}
  where
    f : ℕ → List Item
    f = published s.hub.pairs from topic kind body

    zero_is : (c : ℕ) → c < 1 → 0 ≡ c
    zero_is c l = omega arith

pub publishes_end : (after : ℕ) (from : Option ℕ) (topic : List ℕ) (kind : Kind) (body : List ℕ) (a b : Server) → PublishesTo after from topic kind body a b → IsLast (is_pair b.hub.pairs topic) after → Appends (published a.hub.pairs from topic kind body) a b
publishes_end after from topic kind body a b x last = to_end from topic kind body a b (after + 1) x.proceeds (λ c low. last c (higher c low)) x.appends
  where
    higher : (c : ℕ) → after + 1 ≤ c → after < c
    higher c l = omega arith
