-- Views of intakes.
use Rattle.loop_runner.proofs.Below.{◌≡◌, ◌≢◌, ⊎_elim, ℕ, List, Option, Some, None, Bool, true, false, cond, is_some, nat_eq, refl, sym, ap, ◌∙◌, subst, arith, IsSome, nat_cmp, is_at, WritesThrough, cases_eq, nat_tests, Event, HubState, has_entry, ReaderView, IsFed, IsRead, IntakeView, SameButReader, Intake, Intakes, intake_at, is_admitted, IsNew, ChangesIntake, SameIntakes, AreViews, intake_view, view_by, with_view}

-- ---- one of them is another

pub with_here : (c : ℕ) (v : IntakeView) (vs : ℕ → IntakeView) → with_view c v vs c ≡ v
with_here c v vs = ap (λ (z : Bool). cond z v (vs c)) (itself c)
  where
    itself : (n : ℕ) → nat_eq n n ≡ true
    itself n = grind (arith, nat_tests)

pub with_other : (c : ℕ) (v : IntakeView) (vs : ℕ → IntakeView) (d : ℕ) → d ≢ c → with_view c v vs d ≡ vs d
with_other c v vs d ne = ap (λ (z : Bool). cond z v (vs d)) (apart d c ne)
  where
    apart : (n m : ℕ) → n ≢ m → nat_eq n m ≡ false
    apart n m ne = grind (arith, nat_tests)

-- the view that stood there
pub with_same : (c : ℕ) (v : IntakeView) (vs : ℕ → IntakeView) → vs c ≡ v → (d : ℕ) → with_view c v vs d ≡ vs d
with_same c v vs is d = ⊎_elim
    (λ (e : d ≡ c). subst (λ (z : ℕ). with_view c v vs z ≡ vs z) (sym e) (with_here c v vs ∙ sym is))
    (λ (ne : d ≡ c → ⊥). with_other c v vs d ne) (cases_eq d c)

-- the later of two views
pub with_twice : (c : ℕ) (u v : IntakeView) (vs : ℕ → IntakeView) (d : ℕ) → with_view c v vs d ≡ with_view c v (with_view c u vs) d
with_twice c u v vs d = twice (nat_eq d c) v u (vs d)
  where
    twice : (b : Bool) (x y z : IntakeView) → cond b x z ≡ cond b x (cond b y z)
    twice true x y z = refl
    twice false x y z = refl

-- its reader is another
module _ (c route : ℕ) (param : List ℕ) (before after : ReaderView) (vs : ℕ → IntakeView) (is : vs c ≡ view_by before route param) where
  here : with_view c (view_by after route param) vs c ≡ view_by after route param
  here = with_here c (view_by after route param) vs

  pub same_but : SameButReader c vs (with_view c (view_by after route param) vs)
  same_but = record {
    route = ap (λ (z : IntakeView). z.route) here ∙ sym (ap (λ (z : IntakeView). z.route) is);
    param = ap (λ (z : IntakeView). z.param) here ∙ sym (ap (λ (z : IntakeView). z.param) is);
    others = λ d ne. with_other c (view_by after route param) vs d ne;
  }

  between : (R : ReaderView → ReaderView → Type 0) → R before after → R (vs c).reader (with_view c (view_by after route param) vs c).reader
  between R x = subst (λ (z : IntakeView). R z.reader (with_view c (view_by after route param) vs c).reader) (sym is) (subst (λ (z : IntakeView). R before z.reader) (sym here) x)

  pub view_read : (events : List Event) → IsRead before events after → IsRead (vs c).reader events (with_view c (view_by after route param) vs c).reader
  view_read events = between (λ old new. IsRead old events new)

  pub view_fed : (came : List ℕ) → IsFed came before after → IsFed came (vs c).reader (with_view c (view_by after route param) vs c).reader
  view_fed came = between (IsFed came)

-- ---- of intakes

pub none_some : (x : Option Intake) (i : Intake) → x ≡ None → x ≡ Some i → ⊥
none_some x i n s = let z : None ≡ Some i = sym n ∙ s in absurd cc

pub same_some : (x y : Intake) → Some x ≡ Some y → x ≡ y
same_some x y e = cc

pub views_same : (old new : Intakes) (vs : ℕ → IntakeView) → SameIntakes old new → AreViews old vs → AreViews new vs
views_same old new vs same are = λ c intake at. are c intake (sym (same.all c) ∙ at)

-- one that is shut keeps its view
pub views_shut : (conn : ℕ) (old new : Intakes) (vs : ℕ → IntakeView) → AreViews old vs → ChangesIntake conn old new → intake_at new conn ≡ None → AreViews new vs
views_shut conn old new vs are change none c intake at = ⊎_elim
    (λ (same : c ≡ conn). absurd (none_some (intake_at new conn) intake none (ap (intake_at new) (sym same) ∙ at)))
    (λ (ne : c ≡ conn → ⊥). are c intake (sym (change.others c ne) ∙ at)) (cases_eq c conn)

-- and one that is another has another
views_changed : (conn : ℕ) (old new : Intakes) (vs : ℕ → IntakeView) (now : Intake) → AreViews old vs → ((d : ℕ) → d ≢ conn → intake_at new d ≡ intake_at old d) → intake_at new conn ≡ Some now → AreViews new (with_view conn (intake_view now) vs)
views_changed conn old new vs now are others here c intake at = ⊎_elim
    (λ (e : c ≡ conn).
    ap (with_view conn (intake_view now) vs) e ∙ with_here conn (intake_view now) vs ∙ ap (λ (z : Intake). intake_view z) (same_some now intake (sym here ∙ ap (intake_at new) (sym e) ∙ at)))
    (λ (ne : c ≡ conn → ⊥). with_other conn (intake_view now) vs c ne ∙ are c intake (sym (others c ne) ∙ at)) (cases_eq c conn)

pub new_here : (max : ℕ) (x : Option Intake) → IsNew max x → (intake : Intake) × (x ≡ Some intake) × IsNew max (Some intake)
new_here max None i = absurd i
new_here max (Some intake) i = (intake, refl, i)

pub views_new : (conn : ℕ) (old new : Intakes) (vs : ℕ → IntakeView) (intake : Intake) → AreViews old vs → ChangesIntake conn old new → intake_at new conn ≡ Some intake → AreViews new (with_view conn (intake_view intake) vs)
views_new conn old new vs intake are change here = views_changed conn old new vs intake are change.others here

-- one was written
pub record Written (conn : ℕ) (now : Intake) (old new : Intakes) : Type 0 where
  pub here : intake_at new conn ≡ Some now
  pub others : (other : ℕ) → other ≢ conn → intake_at new other ≡ intake_at old other

pub written : (conn : ℕ) (old new : Intakes) (was now : Intake) → WritesThrough nat_cmp (nat_cmp conn) old.all now new.all → intake_at old conn ≡ Some was → Written conn now old new
written conn old new was now through at =
    let updates = through.3 (subst IsSome (sym at) refl) in
    record { here = updates.1; others = λ other ne. updates.2 other (other_key conn other ne) }
  where
    other_key : (n m : ℕ) → m ≢ n → is_at (nat_cmp n) m ≡ false
    other_key n m ne = grind (arith, nat_tests)

pub views_written : (conn : ℕ) (old new : Intakes) (now : Intake) (vs : ℕ → IntakeView) → AreViews old vs → Written conn now old new → AreViews new (with_view conn (intake_view now) vs)
views_written conn old new now vs are x = views_changed conn old new vs now are x.others x.here

-- those of entries are as before
pub views_tidied : (old new : Intakes) (h : HubState) (vs : ℕ → IntakeView) → ((c : ℕ) → has_entry h.entries c ≡ is_admitted new c) → ((c : ℕ) → has_entry h.entries c ≡ true → intake_at new c ≡ intake_at old c)
    → AreViews old vs → AreViews new vs
views_tidied old new h vs exact same are = λ c intake at. are c intake (sym (same c (exact c ∙ ap is_some at)) ∙ at)

or_view : Option Intake → IntakeView → IntakeView
or_view None v = v
or_view (Some intake) v = intake_view intake

-- there are some
pub views_of : Intakes → (ℕ → IntakeView) → ℕ → IntakeView
views_of intakes vs conn = or_view (intake_at intakes conn) (vs conn)

pub are_views_of : (intakes : Intakes) (vs : ℕ → IntakeView) → AreViews intakes (views_of intakes vs)
unfolding views_of or_view
are_views_of intakes vs = λ c intake at. ap (λ (z : Option Intake). or_view z (vs c)) at
