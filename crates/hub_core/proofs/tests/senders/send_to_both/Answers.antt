use Rattle.hub_core.proofs.All.{◌≡◌, ℕ, Bool, List, is_ok, sym, subst, Begins, Item, whole, Server, only, served, nothing, then_also, Appends, appends_then, appends_before_nothing}
use Rattle.hub_core.proofs.tests.senders.send_to_both.Goals as goal

appended_by_both : (p q r s : Bool) (f g : ℕ → List Item) {s0 s1 s2 s3 : Server} → p ≡ r → q ≡ s → Appends (served r f) s0 s1 → Appends (served s g) s1 s2 → Appends nothing s2 s3
    → Appends (then_also (served p f) (served q g)) s0 s3
appended_by_both p q r s f g {s0} {s1} {s2} {s3} e h x y z =
    subst (λ (b : Bool). Appends (then_also (served b f) (served q g)) s0 s3) (sym e)
    (subst (λ (b : Bool). Appends (then_also (served r f) (served b g)) s0 s3) (sym h)
    (appends_before_nothing (then_also (served r f) (served s g)) s0 s2 s3 (appends_then (served r f) (served s g) s0 s1 s2 x y) z))

pub returns-clause-appends : goal.returns-clause-appends
returns-clause-appends g c =
    appended_by_both c.is_ok-one.result c.is_ok-two.result (is_ok c.send.result) (is_ok c.send-2.result)
    (only c.args.first.0 (whole (Begins c.args.kind) c.args.body.now)) (only c.args.second.0 (whole (Begins c.args.kind) c.args.body.now))
    c.is_ok-one.ensures.value c.is_ok-two.ensures.value c.send.ensures.appends c.send-2.ensures.appends c.end_turn.ensures.appends
