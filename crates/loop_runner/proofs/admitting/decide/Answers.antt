use Rattle.loop_runner.proofs.All.{List, ℕ, sym, subst, Judged, admit, refuse}
use Rattle.upgrade_head.specs.Judged.{more}
use Rattle.loop_runner.proofs.admitting.decide.Goals as goal

pub returns-in-More-clause-judged : goal.returns-in-More-clause-judged
returns-in-More-clause-judged c = subst (λ (z : List ℕ). Judged c.args.routes.now z more) c.raw.ensures.raw c.in-More.ensures.judged

pub returns-in-Refuse-clause-judged : goal.returns-in-Refuse-clause-judged
returns-in-Refuse-clause-judged c = subst (λ (z : List ℕ). Judged c.args.routes.now z (refuse c.in-Refuse.status)) c.raw.ensures.raw c.in-Refuse.ensures.judged

pub returns-in-Admit-clause-judged : goal.returns-in-Admit-clause-judged
returns-in-Admit-clause-judged c =
    subst (λ (z : List ℕ). Judged c.args.routes.now z (admit c.in-Admit.end c.in-Admit.route c.name_of.result.items c.in-Admit.accept c.in-Admit.protocol)) c.raw.ensures.raw
    (subst (λ (z : List ℕ). Judged c.args.routes.now c.raw.result.now (admit c.in-Admit.end c.in-Admit.route z c.in-Admit.accept c.in-Admit.protocol)) (sym c.name_of.ensures) c.in-Admit.ensures.judged)
