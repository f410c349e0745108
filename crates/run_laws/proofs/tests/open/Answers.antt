use Rattle.run_laws.proofs.All.{◌≤◌, ℕ, List, length, subst, ◌∙◌, admit, Judged, reader_view, head_admitted}
use Rattle.run_laws.proofs.tests.open.Goals as goal

pub returns-in-Admit-clause-opens : goal.returns-in-Admit-clause-opens
returns-in-Admit-clause-opens c = λ max heard octets h.
    let is = c.raw.ensures.raw ∙ h.raw in (
      c.in-Admit.param.now,
      head_admitted c.args.routes.now max heard octets c.in-Admit.end c.in-Admit.route c.in-Admit.param.now c.in-Admit.accept c.in-Admit.protocol (reader_view c.args.reader.now) (reader_view c.skip.new.self) h
          (subst (λ (os : List ℕ). Judged c.args.routes.now os (admit c.in-Admit.end c.in-Admit.route c.in-Admit.param.now c.in-Admit.accept c.in-Admit.protocol)) is c.in-Admit.ensures.judged)
          (subst (λ (os : List ℕ). c.in-Admit.end ≤ length os) is c.in-Admit.ensures.ranges.0)
          c.skip.ensures.ahead,
    )
