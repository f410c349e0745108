use Rattle.hub_core.proofs.All.{◌≡◌, ◌∙◌, [], ◌∷◌, ℕ, suc, false, sym, ap, rules, subst, Bool, HubState, cond, whole, Begins, proceeds_same, appends_same, appends_as, nothing, receives, count_below, number_in, nobody}
use Rattle.hub_core.proofs.hub.Hub.publish.Goals as goal

pub returns-in-Some : goal.returns-in-Some
returns-in-Some g c = record {
  ties = search rules;
  reason = search rules;
  refused = search rules;
  receivers = search rules;
  nobody = search rules;
  proceeds = proceeds_same _;
  appends = search rules;
  named = search rules;
  table = search rules;
}

pub returns-then-count-eq0 : goal.returns-then-count-eq0
returns-then-count-eq0 g c = record {
  ties = search rules;
  reason = search rules;
  refused = search rules;
  receivers = search rules;
  nobody = search rules;
  proceeds = proceeds_same _;
  appends =
      let none : count_below (receives c.args.self.now.pairs (number_in c.args.from) c.args.topic.now) (suc c.args.self.now.named) ≡ 0 = sym c.receivers-count.ensures ∙ c.if-count-eq0.true in
      let nobody_gets : (d : ℕ) → receives c.args.self.now.pairs (number_in c.args.from) c.args.topic.now d ≡ false = subst (λ (z : HubState). count_below (receives z.pairs (number_in c.args.from) c.args.topic.now) (suc z.named) ≡ 0 → (d : ℕ) → receives z.pairs (number_in c.args.from) c.args.topic.now d ≡ false)
      c.self.view_is (λ e. nobody c.self.inside.topics (number_in c.args.from) c.args.topic.now c.self.inside.table c.self.inside.tellings c.self.invariant e) none in
      appends_as nothing _ _ _ (appends_same _) (λ d. sym (ap (λ (z : Bool). cond z (whole (Begins c.args.kind) c.args.body.now ∷ []) []) (nobody_gets d)));
  named = search rules;
  table = search rules;
}
