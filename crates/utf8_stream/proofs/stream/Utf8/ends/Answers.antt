use Rattle.utf8_stream.proofs.All.{[], sym, ap, subst, ◌∙◌, IsCarried, carried_octets, accepts, Follows-end, accepts-nil}
use Rattle.utf8_stream.proofs.stream.Utf8.ends.Goals as goal

pub returns-in-None-clause-text : goal.returns-in-None-clause-text
returns-in-None-clause-text c =
    let now = sym (ap carried_octets c.in-None.is) ∙ c.self.view_is in
    λ all follows. ap (λ s. accepts s []) now ∙ Follows-end c.args.self.now all follows

pub returns-in-Some-clause-ahead : goal.returns-in-Some-clause-ahead
returns-in-Some-clause-ahead c =
    let is = ap carried_octets c.in-Some.is in
    c.is_empty.ensures
    ∙ sym (accepts-nil c.in-Some.carried.items (subst IsCarried is c.self.invariant))
    ∙ ap (λ s. accepts s []) (sym is ∙ c.self.view_is)

pub returns-in-Some-clause-text : goal.returns-in-Some-clause-text
returns-in-Some-clause-text c = λ all follows. returns-in-Some-clause-ahead c ∙ Follows-end c.args.self.now all follows
