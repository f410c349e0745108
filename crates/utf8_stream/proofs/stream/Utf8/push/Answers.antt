use Rattle.utf8_stream.proofs.All.{◌++◌, Some, sym, ap, subst, ◌∙◌, not_front, carried_octets, accepts, Follows, Follows-push, accepts-pushed, is_text_front-None, is_text_front-state}
use Rattle.utf8_stream.proofs.stream.Utf8.push.Goals as goal

pub returns-in_default-clause-text : goal.returns-in_default-clause-text
returns-in_default-clause-text c =
    let now = sym (ap carried_octets c.in_default.is) ∙ c.self.view_is in
    λ all follows. sym (not_front all c.args.piece.now (is_text_front-None all (subst (λ s. Follows s all) (sym now) follows)))

pub returns-clause-text : goal.returns-clause-text
returns-clause-text c =
    let piece = c.args.piece.now in
    let after = carried_octets c.carried_after-self-inside.result in
    let carried = c.deref.result.now in
    let now = ap Some c.deref.ensures.0 ∙ sym (ap carried_octets c.in-Some.is) ∙ c.self.view_is in
    λ all follows. c.text_of.ensures
    ∙ is_text_front-state after (all ++ piece) c.carried_after-self-inside.ensures.carried
    (Follows-push c.args.self.now after all piece
    (λ more. accepts-pushed after carried piece c.carried_after-self-inside.ensures.follows more ∙ ap (λ s. accepts s (piece ++ more)) now)
    follows)
