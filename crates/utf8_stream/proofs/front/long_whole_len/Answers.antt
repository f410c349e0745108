use Rattle.utf8_stream.proofs.All.{ℕ, List, refl, ap, sym, subst, ◌∙◌, take_rest, is_text_front, IsWholeUpTo, IsWholeUpTo-behind, is_text_front-drop}
use Rattle.utf8_stream.proofs.front.long_whole_len.Goals as goal

pub returns-in_err-rest : goal.returns-in_err-rest
returns-in_err-rest c =
    let bs = c.args.octets.now in
    let start = c.last_start-start.result in
    rw c.from_residual.ensures
    (is_text_front-drop bs start (c.if-not-is_utf8.ensures.0 refl) ∙ ap is_text_front (sym (take_rest bs start)) ∙ c.in_err-rest.ensures)

pub returns : goal.returns
returns c =
    let bs = c.args.octets.now in
    let start = c.last_start-start.result in
    IsWholeUpTo-behind bs start c.in_ok-rest.rest c.last_start-start.ensures.within (c.if-not-is_utf8.ensures.0 refl)
    (subst (λ (s : List ℕ). IsWholeUpTo s c.in_ok-rest.rest) (take_rest bs start) c.in_ok-rest.ensures)
