use Rattle.utf8_stream.proofs.All.{◌≡◌, true, sym, ap, subst, ◌∙◌, is_none, is_text_front, IsWholeUpTo, IsWholeUpTo-text, IsWholeUpTo-cut, is_text_front-from_error}
use Rattle.utf8_stream.proofs.front.whole_len.Goals as goal

pub returns-in-Ok : goal.returns-in-Ok
returns-in-Ok c = IsWholeUpTo-text c.args.octets.now c.in-Ok.ensures.cases.1

pub returns-in-None : goal.returns-in-None
returns-in-None c =
    let bs = c.args.octets.now in
    let error = c.in-Err.error in
    let e : is_text_front c.args.octets.now ≡ true =
    sym (is_text_front-from_error bs error.valid_up_to error.error_len c.in-Err.ensures.valid_len c.in-Err.ensures.fault) ∙ ap is_none (sym c.in-None.ensures) in
    subst (IsWholeUpTo bs) (sym c.valid_up_to.ensures) (IsWholeUpTo-cut bs error.valid_up_to c.in-Err.ensures.cases.1 e)
