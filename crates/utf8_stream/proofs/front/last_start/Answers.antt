use Rattle.utf8_stream.proofs.All.{◌≡◌, ◌+◌, ◌-◌, ◌<◌, length, get_or, drop, sym, ap, subst, arith, length-drop, take_all, take_rest, get_or-drop, IsUtf8, text_before_lead, text_without_lead}
use Rattle.utf8_stream.proofs.front.last_start.Goals as goal

pub returns-in-Some-clause-whole : goal.returns-in-Some-clause-whole
returns-in-Some-clause-whole c =
    let bs = c.args.octets.now in
    let near = c.saturating_sub-near.result in
    let at = c.in-Some.at in
    let rest = take_rest c.args.octets.now c.saturating_sub-near.result in
    λ e. text_before_lead bs (near + at) e
    (omega (arith, c.in-Some.ensures.0, ap length rest, length-drop near bs))
    (omega (arith, c.in-Some.ensures.1, ap (λ l. get_or l c.in-Some.at 0) rest, get_or-drop near bs at 0))

pub returns-in-None-clause-whole : goal.returns-in-None-clause-whole
returns-in-None-clause-whole c =
    let bs = c.args.octets.now in
    let near = c.saturating_sub-near.result in
    let rest = take_rest c.args.octets.now c.saturating_sub-near.result in
    λ e. subst IsUtf8 (sym (take_all (length bs) bs (omega arith)))
    (text_without_lead bs e (λ at behind within.
    let inner : at - near < length (drop near bs) = omega (arith, length-drop near bs) in
    let low = c.in-None.ensures (at - near) (omega (arith, ap length rest, inner)) in
    let here : get_or bs (near + (at - near)) 0 ≡ get_or bs at 0 = ap (λ i. get_or bs i 0) (omega arith) in
    omega (arith, low, ap (λ l. get_or l (at - near) 0) rest, get_or-drop near bs (at - near) 0, here)))
