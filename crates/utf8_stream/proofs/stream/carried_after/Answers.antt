use Rattle.utf8_stream.proofs.All.{ℕ, ◌-◌, List, length, take, sym, ap, subst, ◌∙◌, arith, take_rest, is_text_front, IsWholeUpTo, carried_octets, Follows, Follows-behind, Follows-malformed, carried_lt, joined_text}
use Rattle.utf8_stream.proofs.stream.carried_after.Goals as goal

pub returns-in_err-whole-clause-follows : goal.returns-in_err-whole-clause-follows
returns-in_err-whole-clause-follows c =
    rw c.from_residual.ensures
    (Follows-malformed c.args.carried.now c.args.piece.now 3 (ap is_text_front (sym (c.deref.ensures.0 ∙ c.joined-joined.ensures)) ∙ c.in_err-whole.ensures))

pub overflow_sub-whole : goal.overflow_sub-whole
overflow_sub-whole c =
    let whole = c.in_ok-whole.whole in
    let w = subst (λ (s : List ℕ). IsWholeUpTo s whole) (c.deref.ensures.0 ∙ c.joined-joined.ensures) c.in_ok-whole.ensures in
    omega (arith, carried_lt c.args.carried.now (take 3 c.args.piece.now) whole c.requires w (omega arith))

pub returns-in_default-clause-follows : goal.returns-in_default-clause-follows
returns-in_default-clause-follows c =
    let carried = c.args.carried.now in
    let piece = c.args.piece.now in
    let whole = c.in_ok-whole.whole in
    let w = subst (λ (s : List ℕ). IsWholeUpTo s whole) (c.deref.ensures.0 ∙ c.joined-joined.ensures) c.in_ok-whole.ensures in
    let after = carried_octets c.carried_of-in_default.result in
    Follows-behind after carried piece (whole - length carried)
    (joined_text carried piece whole w (omega (arith, carried_lt carried (take 3 piece) whole c.requires w (omega arith))))
    (subst (λ (s : List ℕ). Follows after s) (take_rest piece (whole - length carried)) c.carried_of-in_default.ensures.follows)
