use Rattle.utf8_stream.proofs.All.{ℕ, List, Some, sym, subst, ◌∙◌, take_rest, IsUnfinished, Follows, Follows-None, Follows-Some}
use Rattle.utf8_stream.proofs.stream.carried_of.Goals as goal

pub returns-in_err-whole : goal.returns-in_err-whole
returns-in_err-whole c = rw c.from_residual.ensures (record { carried = tt; follows = Follows-None c.args.octets.now c.in_err-whole.ensures })

pub returns : goal.returns
returns c =
    let bs = c.args.octets.now in
    let whole = c.in_ok-whole.whole in
    let same = c.copied.ensures ∙ take_rest bs whole in
    record {
      carried = subst IsUnfinished (sym same) c.in_ok-whole.ensures.unfinished;
      follows = subst (λ (s : List ℕ). Follows (Some s) bs) (sym same) (Follows-Some bs whole c.in_ok-whole.ensures);
    }
