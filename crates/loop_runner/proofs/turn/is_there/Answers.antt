use Rattle.loop_runner.proofs.All.{Option, Bool, sym, ap, ◌∙◌, is_some, Phase, unless_gone, there_at}
use Rattle.loop_runner.proofs.turn.is_there.Goals as goal

pub returns-in-None : goal.returns-in-None
returns-in-None c = sym (there_at c.args.hub.now c.args.conn.0 ∙ ap (λ (z : Option Phase). is_some (unless_gone z)) (sym c.in-None.ensures))
