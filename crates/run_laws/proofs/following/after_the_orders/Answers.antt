use Rattle.run_laws.proofs.Proceeding.{orders_follow}
use Rattle.run_laws.proofs.following.after_the_orders.Goals as goal

pub returns : goal.returns
returns c = orders_follow
