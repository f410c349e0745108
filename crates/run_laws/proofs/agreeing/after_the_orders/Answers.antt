use Rattle.run_laws.proofs.StepLemmas.{agrees_orders, ordered_orders}
use Rattle.run_laws.proofs.agreeing.after_the_orders.Goals as goal

pub returns : goal.returns
returns g c = record { agrees = λ r f before n e sending after a b at out agrees x told. agrees_orders r f before n e sending a b at out agrees x after told; ordered = λ r f before n e sending a b at out agrees x. ordered_orders r f before n e sending a b at out agrees x }
