use Rattle.run_laws.proofs.HubLemmas.{agrees_told_phase, agrees_hub_phase, agrees_why}
use Rattle.run_laws.proofs.agreeing.why_agrees.Goals as goal

pub returns : goal.returns
returns g c = record { by_notes = agrees_told_phase; by_hub = agrees_hub_phase; reasons = agrees_why }
