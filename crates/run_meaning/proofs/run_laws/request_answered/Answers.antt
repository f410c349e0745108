use Rattle.run_meaning.proofs.Answered.{opened_first, refused_first}
use Rattle.run_meaning.proofs.run_laws.request_answered.Goals as goal

pub returns : goal.returns
returns g c = record {
  admitted = λ s table max ns conn octets end route param accept protocol h judged. opened_first s table max ns conn octets h end route param accept protocol judged;
  refused = λ s table max ns conn octets status h judged. refused_first s table max ns conn octets h status judged;
}
