use Rattle.ws_program.proofs.FewLemmas.{few_items}
use Rattle.ws_program.proofs.runs.items_are_few.Goals as goal

pub returns : goal.returns
returns c = λ admits replies ns front behind before last short split d. few_items admits replies ns front behind before last short split d
