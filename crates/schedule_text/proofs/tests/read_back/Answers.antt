use Rattle.schedule_text.proofs.All.{◌≡◌, ℕ, List, ◌++◌, refl, ap, ◌∙◌, schedule_text, reads_back}
use Rattle.schedule_text.proofs.tests.read_back.Goals as goal

pub returns : goal.returns
returns c = λ short empty.
    let text : List ℕ = schedule_text c.args.schedule.now in
    let written : c.print.new.sink.written ≡ text = c.if-not-print.ensures.written.0 ∙ ap (λ (v : List ℕ). v ++ text) empty in
    reads_back c.args.schedule.now c.octets.result.now c.read.result c.ok.result (c.octets.ensures ∙ written) (c.if-not-print.ensures.again refl short) c.read.ensures.every_text c.ok.ensures.value
