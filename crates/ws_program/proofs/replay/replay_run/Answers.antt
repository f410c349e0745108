use Rattle.ws_program.proofs.All.{ℕ, List, Option, Some, ◌≡◌, sym, subst, Consumes, Act, IsText, IsRefused, Fault, AnswersText, IsTaken, RefusesAs, streams, text_of_all, fault_of_all, text_ends}
use Rattle.topic_guard.specs.Admits.{admits}
use Rattle.ws_program.proofs.replay.replay_run.Goals as goal

pub returns-in-Ok : goal.returns-in-Ok
returns-in-Ok g c =
    let octets = c.in-Ok.octets.items in
    let left' = g.S.Source.left c.read_all.new.source in
    let now = c.replay_text.ensures in
    let (took, ends, unfailing) = c.in-Ok.ensures.given in
    let given : (all : List ℕ) → g.S.Source.left c.args.source.now ≡ Some all → Consumes (Some all) (g.S.Source.left c.read_all.new.source) c.in-Ok.octets.items =
    λ (all : List ℕ) is. subst (λ (left : Option (List ℕ)). Consumes left (g.S.Source.left c.read_all.new.source) c.in-Ok.octets.items) is took in
    let every_text : (all : List ℕ) (acts : List Act) → g.S.Source.left c.args.source.now ≡ Some all → IsText all acts → IsTaken c.replay_text.result =
    λ (all : List ℕ) (acts : List Act) is text.
    now.every_text acts (subst (λ (l : List ℕ). IsText l acts) (sym c.deref.ensures.value) (text_of_all octets all left' acts (given all is) ends text)) in
    let every_fault : (all : List ℕ) (line : ℕ) (fault : Fault) → g.S.Source.left c.args.source.now ≡ Some all → IsRefused all line fault → RefusesAs line fault c.replay_text.result =
    λ (all : List ℕ) (line : ℕ) (fault : Fault) is refused.
    now.every_fault line fault (subst (λ (l : List ℕ). IsRefused l line fault) (sym c.deref.ensures.value) (fault_of_all octets all left' line fault (given all is) ends refused)) in
    text_ends (admits c.args.guard.now.rule) c.args.config octets (streams g.S.Source g.K.Sink c.args.source.now c.args.sink.now) (streams g.S.Source g.K.Sink c.read_all.new.source c.replay_text.new.sink)
    took ends unfailing c.in-Ok.ensures.tells c.replay_text.result
    (subst (λ (l : List ℕ). AnswersText (admits c.args.guard.now.rule) c.args.config l c.replay_text.result (g.K.Sink.written c.args.sink.now) (g.K.Sink.written c.replay_text.new.sink) (g.K.Sink.faults c.args.sink.now) (g.K.Sink.faults c.replay_text.new.sink)) c.deref.ensures.value now.answers)
    every_text every_fault
