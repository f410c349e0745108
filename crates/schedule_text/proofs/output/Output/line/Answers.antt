use Rattle.schedule_text.proofs.All.{◌++◌, ℕ, [], ◌∷◌, List, decimal, subst, flat_map, PutsOrFails, last_text, exit, fails_more, puts_fails, then, line_text}
use Rattle.schedule_text.proofs.output.Output.line.Goals as goal

abbrev numbers_text : List ℕ → List ℕ
numbers_text numbers = flat_map (λ number. 32 ∷ decimal number) numbers

pub returns-in_err-put : goal.returns-in_err-put
returns-in_err-put g c =
    let last : List ℕ = last_text c.args.last in
    let numbers : List ℕ = numbers_text c.args.numbers.now in
    subst (λ (text : List ℕ). PutsOrFails text [] [] (g.K.Sink.written c.args.sink.now) (g.K.Sink.written c.put.new.sink) (g.K.Sink.faults c.args.sink.now) (g.K.Sink.faults c.put.new.sink) c.from_residual.result)
    (line_text c.args.word.now c.args.numbers.now c.args.last)
    (subst (λ (held : List ℕ). PutsOrFails (c.args.word.now ++ (numbers ++ (last ++ 10 ∷ []))) held [] (g.K.Sink.written c.args.sink.now) (g.K.Sink.written c.put.new.sink) (g.K.Sink.faults c.args.sink.now) (g.K.Sink.faults c.put.new.sink) c.from_residual.result) c.requires
    (exit [] c.from_residual.result c.from_residual.ensures.0 (fails_more (numbers ++ (last ++ 10 ∷ [])) c.in_err-put.ensures)))

pub returns-in_err-numbers : goal.returns-in_err-numbers
returns-in_err-numbers g c =
    let last : List ℕ = last_text c.args.last in
    let numbers : List ℕ = numbers_text c.args.numbers.now in
    subst (λ (text : List ℕ). PutsOrFails text [] [] (g.K.Sink.written c.args.sink.now) (g.K.Sink.written c.numbers.new.sink) (g.K.Sink.faults c.args.sink.now) (g.K.Sink.faults c.numbers.new.sink) c.from_residual-in_err-numbers.result)
    (line_text c.args.word.now c.args.numbers.now c.args.last)
    (subst (λ (held : List ℕ). PutsOrFails (c.args.word.now ++ (numbers ++ (last ++ 10 ∷ []))) held [] (g.K.Sink.written c.args.sink.now) (g.K.Sink.written c.numbers.new.sink) (g.K.Sink.faults c.args.sink.now) (g.K.Sink.faults c.numbers.new.sink) c.from_residual-in_err-numbers.result) c.requires
    (exit [] c.from_residual-in_err-numbers.result c.from_residual-in_err-numbers.ensures.0 (puts_fails c.in_ok-put.ensures (fails_more (last ++ 10 ∷ []) c.in_err-numbers.ensures))))

pub returns-in_err-last : goal.returns-in_err-last
returns-in_err-last g c =
    let last : List ℕ = last_text c.args.last in
    let numbers : List ℕ = numbers_text c.args.numbers.now in
    subst (λ (text : List ℕ). PutsOrFails text [] [] (g.K.Sink.written c.args.sink.now) (g.K.Sink.written c.last.new.sink) (g.K.Sink.faults c.args.sink.now) (g.K.Sink.faults c.last.new.sink) c.from_residual-in_err-last.result)
    (line_text c.args.word.now c.args.numbers.now c.args.last)
    (subst (λ (held : List ℕ). PutsOrFails (c.args.word.now ++ (numbers ++ (last ++ 10 ∷ []))) held [] (g.K.Sink.written c.args.sink.now) (g.K.Sink.written c.last.new.sink) (g.K.Sink.faults c.args.sink.now) (g.K.Sink.faults c.last.new.sink) c.from_residual-in_err-last.result) c.requires
    (exit [] c.from_residual-in_err-last.result c.from_residual-in_err-last.ensures.0 (puts_fails c.in_ok-put.ensures (puts_fails c.in_ok-numbers.ensures (fails_more (10 ∷ []) c.in_err-last.ensures)))))

pub returns-in_err-put-2 : goal.returns-in_err-put-2
returns-in_err-put-2 g c =
    let last : List ℕ = last_text c.args.last in
    let numbers : List ℕ = numbers_text c.args.numbers.now in
    subst (λ (text : List ℕ). PutsOrFails text [] [] (g.K.Sink.written c.args.sink.now) (g.K.Sink.written c.put-2.new.sink) (g.K.Sink.faults c.args.sink.now) (g.K.Sink.faults c.put-2.new.sink) c.from_residual-in_err-put-2.result)
    (line_text c.args.word.now c.args.numbers.now c.args.last)
    (subst (λ (held : List ℕ). PutsOrFails (c.args.word.now ++ (numbers ++ (last ++ 10 ∷ []))) held [] (g.K.Sink.written c.args.sink.now) (g.K.Sink.written c.put-2.new.sink) (g.K.Sink.faults c.args.sink.now) (g.K.Sink.faults c.put-2.new.sink) c.from_residual-in_err-put-2.result) c.requires
    (exit [] c.from_residual-in_err-put-2.result c.from_residual-in_err-put-2.ensures.0 (puts_fails c.in_ok-put.ensures (puts_fails c.in_ok-numbers.ensures (puts_fails c.in_ok-last.ensures c.in_err-put-2.ensures)))))

pub returns : goal.returns
returns g c =
    let last : List ℕ = last_text c.args.last in
    let numbers : List ℕ = numbers_text c.args.numbers.now in
    subst (λ (text : List ℕ). PutsOrFails text [] [] (g.K.Sink.written c.args.sink.now) (g.K.Sink.written c.flush.new.sink) (g.K.Sink.faults c.args.sink.now) (g.K.Sink.faults c.flush.new.sink) c.flush.result)
    (line_text c.args.word.now c.args.numbers.now c.args.last)
    (subst (λ (held : List ℕ). PutsOrFails (c.args.word.now ++ (numbers ++ (last ++ 10 ∷ []))) held [] (g.K.Sink.written c.args.sink.now) (g.K.Sink.written c.flush.new.sink) (g.K.Sink.faults c.args.sink.now) (g.K.Sink.faults c.flush.new.sink) c.flush.result) c.requires
    (then (numbers ++ (last ++ 10 ∷ [])) [] (g.K.Sink.written c.flush.new.sink) (g.K.Sink.faults c.flush.new.sink) c.flush.result c.in_ok-put.ensures (then (last ++ 10 ∷ []) [] (g.K.Sink.written c.flush.new.sink) (g.K.Sink.faults c.flush.new.sink) c.flush.result c.in_ok-numbers.ensures (then (10 ∷ []) [] (g.K.Sink.written c.flush.new.sink) (g.K.Sink.faults c.flush.new.sink) c.flush.result c.in_ok-last.ensures (then [] [] (g.K.Sink.written c.flush.new.sink) (g.K.Sink.faults c.flush.new.sink) c.flush.result c.in_ok-put-2.ensures c.flush.ensures.written)))))
