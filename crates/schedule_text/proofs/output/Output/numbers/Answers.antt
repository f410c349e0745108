use Rattle.schedule_text.proofs.All.{◌≡◌, ◌++◌, ℕ, ◌+◌, ◌∷◌, List, drop, take, get_or, decimal, subst, ◌∙◌, ap, flat_map, Puts, Fails, exit, fails_more, puts_fails, puts_then, flat_map_next, flat_map_parted}
use Rattle.schedule_text.proofs.output.Output.numbers.Goals as goal

abbrev behind_space : ℕ → List ℕ
behind_space number = 32 ∷ decimal number

pub returns-in_err-number : goal.returns-in_err-number
returns-in_err-number g c =
    let i = c.numbers.number-index in
    let xs = c.args.numbers.now in
    let so_far = puts_fails c.numbers.invariant c.in_err-number.ensures in
    let parts : (flat_map behind_space (take i xs) ++ behind_space (get_or xs i 0)) ++ flat_map behind_space (drop (i + 1) xs) ≡ flat_map behind_space xs =
    ap (λ (v : List ℕ). v ++ flat_map behind_space (drop (i + 1) xs)) (flat_map_next behind_space xs i 0 c.numbers-test.true) ∙ flat_map_parted behind_space xs (i + 1) in
    exit c.number.new.self.held.items c.from_residual.result c.from_residual.ensures.0
    (subst (λ (text : List ℕ). Fails text c.args.self.now.held.items (g.K.Sink.written c.args.sink.now) (g.K.Sink.written c.number.new.sink) (g.K.Sink.faults c.args.sink.now) (g.K.Sink.faults c.number.new.sink)) parts
    (fails_more (flat_map behind_space (drop (i + 1) xs)) so_far))

pub numbers-preserved : goal.numbers-preserved
numbers-preserved g c =
    subst (λ (text : List ℕ). Puts text c.args.self.now.held.items c.number.new.self.held.items (g.K.Sink.written c.args.sink.now) (g.K.Sink.written c.number.new.sink) (g.K.Sink.faults c.args.sink.now) (g.K.Sink.faults c.number.new.sink))
    (flat_map_next behind_space c.args.numbers.now c.numbers.number-index 0 c.numbers-test.true)
    (puts_then c.numbers.invariant c.in_ok-number.ensures)
