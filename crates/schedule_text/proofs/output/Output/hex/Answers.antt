use Rattle.schedule_text.proofs.All.{◌≡◌, ◌++◌, ℕ, ◌+◌, ◌/◌, ◌%◌, [], ◌∷◌, List, drop, take, get_or, subst, ◌∙◌, ap, hex, hex_digit, Puts, Fails, exit, fails_more, puts_fails, puts_then, hex_next, hex_parted}
use Rattle.schedule_text.proofs.output.Output.hex.Goals as goal

pub returns-in_err-put : goal.returns-in_err-put
returns-in_err-put g c =
    let i = c.octets.octet-index in
    let xs = c.args.octets.now in
    let so_far = puts_fails c.octets.invariant c.in_err-put.ensures in
    let pair : c.digit.result ∷ c.digit-in-octets.result ∷ [] ≡ hex_digit (get_or xs i 0 / 16) ∷ hex_digit (get_or xs i 0 % 16) ∷ [] = cc (c.digit.ensures, c.digit-in-octets.ensures) in
    let parts : (hex (take i xs) ++ (c.digit.result ∷ c.digit-in-octets.result ∷ [])) ++ hex (drop (i + 1) xs) ≡ hex xs =
    ap (λ (v : List ℕ). (hex (take i xs) ++ v) ++ hex (drop (i + 1) xs)) pair ∙ ap (λ (v : List ℕ). v ++ hex (drop (i + 1) xs)) (hex_next xs i c.octets-test.true) ∙ hex_parted xs (i + 1) in
    exit c.put.new.self.held.items c.from_residual.result c.from_residual.ensures.0
    (subst (λ (text : List ℕ). Fails text c.args.self.now.held.items (g.K.Sink.written c.args.sink.now) (g.K.Sink.written c.put.new.sink) (g.K.Sink.faults c.args.sink.now) (g.K.Sink.faults c.put.new.sink)) parts
    (fails_more (hex (drop (i + 1) xs)) so_far))

pub octets-preserved : goal.octets-preserved
octets-preserved g c =
    let i = c.octets.octet-index in
    let xs = c.args.octets.now in
    let pair : c.digit.result ∷ c.digit-in-octets.result ∷ [] ≡ hex_digit (get_or xs i 0 / 16) ∷ hex_digit (get_or xs i 0 % 16) ∷ [] = cc (c.digit.ensures, c.digit-in-octets.ensures) in
    let parts : hex (take i xs) ++ (c.digit.result ∷ c.digit-in-octets.result ∷ []) ≡ hex (take (i + 1) xs) =
    ap (λ (v : List ℕ). hex (take i xs) ++ v) pair ∙ hex_next xs i c.octets-test.true in
    subst (λ (text : List ℕ). Puts text c.args.self.now.held.items c.put.new.self.held.items (g.K.Sink.written c.args.sink.now) (g.K.Sink.written c.put.new.sink) (g.K.Sink.faults c.args.sink.now) (g.K.Sink.faults c.put.new.sink))
    parts (puts_then c.octets.invariant c.in_ok-put.ensures)
