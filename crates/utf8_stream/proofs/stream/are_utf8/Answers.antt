use Rattle.utf8_stream.proofs.All.{◌≡◌, ℕ, List, ◌++◌, take, false, flat_map, true, refl, sym, ap, ◌∙◌, is_text_front, is_front, Text, Front, Bad, the_type, is_utf8-pieces}
use Rattle.utf8_stream.proofs.stream.are_utf8.Goals as goal
use denote.Enum.Bare.{sameb}

is_front-Bad : (text : Text) → sameb the_type text Bad ≡ true → is_front text ≡ false
is_front-Bad Front e = cc
is_front-Bad Bad e = refl

pub returns-then-eq : goal.returns-then-eq
returns-then-eq c =
    let before = flat_map (λ piece. piece.items) (take c.pieces.piece-index c.args.pieces.now) in
    sym (is_utf8-pieces (λ piece. piece.items) c.args.pieces.now c.pieces.piece-index c.piece-item.result c.pieces-test.true c.piece-item.is
    (ap (λ (s : List ℕ). is_text_front (before ++ s)) (sym c.deref.ensures.value)
    ∙ sym (c.push.ensures.text before c.pieces.invariant)
    ∙ is_front-Bad c.push.result (sym c.if-eq.ensures)))
