use Rattle.utf8_stream.proofs.Below.{take, flat_map, Follows}
use Rattle.utf8_stream.proofs.stream.are_utf8.Given as goal

abbrev pub invariant-pieces : goal.invariant-pieces
invariant-pieces l = Follows l.utf8 (flat_map (λ piece. piece.items) (take l.piece-index l.pieces))
