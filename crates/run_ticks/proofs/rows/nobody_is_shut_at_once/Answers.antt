use Rattle.run_ticks.proofs.Below.{◌≡◌, [], ◌∷◌, true, false, refl, Idle}
use Rattle.ws_kinds.specs.NoteValue as note
use Rattle.run_ticks.proofs.rows.nobody_is_shut_at_once.Goals as goal

pub returns-clause-arrival : goal.returns-clause-arrival
returns-clause-arrival c = λ t. absurd (let z : false ≡ true = t.inside (note.accepted 1 ∷ []) (note.turn ∷ []) (note.gone 1 Idle) 1 refl refl in cc)

pub returns-clause-tick : goal.returns-clause-tick
returns-clause-tick c = λ t. absurd (let z : true ≡ false = (t.right (note.accepted 1 ∷ []) (note.gone 1 Idle ∷ note.turn ∷ []) 1 refl).ends refl refl in cc)
