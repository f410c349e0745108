use Rattle.ws_program.proofs.PassLemmas.{front_of_more}
use Rattle.ws_program.proofs.answers.Answers.put.Goals as goal

pub returns-then-not-make_room-clause-front : goal.returns-then-not-make_room-clause-front
returns-then-not-make_room-clause-front g c = λ failed. front_of_more _ _ c.args.self.now _ (c.make_room.ensures.front c.if-not-make_room.true)
