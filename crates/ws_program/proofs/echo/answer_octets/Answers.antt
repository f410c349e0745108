use Rattle.ws_program.proofs.EventLemmas.{octets_fault}
use Rattle.ws_program.proofs.echo.answer_octets.Goals as goal
use Rattle.ws_program.proofs.echo.answer_octets.Goals.{in-Failed, in_default}

pub returns-then-not-write_to-clause-octets : goal.returns-then-not-write_to-clause-octets
returns-then-not-write_to-clause-octets g c =
    elim c.match-matches.branch [
      | in-Failed w ↦ let h = w.in-Failed.is in let k = w.matches-is in let l = c.if-matches.false in absurd cc
      | in_default w ↦
          octets_fault c.answer_events-answered.result c.args.reader.now c.feed.new.self c.answer_events-answered.new.reader c.args.octets.now _ _ _ _ _
          w.in_default.not-Failed c.requires.empty c.feed.ensures.ahead c.answer_events-answered.ensures.all (c.write_to.ensures.front c.if-not-write_to.true)
    ]
