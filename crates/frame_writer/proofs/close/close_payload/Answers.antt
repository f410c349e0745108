use Rattle.std.proofs.Common.{◌≡◌, rules, arith, ◌∙◌, ap}
use Rattle.wire_meaning.specs.Event.{closing}
use Rattle.wire_meaning.proofs.SentLemmas.{closing-back}
use Rattle.frame_writer.specs.Close.{close_octets}
use Rattle.frame_writer.proofs.close.close_payload.Goals as goal

-- the payload is the code and the reason, and what these say is a law of `closing`
pub returns-clause-said : goal.returns-clause-said
returns-clause-said c =
    let written : c.try_extend_from_slice-2.new.self.items ≡ close_octets c.args.code c.args.reason.now = search rules in
    ap closing written ∙ closing-back c.args.code c.args.reason.now (omega arith) c.requires.code c.requires.text
