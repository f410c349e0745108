use Rattle.upgrade_head.proofs.All.{rules, codes, three_unless}
use Rattle.upgrade_head.proofs.texts.put_protocol.Goals as goal

pub returns-then-not-is_empty-clause-line : goal.returns-then-not-is_empty-clause-line
returns-then-not-is_empty-clause-line c =
    three_unless _ _ (codes "Sec-WebSocket-Protocol: ") _ (codes "\r\n") _ _ _ (search rules) c.put.ensures c.put-then-not-is_empty.ensures c.put-then-not-is_empty-2.ensures
