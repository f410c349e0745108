use Rattle.upgrade_head.proofs.Below.{◌≡◌, length, has_element, fields_seen}
use Rattle.upgrade_head.proofs.field.Fields.has_element.Given as goal

abbrev pub invariant-fields : goal.invariant-fields
invariant-fields l = has_element l.letters l.name l.word (fields_seen l.self) ≡ has_element l.letters l.name l.word (fields_seen l.rest)

abbrev pub decreases-fields : goal.decreases-fields
decreases-fields l = length l.rest.spans.now
