use Rattle.upgrade_head.proofs.Below.{◌≡◌, length, has_value, fields_seen}
use Rattle.upgrade_head.proofs.field.Fields.has_value.Given as goal

abbrev pub invariant-fields : goal.invariant-fields
invariant-fields l = has_value l.name l.wanted (fields_seen l.self) ≡ has_value l.name l.wanted (fields_seen l.rest)

abbrev pub decreases-fields : goal.decreases-fields
decreases-fields l = length l.rest.spans.now
