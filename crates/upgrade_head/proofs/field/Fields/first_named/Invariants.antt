use Rattle.upgrade_head.proofs.Below.{◌≡◌, ◌≤◌, length, map, All, IsHeaderWithin, header_bytes, values_of, fields_seen}
use Rattle.upgrade_head.proofs.field.Fields.first_named.Given as goal

abbrev pub invariant-fields : goal.invariant-fields
invariant-fields l = record {
  within : All (IsHeaderWithin (length l.self.head.now)) l.rest;
  same : values_of l.name (fields_seen l.self) ≡ values_of l.name (map (header_bytes l.self.head.now) l.rest);
  fewer : length l.rest ≤ length l.self.spans.now;
}

abbrev pub decreases-fields : goal.decreases-fields
decreases-fields l = length l.rest
