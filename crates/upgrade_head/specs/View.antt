-- What the contracts see of the crate's types.
use Rattle.std.specs.Prelude.{map}
use Rattle.httparse.specs.Spans.{header_bytes}
use Rattle.upgrade_head.specs.Field.{FieldList}
use Rattle.upgrade_head.specs.Judged.{Verdict, more, admit, refuse}
use Rattle.upgrade_head.specs.declared.field.Fields.{Fields}
use Rattle.upgrade_head.specs.declared.judging.Head.{Head}
use Rattle.upgrade_head.specs.declared.judging.Head.TheVariants.{More, Admit, Refuse}

-- the names and values of the fields
abbrev pub fields_seen : Fields → FieldList
fields_seen fields = map (header_bytes fields.head.now) fields.spans.now

-- the verdict that is answered
abbrev pub verdict_of : Head → Verdict
verdict_of More = more
verdict_of (Admit end route param accept protocol) = admit end route param.now accept protocol
verdict_of (Refuse status) = refuse status
