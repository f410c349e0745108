-- A Closed event that is due, as a value.
use Rattle.hub_lines.specs.State.{PartingValue}
use Rattle.hub_table.specs.declared.parting.Parting.{Parting}

abbrev pub parting_value : Parting → PartingValue
parting_value parting = record { conn = parting.conn.0; code = parting.code; reason = parting.reason.items }
