-- Where the reader of a schedule is.
use Rattle.std.specs.Prelude.{ℕ, List, Result, Ok, Err}
use Rattle.schedule_text.specs.declared.fault.ReadFault.{ReadFault}
use Rattle.schedule_text.specs.declared.reading.Reader.{Reader}
use Rattle.schedule_text.specs.Reading.{Begins, RefusesWell}
use Rattle.schedule_text.specs.Arrivals.{Follows}

-- it read the first line of octets and those of its acts
pub record IsAt (octets : List ℕ) (reader : Reader) : Type 0 where
  pub begins : Begins octets reader.schedule reader.cursor.rest.now
  pub follows : Follows reader.schedule reader.arrivals

-- it read one more line, or refused it
abbrev pub ReadsLine : List ℕ → Reader → Result (Unit {0}) ReadFault → Type 0
ReadsLine octets after (Ok _) = IsAt octets after
ReadsLine octets after (Err fault) = RefusesWell octets fault
