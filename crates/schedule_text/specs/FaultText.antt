-- What is said of a rule that is broken.
use Rattle.std.specs.Prelude.{ℕ, List, codes}
use Rattle.schedule_text.specs.declared.fault.Fault.{Fault}
use Rattle.schedule_text.specs.declared.fault.Fault.TheVariants as fault

abbrev pub fault_text : Fault → List ℕ
fault_text fault.TooLong = codes "too long"
fault_text fault.BadHeader = codes "bad header"
fault_text fault.BadLine = codes "bad line"
fault_text fault.NotRising = codes "number not rising"
fault_text fault.UnknownConn = codes "unknown connection"
fault_text fault.AfterEnd = codes "after end"
