-- What `read` answers.
use Rattle.std.specs.Prelude.{◌≡◌, ◌≢◌, ◌≤◌, ◌<◌, ◌+◌, ◌++◌, ℕ, List, Option, Some, None, Result, Ok, Err, true, length, not, if◌then◌else◌, ◌⊎◌, ⊤}
use Rattle.std.specs.List.{AllByRecursion}
use Rattle.mem_net.specs.Schedule.{is_sound, is_rising, has_arrived, has_ended}
use Rattle.link_trait.specs.declared.act.Act.{Act}
use Rattle.link_trait.specs.declared.act.Act.TheVariants as act
use Rattle.schedule_text.specs.declared.fault.Fault.{Fault}
use Rattle.schedule_text.specs.declared.fault.Fault.TheVariants as fault
use Rattle.schedule_text.specs.declared.fault.ReadFault.{ReadFault}
use Rattle.schedule_text.specs.declared.fault.ReadFault.TheVariants as read
use Rattle.schedule_text.specs.Spelling.{spelled, header, schedule_text, HasLine}

-- the rule that the arrival of conn breaks, after these acts
abbrev pub rising_fault : List Act → ℕ → Option Fault
rising_fault acts conn = if is_rising acts conn then None else Some fault.NotRising

-- the rule that an act breaks which names conn, after these acts
abbrev pub naming_fault : List Act → ℕ → Option Fault
naming_fault acts conn = if has_arrived acts conn then None else Some fault.UnknownConn

-- the first rule that an act breaks which sends for conn, after these acts
abbrev pub sending_fault : List Act → ℕ → Option Fault
sending_fault acts conn =
    if not (has_arrived acts conn) then Some fault.UnknownConn
    else if has_ended acts conn then Some fault.AfterEnd
    else None

-- the first rule that an act breaks after these acts
abbrev pub fault_after : List Act → Act → Option Fault
fault_after acts (act.Arrive conn credit) = rising_fault acts conn.0
fault_after acts (act.Octets conn octets) = sending_fault acts conn.0
fault_after acts (act.End conn) = sending_fault acts conn.0
fault_after acts (act.ReadFails conn) = sending_fault acts conn.0
fault_after acts (act.Room conn more) = naming_fault acts conn.0
fault_after acts (act.WriteFails conn) = naming_fault acts conn.0
fault_after acts act.Tick = None
fault_after acts act.Turn = None

-- The line at the front of octets, which follow the lines of acts, breaks a rule, and this one first. It is a bad line where
-- octets do not begin with the line of any act.
abbrev pub Breaks : List Act → List ℕ → Fault → Type 0
Breaks acts octets fault.TooLong = ⊥
Breaks acts octets fault.BadHeader = ⊥
Breaks acts octets fault.BadLine = (0 < length octets) × ((act : Act) (rest : List ℕ) → HasLine act → octets ≢ spelled act ++ rest)
Breaks acts octets other = (act : Act) × (rest : List ℕ) × HasLine act × (octets ≡ spelled act ++ rest) × (fault_after acts act ≡ Some other)

-- octets are the text of a schedule with these acts: the text is not too long, each act has a line, and no act breaks a rule
pub record IsText (octets : List ℕ) (acts : List Act) : Type 0 where
  pub short : length octets ≤ 1048576
  pub text : octets ≡ schedule_text acts
  pub lines : AllByRecursion HasLine acts
  pub sound : is_sound acts ≡ true

-- the text of these acts is the text of a schedule with these acts, where it is not too long
abbrev pub IsReadAgain : List Act → Type 0
IsReadAgain acts = length (schedule_text acts) ≤ 1048576 → IsText (schedule_text acts) acts

-- octets that are not too long begin with the text of such a schedule, and the rest follows
pub record Begins (octets : List ℕ) (acts : List Act) (rest : List ℕ) : Type 0 where
  pub short : length octets ≤ 1048576
  pub text : octets ≡ schedule_text acts ++ rest
  pub lines : AllByRecursion HasLine acts
  pub sound : is_sound acts ≡ true

-- This line is the first that breaks a rule, and this is the first rule that it breaks. Lines are counted from 1, so the line
-- of the first act is the second.
abbrev pub IsRefused : List ℕ → ℕ → Fault → Type 0
IsRefused octets line fault.TooLong = (line ≡ 0) × (1048576 < length octets)
IsRefused octets line fault.BadHeader = (line ≡ 1) × (length octets ≤ 1048576) × ((rest : List ℕ) → octets ≢ header ++ rest)
IsRefused octets line other = (acts : List Act) × (rest : List ℕ) × (line ≡ length acts + 2) × Begins octets acts rest × Breaks acts rest other

-- an answer that is this one, unless memory ran out
abbrev pub IsUnlessMemory : Result (List Act) ReadFault → Result (List Act) ReadFault → Type 0
IsUnlessMemory expected result = (result ≡ expected) ⊎ (result ≡ Err read.Memory)

-- a refusal names the first line that breaks a rule, and the first rule that it breaks
abbrev pub RefusesWell : List ℕ → ReadFault → Type 0
RefusesWell octets (read.Refused line fault) = IsRefused octets line fault
RefusesWell octets read.Memory = ⊤

-- an answer to these octets
abbrev pub IsReading : List ℕ → Result (List Act) ReadFault → Type 0
IsReading octets (Ok acts) = IsText octets acts
IsReading octets (Err fault) = RefusesWell octets fault
