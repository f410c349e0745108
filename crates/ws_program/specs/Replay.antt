-- What a replay did: the schedule that it read, and the report of the schedule's run that it wrote.
use Rattle.std.specs.Prelude.{◌≡◌, ◌≤◌, ◌<◌, ◌⊎◌, ◌≢◌, ⊤, ℕ, List, Option, Some, Bool, true, false, length}
use Rattle.std.specs.Io.KnownBytes.{Appends, Consumes, IsAtEnd}
use Rattle.ws_kinds.specs.ConfigValue.{ConfigValue}
use Rattle.ws_kinds.specs.Recorder.{RecorderState}
use Rattle.link_trait.specs.Link.{Rose, TellsAlike}
use Rattle.mem_net.specs.MemNet.{MemNetState, net_state}
use Rattle.mem_net.specs.Schedule.{is_sound}
use Rattle.link_trait.specs.declared.act.Act.{Act}
use Rattle.link_trait.specs.Sink.{AppendsFront}
use Rattle.bus_handler.specs.Bus.{routes_of_bus}
use Rattle.schedule_text.specs.declared.fault.Fault.{Fault}
use Rattle.schedule_text.specs.Reading.{IsText, IsRefused}
use Rattle.schedule_text.specs.Output.{WritesText}
use Rattle.hub_lines.specs.State.{HubState}
use Rattle.hub_lines.specs.Calls.{Settled}
use Rattle.run_kept.specs.Ends.{backlog_at}
use Rattle.run_meaning.specs.Replies.{AreReplies}
use Rattle.ws_program.specs.BusServer.{bus_server}
use Rattle.ws_program.specs.Replayed.{IsReport, IsRunOf, CountsItems}
use Rattle.ws_program.specs.declared.status.Status.{Status}
use Rattle.ws_program.specs.declared.status.Status.TheVariants.{Done, Usage, Refused, ReadFault, WriteFault, NetFault, OutOfMemory}
use Rattle.ws_program.specs.Streams.{Streams, TellsFaults}

-- the octets that came are the text of a schedule, and the others are the report of its run
pub record IsReportOfText (admits : List ℕ → Bool) (config : ConfigValue) (came text : List ℕ) : Type 0 where
  pub acts : List Act
  pub schedule : IsText came acts
  pub reports : IsReport admits config routes_of_bus acts text

-- In what follows, `left` and `left'` are what the source tells as left before and after, and `written` and `written'`
-- what the sink tells as written. `came` are the octets that were read.

-- the source was read to its end, and the report of the run of its schedule is written
abbrev pub ReplaysAll : (List ℕ → Bool) → ConfigValue → (left left' written written' : Option (List ℕ)) → Type 0
ReplaysAll admits config left left' written written' =
    (came : List ℕ) × (text : List ℕ) × Consumes left left' came × IsAtEnd left' × IsReportOfText admits config came text × Appends written written' text

-- the same, but that a front of the report is written
abbrev pub ReplaysFront : (List ℕ → Bool) → ConfigValue → (left left' written written' : Option (List ℕ)) → Type 0
ReplaysFront admits config left left' written written' =
    (came : List ℕ) × (text : List ℕ) × Consumes left left' came × IsAtEnd left' × IsReportOfText admits config came text × AppendsFront written written' text

-- the octets that were read are refused so
abbrev pub IsRefusal : ℕ → Fault → (left left' : Option (List ℕ)) → Type 0
IsRefusal line fault left left' = (came : List ℕ) × Consumes left left' came × IsRefused came line fault

-- unless a report is written, nothing is
abbrev pub WritesNothing : Status → (written written' : Option (List ℕ)) → Type 0
WritesNothing Done written written' = ⊤
WritesNothing WriteFault written written' = ⊤
WritesNothing status written written' = written' ≡ written

-- the answers to octets that break this rule first, in this line
abbrev pub RefusesAs : ℕ → Fault → Status → Type 0
RefusesAs line fault (Refused other rule) = (other ≡ line) × (rule ≡ fault)
RefusesAs line fault ReadFault = ⊤
RefusesAs line fault OutOfMemory = ⊤
RefusesAs line fault status = ⊥

-- the octets are not refused
abbrev pub IsTaken : Status → Type 0
IsTaken (Refused line fault) = ⊥
IsTaken status = ⊤

-- How a run of the command `replay` ends, by its status and by what source and sink told before it and after it. Later
-- clauses of the program cite this record alone.
pub record ReplayEnds (admits : List ℕ → Bool) (config : ConfigValue) (status : Status) (old new : Streams) : Type 0 where
  -- it is done where the source was read to its end, and the report of the run of its schedule is written
  pub done : status ≡ Done → ReplaysAll admits config old.left new.left old.written new.written
  -- before a fault of the sink a front of the report is written
  pub write_fault : status ≡ WriteFault → ReplaysFront admits config old.left new.left old.written new.written
  -- what is refused broke that rule first, in that line
  pub refused : (line : ℕ) (fault : Fault) → status ≡ Refused line fault → IsRefusal line fault old.left new.left
  -- with every other status nothing is written
  pub nothing : WritesNothing status old.written new.written
  -- the text of a schedule is not refused
  pub every_text : (octets : List ℕ) (acts : List Act) → old.left ≡ Some octets → IsText octets acts → IsTaken status
  -- and every other text is, unless the source had a fault or there was too little memory
  pub every_fault : (octets : List ℕ) (line : ℕ) (fault : Fault) → old.left ≡ Some octets → IsRefused octets line fault → RefusesAs line fault status
  -- the words were a command
  pub usage : status ≢ Usage
  -- and the net was one in memory, which does not fail to say what is next
  pub no_net : status ≢ NetFault
  -- a fault is told exactly where it was counted
  pub faults : TellsFaults status old new
  -- no count of faults falls
  pub source_later : old.read_faults ≤ new.read_faults
  pub sink_later : old.write_faults ≤ new.write_faults
  -- what told its octets goes on to tell them
  pub source_tells : TellsAlike old.left new.left
  pub sink_tells : TellsAlike old.written new.written

-- ---- step by step

-- a net in memory follows these acts, and they are no more than a text has octets
pub record CanRun (acts : List Act) : Type 0 where
  pub sound : is_sound acts ≡ true
  pub few : length acts ≤ 1048576

-- what there is after a run of these acts, and the hub counted the items of each connection that is not gone
pub record HasRun (admits : List ℕ → Bool) (config : ConfigValue) (acts : List Act) (hub : HubState) (net : MemNetState) (recorder : RecorderState) : Type 0 where
  pub settled : Settled hub
  pub is : IsRunOf admits config routes_of_bus acts recorder.notes net (backlog_at hub)
  pub counts : (replies : ℕ → List ℕ) → AreReplies routes_of_bus recorder.notes (net_state net).given replies → CountsItems (bus_server admits replies) recorder.notes hub

-- the source gave octets to its end, or more than a text has, without a fault
abbrev pub GivesAll : List ℕ → (left left' : Option (List ℕ)) → (faults faults' : ℕ) → Type 0
GivesAll octets left left' faults faults' = Consumes left left' octets × (IsAtEnd left' ⊎ (1048576 < length octets)) × (faults' ≡ faults)

-- a reading that ended before, for a fault that was counted, or without one for want of memory
abbrev pub StopsReading : Status → (faults faults' : ℕ) → Type 0
StopsReading ReadFault faults faults' = Rose faults faults'
StopsReading OutOfMemory faults faults' = faults' ≡ faults
StopsReading status faults faults' = ⊥

-- what becomes of a schedule: its run is reported, or a front of the report is written, or nothing
abbrev pub AnswersSchedule : (List ℕ → Bool) → ConfigValue → List Act → Status → (written written' : Option (List ℕ)) → (faults faults' : ℕ) → Type 0
AnswersSchedule admits config acts Done written written' faults faults' =
    (text : List ℕ) × IsReport admits config routes_of_bus acts text × WritesText text written written' faults faults' true
AnswersSchedule admits config acts WriteFault written written' faults faults' =
    (text : List ℕ) × IsReport admits config routes_of_bus acts text × WritesText text written written' faults faults' false
AnswersSchedule admits config acts OutOfMemory written written' faults faults' = (written' ≡ written) × (faults' ≡ faults)
AnswersSchedule admits config acts status written written' faults faults' = ⊥

-- what becomes of a text
abbrev pub AnswersText : (List ℕ → Bool) → ConfigValue → List ℕ → Status → (written written' : Option (List ℕ)) → (faults faults' : ℕ) → Type 0
AnswersText admits config octets (Refused line fault) written written' faults faults' = IsRefused octets line fault × (written' ≡ written) × (faults' ≡ faults)
AnswersText admits config octets OutOfMemory written written' faults faults' = (written' ≡ written) × (faults' ≡ faults)
AnswersText admits config octets status written written' faults faults' = (acts : List Act) × IsText octets acts × AnswersSchedule admits config acts status written written' faults faults'
