-- What an echo did: which octets it read of its source, and which it wrote to its sink, where these tell them.
use Rattle.std.specs.Prelude.{◌≡◌, ◌≢◌, ◌+◌, ◌≤◌, ◌⊎◌, ℕ, Bool, true, false, List, [], ◌++◌, length, Option, ⊤}
use Rattle.std.specs.List.{list_any}
use Rattle.std.specs.Io.KnownBytes.{Appends, Consumes, IsAtEnd}
use Rattle.link_trait.specs.Link.{Rose, TellsAlike}
use Rattle.link_trait.specs.Sink.{AppendsFront}
use Rattle.wire_meaning.specs.Event.{is_last}
use Rattle.wire_meaning.specs.Reading.{reading}
use Rattle.wire_meaning.specs.Answer.{echoed}
use Rattle.ws_program.specs.declared.status.Status.{Status}
use Rattle.schedule_text.specs.declared.fault.Fault.TheVariants.{TooLong}
use Rattle.ws_program.specs.declared.status.Status.TheVariants.{Done, Usage, Refused, ReadFault, WriteFault, NetFault, OutOfMemory}
use Rattle.ws_program.specs.Streams.{Streams, TellsFaults}

-- the most octets that are read, 64 MiB
abbrev pub max_input : ℕ
max_input = 67108864

-- the most octets of one read
abbrev pub max_read : ℕ
max_read = 8192

-- The reading of these octets has ended: it tells a close or a failure. By the law `nothing_follows` that is its last
-- event.
abbrev pub has_ended : ℕ → List ℕ → Bool
has_ended max octets = list_any is_last (reading max octets)

-- In what follows, `left` and `left'` are what the source tells as left before and after, and `written` and `written'`
-- what the sink tells as written. `came` are the octets that were read.

-- all octets that came are answered
abbrev pub EchoesAll : ℕ → (left left' written written' : Option (List ℕ)) → Type 0
EchoesAll max left left' written written' =
    (came : List ℕ) × Consumes left left' came × Appends written written' (echoed max came)

-- a front of the answers to the octets that came is written
abbrev pub EchoesFront : ℕ → (left left' written written' : Option (List ℕ)) → Type 0
EchoesFront max left left' written written' =
    (came : List ℕ) × Consumes left left' came × AppendsFront written written' (echoed max came)

-- All octets that came are answered, and no more came than may. The source is at its end, or the reading has ended.
abbrev pub EndsDone : ℕ → (left left' written written' : Option (List ℕ)) → Type 0
EndsDone max left left' written written' =
    (came : List ℕ) × Consumes left left' came × Appends written written' (echoed max came)
    × (length came ≤ max_input) × (IsAtEnd left' ⊎ (has_ended max came ≡ true))

-- As many octets came first as may be read, and then others. The first ones are answered, and their reading has not
-- ended.
abbrev pub EndsTooLong : ℕ → (left left' written written' : Option (List ℕ)) → Type 0
EndsTooLong max left left' written written' =
    (first : List ℕ) × (others : List ℕ) × Consumes left left' (first ++ others) × Appends written written' (echoed max first)
    × (length first ≡ max_input) × (has_ended max first ≡ false) × (others ≢ [])

-- Without at most the last 8,192 octets that came the reading had not ended: so of what stands behind its end no more came than
-- one read can give. Where a read ends no octets tell, so that it was one read is shown by a test. At most one octet is read
-- beyond the limit.
abbrev pub ReadsNoFurther : ℕ → (left left' : Option (List ℕ)) → Type 0
ReadsNoFurther max left left' =
    (before : List ℕ) × (last : List ℕ) × Consumes left left' (before ++ last) × (has_ended max before ≡ false) × (length last ≤ max_read)
    × (length before + length last ≤ max_input + 1)

-- only the input as a whole is refused, and as too long
abbrev pub RefusesTooLong : Status → Type 0
RefusesTooLong (Refused line fault) = (line ≡ 0) × (fault ≡ TooLong)
RefusesTooLong status = ⊤

-- How a run of the command `echo` ends whose messages have at most `max` octets, by its status and by what source and sink
-- told before it and after it. Later clauses of the program cite this record alone.
pub record EchoEnds (max : ℕ) (status : Status) (old new : Streams) : Type 0 where
  -- it is done where all octets that came are answered, and the source is at its end or the reading has ended
  pub done : status ≡ Done → EndsDone max old.left new.left old.written new.written
  -- the input is refused as too long where 64 MiB came and then others, and only those 64 MiB are answered
  pub too_long : status ≡ Refused 0 TooLong → EndsTooLong max old.left new.left old.written new.written
  -- nothing else is refused
  pub refused : RefusesTooLong status
  -- before a fault of the source all octets that came are answered
  pub read_fault : status ≡ ReadFault → EchoesAll max old.left new.left old.written new.written
  -- before a fault of the sink a front of the answers is written
  pub write_fault : status ≡ WriteFault → EchoesFront max old.left new.left old.written new.written
  -- without memory nothing is read
  pub memory_reads_nothing : status ≡ OutOfMemory → new.left ≡ old.left
  -- nor written
  pub memory_writes_nothing : status ≡ OutOfMemory → new.written ≡ old.written
  -- the words were a command
  pub usage : status ≢ Usage
  -- and no net was asked
  pub no_net : status ≢ NetFault
  -- with every status, no more is read behind the end of the reading than one read gives, nor more than one octet beyond the limit
  pub no_further : ReadsNoFurther max old.left new.left
  -- a fault is told exactly where it was counted
  pub faults : TellsFaults status old new
  -- no count of faults falls
  pub source_later : old.read_faults ≤ new.read_faults
  pub sink_later : old.write_faults ≤ new.write_faults
  -- what told its octets goes on to tell them
  pub source_tells : TellsAlike old.left new.left
  pub sink_tells : TellsAlike old.written new.written

-- ---- step by step

-- how an echo ends by what one more read gave
abbrev pub EndsPast : Status → (left left' : Option (List ℕ)) → (faults faults' : ℕ) → Type 0
EndsPast Done left left' faults faults' = (left' ≡ left) × IsAtEnd left' × (faults' ≡ faults)
EndsPast (Refused line fault) left left' faults faults' =
    (others : List ℕ) × Consumes left left' others × (others ≢ []) × (length others ≤ 1) × (line ≡ 0) × (fault ≡ TooLong) × (faults' ≡ faults)
EndsPast ReadFault left left' faults faults' = (left' ≡ left) × Rose faults faults'
EndsPast status left left' faults faults' = ⊥
