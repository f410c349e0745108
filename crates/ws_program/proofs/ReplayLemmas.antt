-- What was read of a text can be run.
use Rattle.ws_program.proofs.Below.{◌≡◌, ◌≤◌, ◌<◌, ◌+◌, ◌++◌, ℕ, List, [], ◌∷◌, Some, None, Bool, length, ◌⊎◌, inl, inr, Option, append-nil, subst, ap, ◌∙◌, arith, rules, flat_map, length-append, Act, header, IsText, IsRefused, Fault, Consumes, IsAtEnd, ConfigValue, TellsAlike, Status, Done, Usage, Refused, ReadFault, WriteFault, NetFault, OutOfMemory, CanRun, AnswersText, IsTaken, RefusesAs, ReplaysAll, ReplaysFront, IsRefusal, ReplayEnds, Streams, spelled_some}
use Rattle.ws_program.proofs.Below.{refl, HubState, MemNetState, net_state, RecorderState, routes_of_bus, HasRun, IsReport, links_of, backlog_at, report}
use Rattle.schedule_text.specs.Spelling.{spelled}
use Rattle.schedule_text.specs.declared.fault.Fault.TheVariants as fault
use Rattle.ws_program.proofs.PassLemmas.{tells_alike_unmoved}

-- so there are no more acts than octets
few_acts : (acts : List Act) → length acts ≤ length (flat_map spelled acts)
few_acts [] = omega arith
few_acts (act ∷ acts) = omega (arith, spelled_some act, few_acts acts, length-append (spelled act) (flat_map spelled acts))

pub can_run : (octets : List ℕ) (acts : List Act) → IsText octets acts → CanRun acts
can_run octets acts text = record {
  sound = text.sound;
  few = omega (arith, few_acts acts, text.short, ap length text.text, length-append header (flat_map spelled acts));
}

long_all : (octets rest all : List ℕ) → all ≡ octets ++ rest → 1048576 < length octets → 1048576 < length all
long_all octets rest all is long = let count : length all ≡ length octets + length rest = ap length is ∙ length-append octets rest in omega arith

too_long : (all : List ℕ) → 1048576 < length all → length all ≤ 1048576 → ⊥
too_long all long short = absurd (omega arith)

-- what was read is refused as all that there is, also where it is too long to be read whole
fault_of_long : (octets all : List ℕ) (line : ℕ) (fault : Fault) → 1048576 < length octets → 1048576 < length all → IsRefused all line fault → IsRefused octets line fault
fault_of_long octets all line fault.TooLong long more refused = (refused.0, long)
fault_of_long octets all line fault.BadHeader long more refused = absurd (too_long all more refused.1)
fault_of_long octets all line fault.BadLine long more (acts, rest, is, begins, breaks) = absurd (too_long all more begins.short)
fault_of_long octets all line fault.NotRising long more (acts, rest, is, begins, breaks) = absurd (too_long all more begins.short)
fault_of_long octets all line fault.UnknownConn long more (acts, rest, is, begins, breaks) = absurd (too_long all more begins.short)
fault_of_long octets all line fault.AfterEnd long more (acts, rest, is, begins, breaks) = absurd (too_long all more begins.short)

fault_of_rest : (octets rest all : List ℕ) (line : ℕ) (fault : Fault) → all ≡ octets ++ rest → (rest ≡ []) ⊎ (1048576 < length octets) → IsRefused all line fault → IsRefused octets line fault
fault_of_rest octets rest all line fault is (inl none) refused =
    let same : all ≡ octets = is ∙ ap (λ (l : List ℕ). octets ++ l) none ∙ append-nil octets in
    subst (λ (l : List ℕ). IsRefused l line fault) same refused
fault_of_rest octets rest all line fault is (inr long) refused = fault_of_long octets all line fault long (long_all octets rest all is long) refused

pub fault_of_all : (octets all : List ℕ) (left' : Option (List ℕ)) (line : ℕ) (fault : Fault) → Consumes (Some all) left' octets → IsAtEnd left' ⊎ (1048576 < length octets)
    → IsRefused all line fault → IsRefused octets line fault
fault_of_all octets all None line fault took ends refused = absurd took
fault_of_all octets all (Some rest) line fault took ends refused = fault_of_rest octets rest all line fault took ends refused

-- what was read is the text of a schedule where all that there is is one
text_of_rest : (octets rest all : List ℕ) (acts : List Act) → all ≡ octets ++ rest → (rest ≡ []) ⊎ (1048576 < length octets) → IsText all acts → IsText octets acts
text_of_rest octets rest all acts is (inl none) text =
    let same : all ≡ octets = is ∙ ap (λ (l : List ℕ). octets ++ l) none ∙ append-nil octets in
    subst (λ (l : List ℕ). IsText l acts) same text
text_of_rest octets rest all acts is (inr long) text = absurd (too_long all (long_all octets rest all is long) text.short)

pub text_of_all : (octets all : List ℕ) (left' : Option (List ℕ)) (acts : List Act) → Consumes (Some all) left' octets → IsAtEnd left' ⊎ (1048576 < length octets) → IsText all acts
    → IsText octets acts
text_of_all octets all None acts took ends text = absurd took
text_of_all octets all (Some rest) acts took ends text = text_of_rest octets rest all acts took ends text

-- ---- how a run ends whose text was read

at_end : (octets : List ℕ) (acts : List Act) (left' : Option (List ℕ)) → IsText octets acts → IsAtEnd left' ⊎ (1048576 < length octets) → IsAtEnd left'
at_end octets acts left' text (inl end) = end
at_end octets acts left' text (inr long) = absurd (too_long octets long text.short)

module _ (admits : List ℕ → Bool) (config : ConfigValue) (octets : List ℕ) (old new : Streams) (took : Consumes old.left new.left octets) (ends : IsAtEnd new.left ⊎ (1048576 < length octets))
    (unfailing : new.read_faults ≡ old.read_faults) (source_tells : TellsAlike old.left new.left) where
  pub text_ends : (status : Status) → AnswersText admits config octets status old.written new.written old.write_faults new.write_faults
      → ((all : List ℕ) (acts : List Act) → old.left ≡ Some all → IsText all acts → IsTaken status)
      → ((all : List ℕ) (line : ℕ) (fault : Fault) → old.left ≡ Some all → IsRefused all line fault → RefusesAs line fault status) → ReplayEnds admits config status old new
  text_ends Done (acts, schedule, (text, reports, (wrote, alike, same))) every_text every_fault =
      let all : ReplaysAll admits config old.left new.left old.written new.written =
      (octets, text, took, at_end octets acts new.left schedule ends, record { acts = acts; schedule = schedule; reports = reports }, wrote) in
      search rules
  text_ends WriteFault (acts, schedule, (text, reports, fails)) every_text every_fault =
      let front : ReplaysFront admits config old.left new.left old.written new.written =
      (octets, text, took, at_end octets acts new.left schedule ends, record { acts = acts; schedule = schedule; reports = reports }, fails.written) in
      search rules
  text_ends (Refused line fault) (refused, unwritten, same) every_text every_fault =
      let refusal : IsRefusal line fault old.left new.left = (octets, took, refused) in
      let alike = tells_alike_unmoved old.written new.written unwritten in
      search rules
  text_ends OutOfMemory (unwritten, same) every_text every_fault =
      let alike = tells_alike_unmoved old.written new.written unwritten in
      search rules
  text_ends Usage (acts, schedule, never) every_text every_fault = absurd never
  text_ends ReadFault (acts, schedule, never) every_text every_fault = absurd never
  text_ends NetFault (acts, schedule, never) every_text every_fault = absurd never

-- ---- the report of a run

-- what can be written of a run is its report
pub reported : {admits : List ℕ → Bool} {config : ConfigValue} {acts : List Act} {hub : HubState} {net : MemNetState} {recorder : RecorderState} → HasRun admits config acts hub net recorder
    → IsReport admits config routes_of_bus acts (report recorder.notes (links_of (backlog_at hub) (net_state net).taken recorder.notes))
reported {hub = hub} {net = net} {recorder = recorder} has = record { notes = recorder.notes; net = net; held = backlog_at hub; text = refl; tells = has.is }
