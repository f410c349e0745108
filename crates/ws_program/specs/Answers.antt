-- What is done with the answers to events, step by step.
use Rattle.std.specs.Prelude.{◌≡◌, ◌<◌, ◌≤◌, ℕ, true, false, List, [], ◌∷◌, ◌++◌, length, flat_map, Option}
use Rattle.std.specs.List.{list_any}
use Rattle.std.specs.Io.KnownBytes.{Appends}
use Rattle.link_trait.specs.Link.{Rose}
use Rattle.link_trait.specs.Sink.{AppendsFront}
use Rattle.wire_meaning.specs.Event.{Event, is_last}
use Rattle.wire_meaning.specs.Answer.{all_spelled, answers}
use Rattle.frame_reader.specs.declared.step.Step.{Step}
use Rattle.frame_reader.specs.declared.reader.Reader.{Reader}
use Rattle.frame_reader.specs.Reader.{ahead, raw_of, has_ended}
use Rattle.frame_reader.specs.Step as steps
use Rattle.ws_program.specs.declared.answers.Answered.{Answered}
use Rattle.ws_program.specs.declared.answers.Answered.TheVariants as answered

-- the octets that answer these events
abbrev pub answers_to : List Event → List ℕ
answers_to events = all_spelled (flat_map answers events)

-- More octets were put behind those held. Of them all a front was written, and the rest is held.
abbrev pub Passes : (written written' : Option (List ℕ)) → (held held' more : List ℕ) → Type 0
Passes written written' held held' more = (sent : List ℕ) × Appends written written' sent × (held ++ more ≡ sent ++ held')

-- a fault is counted exactly where it is told
abbrev pub CountsFaults : Answered → ℕ → ℕ → Type 0
CountsFaults answered.Failed old new = Rose old new
CountsFaults other old new = new ≡ old

-- More octets were put behind those held, and the answer is `good`; or the sink had a fault.
abbrev pub Puts : Answered → (good : Answered) → (written written' : Option (List ℕ)) → (held held' more : List ℕ) → Type 0
Puts answered.Failed good written written' held held' more = AppendsFront written written' (held ++ more)
Puts result good written written' held held' more = (result ≡ good) × Passes written written' held held' more

-- what becomes of one step
abbrev pub AnswersStep : Answered → Step → (written written' : Option (List ℕ)) → (held held' : List ℕ) → Type 0
AnswersStep answered.One step written written' held held' =
    (steps.is_last step ≡ false) × (steps.IsMore step → ⊥) × Passes written written' held held' (answers_to (steps.events_of step))
AnswersStep answered.All step written written' held held' = steps.IsMore step × (written' ≡ written) × (held' ≡ held)
AnswersStep answered.Closed step written written' held held' =
    (steps.is_last step ≡ true) × Passes written written' held held' (answers_to (steps.events_of step))
AnswersStep answered.Failed step written written' held held' = AppendsFront written written' (held ++ answers_to (steps.events_of step))

-- these events were told of the reader, whatever comes, and answered
pub record Answers (old new : Reader) (events : List Event) (written written' : Option (List ℕ)) (held held' : List ℕ) : Type 0 where
  pub tells : (more : List ℕ) → ahead old more ≡ events ++ ahead new more
  pub passes : Passes written written' held held' (answers_to events)

-- no close or failure was among the events, and there is room for the next read
pub record GoesOn (old new : Reader) (events : List Event) : Type 0 where
  pub none_last : list_any is_last events ≡ false
  pub goes_on : has_ended old ≡ false → has_ended new ≡ false

-- what becomes of all events that are ahead of a reader, up to a close or a failure
abbrev pub AnswersAll : Answered → (old new : Reader) → (written written' : Option (List ℕ)) → (held held' : List ℕ) → Type 0
AnswersAll answered.One old new written written' held held' = ⊥
AnswersAll answered.All old new written written' held held' =
    (events : List Event) × Answers old new events written written' held held' × GoesOn old new events
    × (ahead new [] ≡ []) × (has_ended old ≡ false → length (raw_of new) ≤ 130)
AnswersAll answered.Closed old new written written' held held' =
    (events : List Event) × Answers old new events written written' held held' × (list_any is_last events ≡ true)
AnswersAll answered.Failed old new written written' held held' = AppendsFront written written' (held ++ answers_to (ahead old []))

-- what becomes of the next event: it is not the last one, and fewer are ahead then; or there was none, or it is the last
abbrev pub AnswersNext : Answered → (old new : Reader) → (written written' : Option (List ℕ)) → (held held' : List ℕ) → Type 0
AnswersNext answered.One old new written written' held held' =
    (event : Event) × Answers old new (event ∷ []) written written' held held' × GoesOn old new (event ∷ [])
    × (length (ahead new []) < length (ahead old []))
AnswersNext result old new written written' held held' = AnswersAll result old new written written' held held'

-- what becomes of octets that came: all that they tell was answered and written, up to a close or a failure, or a front of
-- the answers was written
abbrev pub AnswersOctets : Answered → (old : Reader) → (octets : List ℕ) → (new : Reader) → (written written' : Option (List ℕ)) → Type 0
AnswersOctets answered.One old octets new written written' = ⊥
AnswersOctets answered.All old octets new written written' =
    (events : List Event) × ((more : List ℕ) → ahead old (octets ++ more) ≡ events ++ ahead new more)
    × Appends written written' (answers_to events) × (list_any is_last events ≡ false)
    × (ahead new [] ≡ []) × (has_ended old ≡ false → has_ended new ≡ false) × (has_ended old ≡ false → length (raw_of new) ≤ 130)
AnswersOctets answered.Closed old octets new written written' =
    (events : List Event) × ((more : List ℕ) → ahead old (octets ++ more) ≡ events ++ ahead new more)
    × Appends written written' (answers_to events) × (list_any is_last events ≡ true)
AnswersOctets answered.Failed old octets new written written' = AppendsFront written written' (answers_to (ahead old octets))
