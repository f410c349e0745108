-- What becomes of one step.
use Rattle.ws_program.proofs.Below.{◌≡◌, ℕ, true, false, List, ◌++◌, Option, refl, sym, subst, append-nil, Bor, AppendsFront, Kind, Begins, Pong, frame, spelled, close_item, Step, events_of, IsMore, Answered, Passes, Puts, AnswersStep, answers_to}
use Rattle.frame_reader.specs.declared.step.Step.TheVariants as step
use Rattle.frame_reader.specs.Step.{is_last}
use Rattle.ws_program.specs.declared.answers.Answered.TheVariants as answered

-- an event that is not the last one, and its answer
pub puts_event : (result : Answered) (s : Step) (written written' : Option (List ℕ)) (held held' more : List ℕ)
    → is_last s ≡ false → (IsMore s → ⊥) → answers_to (events_of s) ≡ more
    → Puts result answered.One written written' held held' more → AnswersStep result s written written' held held'
puts_event answered.One s w w' held held' more goes some is (e, passes) = (goes, some, subst (Passes w w' held held') (sym is) passes)
puts_event answered.All s w w' held held' more goes some is (e, passes) = absurd cc
puts_event answered.Closed s w w' held held' more goes some is (e, passes) = absurd cc
puts_event answered.Failed s w w' held held' more goes some is front = subst (λ (l : List ℕ). AppendsFront w w' (held ++ l)) (sym is) front

-- the last event, and its answer
pub puts_last : (result : Answered) (s : Step) (written written' : Option (List ℕ)) (held held' more : List ℕ)
    → is_last s ≡ true → answers_to (events_of s) ≡ more
    → Puts result answered.Closed written written' held held' more → AnswersStep result s written written' held held'
puts_last answered.One s w w' held held' more last is (e, passes) = absurd cc
puts_last answered.All s w w' held held' more last is (e, passes) = absurd cc
puts_last answered.Closed s w w' held held' more last is (e, passes) = (last, subst (Passes w w' held held') (sym is) passes)
puts_last answered.Failed s w w' held held' more last is front = subst (λ (l : List ℕ). AppendsFront w w' (held ++ l)) (sym is) front

pub message_step : (result : Answered) (s : Step) (written written' : Option (List ℕ)) (held held' : List ℕ) (kind : Kind) (octets : Bor (List ℕ))
    → s ≡ step.Message kind octets
    → Puts result answered.One written written' held held' (frame true (Begins kind) octets.now) → AnswersStep result s written written' held held'
message_step result s w w' held held' kind octets is puts =
    subst (λ (t : Step). AnswersStep result t w w' held held') (sym is)
    (puts_event result (step.Message kind octets) w w' held held' (frame true (Begins kind) octets.now) refl (λ h. h)
    (append-nil (frame true (Begins kind) octets.now)) puts)

pub ping_step : (result : Answered) (s : Step) (written written' : Option (List ℕ)) (held held' : List ℕ) (payload : Bor (List ℕ))
    → s ≡ step.Ping payload
    → Puts result answered.One written written' held held' (frame true Pong payload.now) → AnswersStep result s written written' held held'
ping_step result s w w' held held' payload is puts =
    subst (λ (t : Step). AnswersStep result t w w' held held') (sym is)
    (puts_event result (step.Ping payload) w w' held held' (frame true Pong payload.now) refl (λ h. h)
    (append-nil (frame true Pong payload.now)) puts)

pub close_step : (result : Answered) (s : Step) (written written' : Option (List ℕ)) (held held' : List ℕ) (code : ℕ) (reason : Bor (List ℕ))
    → s ≡ step.Close code reason
    → Puts result answered.Closed written written' held held' (spelled (close_item code)) → AnswersStep result s written written' held held'
close_step result s w w' held held' code reason is puts =
    subst (λ (t : Step). AnswersStep result t w w' held held') (sym is)
    (puts_last result (step.Close code reason) w w' held held' (spelled (close_item code)) refl (append-nil (spelled (close_item code))) puts)

pub failed_step : (result : Answered) (s : Step) (written written' : Option (List ℕ)) (held held' : List ℕ) (code : ℕ)
    → s ≡ step.Failed code
    → Puts result answered.Closed written written' held held' (spelled (close_item code)) → AnswersStep result s written written' held held'
failed_step result s w w' held held' code is puts =
    subst (λ (t : Step). AnswersStep result t w w' held held') (sym is)
    (puts_last result (step.Failed code) w w' held held' (spelled (close_item code)) refl (append-nil (spelled (close_item code))) puts)
