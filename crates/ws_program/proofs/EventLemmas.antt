-- Events that are told of a reader, and their answers.
use Rattle.ws_program.proofs.Below.{◌||◌, list_any, ◌≡◌, ℕ, suc, true, false, List, [], ◌∷◌, ◌++◌, length, Option, refl, sym, ap, subst, ◌∙◌, append_assoc, append-nil, arith, flat_map-append, list_any-append, AppendsFront, Event, is_last, spelled, answers, Step, Reader, ahead, events_of, HasStepped, Answered, AreShort, Passes, Answers, GoesOn, AnswersStep, AnswersNext, AnswersAll, answers_to, or_false}
use Rattle.std.proofs.Common.{flat_map}
use Rattle.wire_meaning.specs.Event as event
use Rattle.frame_reader.specs.declared.step.Step.TheVariants as step
use Rattle.frame_reader.specs.Reader.{has_ended}
use Rattle.frame_reader.specs.Step as steps
use Rattle.ws_program.specs.declared.answers.Answered.TheVariants as answered
use Rattle.ws_program.proofs.PassLemmas.{passes_nothing, passes_then, front_of_more, front_behind}

pub answers_to-append : (xs ys : List Event) → answers_to (xs ++ ys) ≡ answers_to xs ++ answers_to ys
answers_to-append xs ys = ap (flat_map spelled) (flat_map-append answers xs ys) ∙ flat_map-append spelled (flat_map answers xs) (flat_map answers ys)

-- ---- short events

pub short_rest : (most : ℕ) (xs ys : List Event) → AreShort most (xs ++ ys) → AreShort most ys
short_rest most [] ys h = h
short_rest most (x ∷ xs) ys (h, t) = short_rest most xs ys t

-- ---- one after another

pub none_of_both : (xs ys : List Event) → list_any is_last xs ≡ false → list_any is_last ys ≡ false → list_any is_last (xs ++ ys) ≡ false
none_of_both xs ys p q = list_any-append is_last xs ys ∙ ap (λ b. b || list_any is_last ys) p ∙ q

pub some_of_both : (xs ys : List Event) → list_any is_last xs ≡ false → list_any is_last ys ≡ true → list_any is_last (xs ++ ys) ≡ true
some_of_both xs ys p q = list_any-append is_last xs ys ∙ ap (λ b. b || list_any is_last ys) p ∙ q

pub answers_then : (a b c : Reader) (xs ys : List Event) (w v u : Option (List ℕ)) (held mid held' : List ℕ) → Answers a b xs w v held mid → Answers b c ys v u mid held'
    → Answers a c (xs ++ ys) w u held held'
answers_then a b c xs ys w v u held mid held' first second = record {
  tells = λ more. first.tells more ∙ ap (λ (events : List Event). xs ++ events) (second.tells more) ∙ sym (append_assoc xs ys (ahead c more));
  passes = subst (Passes w u held held') (sym (answers_to-append xs ys)) (passes_then w v u held mid held' (answers_to xs) (answers_to ys) first.passes second.passes);
}

pub goes_on_then : (a b c : Reader) (xs ys : List Event) → GoesOn a b xs → GoesOn b c ys → GoesOn a c (xs ++ ys)
goes_on_then a b c xs ys first second = record {
  none_last = none_of_both xs ys first.none_last second.none_last;
  goes_on = λ start. second.goes_on (first.goes_on start);
}

-- what is told ahead, once some of it was answered
pub front_then : (a b : Reader) (xs : List Event) (w v u : Option (List ℕ)) (held mid : List ℕ) → Answers a b xs w v held mid
    → AppendsFront v u (mid ++ answers_to (ahead b [])) → AppendsFront w u (held ++ answers_to (ahead a []))
front_then a b xs w v u held mid first front =
    subst (λ (octets : List ℕ). AppendsFront w u (held ++ octets)) (sym (ap answers_to (first.tells []) ∙ answers_to-append xs (ahead b [])))
    (front_behind w v u held mid (answers_to xs) (answers_to (ahead b [])) first.passes front)

pub answers_all_then : (result : Answered) (a b c : Reader) (xs : List Event) (w v u : Option (List ℕ)) (held mid held' : List ℕ) → Answers a b xs w v held mid → GoesOn a b xs
    → AnswersAll result b c v u mid held' → AnswersAll result a c w u held held'
answers_all_then answered.One a b c xs w v u held mid held' first goes never = absurd never
answers_all_then answered.All a b c xs w v u held mid held' first goes (ys, second, on, all, few) =
    (xs ++ ys, answers_then a b c xs ys w v u held mid held' first second, goes_on_then a b c xs ys goes on, all, λ start. few (goes.goes_on start))
answers_all_then answered.Closed a b c xs w v u held mid held' first goes (ys, second, last) =
    (xs ++ ys, answers_then a b c xs ys w v u held mid held' first second, some_of_both xs ys goes.none_last last)
answers_all_then answered.Failed a b c xs w v u held mid held' first goes front = front_then a b xs w v u held mid first front

-- what is still ahead is short
pub short_after : (old new : Reader) (xs : List Event) (w w' : Option (List ℕ)) (held held' : List ℕ) → Answers old new xs w w' held held' → AreShort 65536 (ahead old []) → AreShort 65536 (ahead new [])
short_after old new xs w w' held held' told short = short_rest 65536 xs (ahead new []) (subst (AreShort 65536) (told.tells []) short)

-- ---- one step

-- the step told this event
one_event : (s : Step) (e : Event) (old new : Reader) (w w' : Option (List ℕ)) (held held' : List ℕ) → events_of s ≡ e ∷ [] → HasStepped old s new
    → Passes w w' held held' (answers_to (events_of s)) → Answers old new (e ∷ []) w w' held held'
one_event s e old new w w' held held' is stepped passes = record {
  tells = λ more. stepped.events more ∙ ap (λ (events : List Event). events ++ ahead new more) is;
  passes = subst (λ (events : List Event). Passes w w' held held' (answers_to events)) is passes;
}

next_event : (s : Step) (e : Event) (old new : Reader) (w w' : Option (List ℕ)) (held held' : List ℕ) → events_of s ≡ e ∷ [] → is_last e ≡ false → steps.is_last s ≡ false
    → HasStepped old s new → Passes w w' held held' (answers_to (events_of s)) → AnswersNext answered.One old new w w' held held'
next_event s e old new w w' held held' is goes same stepped passes =
    let longer : length (ahead old []) ≡ suc (length (ahead new [])) = ap length (stepped.events [] ∙ ap (λ (events : List Event). events ++ ahead new []) is) in (
      e,
      one_event s e old new w w' held held' is stepped passes,
      record {
        none_last = ap (λ b. b || false) goes;
        goes_on = λ start. stepped.ended ∙ ap (λ b. has_ended old || b) same ∙ or_false (has_ended old) ∙ start;
      },
      omega (arith, longer),
    )

goes_step : (s : Step) (old new : Reader) (w w' : Option (List ℕ)) (held held' : List ℕ) → HasStepped old s new → AnswersStep answered.One s w w' held held' → AnswersNext answered.One old new w w' held held'
goes_step step.More old new w w' held held' stepped (goes, some, passes) = absurd (some tt)
goes_step (step.Message kind octets) old new w w' held held' stepped (goes, some, passes) = next_event (step.Message kind octets) (event.message kind octets.now) old new w w' held held' refl refl refl stepped passes
goes_step (step.Ping payload) old new w w' held held' stepped (goes, some, passes) = next_event (step.Ping payload) (event.ping payload.now) old new w w' held held' refl refl refl stepped passes
goes_step (step.Pong payload) old new w w' held held' stepped (goes, some, passes) = next_event (step.Pong payload) (event.pong payload.now) old new w w' held held' refl refl refl stepped passes
goes_step (step.Close code reason) old new w w' held held' stepped (goes, some, passes) = absurd cc
goes_step (step.Failed code) old new w w' held held' stepped (goes, some, passes) = absurd cc

all_step : (s : Step) (old new : Reader) (w w' : Option (List ℕ)) (held held' : List ℕ) → HasStepped old s new → AnswersStep answered.All s w w' held held'
    → AnswersAll answered.All old new w w' held held'
all_step step.More old new w w' held held' stepped (is, wrote, kept) = (
  [],
  record {
    tells = λ more. stepped.events more;
    passes = subst (λ (v : Option (List ℕ)). Passes w v held held' []) (sym wrote) (subst (λ (l : List ℕ). Passes w w held l []) (sym kept) (passes_nothing w held));
  },
  record { none_last = refl; goes_on = λ start. stepped.ended ∙ or_false (has_ended old) ∙ start },
  stepped.all_told tt,
  stepped.few tt,
)
all_step (step.Message kind octets) old new w w' held held' stepped (is, wrote, kept) = absurd is
all_step (step.Ping payload) old new w w' held held' stepped (is, wrote, kept) = absurd is
all_step (step.Pong payload) old new w w' held held' stepped (is, wrote, kept) = absurd is
all_step (step.Close code reason) old new w w' held held' stepped (is, wrote, kept) = absurd is
all_step (step.Failed code) old new w w' held held' stepped (is, wrote, kept) = absurd is

last_step : (s : Step) (old new : Reader) (w w' : Option (List ℕ)) (held held' : List ℕ) → HasStepped old s new → AnswersStep answered.Closed s w w' held held'
    → AnswersAll answered.Closed old new w w' held held'
last_step step.More old new w w' held held' stepped (last, passes) = absurd cc
last_step (step.Message kind octets) old new w w' held held' stepped (last, passes) = absurd cc
last_step (step.Ping payload) old new w w' held held' stepped (last, passes) = absurd cc
last_step (step.Pong payload) old new w w' held held' stepped (last, passes) = absurd cc
last_step (step.Close code reason) old new w w' held held' stepped (last, passes) =
    (event.closed code reason.now ∷ [], one_event (step.Close code reason) (event.closed code reason.now) old new w w' held held' refl stepped passes, refl)
last_step (step.Failed code) old new w w' held held' stepped (last, passes) =
    (event.failed code ∷ [], one_event (step.Failed code) (event.failed code) old new w w' held held' refl stepped passes, refl)

failed_step : (s : Step) (old new : Reader) (w w' : Option (List ℕ)) (held held' : List ℕ) → HasStepped old s new → AnswersStep answered.Failed s w w' held held'
    → AnswersAll answered.Failed old new w w' held held'
failed_step s old new w w' held held' stepped front =
    subst (λ (octets : List ℕ). AppendsFront w w' (held ++ octets)) (sym (ap answers_to (stepped.events []) ∙ answers_to-append (events_of s) (ahead new [])))
    (subst (AppendsFront w w') (append_assoc held (answers_to (events_of s)) (answers_to (ahead new [])))
    (front_of_more w w' (held ++ answers_to (events_of s)) (answers_to (ahead new [])) front))

pub next_step : (result : Answered) (s : Step) (old new : Reader) (w w' : Option (List ℕ)) (held held' : List ℕ) → HasStepped old s new → AnswersStep result s w w' held held'
    → AnswersNext result old new w w' held held'
next_step answered.One s old new w w' held held' stepped h = goes_step s old new w w' held held' stepped h
next_step answered.All s old new w w' held held' stepped h = all_step s old new w w' held held' stepped h
next_step answered.Closed s old new w w' held held' stepped h = last_step s old new w w' held held' stepped h
next_step answered.Failed s old new w w' held held' stepped h = failed_step s old new w w' held held' stepped h

-- ---- octets that came

-- what is ahead of a reader to which these octets were given
ahead_fed : (a mid : Reader) (octets : List ℕ) → ((more : List ℕ) → ahead mid more ≡ ahead a (octets ++ more)) → ahead mid [] ≡ ahead a octets
ahead_fed a mid octets fed = fed [] ∙ ap (ahead a) (append-nil octets)

fault_front : (a mid new : Reader) (octets : List ℕ) (events : List Event) (w v u : Option (List ℕ)) (held held' : List ℕ) → held ≡ []
    → ((more : List ℕ) → ahead mid more ≡ ahead a (octets ++ more)) → Answers mid new events w v held held' → AppendsFront v u held'
    → AppendsFront w u (answers_to (ahead a octets))
fault_front a mid new octets events w v u held held' empty fed told front =
    subst (λ (events' : List Event). AppendsFront w u (answers_to events')) (ahead_fed a mid octets fed)
    (subst (λ (l : List ℕ). AppendsFront w u (l ++ answers_to (ahead mid []))) empty
    (front_then mid new events w v u held held' told (front_of_more v u held' (answers_to (ahead new [])) front)))

-- what was held and answered was not all written
pub octets_fault : (result : Answered) (a mid new : Reader) (octets : List ℕ) (w v u : Option (List ℕ)) (held held' : List ℕ) → (result ≡ answered.Failed → ⊥) → held ≡ []
    → ((more : List ℕ) → ahead mid more ≡ ahead a (octets ++ more)) → AnswersAll result mid new w v held held' → AppendsFront v u held'
    → AppendsFront w u (answers_to (ahead a octets))
octets_fault answered.One a mid new octets w v u held held' good empty fed never front = absurd never
octets_fault answered.All a mid new octets w v u held held' good empty fed (events, told, on, all, few) front =
    fault_front a mid new octets events w v u held held' empty fed told front
octets_fault answered.Closed a mid new octets w v u held held' good empty fed (events, told, last) front =
    fault_front a mid new octets events w v u held held' empty fed told front
octets_fault answered.Failed a mid new octets w v u held held' good empty fed h front = absurd (good refl)
