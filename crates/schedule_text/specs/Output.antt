-- Text on its way to a sink, through a buffer.
use Rattle.std.specs.Prelude.{◌≡◌, ◌≤◌, ◌++◌, ℕ, List, [], ◌∷◌, Option, Bool, true, false, Result, Ok, Err, decimal, map}
use Rattle.std.specs.List.{flat_map}
use Rattle.std.specs.Io.KnownBytes.{Appends}
use Rattle.link_trait.specs.Link.{TellsAlike, Rose}
use Rattle.link_trait.specs.Sink.{AppendsFront}
use Rattle.link_trait.specs.declared.sink.Sink.{Ghosts as SinkMeaning}
use Rattle.schedule_text.specs.declared.output.SinkFault.{SinkFault}
use Rattle.schedule_text.specs.declared.output.Last.{Last}
use Rattle.schedule_text.specs.declared.output.Last.TheVariants as last
use Rattle.schedule_text.specs.Line.{hex}

-- Octets were held back behind the others, or nothing changed.
abbrev pub Holds : List ℕ → List ℕ → List ℕ → Bool → Type 0
Holds octets held_before held_after true = held_after ≡ held_before ++ octets
Holds octets held_before held_after false = held_after ≡ held_before

-- Text was put behind what was held back; a front of both went to the sink, and the rest is held back now.
pub record Puts (text held_before held_after : List ℕ) (written_before written_after : Option (List ℕ)) (faults_before faults_after : ℕ) : Type 0 where
  pub sent : List ℕ
  pub held : held_before ++ text ≡ sent ++ held_after
  pub written : Appends written_before written_after sent
  pub tells : TellsAlike written_before written_after
  pub faults : faults_after ≡ faults_before

-- The sink had a fault, after it took a front of what was held back and the text behind it.
pub record Fails (text held : List ℕ) (written_before written_after : Option (List ℕ)) (faults_before faults_after : ℕ) : Type 0 where
  pub written : AppendsFront written_before written_after (held ++ text)
  pub tells : TellsAlike written_before written_after
  pub later : faults_before ≤ faults_after
  pub cause : Rose faults_before faults_after

abbrev pub PutsOrFails : List ℕ → List ℕ → List ℕ → Option (List ℕ) → Option (List ℕ) → ℕ → ℕ → Result (Unit {0}) SinkFault → Type 0
PutsOrFails text held_before held_after written_before written_after faults_before faults_after (Ok _) =
    Puts text held_before held_after written_before written_after faults_before faults_after
PutsOrFails text held_before held_after written_before written_after faults_before faults_after (Err _) =
    Fails text held_before written_before written_after faults_before faults_after

-- A call wrote all of a text to a sink without a fault and answered true; or the sink had a fault after it took a front of
-- the text, and the call answered false.
abbrev pub WritesText : List ℕ → Option (List ℕ) → Option (List ℕ) → ℕ → ℕ → Bool → Type 0
WritesText text written_before written_after faults_before faults_after true =
    Appends written_before written_after text × TellsAlike written_before written_after × (faults_after ≡ faults_before)
WritesText text written_before written_after faults_before faults_after false = Fails text [] written_before written_after faults_before faults_after

-- The same of a sink, which was so before a call and after it.
abbrev pub PutsTo : {K : Type 0} → SinkMeaning K → (text held_before held_after : List ℕ) → (before after : K) → Result (Unit {0}) SinkFault → Type 0
PutsTo of_sink text held_before held_after before after result =
    PutsOrFails text held_before held_after (of_sink.written before) (of_sink.written after) (of_sink.faults before) (of_sink.faults after) result

abbrev pub WritesTo : {K : Type 0} → SinkMeaning K → (text : List ℕ) → (before after : K) → Bool → Type 0
WritesTo of_sink text before after result =
    WritesText text (of_sink.written before) (of_sink.written after) (of_sink.faults before) (of_sink.faults after) result

-- numbers, each behind a space
abbrev pub numbers_text : List ℕ → List ℕ
numbers_text numbers = flat_map (λ number. 32 ∷ decimal number) numbers

-- the last part of a line, if there is one
abbrev pub last_part : Last → List (List ℕ)
last_part last.Nothing = []
last_part (last.Word word) = word.now ∷ []
last_part (last.Hex octets) = hex octets.now ∷ []

-- the same behind a space
abbrev pub last_text : Last → List ℕ
last_text last.Nothing = []
last_text (last.Word word) = 32 ∷ word.now
last_text (last.Hex octets) = 32 ∷ hex octets.now

-- the parts of a line: a word, numbers, and what comes last
abbrev pub parts : List ℕ → List ℕ → List (List ℕ) → List (List ℕ)
parts word numbers last = word ∷ map decimal numbers ++ last
