-- What a reading tells is sound.
use Rattle.loop_runner.proofs.Below.{not, ◌==◌, ◌||◌, nat_le, ◌≡◌, inl, inr, ℕ, zero, suc, ◌^◌, ◌<◌, ◌≤◌, Bool, true, false, cond, ◌&&◌, List, [], ◌∷◌, ◌++◌, length, take, drop, Option, Some, None, refl, sym, ap, subst, ◌∙◌, arith, length-drop, ne_eqb, nat_tests, w16, w64, is_utf8, Kind, unmasked, is_text_front, Event, message, ping, pong, closed, failed, Begun, Front, more, ends, opens, gives, is_text, data_front, events_from, reads, CanBeTold, reads_told, AllByRecursion, Reader, State, AtFrameStart, InDataFrame, Ended, begun_of, middle_of, coming, Middle, middle_front, ahead, raw_of, HasStepped, events_of, IsSound}
use Rattle.std.proofs.Common.{length-take}
use Rattle.frame_reader.specs.declared.step.Step.{Step}
use Rattle.loop_runner.specs.Events.{AreSound}

cond_both : {A : Type 0} (P : A → Type 0) (b : Bool) (x y : A) → P x → P y → P (cond b x y)
cond_both P true x y p q = p
cond_both P false x y p q = q

-- what the front tells is sound
abbrev Fits : Front → Type 0
Fits more = Unit {0}
Fits (ends event) = IsSound event
Fits (opens begun rest) = Unit {0}
Fits (gives event begun rest) = IsSound event

data_fits : (final whole : Bool) (kind : Kind) (all rest : List ℕ) → Fits (data_front final whole kind all rest)
data_fits final whole kind all rest =
    cond_both Fits (is_text kind && not (is_text_front all)) (ends (failed 1007)) _ refl
    (cond_both Fits (not whole) more _ tt
    (cond_both Fits (not final) (opens (record { kind = kind; octets = all }) rest) _ tt
    (cond_both Fits (is_text kind && not (is_utf8 all)) (ends (failed 1007)) (gives (message kind all) None rest) refl tt)))

-- ---- the reading

told_sound : (max : ℕ) (event : Event) → CanBeTold max event → IsSound event
told_sound max (message kind octets) told = tt
told_sound max (ping payload) told = told
told_sound max (pong payload) told = tt
told_sound max (closed code reason) (inl none) = inl none
told_sound max (closed code reason) (inr (sendable, utf8, short)) = inr (sendable, short)
told_sound max (failed code) told = told

all_sound : (max : ℕ) (events : List Event) → AllByRecursion (CanBeTold max) events → AreSound events
all_sound max [] told = tt
all_sound max (event ∷ events) told = (told_sound max event told.0, all_sound max events told.1)

reads_sound : (max : ℕ) (begun : Option Begun) (octets : List ℕ) → AreSound (reads max begun octets)
reads_sound max begun octets = all_sound max (reads max begun octets) (reads_told max begun octets)

front_sound : (max : ℕ) (front : Front) → Fits front → AreSound (events_from (reads max) front)
front_sound max more f = tt
front_sound max (ends event) f = (f, tt)
front_sound max (opens begun rest) f = reads_sound max (Some begun) rest
front_sound max (gives event begun rest) f = (f, reads_sound max begun rest)

middle_fits : (m : Middle) (octets : List ℕ) → Fits (middle_front m octets)
middle_fits m octets = data_fits m.final (length (take m.left octets) == m.left) m.kind (m.all ++ unmasked m.key m.place (take m.left octets)) (drop m.left octets)

coming_sound : (max : ℕ) (state : State) (all octets : List ℕ) → AreSound (coming max state all octets)
coming_sound max (AtFrameStart kind) all octets = reads_sound max (begun_of kind all) octets
coming_sound max (InDataFrame kind frame) all octets = front_sound max (middle_front (middle_of kind frame all) octets) (middle_fits (middle_of kind frame all) octets)
coming_sound max Ended all octets = tt

-- whatever a reader tells is sound
pub ahead_sound : (reader : Reader) (octets : List ℕ) → AreSound (ahead reader octets)
ahead_sound reader octets = coming_sound reader.max_message reader.state reader.message.items (raw_of reader ++ octets)

sound_front : (xs ys : List Event) → AreSound (xs ++ ys) → AreSound xs
sound_front [] ys s = tt
sound_front (x ∷ xs) ys s = (s.0, sound_front xs ys s.1)

-- and so is a step of it
pub step_sound : (old new : Reader) (s : Step) → HasStepped old s new → AreSound (events_of s)
step_sound old new s x = sound_front (events_of s) (ahead new []) (subst AreSound (x.events []) (ahead_sound old []))
