-- What the first turn of a run of a made schedule comes to: all 64 connections come, and of each it is heard that it is opened on the room.
use Rattle.std.proofs.Common.{◌≡◌, ◌≢◌, ◌≤◌, ℕ, zero, suc, true, false, ◌||◌, List, [], ◌∷◌, ◌++◌, take, map, Option, Some, None, refl, sym, ap, ◌∙◌, subst, append-nil}
use Rattle.std.specs.List.{flat_map, list_all}
use Rattle.std.proofs.lemmas.Grind.{flat_map-append}
use Rattle.ws_kinds.proofs.Facts.{clash, or_left}
use Rattle.ws_kinds.specs.ConfigValue.{usual_config}
use Rattle.ws_kinds.specs.NoteValue.{NoteValue}
use Rattle.ws_kinds.specs.declared.note.Phase.{Phase}
use Rattle.ws_kinds.specs.declared.note.Phase.TheVariants.{Ending, Gone, Head, Leaving, Open}
use Rattle.link_trait.specs.declared.act.Act.TheVariants as act
use Rattle.mem_net.specs.Acts.{arrivals, arrives_by, passes, sent, sent_by}
use Rattle.mem_net.specs.MemNet.{net_state}
use Rattle.bus_handler.specs.Bus.{room_route, routes_of_bus}
use Rattle.made_schedule.specs.Made.{openings, room_head}
use Rattle.run_meaning.specs.Counts.{gather, is_accepted, is_gone_in}
use Rattle.run_meaning.specs.Life.{Heard, IsLife, Reaches, heard, last_frame, opened, read, to_hear}
use Rattle.run_meaning.specs.Lines.{is_gone_phase, phase}
use Rattle.run_meaning.specs.Network.{marks_of}
use Rattle.run_meaning.specs.Replies.{AreReplies}
use Rattle.run_meaning.specs.Server.{Server}
use Rattle.run_meaning.specs.Settled.{is_ending, is_reading}
use Rattle.run_meaning.proofs.Parts.{accepted-append, gone-append}
use Rattle.run_laws.proofs.Replying.{replies_before}
use Rattle.run_laws.proofs.WorldLemmas.{accepted_known}
use Rattle.run_kept.proofs.KnownLemmas.{known_world}
use Rattle.made_life.specs.Life.{goes_on, made_life, room}
use Rattle.made_life.specs.Sending.{numbers}
use Rattle.made_life.specs.Turn.{EndsRight, FirstTurn}
use Rattle.made_life.proofs.Coming.{come_by_acts}
use Rattle.made_life.proofs.Hearing.{come_by}
use Rattle.made_life.proofs.Judging.{life_of}
use Rattle.made_life.proofs.Passing.{made_openings}
use Rattle.made_life.proofs.Reading.{read_all}
use Rattle.made_life.proofs.Resting.{given_all}
use Rattle.made_life.proofs.Sending.{openings_head}
use Rattle.made_life.proofs.Staying.{front_goes_on, made_goes_on, not_ending}
use Rattle.made_life.proofs.Turning.{first_acts, first_passed}

-- a connection that is there and not ending is read
pub reading_of : (p : Option Phase) → p ≢ None → is_gone_phase p ≡ false → is_ending p ≡ false → is_reading p ≡ true
reading_of None known stays goes = absurd (known refl)
reading_of (Some Head) known stays goes = refl
reading_of (Some Open) known stays goes = refl
reading_of (Some Leaving) known stays goes = refl
reading_of (Some Ending) known stays goes = clash true goes refl
reading_of (Some Gone) known stays goes = clash true stays refl

-- an opening is heard, whatever was served
opening_heard : (last : Option ℕ) (route : ℕ) (param : List ℕ) → to_hear last (opened route param ∷ []) ≡ opened route param ∷ []
opening_heard None route param = refl
opening_heard (Some zero) route param = refl
opening_heard (Some (suc count)) route param = refl

-- the head alone says that the room is opened
head_life : (life : List Heard) → IsLife routes_of_bus 16384 room_head life → life ≡ opened room_route room ∷ []
head_life life is =
    life_of [] life (subst (λ (l : List ℕ). IsLife routes_of_bus 16384 l life) (sym (append-nil room_head)) is) ∙ ap (λ es. opened 1 room ∷ map read es) (read_all [])

module _ {S : Type 0} (server : (ℕ → List ℕ) → Server S) (now : S) (seed : ℕ) (ns : List NoteValue) (given : ℕ → List ℕ) (t : FirstTurn server now seed ns given) (replies : ℕ → List ℕ)
    (agree : AreReplies routes_of_bus ns given replies) where
  ends : EndsRight (server replies) now t.before t.net t.held
  ends = t.right replies (replies_before routes_of_bus t.before t.later (net_state t.net).given given replies (subst (λ (l : List NoteValue). AreReplies routes_of_bus l given replies) t.split agree) t.grew)

  acts : take t.net.done t.net.acts ≡ openings 64 ++ act.Turn ∷ []
  acts = first_acts seed t.net t.follows t.acts_are ends.settled.rested t.before ends.right.follows.passed t.one

  -- all come
  pub first_come : gather come_by t.before ≡ numbers 64
  first_come =
      come_by_acts (take t.net.done t.net.acts) t.before [] refl
      (ends.right.follows.passed ∙ ap (flat_map marks_of) (first_passed seed t.net t.follows t.acts_are ends.settled.rested t.before ends.right.follows.passed t.one) ∙ sym (append-nil (flat_map marks_of (passes (take t.net.done t.net.acts)))))
      ∙ ap arrivals acts ∙ flat_map-append arrives_by (openings 64) (act.Turn ∷ []) ∙ append-nil (arrivals (openings 64)) ∙ (made_openings 64).arrived_are

  module _ (stays : (c : ℕ) → is_accepted c ns ≡ true → is_gone_in c ns ≡ false) (hears : (c : ℕ) → is_accepted c ns ≡ true → heard c ns ≡ made_life c seed)
      (within : (c : ℕ) → is_accepted c ns ≡ true → (1 ≤ c) × (c ≤ 64)) where
    -- and of each it is heard that it is opened
    pub first_heard : (c : ℕ) → is_accepted c t.before ≡ true → heard c t.before ≡ opened room_route room ∷ []
    first_heard c there =
        let s = server replies in
        let later : is_accepted c ns ≡ true = ap (is_accepted c) t.split ∙ accepted-append c t.before t.later ∙ ap (λ b. b || is_accepted c t.later) there in
        let lived = ends.right.lived c there in
        let here : is_gone_in c t.before ≡ false = or_left (is_gone_in c t.before) (is_gone_in c t.later) (sym (gone-append c t.before t.later) ∙ ap (is_gone_in c) (sym t.split) ∙ stays c later) in
        let live : is_gone_phase (phase s t.before c) ≡ false = (known_world s usual_config t.before ends.right.sound).gone c ∙ here in
        let all : list_all goes_on (heard c (t.before ++ t.later)) ≡ true = ap (λ (l : List NoteValue). list_all goes_on (heard c l)) (sym t.split) ∙ ap (list_all goes_on) (hears c later) ∙ made_goes_on c seed in
        let reads = reading_of (phase s t.before c) (accepted_known s c t.before there) live (not_ending s c t.before (front_goes_on c t.before t.later all)) in
        let (low, high) = within c later in
        let octets : (net_state t.net).given c ≡ room_head =
        given_all s t.before t.net t.held t.follows ends.settled c reads ∙ ap (sent c) acts ∙ flat_map-append (sent_by c) (openings 64) (act.Turn ∷ []) ∙ append-nil (sent c (openings 64)) ∙ openings_head c 64 low high in
        let life = head_life lived.life (subst (λ (l : List ℕ). IsLife routes_of_bus 16384 l lived.life) octets lived.is) in
        let reaches = subst (λ b. Reaches b (heard c t.before) (to_hear (last_frame s t.before c) lived.life)) live lived.reaches in
        reaches ∙ ap (to_hear (last_frame s t.before c)) life ∙ opening_heard (last_frame s t.before c) room_route room
