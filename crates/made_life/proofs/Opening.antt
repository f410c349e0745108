-- The items of a run of a made schedule: in its first turn all 64 connections come into the room, and then all messages are sent there.
use Rattle.std.proofs.Common.{◌≡◌, ◌<◌, ℕ, suc, ◌+◌, Bool, true, false, cond, ◌&&◌, ◌||◌, nat_eq, List, [], ◌∷◌, ◌++◌, length, map, Option, Some, None, is_none, refl, sym, ap, ◌∙◌, arith}
use Rattle.std.specs.List.{list_all, list_any}
use Rattle.std.specs.Str.{bytes_eq}
use Rattle.std.proofs.lemmas.Slice.Eq.{bytes_eq-Decides}
use Rattle.std.proofs.lemmas.Bool.{or_right as or_second}
use Rattle.std.proofs.lemmas.List.Folds.{list_all-append, list_any-append}
use Rattle.ws_kinds.proofs.Facts.{and_left, and_right, by_cases, clash, equal_is, or_left, same_number as itself}
use Rattle.ws_kinds.specs.ConfigValue.{usual_config}
use Rattle.ws_kinds.specs.declared.kind.Kind.{Kind}
use Rattle.ws_kinds.specs.declared.kind.Kind.TheVariants.{Text}
use Rattle.ws_kinds.specs.EventValue.{EventValue}
use Rattle.ws_kinds.specs.NoteValue as note
use Rattle.ws_kinds.specs.NoteValue.{NoteValue}
use Rattle.wire_meaning.specs.Event as wire
use Rattle.bus_handler.specs.Bus.{bus_said, room_route}
use Rattle.made_schedule.specs.Message.{body_of}
use Rattle.run_meaning.specs.Counts.{accepted_by, gather, has_number, is_accepted, is_gone_in, number_of, total}
use Rattle.run_meaning.specs.Life.{Heard, heard, heard_by, opened, read, refused}
use Rattle.run_meaning.specs.Lines.{plain}
use Rattle.run_meaning.specs.Notes.{conn_of, is_gone}
use Rattle.run_meaning.specs.Orders.{AllJustified, why_publish}
use Rattle.run_meaning.specs.Replies.{is_opened, is_opened_in}
use Rattle.run_meaning.specs.Right.{Sound, is_arrival, is_busy}
use Rattle.run_meaning.specs.Server.{Server}
use Rattle.run_meaning.proofs.Parts.{Placed, accepted-append, early, gather-append, late, place_of}
use Rattle.hub_notes.proofs.NetLemmas.{number_then}
use Rattle.made_life.specs.Life.{is_message, is_message_heard, is_want, made_life, room}
use Rattle.made_life.specs.Sending.{numbers, states_of}
use Rattle.made_life.proofs.Coming.{none_away, none_busy}
use Rattle.made_life.proofs.Hearing.{come_by, is_opening, life_messages, numbers_length, opened_heard, opened_once}
use Rattle.made_life.proofs.Reading.{body_length, body_text}
use Rattle.made_life.proofs.Rooms.{IsRoom, is_usual, items_in_room}
use Rattle.made_life.proofs.Spreading.{items_spread, others_heard}

-- A run of a made schedule, of which `before` are the notes of the first turn.
pub record IsMadeRun {S : Type 0} (s : Server S) (seed : ℕ) (ns before later : List NoteValue) : Type 0 where
  pub says : (state : S) (e : EventValue) → s.said state e ≡ bus_said e
  pub admits : s.admits room ≡ true
  pub justified : AllJustified s usual_config ns
  pub sound : (front rest : List NoteValue) (this : NoteValue) → ns ≡ front ++ this ∷ rest → Sound s usual_config front this
  pub enough : list_any is_want ns ≡ false
  pub stays : (c : ℕ) → is_accepted c ns ≡ true → is_gone_in c ns ≡ false
  pub unpinged : (front rest : List NoteValue) (c : ℕ) → ns ≡ front ++ note.pinged c ∷ rest → ⊥
  pub come : gather come_by ns ≡ numbers 64
  pub heard_is : (c : ℕ) → is_accepted c ns ≡ true → heard c ns ≡ made_life c seed
  pub split : ns ≡ before ++ later
  pub come_first : gather come_by before ≡ numbers 64
  pub heard_first : (c : ℕ) → is_accepted c before ≡ true → heard c before ≡ opened room_route room ∷ []

-- an opening on the room, or a message that may be published there
abbrev is_ours : Heard → Bool
is_ours (opened route param) = nat_eq route room_route && bytes_eq param room
is_ours (read (wire.message kind body)) = is_none (why_publish usual_config room kind body)
is_ours _ = false

made_ours : (c seed : ℕ) → list_all is_ours (made_life c seed) ≡ true
made_ours c seed = each (states_of c seed)
  where
    one : (state : ℕ) → is_none (why_publish usual_config room Text (body_of state)) ≡ true
    one state = rw (body_length state, body_text state) refl

    each : (states : List ℕ) → list_all is_ours (map (λ state. read (wire.message Text (body_of state))) states) ≡ true
    each [] = refl
    each (state ∷ states) = rw (one state) (each states)

none_is : {A : Type 0} (x : Option A) → is_none x ≡ true → x ≡ None
none_is None e = refl
none_is (Some x) e = clash false refl e

none_counted : {A : Type 0} (p : A → Bool) (xs : List A) → number_of p xs ≡ 0 → list_any p xs ≡ false
none_counted p [] none = refl
none_counted p (x ∷ xs) none = one (p x) (none_counted p xs) none
  where
    one : (b : Bool) → (number_of p xs ≡ 0 → list_any p xs ≡ false) → cond b (suc (number_of p xs)) (number_of p xs) ≡ 0 → (b || list_any p xs) ≡ false
    one true rest none = absurd (omega (arith, none))
    one false rest none = rest none

some_counted : {A : Type 0} (p : A → Bool) (xs : List A) → number_of p xs ≡ 1 → list_any p xs ≡ true
some_counted p [] one = absurd (omega (arith, one))
some_counted p (x ∷ xs) one = go (p x) (some_counted p xs) one
  where
    go : (b : Bool) → (number_of p xs ≡ 1 → list_any p xs ≡ true) → cond b (suc (number_of p xs)) (number_of p xs) ≡ 1 → (b || list_any p xs) ≡ true
    go true rest one = refl
    go false rest one = rest one

module _ {S : Type 0} (s : Server S) (seed : ℕ) (ns before later : List NoteValue) (r : IsMadeRun s seed ns before later) where
  few : length (gather come_by ns) < 1024
  few = let size : length (gather come_by ns) ≡ 64 = ap (λ (l : List ℕ). length l) r.come ∙ numbers_length 64 in omega (arith, size)

  busy : list_any is_busy ns ≡ false
  busy = none_busy s ns r.sound few

  -- all are accepted, and in the first turn
  pub accepted_all : gather accepted_by ns ≡ numbers 64
  accepted_all = none_away ns busy r.enough ∙ r.come

  first_part : (p : NoteValue → Bool) → list_any p ns ≡ false → list_any p before ≡ false
  first_part p none = or_left (list_any p before) (list_any p later) (sym (list_any-append p before later) ∙ ap (list_any p) (sym r.split) ∙ none)

  accepted_first : (c : ℕ) → is_accepted c ns ≡ true → is_accepted c before ≡ true
  accepted_first c there = ap (has_number c) (none_away before (first_part is_busy busy) (first_part is_want r.enough) ∙ r.come_first ∙ sym accepted_all) ∙ there

  -- so they are opened in it
  opened_first : (c : ℕ) → is_accepted c ns ≡ true → is_opened_in c before ≡ true
  opened_first c there = some_counted (is_opened c) before (opened_heard c before ∙ ap (number_of is_opening) (r.heard_first c (accepted_first c there)))

  -- what holds of all that is heard of a connection holds of what is heard by a note
  own_heard : (p : Heard → Bool) (front rest : List NoteValue) (n : NoteValue) (c : ℕ) (h : Heard) → list_all p (heard c (front ++ n ∷ rest)) ≡ true → heard_by c n ≡ cond (nat_eq c c) (h ∷ []) [] → p h ≡ true
  own_heard p front rest n c h all is =
      let behind = and_right (list_all p (heard c front)) (list_all p (heard c (n ∷ rest)))
      (sym (list_all-append p (heard c front) (heard c (n ∷ rest))) ∙ ap (list_all p) (sym (gather-append (heard_by c) front (n ∷ rest))) ∙ all) in
      let own = and_left (list_all p (heard_by c n)) (list_all p (heard c rest)) (sym (list_all-append p (heard_by c n) (heard c rest)) ∙ behind) in
      and_left (p h) true (ap (λ (l : List Heard). list_all p l) (sym (is ∙ ap (λ b. cond b (h ∷ []) []) (itself c))) ∙ own)

  named : (front rest : List NoteValue) (n : NoteValue) (c : ℕ) → ns ≡ front ++ n ∷ rest → conn_of n ≡ Some c → is_arrival n ≡ false → is_accepted c front ≡ true
  named front rest n c split names inner = by_cases (is_accepted c front) (λ yes. yes) (λ new. clash (is_arrival n) inner ((r.sound front rest n split).named c names new))

  named_later : (front rest : List NoteValue) (n : NoteValue) (c : ℕ) → ns ≡ front ++ n ∷ rest → conn_of n ≡ Some c → is_arrival n ≡ false → is_accepted c ns ≡ true
  named_later front rest n c split names inner = ap (is_accepted c) split ∙ accepted-append c front (n ∷ rest) ∙ ap (λ b. b || is_accepted c (n ∷ rest)) (named front rest n c split names inner)

  ours : (front rest : List NoteValue) (n : NoteValue) (c : ℕ) (h : Heard) → ns ≡ front ++ n ∷ rest → conn_of n ≡ Some c → is_arrival n ≡ false → heard_by c n ≡ cond (nat_eq c c) (h ∷ []) [] → is_ours h ≡ true
  ours front rest n c h split names inner is =
      own_heard is_ours front rest n c h (ap (λ (l : List NoteValue). list_all is_ours (heard c l)) (sym split) ∙ ap (list_all is_ours) (r.heard_is c (named_later front rest n c split names inner)) ∙ made_ours c seed) is

  usual : (front rest : List NoteValue) (n : NoteValue) → ns ≡ front ++ n ∷ rest → is_usual n ≡ true
  usual front rest (note.head c status) split = ours front rest (note.head c status) c (refused status) split refl refl refl
  usual front rest (note.ping_got c body) split = ours front rest (note.ping_got c body) c (read (wire.ping body)) split refl refl refl
  usual front rest (note.peer_close c code reason) split = ours front rest (note.peer_close c code reason) c (read (wire.closed code reason)) split refl refl refl
  usual front rest (note.failed c code) split = ours front rest (note.failed c code) c (read (wire.failed code)) split refl refl refl
  usual front rest (note.pinged c) split = absurd (r.unpinged front rest c split)
  usual front rest (note.gone c left) split =
      let gone : is_gone_in c (front ++ note.gone c left ∷ rest) ≡ true =
      list_any-append (is_gone c) front (note.gone c left ∷ rest) ∙ or_second (list_any (is_gone c) front) (nat_eq c c || is_gone_in c rest) (ap (λ b. b || is_gone_in c rest) (itself c)) in
      clash (is_gone_in c ns) (r.stays c (named_later front rest (note.gone c left) c split refl refl)) (ap (is_gone_in c) split ∙ gone)
  usual front rest _ split = refl

  opens : (front rest : List NoteValue) (c route : ℕ) (param : List ℕ) → ns ≡ front ++ note.opened c route param ∷ rest → (route ≡ room_route) × (param ≡ room) × (is_opened_in c front ≡ false) × (is_accepted c front ≡ true)
  opens front rest c route param split =
      let n = note.opened c route param in
      let test = ours front rest n c (opened route param) split refl refl refl in
      let there = named front rest n c split refl refl in
      let once = opened_once c c seed ns (r.heard_is c (named_later front rest n c split refl refl)) in
      let parts : number_of (is_opened c) front + number_of (is_opened c) (n ∷ rest) ≡ 1 = sym (number_then (is_opened c) front (n ∷ rest)) ∙ ap (number_of (is_opened c)) (sym split) ∙ once in
      let own : number_of (is_opened c) (n ∷ rest) ≡ suc (number_of (is_opened c) rest) = ap (λ b. cond b (suc (number_of (is_opened c) rest)) (number_of (is_opened c) rest)) (itself c) in
      let none : number_of (is_opened c) front ≡ 0 = omega (arith, parts, own) in
      (equal_is route room_route (and_left (nat_eq route room_route) (bytes_eq param room) test), (bytes_eq-Decides param room).0 (and_right (nat_eq route room_route) (bytes_eq param room) test), none_counted (is_opened c) front none, there)

  -- no message comes in the first turn
  no_message : (front more : List NoteValue) (c : ℕ) (kind : Kind) (body : List ℕ) → is_accepted c before ≡ true → before ≡ front ++ note.message c kind body ∷ more → ⊥
  no_message front more c kind body there split =
      clash false refl (own_heard is_opening front more (note.message c kind body) c (read (wire.message kind body)) (ap (λ (l : List NoteValue). list_all is_opening (heard c l)) (sym split) ∙ ap (list_all is_opening) (r.heard_first c there)) refl)

  messages : (front rest : List NoteValue) (c : ℕ) (kind : Kind) (body : List ℕ) → ns ≡ front ++ note.message c kind body ∷ rest
      → (is_accepted c ns ≡ true) × (why_publish usual_config room kind body ≡ None) × ((d : ℕ) → is_accepted d ns ≡ true → is_opened_in d front ≡ true)
  messages front rest c kind body split =
      let n = note.message c kind body in
      let there = named_later front rest n c split refl refl in
      (there, none_is (why_publish usual_config room kind body) (ours front rest n c (read (wire.message kind body)) split refl refl refl), at (place_of before later front rest n (sym r.split ∙ split)) there)
    where
      at : Placed before later front rest (note.message c kind body) → is_accepted c ns ≡ true → (d : ℕ) → is_accepted d ns ≡ true → is_opened_in d front ≡ true
      at (early more here behind) there d come = absurd (no_message front more c kind body (accepted_first c there) here)
      at (late more here behind) there d come = ap (is_opened_in d) here ∙ list_any-append (is_opened d) before more ∙ ap (λ b. b || is_opened_in d more) (opened_first d come)

  in_room : IsRoom s ns
  in_room = record {
    says = r.says;
    admits = r.admits;
    justified = r.justified;
    enough = r.enough;
    stays = r.stays;
    usual = usual;
    opened = opens;
    message = messages;
  }

  -- all their items, where there are 8,000 messages
  pub in_one_room : number_of is_message ns ≡ 8000 → total (map (λ c. length (plain s ns c)) (gather accepted_by ns)) ≡ 504064
  in_one_room all =
      ap (λ (l : List ℕ). total (map (λ c. length (plain s ns c)) l)) accepted_all
      ∙ items_spread (λ c. length (plain s ns c)) seed (λ c there. one c (ap (has_number c) accepted_all ∙ there))
    where
      one : (c : ℕ) → is_accepted c ns ≡ true → length (plain s ns c) + length (states_of c seed) ≡ 8001
      one c there =
          let items = items_in_room s ns in_room c there in
          let once = opened_once c c seed ns (r.heard_is c there) in
          let own : number_of is_message_heard (heard c ns) ≡ length (states_of c seed) = ap (number_of is_message_heard) (r.heard_is c there) ∙ life_messages c seed in
          let sum = others_heard c ns in
          omega (arith, items, once, own, sum, all)
