-- In a run of a made schedule no connection is gone: nobody ends octets or fails a link, no tick comes, and nothing that is heard ends a
-- connection. So all messages are noted, and the items of each connection have so many octets.
use Rattle.std.proofs.Common.{◌≡◌, ◌≤◌, ◌+◌, ◌*◌, ◌&&◌, ◌||◌, ℕ, List, [], ◌∷◌, ◌++◌, Option, Some, None, Bool, true, false, not, nat_eq, nat_le, cond, length, map, take, refl, sym, ap, ◌∙◌, subst, arith, append_assoc}
use Rattle.std.specs.List.{flat_map, list_all, list_any}
use Rattle.std.specs.Option.{option_to_list, unwrap_or}
use Rattle.std.proofs.Math.Seq.{take-length}
use Rattle.std.proofs.lemmas.Bool.{or_right as or_second}
use Rattle.std.proofs.lemmas.Bool.Decides.{nat_tests}
use Rattle.std.proofs.lemmas.List.Folds.{list_all-append, list_any-append}
use Rattle.ws_kinds.proofs.Facts.{and_left, and_right, by_cases, clash, equal_is, or_left, same_number as itself}
use Rattle.ws_kinds.specs.ConfigValue.{usual_config}
use Rattle.ws_kinds.specs.NoteValue as note
use Rattle.ws_kinds.specs.NoteValue.{NoteValue}
use Rattle.ws_kinds.specs.EventValue as value
use Rattle.ws_kinds.specs.EventValue.{EventValue, WhatValue}
use Rattle.ws_kinds.specs.OrderValue as order
use Rattle.ws_kinds.specs.OrderValue.{OrderValue}
use Rattle.ws_kinds.specs.declared.kind.Kind.TheVariants.{Text}
use Rattle.ws_kinds.specs.declared.note.Left.{Left}
use Rattle.ws_kinds.specs.declared.note.Left.TheVariants.{Finished, Idle, LinkFailed, PeerEnd}
use Rattle.wire_meaning.specs.Answer.{all_spelled}
use Rattle.wire_meaning.specs.Event as wire
use Rattle.link_trait.specs.declared.act.Act.{Act}
use Rattle.mem_net.specs.Acts.{sent}
use Rattle.mem_net.specs.LinkState.{LinkState}
use Rattle.mem_net.specs.MemNet.{MemNetState, link_at, net_state}
use Rattle.mem_net.specs.Schedule.{has_arrived}
use Rattle.mem_net.proofs.Acting.{not_there}
use Rattle.bus_handler.specs.Bus.{bus_said, commanded, order_on, routes_of_bus}
use Rattle.made_schedule.specs.Made.{made_acts}
use Rattle.made_schedule.specs.Message.{body_of, octets_of}
use Rattle.upgrade_head.specs.Judged.{Judged}
use Rattle.run_meaning.specs.Counts.{accepted_by, gather, has_number, is_accepted, is_gone_by_in, is_gone_in, number_of, total}
use Rattle.run_meaning.specs.Life.{Heard, IsLife, Reaches, heard, heard_by, last_frame, life_by, opened, read, refused, to_hear}
use Rattle.run_meaning.specs.Lines.{is_gone_phase, phase, plain}
use Rattle.run_meaning.specs.Notes.{conn_of, is_gone, is_gone_by}
use Rattle.run_meaning.specs.Quiet.{is_tick}
use Rattle.run_meaning.specs.Replies.{AreReplies, is_opened}
use Rattle.run_meaning.specs.Right.{is_arrival}
use Rattle.run_meaning.specs.Server.{Server}
use Rattle.run_meaning.specs.Settled.{is_ending}
use Rattle.run_meaning.proofs.Parts.{accepted-append, gather-append}
use Rattle.run_laws.proofs.WorldLemmas.{accepted_known}
use Rattle.run_kept.proofs.KnownLemmas.{known_world}
use Rattle.made_life.specs.Life.{goes_on, is_message, is_message_heard, made_life}
use Rattle.made_life.specs.Sending.{numbers, states_of}
use Rattle.made_life.specs.Turn.{RunsMade}
use Rattle.made_life.proofs.Accepting.{answer_length}
use Rattle.made_life.proofs.Beginning.{reading_of}
use Rattle.made_life.proofs.Counting.{made_count}
use Rattle.made_life.proofs.Hearing.{all_accepted, is_within, life_messages, messages_heard, opened_once}
use Rattle.made_life.proofs.Judging.{admitted, judged_then, life_is, life_within}
use Rattle.made_life.proofs.Passing.{made_alone, made_arrivals}
use Rattle.made_life.proofs.Reading.{body_length}
use Rattle.made_life.proofs.Room.{is_no_close, never_closed, opens_elsewhere}
use Rattle.made_life.proofs.Sending.{made_sent}
use Rattle.made_life.proofs.Staying.{arrives_within, front_all, front_goes_on, hear_all, made_goes_on, no_stretch, not_ending, untimed}
use Rattle.made_life.proofs.Weights.{is_short_body, is_short_event, is_short_note, is_short_order, items_weigh}

-- ---- notes and acts

-- the note by which a connection is gone
record GoneNote (c : ℕ) (ns : List NoteValue) : Type 0 where
  pub before : List NoteValue
  pub rest : List NoteValue
  pub left : Left
  pub split : ns ≡ before ++ note.gone c left ∷ rest

gone_note : (c : ℕ) (ns : List NoteValue) → is_gone_in c ns ≡ true → GoneNote c ns
gone_note c [] gone = clash false refl gone
gone_note c (n ∷ ns) gone = by_cases (is_gone c n) (λ here. first n here) (λ there.
    let later = gone_note c ns (ap (λ b. b || is_gone_in c ns) (sym there) ∙ gone) in
    record { before = n ∷ later.before; rest = later.rest; left = later.left; split = ap (λ (l : List NoteValue). n ∷ l) later.split })
  where
    first : (n : NoteValue) → is_gone c n ≡ true → GoneNote c (n ∷ ns)
    first (note.gone d left) here = record { before = []; rest = ns; left = left; split = ap (λ k. note.gone k left ∷ ns) (equal_is d c here) }
    first _ here = clash false refl here

gone_by : (c : ℕ) (left : Left) (before rest : List NoteValue) → is_gone_by c left (note.gone c left) ≡ true → is_gone_by_in c left (before ++ note.gone c left ∷ rest) ≡ true
gone_by c left before rest here = list_any-append (is_gone_by c left) before (note.gone c left ∷ rest) ∙ rw here (or_last (list_any (is_gone_by c left) before))
  where
    or_last : (b : Bool) → (b || true) ≡ true
    or_last true = refl
    or_last false = refl

-- a note by which a connection was opened
record OpenedNote (c : ℕ) (ns : List NoteValue) : Type 0 where
  pub before : List NoteValue
  pub rest : List NoteValue
  pub route : ℕ
  pub param : List ℕ
  pub split : ns ≡ before ++ note.opened c route param ∷ rest

opened_note : (c : ℕ) (ns : List NoteValue) → list_any (is_opened c) ns ≡ true → OpenedNote c ns
opened_note c [] some = clash false refl some
opened_note c (n ∷ ns) some = by_cases (is_opened c n) (λ here. first n here) (λ there.
    let later = opened_note c ns (ap (λ b. b || list_any (is_opened c) ns) (sym there) ∙ some) in
    record { before = n ∷ later.before; rest = later.rest; route = later.route; param = later.param; split = ap (λ (l : List NoteValue). n ∷ l) later.split })
  where
    first : (n : NoteValue) → is_opened c n ≡ true → OpenedNote c (n ∷ ns)
    first (note.opened d route param) here = record { before = []; rest = ns; route = route; param = param; split = ap (λ k. note.opened k route param ∷ ns) (equal_is d c here) }
    first _ here = clash false refl here

no_life : (life : List Heard) → IsLife routes_of_bus 16384 [] life → life ≡ []
no_life life is = is.says ∙ ap (life_by 16384 []) is.judged

-- each note of a list passes a test
all_pass : (p : NoteValue → Bool) (before ns : List NoteValue) → ((front rest : List NoteValue) (n : NoteValue) → before ++ ns ≡ front ++ n ∷ rest → p n ≡ true) → list_all p ns ≡ true
all_pass p before [] each = refl
all_pass p before (n ∷ ns) each = rw (each before ns n refl) (all_pass p (before ++ n ∷ []) ns (λ front rest m split. each front rest m (sym (append_assoc before (n ∷ []) ns) ∙ split)))

pub same_sums : (f g : ℕ → ℕ) (xs : List ℕ) → ((c : ℕ) → has_number c xs ≡ true → f c ≡ g c) → total (map f xs) ≡ total (map g xs)
same_sums f g [] same = refl
same_sums f g (x ∷ xs) same = rw (same x (rw (itself x) refl), same_sums f g xs (λ c there. same c (or_second (nat_eq c x) (has_number c xs) there))) refl

-- the opening is not on the bus
abbrev is_elsewhere : Heard → Bool
is_elsewhere (opened route param) = not (nat_eq route 2)
is_elsewhere _ = true

made_elsewhere : (c seed : ℕ) → list_all is_elsewhere (made_life c seed) ≡ true
made_elsewhere c seed = each (states_of c seed)
  where
    each : (states : List ℕ) → list_all is_elsewhere (map (λ state. read (wire.message Text (body_of state))) states) ≡ true
    each [] = refl
    each (state ∷ states) = each states

-- the built-in handler closes on the bus alone
gently : (e : EventValue) → nat_eq e.route 2 ≡ false → list_all is_no_close (bus_said e) ≡ true
gently e away = by_what e.what
  where
    one : (b : Bool) (o : OrderValue) → is_no_close o ≡ true → list_all is_no_close (option_to_list (cond b (Some o) None)) ≡ true
    one true o gentle = ap (λ c. c && true) gentle
    one false o gentle = refl

    three : (a b c : Bool) (x y z : OrderValue) → is_no_close x ≡ true → is_no_close y ≡ true → c ≡ false → list_all is_no_close (option_to_list (cond a (Some x) (cond b (Some y) (cond c (Some z) None)))) ≡ true
    three true b c x y z first second none = ap (λ d. d && true) first
    three false true c x y z first second none = ap (λ d. d && true) second
    three false false true x y z first second none = clash true none refl
    three false false false x y z first second none = refl

    by_what : (what : WhatValue) → list_all is_no_close (option_to_list (order_on e.route e.conn e.param what)) ≡ true
    by_what value.opened = one (nat_eq e.route 1) (order.subscribe e.param) refl
    by_what (value.message kind body) = three (nat_eq e.route 0) (nat_eq e.route 1) (nat_eq e.route 2) (order.send e.conn kind body) (order.publish e.param kind body) (unwrap_or (commanded kind body) (order.send e.conn kind body)) refl refl away
    by_what (value.told dropped drained) = refl
    by_what (value.closed code reason) = refl

-- and sends what came, or nothing
shortly : (e : EventValue) → nat_eq e.route 2 ≡ false → is_short_event e.what ≡ true → list_all is_short_order (bus_said e) ≡ true
shortly e away short = by_what e.what short
  where
    three : (a b c : Bool) (x y z : OrderValue) → is_short_order x ≡ true → is_short_order y ≡ true → c ≡ false → list_all is_short_order (option_to_list (cond a (Some x) (cond b (Some y) (cond c (Some z) None)))) ≡ true
    three true b c x y z first second none = ap (λ d. d && true) first
    three false true c x y z first second none = ap (λ d. d && true) second
    three false false true x y z first second none = clash true none refl
    three false false false x y z first second none = refl

    one : (b : Bool) (topic : List ℕ) → list_all is_short_order (option_to_list (cond b (Some (order.subscribe topic)) None)) ≡ true
    one true topic = refl
    one false topic = refl

    by_what : (what : WhatValue) → is_short_event what ≡ true → list_all is_short_order (option_to_list (order_on e.route e.conn e.param what)) ≡ true
    by_what value.opened short = one (nat_eq e.route 1) e.param
    by_what (value.message kind body) short = three (nat_eq e.route 0) (nat_eq e.route 1) (nat_eq e.route 2) (order.send e.conn kind body) (order.publish e.param kind body) (unwrap_or (commanded kind body) (order.send e.conn kind body)) short short away
    by_what (value.told dropped drained) short = refl
    by_what (value.closed code reason) short = refl

-- an opening that is not on the bus, or a message of 16 octets
abbrev is_short_heard : Heard → Bool
is_short_heard (opened route param) = not (nat_eq route 2)
is_short_heard (read (wire.message kind body)) = is_short_body body
is_short_heard _ = false

made_short : (c seed : ℕ) → list_all is_short_heard (made_life c seed) ≡ true
made_short c seed = each (states_of c seed)
  where
    sixteen : (state : ℕ) → is_short_body (body_of state) ≡ true
    sixteen state = let size = body_length state in grind (arith, nat_tests)

    each : (states : List ℕ) → list_all is_short_heard (map (λ state. read (wire.message Text (body_of state))) states) ≡ true
    each [] = refl
    each (state ∷ states) = rw (sixteen state) (each states)

-- ---- the run

module _ {S : Type 0} (s : Server S) (now : S) (seed : ℕ) (ns : List NoteValue) (net : MemNetState) (held : ℕ → List ℕ) (r : RunsMade s now seed ns net held) where
  given_front : (c : ℕ) → has_arrived net.acts c ≡ true → (link_at net c).given ++ (link_at net c).waiting ≡ sent c (made_acts seed)
  given_front c there = (r.follows.fits c there).came ∙ ap (sent c) (ap (λ k. take k net.acts) r.used ∙ take-length net.acts ∙ r.acts_are)

  -- what holds of all that is heard of a connection by its octets holds of what was heard
  heard_all : (p : Heard → Bool) → ((c : ℕ) → list_all p (made_life c seed) ≡ true) → (c : ℕ) → is_accepted c ns ≡ true → list_all p (heard c ns) ≡ true
  heard_all p holds c accepted =
      let lived = r.ends.right.lived c accepted in
      front_all p (is_gone_phase (phase s ns c)) (heard c ns) (to_hear (last_frame s ns c) lived.life) lived.reaches
      (hear_all p (last_frame s ns c) lived.life
      (by_cases (has_arrived net.acts c)
      (λ there.
      let (low, high) = arrives_within (made_acts seed) 64 c (made_arrivals seed) (ap (λ (xs : List Act). has_arrived xs c) (sym r.acts_are) ∙ there) in
      let (rest, whole) = life_within seed c (link_at net c).given (link_at net c).waiting lived.life low high (given_front c there) lived.is in
      and_left (list_all p lived.life) (list_all p rest) (sym (list_all-append p lived.life rest) ∙ ap (list_all p) (sym whole) ∙ holds c))
      (λ away.
      let none : (link_at net c).given ≡ [] = ap (λ (link : LinkState). link.given) (not_there c net away) in
      ap (list_all p) (no_life lived.life (subst (λ (l : List ℕ). IsLife routes_of_bus 16384 l lived.life) none lived.is)))))

  heard_goes_on : (c : ℕ) → is_accepted c ns ≡ true → list_all goes_on (heard c ns) ≡ true
  heard_goes_on = heard_all goes_on (λ c. made_goes_on c seed)

  pub no_ticks : list_any is_tick ns ≡ false
  no_ticks = untimed (made_acts seed) ns (net_state net).passed (made_alone seed) r.ends.right.follows.passed r.passed

  not_gone : (c : ℕ) → is_accepted c ns ≡ true → (before rest : List NoteValue) (left : Left) → ns ≡ before ++ note.gone c left ∷ rest → ⊥
  not_gone c accepted before rest PeerEnd split =
      clash (is_gone_by_in c PeerEnd ns) (r.unended c accepted) (ap (is_gone_by_in c PeerEnd) split ∙ gone_by c PeerEnd before rest (rw (itself c) refl))
  not_gone c accepted before rest LinkFailed split =
      clash (is_gone_by_in c LinkFailed ns) (r.unfailed c accepted) (ap (is_gone_by_in c LinkFailed) split ∙ gone_by c LinkFailed before rest (rw (itself c) refl))
  not_gone c accepted before rest Idle split =
      let inside = r.ends.right.timely.inside before rest (note.gone c Idle) c split (rw (itself c) refl) in
      let none = or_left (list_any is_tick before) (list_any is_tick (note.gone c Idle ∷ rest)) (sym (list_any-append is_tick before (note.gone c Idle ∷ rest)) ∙ ap (list_any is_tick) (sym split) ∙ no_ticks) in
      clash false refl (no_stretch false before none inside)
  not_gone c accepted before rest Finished split =
      let ending = ((r.ends.right.sound before rest (note.gone c Finished) split).finished c refl).0 in
      let goes = front_goes_on c before (note.gone c Finished ∷ rest) (ap (λ (l : List NoteValue). list_all goes_on (heard c l)) (sym split) ∙ heard_goes_on c accepted) in
      clash (is_ending (phase s before c)) (not_ending s c before goes) ending

  -- no connection is gone
  pub none_gone : (c : ℕ) → is_accepted c ns ≡ true → is_gone_in c ns ≡ false
  none_gone c accepted = by_cases (is_gone_in c ns)
      (λ gone. let n = gone_note c ns gone in absurd (not_gone c accepted n.before n.rest n.left n.split))
      (λ stays. stays)

  pub none_gone_phase : (c : ℕ) → is_accepted c ns ≡ true → is_gone_phase (phase s ns c) ≡ false
  none_gone_phase c accepted = (known_world s usual_config ns r.ends.right.sound).gone c ∙ none_gone c accepted

  -- ---- who sends, and what is heard of it

  -- a connection that was accepted is one of those that arrive
  pub bounds : (c : ℕ) → is_accepted c ns ≡ true → (1 ≤ c) × (c ≤ 64)
  bounds c accepted =
      let lives : (link_at net c).live ≡ true = r.ends.settled.live c ∙ ap (λ b. b && not (is_gone_phase (phase s ns c))) accepted ∙ ap not (none_gone_phase c accepted) in
      let there : has_arrived net.acts c ≡ true = by_cases (has_arrived net.acts c) (λ yes. yes) (λ away. clash (link_at net c).live (ap (λ (link : LinkState). link.live) (not_there c net away)) lives) in
      arrives_within (made_acts seed) 64 c (made_arrivals seed) (ap (λ (xs : List Act). has_arrived xs c) (sym r.acts_are) ∙ there)

  -- a connection that a note names was accepted, unless the note says that it came
  named_accepted : (before rest : List NoteValue) (n : NoteValue) (c : ℕ) → ns ≡ before ++ n ∷ rest → conn_of n ≡ Some c → is_arrival n ≡ false → is_accepted c ns ≡ true
  named_accepted before rest n c split names inner =
      let was : is_accepted c before ≡ true = by_cases (is_accepted c before) (λ yes. yes) (λ new. clash (is_arrival n) inner ((r.ends.right.sound before rest n split).named c names new)) in
      ap (is_accepted c) split ∙ accepted-append c before (n ∷ rest) ∙ ap (λ b. b || is_accepted c (n ∷ rest)) was

  opens_room : list_all (opens_elsewhere 2) ns ≡ true
  opens_room = all_pass (opens_elsewhere 2) [] ns one
    where
      one : (before rest : List NoteValue) (n : NoteValue) → ns ≡ before ++ n ∷ rest → opens_elsewhere 2 n ≡ true
      one before rest (note.opened c route param) split =
          let accepted = named_accepted before rest (note.opened c route param) c split refl refl in
          let all = ap (λ (l : List NoteValue). list_all is_elsewhere (heard c l)) (sym split) ∙ heard_all is_elsewhere (λ d. made_elsewhere d seed) c accepted in
          let behind = and_right (list_all is_elsewhere (heard c before)) (list_all is_elsewhere (heard c (note.opened c route param ∷ rest)))
          (sym (list_all-append is_elsewhere (heard c before) (heard c (note.opened c route param ∷ rest))) ∙ ap (list_all is_elsewhere) (sym (gather-append (heard_by c) before (note.opened c route param ∷ rest))) ∙ all) in
          let own = ap (λ b. list_all is_elsewhere (cond b (opened route param ∷ []) [] ++ heard c rest)) (sym (itself c)) ∙ behind in
          and_left (not (nat_eq route 2)) (list_all is_elsewhere (heard c rest)) own
      one before rest _ split = refl

  within : list_all is_within ns ≡ true
  within = all_pass is_within [] ns one
    where
      one : (before rest : List NoteValue) (n : NoteValue) → ns ≡ before ++ n ∷ rest → is_within n ≡ true
      one before rest (note.message c kind body) split =
          let (low, high) = bounds c (named_accepted before rest (note.message c kind body) c split refl refl) in
          let first : nat_le 1 c ≡ true = grind (arith, nat_tests) in
          let last : nat_le c 64 ≡ true = grind (arith, nat_tests) in
          rw (first, last) refl
      one before rest _ split = refl

  -- all that the octets of a connection say was heard
  pub heard_is : (c : ℕ) → is_accepted c ns ≡ true → heard c ns ≡ made_life c seed
  heard_is c accepted =
      let lived = r.ends.right.lived c accepted in
      let reads = reading_of (phase s ns c) (accepted_known s c ns accepted) (none_gone_phase c accepted) (not_ending s c ns (heard_goes_on c accepted)) in
      let (low, high) = bounds c accepted in
      let all = subst (λ b. Reaches b (heard c ns) (to_hear (last_frame s ns c) lived.life)) (none_gone_phase c accepted) lived.reaches in
      let unclosed = never_closed s 2 (λ state e away. ap (list_all is_no_close) (r.says state e) ∙ gently e away) ns c refl opens_room in
      all ∙ ap (λ (last : Option ℕ). to_hear last lived.life) unclosed ∙ life_is seed c lived.life low high (subst (λ (l : List ℕ). IsLife routes_of_bus 16384 l lived.life) (r.given c reads) lived.is)

  -- where all 64 connections are accepted, all messages are noted
  pub messages_all : length (gather accepted_by ns) ≡ 64 → number_of is_message ns ≡ 8000
  messages_all count =
      let all = all_accepted (made_acts seed) 64 ns (net_state net).passed (made_arrivals seed) r.ends.right.follows.passed r.passed count in
      messages_heard ns within
      ∙ same_sums (λ c. number_of is_message_heard (heard c ns)) (λ c. length (states_of c seed)) (numbers 64)
      (λ c among. ap (number_of is_message_heard) (heard_is c (ap (has_number c) all ∙ among)) ∙ life_messages c seed)
      ∙ made_count seed

  -- ---- octets

  -- what is heard by a note of a connection that was accepted
  one_heard : (before rest : List NoteValue) (n : NoteValue) (c : ℕ) → ns ≡ before ++ n ∷ rest → conn_of n ≡ Some c → is_arrival n ≡ false → list_all is_short_heard (heard_by c n) ≡ true
  one_heard before rest n c split names inner =
      let all = ap (λ (l : List NoteValue). list_all is_short_heard (heard c l)) (sym split) ∙ heard_all is_short_heard (λ d. made_short d seed) c (named_accepted before rest n c split names inner) in
      let behind = and_right (list_all is_short_heard (heard c before)) (list_all is_short_heard (heard c (n ∷ rest)))
      (sym (list_all-append is_short_heard (heard c before) (heard c (n ∷ rest))) ∙ ap (list_all is_short_heard) (sym (gather-append (heard_by c) before (n ∷ rest))) ∙ all) in
      and_left (list_all is_short_heard (heard_by c n)) (list_all is_short_heard (heard c rest)) (sym (list_all-append is_short_heard (heard_by c n) (heard c rest)) ∙ behind)

  -- so a test of it holds where the note names the connection
  own_heard : (c : ℕ) (h : Heard) → list_all is_short_heard (cond (nat_eq c c) (h ∷ []) []) ≡ true → is_short_heard h ≡ true
  own_heard c h all = and_left (is_short_heard h) true (ap (λ b. list_all is_short_heard (cond b (h ∷ []) [])) (sym (itself c)) ∙ all)

  short_notes : list_all (is_short_note 2) ns ≡ true
  short_notes = all_pass (is_short_note 2) [] ns one
    where
      one : (before rest : List NoteValue) (n : NoteValue) → ns ≡ before ++ n ∷ rest → is_short_note 2 n ≡ true
      one before rest (note.opened c route param) split = own_heard c (opened route param) (one_heard before rest (note.opened c route param) c split refl refl)
      one before rest (note.message c kind body) split = own_heard c (read (wire.message kind body)) (one_heard before rest (note.message c kind body) c split refl refl)
      one before rest (note.head c status) split = own_heard c (refused status) (one_heard before rest (note.head c status) c split refl refl)
      one before rest (note.ping_got c body) split = own_heard c (read (wire.ping body)) (one_heard before rest (note.ping_got c body) c split refl refl)
      one before rest (note.peer_close c code reason) split = own_heard c (read (wire.closed code reason)) (one_heard before rest (note.peer_close c code reason) c split refl refl)
      one before rest (note.failed c code) split = own_heard c (read (wire.failed code)) (one_heard before rest (note.failed c code) c split refl refl)
      one before rest (note.pinged c) split =
          let inside = r.ends.right.timely.inside before rest (note.pinged c) c split (rw (itself c) refl) in
          let none = or_left (list_any is_tick before) (list_any is_tick (note.pinged c ∷ rest)) (sym (list_any-append is_tick before (note.pinged c ∷ rest)) ∙ ap (list_any is_tick) (sym split) ∙ no_ticks) in
          clash false refl (no_stretch false before none inside)
      one before rest _ split = refl

  -- the reply to each connection that was opened
  reply_length : AreReplies routes_of_bus ns (net_state net).given s.reply → (c : ℕ) → is_accepted c ns ≡ true → list_any (is_opened c) ns ≡ true → length (s.reply c) ≡ 129
  reply_length agree c accepted opened_it =
      let reads = reading_of (phase s ns c) (accepted_known s c ns accepted) (none_gone_phase c accepted) (not_ending s c ns (heard_goes_on c accepted)) in
      let (low, high) = bounds c accepted in
      let given = r.given c reads ∙ made_sent seed c low high in
      let judged = subst (λ (l : List ℕ). Judged routes_of_bus l admitted) (sym given) (judged_then (flat_map octets_of (states_of c seed))) in
      ap (λ (l : List ℕ). length l) (agree c admitted opened_it judged refl) ∙ answer_length

  opened_accepted : (c : ℕ) → list_any (is_opened c) ns ≡ true → is_accepted c ns ≡ true
  opened_accepted c some = at (opened_note c ns some)
    where
      at : (n : OpenedNote c ns) → is_accepted c ns ≡ true
      at n = named_accepted n.before n.rest (note.opened c n.route n.param) c n.split refl refl

  -- what the items of a connection are long
  items_length : AreReplies routes_of_bus ns (net_state net).given s.reply → (c : ℕ) → is_accepted c ns ≡ true → length (all_spelled (plain s ns c)) + 18 ≡ 129 + 18 * length (plain s ns c)
  items_length agree c accepted =
      let weigh = items_weigh s 2 (λ state e away short. ap (list_all is_short_order) (r.says state e) ∙ shortly e away short) ns c refl short_notes (λ d some. reply_length agree d (opened_accepted d some) some) in
      let once = opened_once c c seed ns (heard_is c accepted) in
      once_is (number_of (is_opened c) ns) (length (all_spelled (plain s ns c))) (length (plain s ns c)) once weigh
    where
      once_is : (k x n : ℕ) → k ≡ 1 → x + 18 * k ≡ 129 * k + 18 * n → x + 18 ≡ 129 + 18 * n
      once_is k x n one weigh = omega (arith, one, weigh)

  -- where all 64 connections are accepted, the octets of all items by their number
  pub octets_all : AreReplies routes_of_bus ns (net_state net).given s.reply → length (gather accepted_by ns) ≡ 64
      → total (map (λ c. length (all_spelled (plain s ns c))) (gather accepted_by ns)) ≡ 7104 + 18 * total (map (λ c. length (plain s ns c)) (gather accepted_by ns))
  octets_all agree count = sum_up (gather accepted_by ns) (λ c there. items_length agree c there) count
    where
      each : (f g : ℕ → ℕ) (xs : List ℕ) → ((c : ℕ) → has_number c xs ≡ true → f c + 18 ≡ 129 + 18 * g c) → total (map f xs) + 18 * length xs ≡ 129 * length xs + 18 * total (map g xs)
      each f g [] one = refl
      each f g (x ∷ xs) one =
          let first = one x (rw (itself x) refl) in
          let rest = each f g xs (λ c there. one c (or_second (nat_eq c x) (has_number c xs) there)) in
          omega (arith, first, rest)

      sum_up : (xs : List ℕ) → ((c : ℕ) → has_number c xs ≡ true → length (all_spelled (plain s ns c)) + 18 ≡ 129 + 18 * length (plain s ns c)) → length xs ≡ 64
          → total (map (λ c. length (all_spelled (plain s ns c))) xs) ≡ 7104 + 18 * total (map (λ c. length (plain s ns c)) xs)
      sum_up xs one size = let all = each (λ c. length (all_spelled (plain s ns c))) (λ c. length (plain s ns c)) xs one in omega (arith, all, size)
