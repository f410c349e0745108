-- In one room: where all who are accepted are opened on the room m before the first message, each message is sent to all others there.
use Rattle.std.proofs.Common.{◌≡◌, ℕ, ◌+◌, Bool, true, false, cond, not, ◌&&◌, ◌||◌, nat_eq, List, [], ◌∷◌, ◌++◌, length, Option, Some, None, refl, sym, ap, ◌∙◌, subst, arith, append-nil}
use Rattle.std.specs.List.{list_any}
use Rattle.std.specs.Option.{option_to_list}
use Rattle.std.proofs.lemmas.List.{length-append}
use Rattle.std.proofs.lemmas.List.Folds.{list_any-append}
use Rattle.ws_kinds.proofs.Facts.{clash, equal_is, or_false, same_number as itself}
use Rattle.ws_kinds.specs.ConfigValue.{usual_config}
use Rattle.ws_kinds.specs.Topics.{has_topic, with_topic}
use Rattle.ws_kinds.specs.declared.kind.Kind.{Kind}
use Rattle.ws_kinds.specs.declared.note.Phase.{Phase}
use Rattle.ws_kinds.specs.declared.note.Phase.TheVariants.{Head, Open}
use Rattle.ws_kinds.specs.declared.note.Why.TheVariants.{Forbidden}
use Rattle.ws_kinds.specs.EventValue as value
use Rattle.ws_kinds.specs.EventValue.{EventValue, WhatValue}
use Rattle.ws_kinds.specs.NoteValue as note
use Rattle.ws_kinds.specs.NoteValue.{NoteValue}
use Rattle.ws_kinds.specs.OrderValue.{OrderValue, subscribe, publish}
use Rattle.wire_meaning.specs.Answer.{Item, reply}
use Rattle.bus_handler.specs.Bus.{bus_said, order_on, room_route}
use Rattle.run_meaning.specs.Counts.{is_accepted, is_gone_in, number_of}
use Rattle.run_meaning.specs.Lines.{Line, World, after_own, answered, appended, data_frame, event_of, is_open, is_refused, leaves_open, line_after, moved, noted, obey, obeyed, orders_of, param_after, plain, route_after, step, topics_left, world}
use Rattle.run_meaning.specs.Notes.{is_event, is_of, window}
use Rattle.run_meaning.specs.Orders.{AllJustified, standings, unless_gone, why_publish, why_subscribe}
use Rattle.run_meaning.specs.Replies.{is_opened, is_opened_in}
use Rattle.run_meaning.specs.Server.{Server}
use Rattle.run_meaning.proofs.Parts.{accepted-append}
use Rattle.run_meaning.proofs.Underway.{perform-line}
use Rattle.hub_notes.proofs.NetLemmas.{number_then}
use Rattle.run_laws.proofs.Adding.{same_number}
use Rattle.made_life.specs.Life.{is_want, room}
use Rattle.made_life.proofs.Walking.{only_served, walk}

-- ---- lines

-- how far a connection is that was opened or not, and accepted or not
abbrev phase_of : Bool → Bool → Option Phase
phase_of true accepted = Some Open
phase_of false true = Some Head
phase_of false false = None

-- the line of a connection that was opened on the room or not, and accepted or not, and for which so many items were put
record Stands (opened accepted : Bool) (count : ℕ) (l : Line) : Type 0 where
  pub phase : l.phase ≡ phase_of opened accepted
  pub topics : l.topics ≡ cond opened (room ∷ []) []
  pub route : opened ≡ true → l.route ≡ room_route
  pub param : opened ≡ true → l.param ≡ room
  pub items : length l.items ≡ count

-- the note moves no connection and sends nothing
abbrev is_plain : NoteValue → Bool
is_plain (note.accepted c) = false
is_plain (note.head c status) = false
is_plain (note.opened c route param) = false
is_plain (note.ping_got c body) = false
is_plain (note.pinged c) = false
is_plain (note.peer_close c code reason) = false
is_plain (note.failed c code) = false
is_plain (note.gone c left) = false
is_plain _ = true

-- the note is plain, or says that a connection was accepted or opened
abbrev pub is_usual : NoteValue → Bool
is_usual (note.accepted c) = true
is_usual (note.opened c route param) = true
is_usual (note.head c status) = false
is_usual (note.ping_got c body) = false
is_usual (note.pinged c) = false
is_usual (note.peer_close c code reason) = false
is_usual (note.failed c code) = false
is_usual (note.gone c left) = false
is_usual _ = true

-- the note says that a message of another connection was read
abbrev pub is_other : ℕ → NoteValue → Bool
is_other conn (note.message other kind body) = not (nat_eq other conn)
is_other conn _ = false

stays_there : (p : Option Phase) → leaves_open p p ≡ false
stays_there p = one (is_open p)
  where
    one : (b : Bool) → (b && not b) ≡ false
    one true = refl
    one false = refl

-- how often a connection was opened, and how many messages of others were read
abbrev pub count : ℕ → List NoteValue → ℕ
count d ns = number_of (is_opened d) ns + number_of (is_other d) ns

module _ {S : Type 0} (s : Server S) where
  record Still (n : NoteValue) (l : Line) : Type 0 where
    pub opened : moved (Some Open) n ≡ Some Open
    pub head : moved (Some Head) n ≡ Some Head
    pub none : moved None n ≡ None
    pub sends : appended s l.phase n ≡ []
    pub route : route_after n l.route ≡ l.route
    pub param : param_after n l.param ≡ l.param

  still : (n : NoteValue) (l : Line) → is_plain n ≡ true → Still n l
  still (note.accepted c) l plain = clash false refl plain
  still (note.head c status) l plain = clash false refl plain
  still (note.opened c route param) l plain = clash false refl plain
  still (note.ping_got c body) l plain = clash false refl plain
  still (note.pinged c) l plain = clash false refl plain
  still (note.peer_close c code reason) l plain = clash false refl plain
  still (note.failed c code) l plain = clash false refl plain
  still (note.gone c left) l plain = clash false refl plain
  still _ l plain = record { opened = refl; head = refl; none = refl; sends = refl; route = refl; param = refl }

  plain_stands : (d k : ℕ) (n : NoteValue) (o a : Bool) (l : Line) → is_plain n ≡ true → Stands o a k l → Stands o a k (line_after s d n l)
  plain_stands d k n o a l plain x = one (is_of d n)
    where
      stands : Still n l
      stands = still n l plain

      moves : (o a : Bool) → moved (phase_of o a) n ≡ phase_of o a
      moves true a = stands.opened
      moves false true = stands.head
      moves false false = stands.none

      same : moved l.phase n ≡ l.phase
      same = ap (λ (p : Option Phase). moved p n) x.phase ∙ moves o a ∙ sym x.phase

      one : (b : Bool) → Stands o a k (cond b (after_own s n l) l)
      one true = record {
        phase = same ∙ x.phase;
        topics = ap (λ (p : Option Phase). topics_left l.phase p l.topics) same ∙ ap (λ b. cond b [] l.topics) (stays_there l.phase) ∙ x.topics;
        route = λ on. stands.route ∙ x.route on;
        param = λ on. stands.param ∙ x.param on;
        items = ap (λ (xs : List Item). length (l.items ++ xs)) stands.sends ∙ ap (λ (xs : List Item). length xs) (append-nil l.items) ∙ x.items;
      }
      one false = x

  accepted_stands : (c d k : ℕ) (o a : Bool) (l : Line) → Stands o a k l → Stands o (a || nat_eq c d) k (line_after s d (note.accepted c) l)
  accepted_stands c d k o a l x = one (nat_eq c d)
    where
      n : NoteValue
      n = note.accepted c

      comes : (o a : Bool) → moved (phase_of o a) (note.accepted c) ≡ phase_of o (a || true)
      comes true a = refl
      comes false true = refl
      comes false false = refl

      open_stays : (o a : Bool) → leaves_open (phase_of o a) (moved (phase_of o a) (note.accepted c)) ≡ false
      open_stays true a = refl
      open_stays false true = refl
      open_stays false false = refl

      one : (b : Bool) → Stands o (a || b) k (cond b (after_own s (note.accepted c) l) l)
      one true = record {
        phase = ap (λ (p : Option Phase). moved p (note.accepted c)) x.phase ∙ comes o a;
        topics = ap (λ (p : Option Phase). cond (leaves_open p (moved p (note.accepted c))) [] l.topics) x.phase ∙ ap (λ b. cond b [] l.topics) (open_stays o a) ∙ x.topics;
        route = x.route;
        param = x.param;
        items = ap (λ (xs : List Item). length xs) (append-nil l.items) ∙ x.items;
      }
      one false = subst (λ (b : Bool). Stands o b k l) (or_false a) x

  -- ---- events

  -- what becomes of a line by an event that orders this
  event_line : (u : ℕ → Bool) (d : ℕ) (e : EventValue) (os : List OrderValue) (w : World S) → orders_of s e w ≡ os → (answered s u e w).line d ≡ obeyed u e.conn d 0 os (w.line d)
  event_line u d e os w are = perform-line u e.conn d 0 (orders_of s e w) (record w { state = s.after w.state e }) ∙ ap (λ (l : List OrderValue). obeyed u e.conn d 0 l (w.line d)) are

  module _ (says : (state : S) (e : EventValue) → s.said state e ≡ bus_said e) where
    -- the event of an opening orders to subscribe to the room
    opened_orders : (c : ℕ) (w : World S) → (w.line c).route ≡ room_route → (w.line c).param ≡ room → orders_of s (event_of c value.opened w) w ≡ subscribe room ∷ []
    opened_orders c w route param =
        says (s.after w.state (event_of c value.opened w)) (event_of c value.opened w)
        ∙ ap (λ (r : ℕ). option_to_list (order_on r c (w.line c).param value.opened)) route ∙ ap (λ (p : List ℕ). option_to_list (order_on room_route c p value.opened)) param

    -- and that of a message to publish it there
    message_orders : (c : ℕ) (kind : Kind) (body : List ℕ) (w : World S) → (w.line c).route ≡ room_route → (w.line c).param ≡ room → orders_of s (event_of c (value.message kind body) w) w ≡ publish room kind body ∷ []
    message_orders c kind body w route param =
        says (s.after w.state (event_of c (value.message kind body) w)) (event_of c (value.message kind body) w)
        ∙ ap (λ (r : ℕ). option_to_list (order_on r c (w.line c).param (value.message kind body))) route ∙ ap (λ (p : List ℕ). option_to_list (order_on room_route c p (value.message kind body))) param

    -- the line of who is opened, before the orders
    own_route : (c route : ℕ) (param : List ℕ) (w : World S) → ((noted s (note.opened c route param) w).line c).route ≡ route
    own_route c route param w = ap (λ b. (cond b (after_own s (note.opened c route param) (w.line c)) (w.line c)).route) (itself c)

    own_param : (c route : ℕ) (param : List ℕ) (w : World S) → ((noted s (note.opened c route param) w).line c).param ≡ param
    own_param c route param w = ap (λ b. (cond b (after_own s (note.opened c route param) (w.line c)) (w.line c)).param) (itself c)

    opened_stands : (u : ℕ → ℕ → Bool) (c d route k : ℕ) (param : List ℕ) (o a : Bool) (w : World S) → route ≡ room_route → param ≡ room → u c 0 ≡ false → (nat_eq c d ≡ true → (o ≡ false) × (a ≡ true))
        → Stands o a k (w.line d) → Stands (o || nat_eq c d) a (k + cond (nat_eq c d) 1 0) ((step s u (note.opened c route param) w).line d)
    opened_stands u c d route k param o a w on there served first x =
        subst (λ (z : Line). Stands (o || nat_eq c d) a (k + cond (nat_eq c d) 1 0) z) (sym shown) (one (nat_eq c d) first)
      where
        n : NoteValue
        n = note.opened c route param

        l : Line
        l = w.line d

        now : World S
        now = noted s (note.opened c route param) w

        shown : (step s u (note.opened c route param) w).line d ≡ obey c d (subscribe room) (line_after s d (note.opened c route param) (w.line d))
        shown =
            event_line (u c) d (event_of c value.opened (noted s (note.opened c route param) w)) (subscribe room ∷ []) (noted s (note.opened c route param) w)
            (opened_orders c (noted s (note.opened c route param) w) (own_route c route param w ∙ on) (own_param c route param w ∙ there))
            ∙ ap (λ b. cond b (line_after s d (note.opened c route param) (w.line d)) (obey c d (subscribe room) (line_after s d (note.opened c route param) (w.line d)))) served

        sum : (m k : ℕ) → m ≡ k → m + 1 ≡ k + 1
        sum m k e = ap (λ z. z + 1) e

        none : (m : ℕ) → m + 0 ≡ m
        none m = omega arith

        one : (b : Bool) → (b ≡ true → (o ≡ false) × (a ≡ true))
            → Stands (o || b) a (k + cond b 1 0) (cond b (record (cond b (after_own s (note.opened c route param) (w.line d)) (w.line d)) { topics = with_topic room (cond b (after_own s (note.opened c route param) (w.line d)) (w.line d)).topics }) (cond b (after_own s (note.opened c route param) (w.line d)) (w.line d)))
        one true first =
            let (closed, come) = first refl in
            let head : (w.line d).phase ≡ Some Head = x.phase ∙ ap (λ z. phase_of z a) closed ∙ ap (λ z. phase_of false z) come in
            let before : (w.line d).topics ≡ [] = x.topics ∙ ap (λ (z : Bool). cond z (room ∷ []) []) closed in
            let kept : topics_left (w.line d).phase (moved (w.line d).phase (note.opened c route param)) (w.line d).topics ≡ [] = ap (λ (p : Option Phase). topics_left p (moved p (note.opened c route param)) (w.line d).topics) head ∙ before in
            subst (λ z. Stands (z || true) a (k + 1) (record (after_own s (note.opened c route param) (w.line d)) { topics = with_topic room (after_own s (note.opened c route param) (w.line d)).topics })) (sym closed) (record {
              phase = ap (λ (p : Option Phase). moved p (note.opened c route param)) head;
              topics = ap (with_topic room) kept;
              route = λ e. on;
              param = λ e. there;
              items = length-append (w.line d).items (reply (s.reply c) ∷ []) ∙ sum (length (w.line d).items) k x.items;
            })
        one false first = subst (λ m. Stands (o || false) a m (w.line d)) (sym (none k)) (subst (λ z. Stands z a k (w.line d)) (or_false o) x)

    message_stands : (u : ℕ → ℕ → Bool) (c d k m : ℕ) (kind : Kind) (body : List ℕ) (a b : Bool) (w : World S) → u c 0 ≡ false → Stands true a m (w.line c) → Stands true b k (w.line d)
        → Stands true b (k + cond (nat_eq c d) 0 1) ((step s u (note.message c kind body) w).line d)
    message_stands u c d k m kind body a b w served own x =
        subst (λ (z : Line). Stands true b (k + cond (nat_eq c d) 0 1) z) (sym shown) (one (nat_eq c d))
      where
        l : Line
        l = line_after s d (note.message c kind body) (w.line d)

        now : Stands true b k (line_after s d (note.message c kind body) (w.line d))
        now = plain_stands d k (note.message c kind body) true b (w.line d) refl x

        sender : Stands true a m (line_after s c (note.message c kind body) (w.line c))
        sender = plain_stands c m (note.message c kind body) true a (w.line c) refl own

        shown : (step s u (note.message c kind body) w).line d ≡ obey c d (publish room kind body) (line_after s d (note.message c kind body) (w.line d))
        shown =
            event_line (u c) d (event_of c (value.message kind body) (noted s (note.message c kind body) w)) (publish room kind body ∷ []) (noted s (note.message c kind body) w)
            (message_orders c kind body (noted s (note.message c kind body) w) (sender.route refl) (sender.param refl))
            ∙ ap (λ z. cond z (line_after s d (note.message c kind body) (w.line d)) (obey c d (publish room kind body) (line_after s d (note.message c kind body) (w.line d)))) served

        has : has_topic room (line_after s d (note.message c kind body) (w.line d)).topics ≡ true
        has = ap (has_topic room) now.topics

        more : (z : Line) → Stands true b k z → Stands true b (k + 1) (record z { items = z.items ++ data_frame kind body ∷ [] })
        more z y = record { phase = y.phase; topics = y.topics; route = y.route; param = y.param; items = length-append z.items (data_frame kind body ∷ []) ∙ ap (λ i. i + 1) y.items }

        none : (i : ℕ) → i + 0 ≡ i
        none i = omega arith

        one : (z : Bool) → Stands true b (k + cond z 0 1) (cond (not z && has_topic room (line_after s d (note.message c kind body) (w.line d)).topics)
            (record (line_after s d (note.message c kind body) (w.line d)) { items = (line_after s d (note.message c kind body) (w.line d)).items ++ data_frame kind body ∷ [] }) (line_after s d (note.message c kind body) (w.line d)))
        one true = subst (λ i. Stands true b i (line_after s d (note.message c kind body) (w.line d))) (sym (none k)) now
        one false =
            subst (λ z. Stands true b (k + 1) (cond z (record (line_after s d (note.message c kind body) (w.line d)) { items = (line_after s d (note.message c kind body) (w.line d)).items ++ data_frame kind body ∷ [] }) (line_after s d (note.message c kind body) (w.line d))))
            (sym has) (more (line_after s d (note.message c kind body) (w.line d)) now)

-- ---- all notes

-- one more note
opened_one : (d : ℕ) (front : List NoteValue) (n : NoteValue) → is_opened_in d (front ++ n ∷ []) ≡ (is_opened_in d front || (is_opened d n || false))
opened_one d front n = list_any-append (is_opened d) front (n ∷ [])

count_one : (d : ℕ) (front : List NoteValue) (n : NoteValue) → count d (front ++ n ∷ []) ≡ count d front + count d (n ∷ [])
count_one d front n =
    let first = number_then (is_opened d) front (n ∷ []) in
    let second = number_then (is_other d) front (n ∷ []) in
    omega (arith, first, second)

-- what is known of a line behind notes, and behind one more
abbrev Behind : ℕ → List NoteValue → Line → Type 0
Behind d front l = Stands (is_opened_in d front) (is_accepted d front) (count d front) l

one_more : (d : ℕ) (front : List NoteValue) (n : NoteValue) (l : Line) → Stands (is_opened_in d front || (is_opened d n || false)) (is_accepted d front || is_accepted d (n ∷ [])) (count d front + count d (n ∷ [])) l → Behind d (front ++ n ∷ []) l
one_more d front n l x =
    rw (opened_one d front n, accepted-append d front (n ∷ []), count_one d front n) x

nothing_more : (d : ℕ) (front : List NoteValue) (n : NoteValue) (l : Line) → is_opened d n ≡ false → is_accepted d (n ∷ []) ≡ false → count d (n ∷ []) ≡ 0 → Behind d front l → Behind d (front ++ n ∷ []) l
nothing_more d front n l unopened unaccepted none x =
    one_more d front n l
    (subst (λ (i : ℕ). Stands (is_opened_in d front || (is_opened d n || false)) (is_accepted d front || is_accepted d (n ∷ [])) (count d front + i) l) (sym none)
    (subst (λ (z : Bool). Stands (is_opened_in d front || (is_opened d n || false)) (is_accepted d front || z) (count d front + 0) l) (sym unaccepted)
    (subst (λ (z : Bool). Stands (is_opened_in d front || (z || false)) (is_accepted d front || false) (count d front + 0) l) (sym unopened) (same (is_opened_in d front) (is_accepted d front) (count d front) x))))
  where
    zero_more : (k : ℕ) → k ≡ k + 0
    zero_more k = omega arith

    same : (o a : Bool) (k : ℕ) → Stands o a k l → Stands (o || false) (a || false) (k + 0) l
    same o a k x = subst (λ z. Stands z (a || false) (k + 0) l) (or_false o) (subst (λ z. Stands o z (k + 0) l) (or_false a) (subst (λ i. Stands o a i l) (zero_more k) x))

-- Who is accepted is opened on the room once, behind its acceptance, and before the first message. No reason is given for not serving what
-- they order: memory is not short, nobody becomes gone, the room may be subscribed to, and what comes may be published.
pub record IsRoom {S : Type 0} (s : Server S) (ns : List NoteValue) : Type 0 where
  pub says : (state : S) (e : EventValue) → s.said state e ≡ bus_said e
  pub admits : s.admits room ≡ true
  pub justified : AllJustified s usual_config ns
  pub enough : list_any is_want ns ≡ false
  pub stays : (c : ℕ) → is_accepted c ns ≡ true → is_gone_in c ns ≡ false
  pub usual : (front rest : List NoteValue) (n : NoteValue) → ns ≡ front ++ n ∷ rest → is_usual n ≡ true
  pub opened : (front rest : List NoteValue) (c route : ℕ) (param : List ℕ) → ns ≡ front ++ note.opened c route param ∷ rest
      → (route ≡ room_route) × (param ≡ room) × (is_opened_in c front ≡ false) × (is_accepted c front ≡ true)
  pub message : (front rest : List NoteValue) (c : ℕ) (kind : Kind) (body : List ℕ) → ns ≡ front ++ note.message c kind body ∷ rest
      → (is_accepted c ns ≡ true) × (why_publish usual_config room kind body ≡ None) × ((d : ℕ) → is_accepted d ns ≡ true → is_opened_in d front ≡ true)

module _ {S : Type 0} (s : Server S) (ns : List NoteValue) (r : IsRoom s ns) where
  accepted_later : (c : ℕ) (front rest : List NoteValue) → ns ≡ front ++ rest → is_accepted c front ≡ true → is_accepted c ns ≡ true
  accepted_later c front rest split there = ap (is_accepted c) split ∙ accepted-append c front rest ∙ ap (λ b. b || is_accepted c rest) there

  -- the order of an opening is served
  subscribes : (front rest : List NoteValue) (c route : ℕ) (param : List ℕ) → ns ≡ front ++ note.opened c route param ∷ rest → Behind c front ((world s front).line c) → is_refused (window rest) c 0 ≡ false
  subscribes front rest c route param split x =
      let (on, there, new, come) = r.opened front rest c route param split in
      only_served s usual_config ns r.justified r.enough front rest (note.opened c route param) (event_of c value.opened now) (subscribe room) split refl
      (opened_orders s r.says c now (own_route s r.says c route param (world s front) ∙ on) (own_param s r.says c route param (world s front) ∙ there)) (fits new come)
      (λ d asks. r.stays d (accepted_later d front (note.opened c route param ∷ rest) split (subst (λ k. is_accepted k front ≡ true) (let z : Some c ≡ Some d = asks in cc) come)))
    where
      now : World S
      now = noted s (note.opened c route param) (world s front)

      before : Line
      before = (world s front).line c

      allowed : (b : Bool) → b ≡ true → cond (not b) (Some Forbidden) None ≡ None
      allowed true e = refl
      allowed false e = clash false refl e

      fits : is_opened_in c front ≡ false → is_accepted c front ≡ true → why_subscribe s.admits (standings (noted s (note.opened c route param) (world s front)) c) room ≡ None
      fits new come =
          let head : ((world s front).line c).phase ≡ Some Head = x.phase ∙ ap (λ z. phase_of z (is_accepted c front)) new ∙ ap (λ z. phase_of false z) come in
          let none : ((world s front).line c).topics ≡ [] = x.topics ∙ ap (λ (z : Bool). cond z (room ∷ []) []) new in
          let opens : ((noted s (note.opened c route param) (world s front)).line c).phase ≡ Some Open =
          ap (λ b. (cond b (after_own s (note.opened c route param) ((world s front).line c)) ((world s front).line c)).phase) (itself c) ∙ ap (λ (p : Option Phase). moved p (note.opened c route param)) head in
          let topics : ((noted s (note.opened c route param) (world s front)).line c).topics ≡ [] =
          ap (λ b. (cond b (after_own s (note.opened c route param) ((world s front).line c)) ((world s front).line c)).topics) (itself c)
          ∙ ap (λ (p : Option Phase). topics_left p (moved p (note.opened c route param)) ((world s front).line c).topics) head ∙ none in
          ap (λ (p : Option Phase). why_subscribe s.admits (record { phase = unless_gone p; topics = ((noted s (note.opened c route param) (world s front)).line c).topics }) room) opens
          ∙ ap (λ (ts : List (List ℕ)). why_subscribe s.admits (record { phase = Some Open; topics = ts }) room) topics ∙ allowed (s.admits room) r.admits

  -- and so is that of a message
  publishes : (front rest : List NoteValue) (c : ℕ) (kind : Kind) (body : List ℕ) → ns ≡ front ++ note.message c kind body ∷ rest → Behind c front ((world s front).line c) → is_refused (window rest) c 0 ≡ false
  publishes front rest c kind body split x =
      let (come, fits, all) = r.message front rest c kind body split in
      let own = plain_stands s c (count c front) (note.message c kind body) (is_opened_in c front) (is_accepted c front) ((world s front).line c) refl x in
      only_served s usual_config ns r.justified r.enough front rest (note.message c kind body) (event_of c (value.message kind body) (noted s (note.message c kind body) (world s front))) (publish room kind body) split refl
      (message_orders s r.says c kind body (noted s (note.message c kind body) (world s front)) (own.route (all c come)) (own.param (all c come))) fits
      (λ d asks. absurd (let z : None ≡ Some d = asks in cc))

  -- each note keeps what is known of the lines
  abbrev AllBehind : List NoteValue → World S → Type 0
  AllBehind front w = (d : ℕ) → is_accepted d ns ≡ true → Behind d front (w.line d)

  each : (front rest : List NoteValue) (n : NoteValue) (w : World S) → ns ≡ front ++ n ∷ rest → (is_event n ≡ true → w ≡ world s front) → AllBehind front w → AllBehind (front ++ n ∷ []) (step s (is_refused (window rest)) n w)
  each front rest (note.opened c route param) w split alone all d there =
      let (on, param_is, new, come) = r.opened front rest c route param split in
      let served = subscribes front rest c route param split (subst (λ (v : World S). Behind c front (v.line c)) (alone refl) (all c (accepted_later c front (note.opened c route param ∷ rest) split come))) in
      one_more d front (note.opened c route param) ((step s (is_refused (window rest)) (note.opened c route param) w).line d)
      (shape (nat_eq c d) (is_opened_in d front) (is_accepted d front) (count d front)
      (opened_stands s r.says (is_refused (window rest)) c d route (count d front) param (is_opened_in d front) (is_accepted d front) w on param_is served
      (λ same. (ap (λ k. is_opened_in k front) (sym (equal_is c d same)) ∙ new, ap (λ k. is_accepted k front) (sym (equal_is c d same)) ∙ come)) (all d there)))
    where
      line : Line
      line = (step s (is_refused (window rest)) (note.opened c route param) w).line d

      shape : (b o a : Bool) (k : ℕ) → Stands (o || b) a (k + cond b 1 0) ((step s (is_refused (window rest)) (note.opened c route param) w).line d)
          → Stands (o || (b || false)) (a || false) (k + (cond b 1 0 + 0)) ((step s (is_refused (window rest)) (note.opened c route param) w).line d)
      shape true o a k x = subst (λ z. Stands (o || true) z (k + 1) ((step s (is_refused (window rest)) (note.opened c route param) w).line d)) (or_false a) x
      shape false o a k x = subst (λ z. Stands (o || false) z (k + 0) ((step s (is_refused (window rest)) (note.opened c route param) w).line d)) (or_false a) x
  each front rest (note.message c kind body) w split alone all d there =
      let (come, fits, opened) = r.message front rest c kind body split in
      let served = publishes front rest c kind body split (subst (λ (v : World S). Behind c front (v.line c)) (alone refl) (all c come)) in
      one_more d front (note.message c kind body) ((step s (is_refused (window rest)) (note.message c kind body) w).line d)
      (shape (is_opened_in d front) (nat_eq c d) (is_accepted d front) (count d front) (opened d there)
      (message_stands s r.says (is_refused (window rest)) c d (count d front) (count c front) kind body (is_accepted c front) (is_accepted d front) w served
      (subst (λ z. Stands z (is_accepted c front) (count c front) (w.line c)) (opened c come) (all c come))
      (subst (λ z. Stands z (is_accepted d front) (count d front) (w.line d)) (opened d there) (all d there))))
    where
      shape : (o b a : Bool) (k : ℕ) → o ≡ true → Stands true a (k + cond b 0 1) ((step s (is_refused (window rest)) (note.message c kind body) w).line d)
          → Stands (o || false) (a || false) (k + (0 + cond (not b) 1 0)) ((step s (is_refused (window rest)) (note.message c kind body) w).line d)
      shape true true a k on x = subst (λ z. Stands true z (k + 0) ((step s (is_refused (window rest)) (note.message c kind body) w).line d)) (or_false a) x
      shape true false a k on x = subst (λ z. Stands true z (k + 1) ((step s (is_refused (window rest)) (note.message c kind body) w).line d)) (or_false a) x
      shape false b a k on x = clash false refl on
  each front rest (note.told c dropped drained) w split alone all d there =
      nothing_more d front (note.told c dropped drained) ((step s (is_refused (window rest)) (note.told c dropped drained) w).line d) refl refl refl
      (subst (λ (z : Line). Behind d front z) (sym (event_line s (is_refused (window rest) c) d (event_of c (value.told dropped drained) (noted s (note.told c dropped drained) w)) [] (noted s (note.told c dropped drained) w) (r.says (s.after w.state (event_of c (value.told dropped drained) (noted s (note.told c dropped drained) w))) (event_of c (value.told dropped drained) (noted s (note.told c dropped drained) w)))))
      (plain_stands s d (count d front) (note.told c dropped drained) (is_opened_in d front) (is_accepted d front) (w.line d) refl (all d there)))
  each front rest (note.closed c code reason) w split alone all d there =
      nothing_more d front (note.closed c code reason) ((step s (is_refused (window rest)) (note.closed c code reason) w).line d) refl refl refl
      (subst (λ (z : Line). Behind d front z) (sym (event_line s (is_refused (window rest) c) d (event_of c (value.closed code reason) (noted s (note.closed c code reason) w)) [] (noted s (note.closed c code reason) w) (r.says (s.after w.state (event_of c (value.closed code reason) (noted s (note.closed c code reason) w))) (event_of c (value.closed code reason) (noted s (note.closed c code reason) w)))))
      (plain_stands s d (count d front) (note.closed c code reason) (is_opened_in d front) (is_accepted d front) (w.line d) refl (all d there)))
  each front rest (note.accepted c) w split alone all d there =
      one_more d front (note.accepted c) (line_after s d (note.accepted c) (w.line d))
      (shape (is_opened_in d front) (is_accepted d front) (nat_eq c d) (is_accepted d (note.accepted c ∷ [])) (count d front) (own d c) (accepted_stands s c d (count d front) (is_opened_in d front) (is_accepted d front) (w.line d) (all d there)))
    where
      own : (d c : ℕ) → nat_eq c d ≡ is_accepted d (note.accepted c ∷ [])
      own d c = same_either (nat_eq c d) (nat_eq d c) (same_number c d)
        where
          same_either : (x y : Bool) → x ≡ y → x ≡ (y || false)
          same_either x y e = e ∙ or_false y

      zero_more : (k : ℕ) → k ≡ k + 0
      zero_more k = omega arith

      shape : (o a x y : Bool) (k : ℕ) → x ≡ y → Stands o (a || x) k (line_after s d (note.accepted c) (w.line d)) → Stands (o || false) (a || y) (k + 0) (line_after s d (note.accepted c) (w.line d))
      shape o a x y k e z =
          subst (λ (q : Bool). Stands q (a || y) (k + 0) (line_after s d (note.accepted c) (w.line d))) (or_false o)
          (subst (λ (i : ℕ). Stands o (a || y) i (line_after s d (note.accepted c) (w.line d))) (zero_more k) (subst (λ (q : Bool). Stands o (a || q) k (line_after s d (note.accepted c) (w.line d))) e z))
  each front rest (note.head c status) w split alone all d there = clash false refl (r.usual front rest (note.head c status) split)
  each front rest (note.ping_got c body) w split alone all d there = clash false refl (r.usual front rest (note.ping_got c body) split)
  each front rest (note.pinged c) w split alone all d there = clash false refl (r.usual front rest (note.pinged c) split)
  each front rest (note.peer_close c code reason) w split alone all d there = clash false refl (r.usual front rest (note.peer_close c code reason) split)
  each front rest (note.failed c code) w split alone all d there = clash false refl (r.usual front rest (note.failed c code) split)
  each front rest (note.gone c left) w split alone all d there = clash false refl (r.usual front rest (note.gone c left) split)
  each front rest n w split alone all d there = nothing_more d front n (line_after s d n (w.line d)) refl refl refl (plain_stands s d (count d front) n (is_opened_in d front) (is_accepted d front) (w.line d) refl (all d there))

  -- for each connection one reply was put, and a frame for each message of another
  pub items_in_room : (d : ℕ) → is_accepted d ns ≡ true → length (plain s ns d) ≡ count d ns
  items_in_room d there = (walk s ns AllBehind each (λ c come. record { phase = refl; topics = refl; route = λ e. clash false refl e; param = λ e. clash false refl e; items = refl }) d there).items
