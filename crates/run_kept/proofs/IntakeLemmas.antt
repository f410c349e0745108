-- What is kept of one connection, by its line: as notes are made by which nothing is heard of it, and as orders are served.
use Rattle.run_kept.proofs.Below.{◌≡◌, ◌≢◌, ◌⊎◌, ◌+◌, inl, inr, ℕ, List, [], ◌∷◌, ◌++◌, Option, Some, None, is_none, Bool, true, false, not, cond, ◌&&◌, ◌||◌, refl, sym, ap, ◌∙◌, subst, list_all, or-true, Phase, Head, Open, Leaving, Ending, Gone, NoteValue, OrderValue, send, subscribe, unsubscribe, publish, close, Item, RouteTable, Judged, undecided, is_of, Line, moved, closing, is_open, is_frame, route_after, param_after, line_after, after_own, put, obey, Heard, heard, frames_in, is_outgoing, is_for, lines_after, all_follow, act, obey_not, obey_does, by_cases, clash, and_left, and_right, is_of_orders, is_hearing, is_unheard, ReaderView, HearsFront, HearsFrames, front_of_frames, front_of_head, front_of_all, frames_leave, heard_unheard, IntakeView, HearsAt, RestsAt, IsRouted, is_idle}
use Rattle.ws_kinds.specs.NoteValue as note
use Rattle.run_meaning.specs.Server as run

-- ---- notes by which nothing is heard of a connection

-- the note is idle, or names another connection
abbrev pub is_beside : ℕ → NoteValue → Bool
is_beside conn this = is_idle this || not (is_of conn this)

pub orders_idle : (n : NoteValue) → is_of_orders n ≡ true → is_idle n ≡ true
orders_idle (note.unserved c i y) e = refl
orders_idle (note.took c o t) e = refl
orders_idle (note.dropped c i h) e = refl
orders_idle (note.gone c left) e = refl
orders_idle _ e = clash false refl e

outgoing_idle : (n : NoteValue) → is_outgoing n ≡ true → is_idle n ≡ true
outgoing_idle (note.took c o t) e = refl
outgoing_idle (note.dropped c i h) e = refl
outgoing_idle (note.gone c left) e = refl
outgoing_idle _ e = clash false refl e

pub idle_beside : (c : ℕ) (n : NoteValue) → is_idle n ≡ true → is_beside c n ≡ true
idle_beside c n e = ap (λ (z : Bool). z || not (is_of c n)) e

pub outgoing_beside : (c : ℕ) (ns : List NoteValue) → list_all is_outgoing ns ≡ true → list_all (is_beside c) ns ≡ true
outgoing_beside c ns e = all_follow is_outgoing (is_beside c) (λ n h. idle_beside c n (outgoing_idle n h)) ns e

pub orders_beside : (c : ℕ) (ns : List NoteValue) → list_all is_of_orders ns ≡ true → list_all (is_beside c) ns ≡ true
orders_beside c ns e = all_follow is_of_orders (is_beside c) (λ n h. idle_beside c n (orders_idle n h)) ns e

pub other_beside : (c : ℕ) (n : NoteValue) → is_of c n ≡ false → is_beside c n ≡ true
other_beside c n e = ap (λ (z : Bool). is_idle n || not z) e ∙ or-true (is_idle n)

unheard_idle : (n : NoteValue) → is_idle n ≡ true → is_hearing n ≡ false
unheard_idle (note.head c status) e = clash false refl e
unheard_idle (note.opened c route param) e = clash false refl e
unheard_idle (note.message c kind body) e = clash false refl e
unheard_idle (note.ping_got c body) e = clash false refl e
unheard_idle (note.pong_got c body) e = clash false refl e
unheard_idle (note.peer_close c code reason) e = clash false refl e
unheard_idle (note.failed c code) e = clash false refl e
unheard_idle _ e = refl

pub heard_beside : (c : ℕ) (ns ms : List NoteValue) → list_all (is_beside c) ms ≡ true → heard c (ns ++ ms) ≡ heard c ns
heard_beside c ns ms e = heard_unheard c ns ms (all_follow (is_beside c) (is_unheard c) (λ n h. one (is_idle n) (is_hearing n) (is_of c n) h (unheard_idle n)) ms e)
  where
    one : (a h o : Bool) → (a || not o) ≡ true → (a ≡ true → h ≡ false) → not (h && o) ≡ true
    one true h o e f = ap (λ (z : Bool). not (z && o)) (f refl)
    one false true o e f = e
    one false false o e f = refl

-- ---- phases

-- a phase stays, or the connection becomes gone
abbrev pub GoesOn : Option Phase → Option Phase → Type 0
GoesOn old new = (new ≡ old) ⊎ ((new ≡ Some Gone) × (old ≢ None))

idle_moves : (p : Option Phase) (n : NoteValue) → is_idle n ≡ true → GoesOn p (moved p n)
idle_moves None (note.accepted c) e = clash false refl e
idle_moves None _ e = inl refl
idle_moves (Some Head) (note.opened c route param) e = clash false refl e
idle_moves (Some Head) (note.head c status) e = clash false refl e
idle_moves (Some Head) (note.gone c left) e = inr (refl, λ z. let q : Some Head ≡ None = z in cc)
idle_moves (Some Head) _ e = inl refl
idle_moves (Some Open) (note.peer_close c code reason) e = clash false refl e
idle_moves (Some Open) (note.failed c code) e = clash false refl e
idle_moves (Some Open) (note.gone c left) e = inr (refl, λ z. let q : Some Open ≡ None = z in cc)
idle_moves (Some Open) _ e = inl refl
idle_moves (Some Leaving) (note.peer_close c code reason) e = clash false refl e
idle_moves (Some Leaving) (note.failed c code) e = clash false refl e
idle_moves (Some Leaving) (note.gone c left) e = inr (refl, λ z. let q : Some Leaving ≡ None = z in cc)
idle_moves (Some Leaving) _ e = inl refl
idle_moves (Some Ending) (note.gone c left) e = inr (refl, λ z. let q : Some Ending ≡ None = z in cc)
idle_moves (Some Ending) _ e = inl refl
idle_moves (Some Gone) (note.gone c left) e = inl refl
idle_moves (Some Gone) _ e = inl refl

idle_frame : (n : NoteValue) → is_idle n ≡ true → is_frame n ≡ false
idle_frame (note.message c kind body) e = clash false refl e
idle_frame (note.ping_got c body) e = clash false refl e
idle_frame (note.pong_got c body) e = clash false refl e
idle_frame _ e = refl

idle_route : (n : NoteValue) (k : ℕ) → is_idle n ≡ true → route_after n k ≡ k
idle_route (note.opened c route param) k e = clash false refl e
idle_route _ k e = refl

idle_param : (n : NoteValue) (ks : List ℕ) → is_idle n ≡ true → param_after n ks ≡ ks
idle_param (note.opened c route param) ks e = clash false refl e
idle_param _ ks e = refl

is_open_now : (p : Option Phase) → is_open p ≡ true → p ≡ Some Open
is_open_now None e = clash false refl e
is_open_now (Some Head) e = clash false refl e
is_open_now (Some Open) e = refl
is_open_now (Some Leaving) e = clash false refl e
is_open_now (Some Ending) e = clash false refl e
is_open_now (Some Gone) e = clash false refl e

-- ---- one connection

-- What is kept of a connection with this line. `done` says that all was told of the octets that came, and `here` that it is an
-- entry.
pub record Seen (table : RouteTable) (max : ℕ) (heard : List Heard) (octets : List ℕ) (intake : IntakeView) (done here : Type 0) (line : Line) : Type 0 where
  pub hears : HearsAt table max line.phase line.last_frame heard octets intake.reader
  pub rests : done → RestsAt table line.phase octets intake.reader
  pub routed : here → IsRouted intake line

-- the same, of one whose messages, pings and pongs are counted, and whose request was judged as far as it came
pub record Taken (table : RouteTable) (max : ℕ) (heard : List Heard) (octets : List ℕ) (intake : IntakeView) (done here : Type 0) (line : Line) : Type 0 where
  pub seen : Seen table max heard octets intake done here line
  pub counted : line.frames ≡ frames_in heard
  pub calm : line.phase ≡ Some Head → Judged table octets undecided

module _ (table : RouteTable) (max : ℕ) (hs : List Heard) (octets : List ℕ) (reader : ReaderView) where
  to_gone : (p : Option Phase) (last : Option ℕ) → HearsAt table max p last hs octets reader → p ≢ None → (p ≡ Some Head → Judged table octets undecided) → HearsFront table max last hs octets
  to_gone None last h ne judged = absurd (ne refl)
  to_gone (Some Head) last h ne judged = subst (λ (z : Option ℕ). HearsFront table max z hs octets) (sym h.0) (front_of_head table max hs octets reader h.1 (judged refl))
  to_gone (Some Open) last h ne judged = subst (λ (z : Option ℕ). HearsFront table max z hs octets) (sym h.0) (front_of_frames table max None hs octets reader h.1)
  to_gone (Some Leaving) last h ne judged = subst (λ (z : Option ℕ). HearsFront table max z hs octets) (sym h.1) (front_of_frames table max (Some h.0) hs octets reader h.2)
  to_gone (Some Ending) last h ne judged = front_of_all table max last hs octets h
  to_gone (Some Gone) last h ne judged = h

  -- in phase Head the octets that came have to be undecided
  pub hears_on : (p q : Option Phase) (last : Option ℕ) → HearsAt table max p last hs octets reader → (p ≡ Some Head → Judged table octets undecided) → GoesOn p q → HearsAt table max q last hs octets reader
  hears_on p q last h judged (inl same) = subst (λ (z : Option Phase). HearsAt table max z last hs octets reader) (sym same) h
  hears_on p q last h judged (inr gone) = subst (λ (z : Option Phase). HearsAt table max z last hs octets reader) (sym gone.0) (to_gone p last h gone.1 judged)

  rests_on : (p q : Option Phase) → RestsAt table p octets reader → GoesOn p q → RestsAt table q octets reader
  rests_on p q h (inl same) = subst (λ (z : Option Phase). RestsAt table z octets reader) (sym same) h
  rests_on p q h (inr gone) = subst (λ (z : Option Phase). RestsAt table z octets reader) (sym gone.0) (tt {0})

  head_before : (p q : Option Phase) → GoesOn p q → q ≡ Some Head → p ≡ Some Head
  head_before p q (inl same) e = sym same ∙ e
  head_before p q (inr gone) e = absurd (let z : Some Gone ≡ Some Head = sym gone.0 ∙ e in cc)

pub rests_judged : (table : RouteTable) (p : Option Phase) (octets : List ℕ) (reader : ReaderView) → RestsAt table p octets reader → p ≡ Some Head → Judged table octets undecided
rests_judged table p octets reader h e = subst (λ (z : Option Phase). RestsAt table z octets reader) e h

module _ {S : Type 0} (r : run.Server S) (c : ℕ) (table : RouteTable) (max : ℕ) (hs : List Heard) (octets : List ℕ) (intake : IntakeView) (done here : Type 0) where
  abbrev Keeps : Line → Type 0
  Keeps l = Taken table max hs octets intake done here l

  own_idle : (n : NoteValue) (l : Line) → is_idle n ≡ true → Keeps l → Keeps (after_own r n l)
  own_idle n l e x =
      let p = l.phase in
      let q = moved l.phase n in
      let goes = idle_moves l.phase n e in
      record {
        seen = record {
          hears = hears_on table max hs octets intake.reader p q l.last_frame x.seen.hears x.calm goes;
          rests = λ done. rests_on table max hs octets intake.reader p q (x.seen.rests done) goes;
          routed = λ there. let y = x.seen.routed there in (y.0 ∙ sym (idle_route n l.route e), y.1 ∙ sym (idle_param n l.param e));
        };
        counted = ap (λ (z : Bool). cond z (l.frames + 1) l.frames) (idle_frame n e) ∙ x.counted;
        calm = λ h. x.calm (head_before table max hs octets intake.reader p q goes h);
      }

  pub taken_note : (n : NoteValue) (l : Line) → is_beside c n ≡ true → Keeps l → Keeps (line_after r c n l)
  taken_note n l e x = one (is_of c n) e
    where
      only : (a : Bool) → (a || false) ≡ true → a ≡ true
      only true e = refl
      only false e = e

      one : (b : Bool) → (is_idle n || not b) ≡ true → Keeps (cond b (after_own r n l) l)
      one true e = own_idle n l (only (is_idle n) e) x
      one false e = x

  pub taken_lines : (ms : List NoteValue) (l : Line) → list_all (is_beside c) ms ≡ true → Keeps l → Keeps (lines_after r c ms l)
  taken_lines [] l e x = x
  taken_lines (m ∷ ms) l e x =
      taken_lines ms (line_after r c m l) (and_right (is_beside c m) (list_all (is_beside c) ms) e) (taken_note m l (and_left (is_beside c m) (list_all (is_beside c) ms) e) x)

  -- a Close was served for it
  closes : (code : ℕ) (reason : List ℕ) (l : Line) → l.phase ≡ Some Open → Keeps l → Keeps (act (close code reason) l)
  closes code reason l now x =
      let leaves : closing l.phase ≡ Some Leaving = ap closing now in
      let was : (l.last_frame ≡ None) × HearsFrames table max None hs octets intake.reader =
      subst (λ (z : Option Phase). HearsAt table max z l.last_frame hs octets intake.reader) now x.seen.hears in
      let last : cond (is_none l.last_frame) (Some l.frames) l.last_frame ≡ Some (frames_in hs) =
      ap (λ (z : Option ℕ). cond (is_none z) (Some l.frames) z) was.0 ∙ ap Some x.counted in
      record {
        seen = record {
          hears = subst (λ (z : Option Phase). HearsAt table max z (cond (is_none l.last_frame) (Some l.frames) l.last_frame) hs octets intake.reader) (sym leaves)
              (frames_in hs, last, frames_leave table max hs octets intake.reader was.1);
          rests = λ done. subst (λ (z : Option Phase). RestsAt table z octets intake.reader) (sym leaves)
              (subst (λ (z : Option Phase). RestsAt table z octets intake.reader) now (x.seen.rests done));
          routed = x.seen.routed;
        };
        counted = x.counted;
        calm = λ h. absurd (let z : Some Leaving ≡ Some Head = sym leaves ∙ h in cc);
      }

  same_but : (m l : Line) → m.phase ≡ l.phase → m.last_frame ≡ l.last_frame → m.frames ≡ l.frames → m.route ≡ l.route → m.param ≡ l.param → Keeps l → Keeps m
  same_but m l phase last frames route param x = record {
    seen = record {
      hears = subst (λ (z : Option Phase). HearsAt table max z m.last_frame hs octets intake.reader) (sym phase) (subst (λ (z : Option ℕ). HearsAt table max l.phase z hs octets intake.reader) (sym last) x.seen.hears);
      rests = λ done. subst (λ (z : Option Phase). RestsAt table z octets intake.reader) (sym phase) (x.seen.rests done);
      routed = λ there. let y = x.seen.routed there in (y.0 ∙ sym route, y.1 ∙ sym param);
    };
    counted = frames ∙ x.counted;
    calm = λ h. x.calm (sym phase ∙ h);
  }

  pub taken_put : (items : List Item) (l : Line) → Keeps l → Keeps (put items l)
  taken_put items l x = same_but (put items l) l refl refl refl refl refl x

  acts : (o : OrderValue) (l : Line) → is_open l.phase ≡ true → Keeps l → Keeps (act o l)
  acts (send to kind body) l now x = same_but (act (send to kind body) l) l refl refl refl refl refl x
  acts (subscribe topic) l now x = same_but (act (subscribe topic) l) l refl refl refl refl refl x
  acts (unsubscribe topic) l now x = same_but (act (unsubscribe topic) l) l refl refl refl refl refl x
  acts (publish topic kind body) l now x = same_but (act (publish topic kind body) l) l refl refl refl refl refl x
  acts (close code reason) l now x = closes code reason l (is_open_now l.phase now) x

  -- an order was served that may come
  pub taken_order : (from : ℕ) (o : OrderValue) (l : Line) → (is_for from c o l.topics ≡ true → is_open l.phase ≡ true) → Keeps l → Keeps (obey from c o l)
  taken_order from o l may x = by_cases (is_for from c o l.topics)
      (λ now. subst Keeps (sym (obey_does from c o l now)) (acts o l (may now) x))
      (λ off. subst Keeps (sym (obey_not from c o l off)) x)
