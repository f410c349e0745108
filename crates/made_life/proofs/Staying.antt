-- By what is heard of the connections of a made schedule none is ending, no tick comes, and only the connections from 1 to 64 come.
use Rattle.std.proofs.Common.{◌≡◌, ◌≤◌, ℕ, zero, suc, Bool, true, false, cond, not, ◌&&◌, ◌||◌, nat_eq, List, [], ◌∷◌, ◌++◌, map, Option, Some, None, refl, sym, ap, ◌∙◌, arith}
use Rattle.std.specs.List.{flat_map, list_all, list_any}
use Rattle.std.proofs.lemmas.Bool.Decides.{nat_tests}
use Rattle.std.proofs.lemmas.Grind.{flat_map-append}
use Rattle.std.proofs.lemmas.List.Folds.{list_all-append, list_any-append}
use Rattle.ws_kinds.proofs.Facts.{and_left, and_right, by_cases, clash, or_left, or_right}
use Rattle.ws_kinds.specs.declared.kind.Kind.TheVariants.{Text}
use Rattle.ws_kinds.specs.declared.note.Phase.{Phase}
use Rattle.ws_kinds.specs.declared.note.Phase.TheVariants.{Head, Open, Leaving, Ending, Gone}
use Rattle.ws_kinds.specs.NoteValue as note
use Rattle.ws_kinds.specs.NoteValue.{NoteValue}
use Rattle.ws_kinds.specs.OrderValue.{OrderValue, send, subscribe, unsubscribe, publish, close}
use Rattle.wire_meaning.specs.Event as wire
use Rattle.link_trait.specs.declared.act.Act.{Act}
use Rattle.link_trait.specs.declared.act.Act.TheVariants as act
use Rattle.link_trait.specs.declared.net.NetEvent.{NetEvent}
use Rattle.link_trait.specs.declared.net.NetEvent.TheVariants as event
use Rattle.mem_net.specs.Acts.{arrivals, passes}
use Rattle.mem_net.specs.Schedule.{is_arrival}
use Rattle.made_schedule.specs.Message.{body_of}
use Rattle.run_meaning.specs.Counts.{gather}
use Rattle.run_meaning.specs.Lines.{Line, World, after_own, closing, first_world, is_refused, line_after, moved, phase, run, step}
use Rattle.run_meaning.specs.Life.{Heard, Reaches, first_frames, heard, heard_by, is_frame_heard, read, refused, to_hear}
use Rattle.run_meaning.specs.Network.{Mark, marks_by, marks_of}
use Rattle.run_meaning.specs.Network as mark
use Rattle.run_meaning.specs.Notes.{is_of, window}
use Rattle.run_meaning.specs.Quiet.{is_tick}
use Rattle.run_meaning.specs.Server.{Server}
use Rattle.run_meaning.specs.Settled.{is_ending}
use Rattle.run_meaning.specs.Timely.{ends_stretch, in_stretch}
use Rattle.run_meaning.proofs.Parts.{gather-append}
use Rattle.run_meaning.proofs.StepLemmas.{away_moves}
use Rattle.run_meaning.proofs.StepLemmas as steps
use Rattle.run_laws.proofs.WorldLemmas.{obeys_by, step_same}
use Rattle.made_life.specs.Sending.{numbers, states_of}
use Rattle.made_life.specs.Life.{goes_on, made_life}
use Rattle.made_life.proofs.Passing.{is_other}

-- ---- what is heard

pub made_goes_on : (conn seed : ℕ) → list_all goes_on (made_life conn seed) ≡ true
made_goes_on conn seed = each (states_of conn seed)
  where
    each : (states : List ℕ) → list_all goes_on (map (λ state. read (wire.message Text (body_of state))) states) ≡ true
    each [] = refl
    each (state ∷ states) = each states

-- a front of a list, and what is to be heard of one
pub front_all : (p : Heard → Bool) (gone : Bool) (xs ys : List Heard) → Reaches gone xs ys → list_all p ys ≡ true → list_all p xs ≡ true
front_all p true xs ys (behind, is) all = and_left (list_all p xs) (list_all p behind) (sym (list_all-append p xs behind) ∙ ap (list_all p) (sym is) ∙ all)
front_all p false xs ys is all = ap (list_all p) is ∙ all

frames_all : (p : Heard → Bool) (count : ℕ) (xs : List Heard) → list_all p xs ≡ true → list_all p (first_frames count xs) ≡ true
frames_all p zero [] all = refl
frames_all p zero (x ∷ xs) all =
    let rest = frames_all p zero xs (and_right (p x) (list_all p xs) all) in
    by_cases (is_frame_heard x) (λ frame. ap (λ b. list_all p (cond b (first_frames zero xs) (x ∷ first_frames zero xs))) frame ∙ rest)
    (λ other. ap (λ b. list_all p (cond b (first_frames zero xs) (x ∷ first_frames zero xs))) other ∙ rw (and_left (p x) (list_all p xs) all) rest)
frames_all p (suc count) [] all = refl
frames_all p (suc count) (x ∷ xs) all =
    let first = and_left (p x) (list_all p xs) all in
    let later = and_right (p x) (list_all p xs) all in
    by_cases (is_frame_heard x) (λ frame. ap (λ b. list_all p (cond b (x ∷ first_frames count xs) (x ∷ first_frames (suc count) xs))) frame ∙ rw first (frames_all p count xs later))
    (λ other. ap (λ b. list_all p (cond b (x ∷ first_frames count xs) (x ∷ first_frames (suc count) xs))) other ∙ rw first (frames_all p (suc count) xs later))

pub hear_all : (p : Heard → Bool) (last : Option ℕ) (xs : List Heard) → list_all p xs ≡ true → list_all p (to_hear last xs) ≡ true
hear_all p None xs all = all
hear_all p (Some count) xs all = frames_all p count xs all

-- ---- phases

-- the note brings its connection to its end
abbrev is_final : NoteValue → Bool
is_final (note.head conn status) = true
is_final (note.peer_close conn code reason) = true
is_final (note.failed conn code) = true
is_final _ = false

abbrev stays : ℕ → NoteValue → Bool
stays conn this = not (is_of conn this && is_final this)

no_final : (b : Bool) → not (b && false) ≡ true
no_final true = refl
no_final false = refl

stays_by : (c : ℕ) (n : NoteValue) → list_all goes_on (heard_by c n) ≡ true → stays c n ≡ true
stays_by c (note.head d status) goes = one (nat_eq d c) goes
  where
    one : (b : Bool) → list_all goes_on (cond b (refused status ∷ []) []) ≡ true → not (b && true) ≡ true
    one true goes = clash false refl goes
    one false goes = refl
stays_by c (note.peer_close d code reason) goes = one (nat_eq d c) goes
  where
    one : (b : Bool) → list_all goes_on (cond b (read (wire.closed code reason) ∷ []) []) ≡ true → not (b && true) ≡ true
    one true goes = clash false refl goes
    one false goes = refl
stays_by c (note.failed d code) goes = one (nat_eq d c) goes
  where
    one : (b : Bool) → list_all goes_on (cond b (read (wire.failed code) ∷ []) []) ≡ true → not (b && true) ≡ true
    one true goes = clash false refl goes
    one false goes = refl
stays_by c n goes = no_final (is_of c n)

all_stay : (c : ℕ) (ns : List NoteValue) → list_all goes_on (heard c ns) ≡ true → list_all (stays c) ns ≡ true
all_stay c [] goes = refl
all_stay c (n ∷ ns) goes =
    let both = sym (list_all-append goes_on (heard_by c n) (heard c ns)) ∙ goes in
    rw (stays_by c n (and_left (list_all goes_on (heard_by c n)) (list_all goes_on (heard c ns)) both)) (all_stay c ns (and_right (list_all goes_on (heard_by c n)) (list_all goes_on (heard c ns)) both))

moved_ending : (p : Option Phase) (n : NoteValue) → is_final n ≡ false → is_ending p ≡ false → is_ending (moved p n) ≡ false
moved_ending None (note.accepted c) same early = refl
moved_ending None _ same early = refl
moved_ending (Some Head) (note.opened c route param) same early = refl
moved_ending (Some Head) (note.head c status) same early = clash true same refl
moved_ending (Some Head) (note.gone c left) same early = refl
moved_ending (Some Head) _ same early = refl
moved_ending (Some Open) (note.peer_close c code reason) same early = clash true same refl
moved_ending (Some Open) (note.failed c code) same early = clash true same refl
moved_ending (Some Open) (note.gone c left) same early = refl
moved_ending (Some Open) _ same early = refl
moved_ending (Some Leaving) (note.peer_close c code reason) same early = clash true same refl
moved_ending (Some Leaving) (note.failed c code) same early = clash true same refl
moved_ending (Some Leaving) (note.gone c left) same early = refl
moved_ending (Some Leaving) _ same early = refl
moved_ending (Some Ending) n same early = clash true early refl
moved_ending (Some Gone) n same early = ap is_ending (away_moves n)

closing_ending : (p : Option Phase) → is_ending (closing p) ≡ is_ending p
closing_ending None = refl
closing_ending (Some Head) = refl
closing_ending (Some Open) = refl
closing_ending (Some Leaving) = refl
closing_ending (Some Ending) = refl
closing_ending (Some Gone) = refl

act_ending : (o : OrderValue) (l : Line) → is_ending (steps.act o l).phase ≡ is_ending l.phase
act_ending (send to kind body) l = refl
act_ending (subscribe topic) l = refl
act_ending (unsubscribe topic) l = refl
act_ending (publish topic kind body) l = refl
act_ending (close code reason) l = closing_ending l.phase

module _ {S : Type 0} (r : Server S) (c : ℕ) where
  line_ending : (n : NoteValue) (l : Line) → stays c n ≡ true → is_ending l.phase ≡ false → is_ending (line_after r c n l).phase ≡ false
  line_ending n l stay early = one (is_of c n) stay
    where
      one : (b : Bool) → not (b && is_final n) ≡ true → is_ending (cond b (after_own r n l) l).phase ≡ false
      one true stay = moved_ending l.phase n (by_cases (is_final n) (λ final. clash (not (is_final n)) (ap not final) stay) (λ other. other)) early
      one false stay = early

  never_ending : (ns : List NoteValue) (w : World S) → list_all (stays c) ns ≡ true → is_ending (w.line c).phase ≡ false → is_ending ((run r w ns).line c).phase ≡ false
  never_ending [] w stay early = early
  never_ending (n ∷ ns) w stay early =
      let u = is_refused (window ns) in
      never_ending ns (step r u n w) (and_right (stays c n) (list_all (stays c) ns) stay)
      (step_same r c (λ l. is_ending l.phase) (λ from o l. obeys_by (λ z. is_ending z.phase ≡ is_ending l.phase) from c o l (act_ending o l) refl) u n w ∙ line_ending n (w.line c) (and_left (stays c n) (list_all (stays c) ns) stay) early)

  -- who goes on by what is heard is not ending
  pub not_ending : (ns : List NoteValue) → list_all goes_on (heard c ns) ≡ true → is_ending (phase r ns c) ≡ false
  not_ending ns goes = never_ending ns (first_world r) (all_stay c ns goes) refl

-- what is heard in notes in front of others goes on
pub front_goes_on : (c : ℕ) (before behind : List NoteValue) → list_all goes_on (heard c (before ++ behind)) ≡ true → list_all goes_on (heard c before) ≡ true
front_goes_on c before behind goes =
    and_left (list_all goes_on (heard c before)) (list_all goes_on (heard c behind))
    (sym (list_all-append goes_on (heard c before) (heard c behind)) ∙ ap (list_all goes_on) (sym (gather-append (heard_by c) before behind)) ∙ goes)

-- ---- ticks

abbrev is_tick_mark : Mark → Bool
is_tick_mark (mark.arrival conn) = false
is_tick_mark mark.tick = true
is_tick_mark mark.turn = false

ticks_marked : (ns : List NoteValue) → list_any is_tick ns ≡ list_any is_tick_mark (gather marks_by ns)
ticks_marked [] = refl
ticks_marked (n ∷ ns) = one n ∙ ap (λ b. list_any is_tick_mark (marks_by n) || b) (ticks_marked ns) ∙ sym (list_any-append is_tick_mark (marks_by n) (gather marks_by ns))
  where
    one : (n : NoteValue) → (is_tick n || list_any is_tick ns) ≡ (list_any is_tick_mark (marks_by n) || list_any is_tick ns)
    one note.turn = refl
    one note.tick = refl
    one (note.accepted conn) = refl
    one (note.busy conn) = refl
    one (note.no_room conn) = refl
    one _ = refl

acts_untimed : (acts : List Act) → list_any is_other acts ≡ false → list_any is_tick_mark (flat_map marks_of (passes acts)) ≡ false
acts_untimed [] none = refl
acts_untimed (act.Arrive conn credit ∷ acts) none = acts_untimed acts none
acts_untimed (act.Octets conn octets ∷ acts) none = acts_untimed acts none
acts_untimed (act.End conn ∷ acts) none = clash true none refl
acts_untimed (act.ReadFails conn ∷ acts) none = clash true none refl
acts_untimed (act.Room conn more ∷ acts) none = clash true none refl
acts_untimed (act.WriteFails conn ∷ acts) none = clash true none refl
acts_untimed (act.Tick ∷ acts) none = clash true none refl
acts_untimed (act.Turn ∷ acts) none = acts_untimed acts none

-- no tick is noted of a run of acts without one
pub untimed : (acts : List Act) (ns : List NoteValue) (passed : List NetEvent) → list_any is_other acts ≡ false → gather marks_by ns ≡ flat_map marks_of passed → passed ≡ passes acts ++ event.Stop ∷ []
    → list_any is_tick ns ≡ false
untimed acts ns passed none follows is =
    ticks_marked ns ∙ ap (list_any is_tick_mark) (follows ∙ ap (flat_map marks_of) is ∙ flat_map-append marks_of (passes acts) (event.Stop ∷ []))
    ∙ list_any-append is_tick_mark (flat_map marks_of (passes acts)) (mark.turn ∷ []) ∙ rw (acts_untimed acts none) refl

-- so no stretch of a tick goes on
pub no_stretch : (g : Bool) (ns : List NoteValue) → list_any is_tick ns ≡ false → in_stretch g ns ≡ true → g ≡ true
no_stretch g [] none on = on
no_stretch g (n ∷ ns) none on =
    let first = or_left (is_tick n) (list_any is_tick ns) none in
    let before = no_stretch (cond (ends_stretch n) (is_tick n) g) ns (or_right (is_tick n) (list_any is_tick ns) none) on in
    by_cases (ends_stretch n) (λ ends. clash (is_tick n) first (sym (ap (λ b. cond b (is_tick n) g) ends) ∙ before)) (λ goes. sym (ap (λ b. cond b (is_tick n) g) goes) ∙ before)

-- ---- numbers

arrived_among : (acts : List Act) (c : ℕ) → list_any (is_arrival c) acts ≡ list_any (λ m. nat_eq m c) (arrivals acts)
arrived_among [] c = refl
arrived_among (act.Arrive conn credit ∷ acts) c = ap (λ b. nat_eq conn.0 c || b) (arrived_among acts c)
arrived_among (act.Octets conn octets ∷ acts) c = arrived_among acts c
arrived_among (act.End conn ∷ acts) c = arrived_among acts c
arrived_among (act.ReadFails conn ∷ acts) c = arrived_among acts c
arrived_among (act.Room conn more ∷ acts) c = arrived_among acts c
arrived_among (act.WriteFails conn ∷ acts) c = arrived_among acts c
arrived_among (act.Tick ∷ acts) c = arrived_among acts c
arrived_among (act.Turn ∷ acts) c = arrived_among acts c

in_numbers : (c n : ℕ) → list_any (λ m. nat_eq m c) (numbers n) ≡ true → (1 ≤ c) × (c ≤ n)
unfolding numbers
in_numbers c zero among = clash false refl among
in_numbers c (suc n) among =
    let split = sym (list_any-append (λ m. nat_eq m c) (numbers n) (suc n ∷ [])) ∙ among in
    by_cases (nat_eq (suc n) c)
    (λ here. let is : suc n ≡ c = grind (arith, nat_tests) in (omega (arith, is), omega (arith, is)))
    (λ there.
    let before = by_cases (list_any (λ m. nat_eq m c) (numbers n)) (λ yes. yes) (λ no. clash false refl (sym (rw (no, there) refl) ∙ split)) in
    let (low, high) = in_numbers c n before in
    (low, omega (arith, high)))

-- who arrives by acts in which these numbers arrive is one of them
pub arrives_within : (acts : List Act) (last c : ℕ) → arrivals acts ≡ numbers last → list_any (is_arrival c) acts ≡ true → (1 ≤ c) × (c ≤ last)
arrives_within acts last c are came = in_numbers c last (sym (arrived_among acts c ∙ ap (list_any (λ m. nat_eq m c)) are) ∙ came)
