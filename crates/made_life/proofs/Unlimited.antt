-- Links that take any number of octets: of a run of a made schedule nothing is dropped, and each link takes all items of its connection.
use Rattle.std.proofs.Common.{◌≡◌, ◌≢◌, ◌+◌, ◌*◌, ◌&&◌, ◌||◌, ℕ, zero, suc, List, [], ◌∷◌, ◌++◌, Option, Some, None, Bool, true, false, not, nat_eq, nat_lt, cond, length, take, refl, sym, ap, ◌∙◌, subst, arith, append_assoc, append-nil}
use Rattle.std.specs.List.{fold, list_all, list_any}
use Rattle.std.proofs.Math.Seq.{take-length}
use Rattle.std.proofs.lemmas.List.Folds.{list_all-append}
use Rattle.ws_kinds.proofs.Facts.{and_left, and_right, by_cases, clash, or_left, or_right}
use Rattle.ws_kinds.specs.NoteValue as note
use Rattle.ws_kinds.specs.NoteValue.{NoteValue}
use Rattle.wire_meaning.specs.Answer.{Item, all_spelled}
use Rattle.link_trait.specs.declared.act.Act.{Act}
use Rattle.link_trait.specs.declared.act.Act.TheVariants as act
use Rattle.mem_net.specs.Acts.{credit_by, credit_of}
use Rattle.mem_net.specs.LinkState.{LinkState}
use Rattle.mem_net.specs.MemNet.{FollowsSchedule, MemNetState, link_at, net_state, was_short}
use Rattle.mem_net.specs.Schedule.{has_arrived, is_arrival}
use Rattle.mem_net.proofs.Acting.{not_there}
use Rattle.made_schedule.specs.Generator.{state_after}
use Rattle.made_schedule.specs.Made.{made_acts, messages, opening, openings, round, rounds}
use Rattle.made_schedule.specs.Message.{message}
use Rattle.run_meaning.specs.Counts.{drops, ends_short, is_accepted, number_of, writes}
use Rattle.run_meaning.specs.Kept.{kept, kept_of, without}
use Rattle.run_meaning.specs.Life.{Carries}
use Rattle.run_meaning.specs.Lines.{is_gone_phase, phase, plain}
use Rattle.run_meaning.specs.Server.{Server}
use Rattle.run_meaning.proofs.Parts.{accepted-append, writes-append}
use Rattle.made_life.specs.Life.{is_drop}
use Rattle.made_life.specs.Turn.{RunsMade}

-- ---- acts

-- the act sets no limit
abbrev is_unlimited : Act → Bool
is_unlimited (act.Arrive conn None) = true
is_unlimited (act.Arrive conn (Some limit)) = false
is_unlimited (act.Octets conn octets) = true
is_unlimited (act.End conn) = true
is_unlimited (act.ReadFails conn) = true
is_unlimited (act.Room conn more) = true
is_unlimited (act.WriteFails conn) = true
is_unlimited act.Tick = true
is_unlimited act.Turn = true

either_same : {A : Type 0} (b : Bool) (x : A) → cond b x x ≡ x
either_same true x = refl
either_same false x = refl

credit_stays : (c : ℕ) (acts : List Act) → list_all is_unlimited acts ≡ true → fold (credit_by c) None acts ≡ None
credit_stays c [] free = refl
credit_stays c (a ∷ acts) free =
    ap (λ (x : Option ℕ). fold (credit_by c) x acts) (one a (and_left (is_unlimited a) (list_all is_unlimited acts) free)) ∙ credit_stays c acts (and_right (is_unlimited a) (list_all is_unlimited acts) free)
  where
    one : (a : Act) → is_unlimited a ≡ true → credit_by c None a ≡ None
    one (act.Arrive conn None) free = either_same (nat_eq conn.0 c) None
    one (act.Arrive conn (Some limit)) free = clash false refl free
    one (act.Octets conn octets) free = refl
    one (act.End conn) free = refl
    one (act.ReadFails conn) free = refl
    one (act.Room conn more) free = either_same (nat_eq conn.0 c) None
    one (act.WriteFails conn) free = refl
    one act.Tick free = refl
    one act.Turn free = refl

-- the link of a connection that arrived takes any number of octets
credit_none : (c : ℕ) (before : Option ℕ) (acts : List Act) → list_all is_unlimited acts ≡ true → list_any (is_arrival c) acts ≡ true → fold (credit_by c) before acts ≡ None
credit_none c before [] free came = clash false refl came
credit_none c before (a ∷ acts) free came =
    let first = and_left (is_unlimited a) (list_all is_unlimited acts) free in
    let later = and_right (is_unlimited a) (list_all is_unlimited acts) free in
    by_cases (is_arrival c a)
    (λ now. ap (λ (x : Option ℕ). fold (credit_by c) x acts) (one a first now) ∙ credit_stays c acts later)
    (λ then. credit_none c (credit_by c before a) acts later (ap (λ b. b || list_any (is_arrival c) acts) (sym then) ∙ came))
  where
    one : (a : Act) → is_unlimited a ≡ true → is_arrival c a ≡ true → credit_by c before a ≡ None
    one (act.Arrive conn None) free now = ap (λ b. cond b None before) now
    one (act.Arrive conn (Some limit)) free now = clash false refl free
    one (act.Octets conn octets) free now = clash false refl now
    one (act.End conn) free now = clash false refl now
    one (act.ReadFails conn) free now = clash false refl now
    one (act.Room conn more) free now = clash false refl now
    one (act.WriteFails conn) free now = clash false refl now
    one act.Tick free now = clash false refl now
    one act.Turn free now = clash false refl now

openings_free : (count : ℕ) → list_all is_unlimited (openings count) ≡ true
unfolding openings
openings_free zero = refl
openings_free (suc count) = list_all-append is_unlimited (openings count) (opening (suc count)) ∙ rw (openings_free count) refl

messages_free : (count state : ℕ) → list_all is_unlimited (messages count state) ≡ true
unfolding messages
messages_free zero state = refl
messages_free (suc count) state = list_all-append is_unlimited (messages count state) (message (state_after (suc count) state) ∷ []) ∙ rw (messages_free count state) refl

round_free : (state : ℕ) → list_all is_unlimited (round state) ≡ true
round_free state = list_all-append is_unlimited (messages 16 state) (act.Turn ∷ []) ∙ rw (messages_free 16 state) refl

rounds_free : (count state : ℕ) → list_all is_unlimited (rounds count state) ≡ true
unfolding rounds
rounds_free zero state = refl
rounds_free (suc count) state =
    list_all-append is_unlimited (rounds count state) (round (state_after (16 * count) state)) ∙ rw (rounds_free count state, round_free (state_after (16 * count) state)) refl

made_free : (seed : ℕ) → list_all is_unlimited (made_acts seed) ≡ true
made_free seed = list_all-append is_unlimited (openings 64) (act.Turn ∷ rounds 500 seed) ∙ rw (openings_free 64, rounds_free 500 seed) refl

-- ---- links

-- each write took all that it was offered
full_writes : (net : MemNetState) → FollowsSchedule net → net.done ≡ length net.acts → list_all is_unlimited net.acts ≡ true → (c : ℕ) → was_short (link_at net c).writes ≡ false
full_writes net follows done free c =
    by_cases (has_arrived net.acts c)
    (λ there. (follows.fits c there).takes.all (ap (credit_of c) (ap (λ k. take k net.acts) done ∙ take-length net.acts) ∙ credit_none c (Some 0) net.acts free there))
    (λ away. ap (λ (link : LinkState). was_short link.writes) (not_there c net away))

never_short : (before : Bool) (xs : List (ℕ × ℕ)) → before ≡ false → was_short xs ≡ false → ends_short before xs ≡ false
never_short before [] none full = none
never_short before (x ∷ xs) none full = never_short (nat_lt x.1 x.0) xs (or_left (nat_lt x.1 x.0) (was_short xs) full) (or_right (nat_lt x.1 x.0) (was_short xs) full)

full_front : (xs ys : List (ℕ × ℕ)) → was_short (xs ++ ys) ≡ false → was_short xs ≡ false
full_front [] ys full = refl
full_front (x ∷ xs) ys full =
    let first = or_left (nat_lt x.1 x.0) (was_short (xs ++ ys)) full in
    rw (first, full_front xs ys (or_right (nat_lt x.1 x.0) (was_short (xs ++ ys)) full)) refl

-- ---- notes

-- none passes a test that no note behind others passes
none_passes : (p : NoteValue → Bool) (before ns : List NoteValue) → ((front rest : List NoteValue) (n : NoteValue) → before ++ ns ≡ front ++ n ∷ rest → p n ≡ false) → number_of p ns ≡ 0
none_passes p before [] none = refl
none_passes p before (n ∷ ns) none =
    rw (none before ns n refl) (none_passes p (before ++ n ∷ []) ns (λ front rest m split. none front rest m (sym (append_assoc before (n ∷ []) ns) ∙ split)))

-- where nothing was dropped, all items are kept
no_drops : (c : ℕ) (ns : List NoteValue) → number_of is_drop ns ≡ 0 → drops c ns ≡ []
no_drops c [] none = refl
no_drops c (note.dropped d i h ∷ ns) none = absurd (omega (arith, none))
no_drops c (note.turn ∷ ns) none = no_drops c ns none
no_drops c (note.tick ∷ ns) none = no_drops c ns none
no_drops c (_ ∷ ns) none = no_drops c ns none

all_kept : (i : ℕ) (items : List Item) → without i [] items ≡ items
all_kept i [] = refl
all_kept i (x ∷ items) = ap (λ (l : List Item). x ∷ l) (all_kept (i + 1) items)

empty_or : (xs : List ℕ) → ((xs ≢ []) → ⊥) → xs ≡ []
empty_or [] none = refl
empty_or (x ∷ xs) none = absurd (none (λ e. cc))

module _ {S : Type 0} (s : Server S) (now : S) (seed : ℕ) (ns : List NoteValue) (net : MemNetState) (held : ℕ → List ℕ) (r : RunsMade s now seed ns net held) where
  full : (c : ℕ) → was_short (link_at net c).writes ≡ false
  full = full_writes net r.follows r.used (ap (list_all is_unlimited) r.acts_are ∙ made_free seed)

  drops_none : (before rest : List NoteValue) (c i h : ℕ) → ns ≡ before ++ note.dropped c i h ∷ rest → ⊥
  drops_none before rest c i h split =
      by_cases (is_accepted c before)
      (λ there.
      let accepted : is_accepted c ns ≡ true = ap (is_accepted c) split ∙ accepted-append c before (note.dropped c i h ∷ rest) ∙ ap (λ b. b || is_accepted c (note.dropped c i h ∷ rest)) there in
      let wrote = r.ends.right.follows.wrote c accepted ∙ ap (writes c) split ∙ writes-append c before (note.dropped c i h ∷ rest) in
      let front = full_front (writes c before) (writes c (note.dropped c i h ∷ rest)) (ap was_short (sym wrote) ∙ full c) in
      clash (ends_short false (writes c before)) (never_short false (writes c before) refl front) (r.ends.right.fair before rest c i h split).short)
      (λ away. clash false refl ((r.ends.right.sound before rest (note.dropped c i h) split).named c refl away))

  pub nothing_dropped : number_of is_drop ns ≡ 0
  nothing_dropped = none_passes is_drop [] ns one
    where
      one : (before rest : List NoteValue) (n : NoteValue) → ns ≡ before ++ n ∷ rest → is_drop n ≡ false
      one before rest (note.dropped c i h) split = absurd (drops_none before rest c i h split)
      one before rest _ split = refl

  -- the link of a connection that is not gone took all items, spelled
  pub all_taken : (c : ℕ) → is_accepted c ns ≡ true → is_gone_phase (phase s ns c) ≡ false → (net_state net).taken c ≡ all_spelled (plain s ns c)
  all_taken c accepted stays =
      let lives : (link_at net c).live ≡ true = r.ends.settled.live c ∙ ap (λ b. b && not (is_gone_phase (phase s ns c))) accepted ∙ ap not stays in
      let there : has_arrived (made_acts seed) c ≡ true =
      ap (λ (xs : List Act). has_arrived xs c) (sym r.acts_are) ∙ by_cases (has_arrived net.acts c) (λ yes. yes) (λ away. clash (link_at net c).live (ap (λ (link : LinkState). link.live) (not_there c net away)) lives) in
      let any = credit_none c (Some 0) (made_acts seed) (made_free seed) there in
      let nothing = empty_or (held c) (λ some. let limit = sym any ∙ r.short c accepted stays some in cc) in
      let kept_all : kept s ns c ≡ plain s ns c = ap (λ (ds : List ℕ). kept_of ds (plain s ns c)) (no_drops c ns nothing_dropped) ∙ all_kept 0 (plain s ns c) in
      let carried = subst (λ b. Carries b ((net_state net).taken c) (held c) (all_spelled (kept s ns c))) stays (r.ends.right.carried c accepted) in
      sym (append-nil ((net_state net).taken c)) ∙ ap (λ (l : List ℕ). (net_state net).taken c ++ l) (sym nothing) ∙ carried ∙ ap all_spelled kept_all
