-- What the calls of a hub keep.
use Rattle.loop_runner.proofs.Below.{◌≡◌, ◌≤◌, ◌+◌, inl, ⊎_elim, ℕ, suc, List, [], ◌∷◌, ◌++◌, Option, Bool, true, false, cond, not, ◌&&◌, ◌||◌, refl, sym, ap, ◌∙◌, subst, arith, append_assoc, list_any, list_all, ConfigValue, NoteValue, OrderValue, IsNoted, AreNoted, Item, NetState, LinkFailed, is_of, is_acceptance, is_turn, is_gone_in, number_of, Standing, is_reading, AreThere, Step, notes_of, of_notes, standings_after, is_outgoing, is_link_failure, Answers, Performs, serves, refuses, notes_of-append, notes_of-notes, list_any-append, is_silent, HubState, Server, server, is_present, phase_at, ring_at, Ties, ShortRings, nothing, short_silent, progress_at, progress_by_steps, RingsWait, NetAfter, RoseBy, Advances, Proceeds, Appends, Makes, IsTable, table_of, EndsTurn, finishes, clash, or_left, or_right, and_left, and_right, Sends, Notes, GivesOctets, LosesLink, Every, But, Grows, RisesBeyond, Onward, StepsWith, Steps, ServesOrders, number_then, rose_same, told_one, steps_of_notes, not_true, ◌≢◌, cases_eq, by_cases, Waits, OffersIfThere, Offers, KeepsOwed, owed_aside, owed_call, owed_steps, owed_then, is_accepted, unaccepted, told_none, none_follow, Ticks, is_of_tick, tick_advances}
use Rattle.ws_kinds.specs.NoteValue as note
use Rattle.loop_runner.proofs.NotedLemmas.{links_both, links_noted, links_paid, links_still, none_numbered, number_none, turns_both, turns_noted, turns_same}
use Rattle.loop_runner.proofs.GrowLemmas.{grows_net, grows_noted, grows_same, grows_then}
use Rattle.loop_runner.proofs.ProgressLemmas.{begins, begins_of, Stays, Calm, stays_after, calm_after, reading_after, present_after, phases_read, stays_or_leaves, kept_at, read_present}

-- ---- what every step keeps

pub onward_still : (h g : HubState) (a b : NetState) (t : Option (List NoteValue)) → Grows (server h a t) (server g b t) → b.room ≤ a.room → (a.tells ≡ true → b.passed ≡ a.passed) → a.faults ≤ b.faults
    → KeepsOwed 0 (server h a t) (server g b t) → Onward 0 0 (server h a t) (server g b t)
onward_still h g a b t grows room passed faults telling =
    record { grows = grows; turns = turns_same t; room = room; passed = passed; faults = faults; links = links_still 0 h g a b t (inl (omega arith)); telling = telling }

-- the hub stays
pub telling_still : (h : HubState) (a b : NetState) (t t' : Option (List NoteValue)) (ms : List NoteValue) → AreNoted t ms t' → KeepsOwed 0 (server h a t) (server h b t')
telling_still h a b t t' ms told = owed_aside ms (server h a t) (server h b t') told (omega arith) (λ c. refl) (λ c. refl)

-- these notes were added; the count rose by some of the links that failed, and the others failed before
onward_owed : (count fails owed : ℕ) (ms : List NoteValue) (a b : Server) → AreNoted a.told ms b.told → NetAfter ms a.net b.net → RoseBy fails a.net.faults b.net.faults → number_of is_link_failure ms ≡ fails + owed
    → number_of is_turn ms ≡ count → KeepsOwed count a b → Onward count owed a b
onward_owed count fails owed ms a b told net rose all turns telling = record {
  grows = grows_net ms a b told net;
  turns = turns_noted count ms a.told b.told told turns;
  room = net.room;
  passed = λ t. (net.told t).passed;
  faults = rose.least;
  links = links_noted fails owed ms a b all told rose;
  telling = telling;
}

-- a call, which accepts no number again
pub onward_call : (count fails owed : ℕ) (ms : List NoteValue) (a b : Server) → Advances ms a b → RoseBy fails a.net.faults b.net.faults → number_of is_link_failure ms ≡ fails + owed → number_of is_turn ms ≡ count
    → a.hub.named ≤ b.hub.named → ((c : ℕ) → c ≤ a.hub.named → is_accepted c ms ≡ false) → Onward count owed a b
onward_call count fails owed ms a b x rose all turns named new = onward_owed count fails owed ms a b x.told x.net rose all turns
    (owed_call count ms a b x (λ none. none_numbered is_turn ms (turns ∙ none)) named new)

onward_proceeds : (count : ℕ) (first last : List NoteValue) (a b : Server) (x : Proceeds first last a b) → number_of is_turn (first ++ (x.sending ++ last)) ≡ count → b.hub.named ≡ a.hub.named
    → list_any is_acceptance (first ++ (x.sending ++ last)) ≡ false → Onward count 0 a b
onward_proceeds count first last a b x turns named none =
    let all = first ++ (x.sending ++ last) in
    onward_call count (number_of is_link_failure all) 0 all a b x.advances x.fails.faults (omega arith) turns (omega (arith, named)) (λ c _. unaccepted all c none)

onward_same : (s : Server) → Onward 0 0 s s
onward_same s = onward_still s.hub s.hub s.net s.net s.told (grows_same s) (omega arith) (λ t. refl) (omega arith) (telling_still s.hub s.net s.net s.told s.told [] (told_none s.told))

pub onward_then : {m o n p : ℕ} (a b d : Server) → Onward m o a b → Onward n p b d → Onward (m + n) (o + p) a d
onward_then {m} {o} {n} {p} a b d x y = record {
  grows = grows_then a b d x.grows y.grows;
  turns = turns_both m n a.told b.told d.told x.turns y.turns;
  room = let p = x.room in let q = y.room in omega arith;
  passed = λ t. y.passed (x.grows.tells ∙ t) ∙ x.passed t;
  faults = let p = x.faults in let q = y.faults in omega arith;
  links = links_both 0 o 0 p a b d x.links y.links y.faults;
  telling = owed_then m n a b d x.telling y.telling;
}

-- a link failed, and then this is noted
onward_paid : (a b d : Server) → Onward 0 0 a b → RisesBeyond 1 0 a b → Onward 0 1 b d → Onward 0 0 a d
onward_paid a b d x failed y =
    let z = onward_then a b d x y in
    record { grows = z.grows; turns = z.turns; room = z.room; passed = z.passed; faults = z.faults; links = links_paid a d (links_both 1 0 0 1 a b d failed y.links y.faults); telling = z.telling }

-- ---- notes that begin nothing

-- the note says that a connection was accepted or is open, or that a turn ended
abbrev pub starts : NoteValue → Bool
starts n = begins n || is_turn n

all_none : {A : Type 0} (test other : A → Bool) → ((x : A) → test x ≡ false → other x ≡ false) → (xs : List A) → list_any test xs ≡ false → list_any other xs ≡ false
all_none test other h [] e = refl
all_none test other h (x ∷ xs) e = ap (λ (z : Bool). z || list_any other xs) (h x (or_left (test x) (list_any test xs) e)) ∙ all_none test other h xs (or_right (test x) (list_any test xs) e)

starts_begins : (n : NoteValue) → starts n ≡ false → begins n ≡ false
starts_begins n e = or_left (begins n) (is_turn n) e

starts_turn : (n : NoteValue) → starts n ≡ false → is_turn n ≡ false
starts_turn n e = or_right (begins n) (is_turn n) e

none_of : (c : ℕ) (n : NoteValue) → begins n ≡ false → begins_of c n ≡ false
none_of c n e = ap (λ (z : Bool). z && is_of c n) e

begins_more : (n : NoteValue) → begins n ≡ false → is_acceptance n ≡ false
begins_more (note.accepted c) e = clash true e refl
begins_more _ e = refl

pub begin_none : (c : ℕ) (ns : List NoteValue) → list_any starts ns ≡ false → list_any (begins_of c) ns ≡ false
begin_none c ns e = all_none starts (begins_of c) (λ n s. none_of c n (starts_begins n s)) ns e

pub accepts_none : (ns : List NoteValue) → list_any starts ns ≡ false → list_any is_acceptance ns ≡ false
accepts_none ns e = all_none starts is_acceptance (λ n s. begins_more n (starts_begins n s)) ns e

turnless : (ns : List NoteValue) → list_any starts ns ≡ false → number_of is_turn ns ≡ 0
turnless ns e = number_none is_turn ns (all_none starts is_turn starts_turn ns e)

one_outgoing : (n : NoteValue) → is_outgoing n ≡ true → starts n ≡ false
one_outgoing note.turn e = clash false refl e
one_outgoing (note.accepted c) e = clash false refl e
one_outgoing (note.opened c route param) e = clash false refl e
one_outgoing _ e = refl

-- a note of what was to be sent begins nothing
outgoing_starts : (ns : List NoteValue) → list_all is_outgoing ns ≡ true → list_any starts ns ≡ false
outgoing_starts [] e = refl
outgoing_starts (n ∷ ns) e =
    ap (λ (z : Bool). z || list_any starts ns) (one_outgoing n (and_left (is_outgoing n) (list_all is_outgoing ns) e))
    ∙ outgoing_starts ns (and_right (is_outgoing n) (list_all is_outgoing ns) e)

any_then : {A : Type 0} (test : A → Bool) (xs ys : List A) → list_any test xs ≡ false → list_any test ys ≡ false → list_any test (xs ++ ys) ≡ false
any_then test xs ys e h = list_any-append test xs ys ∙ ap (λ (z : Bool). z || list_any test ys) e ∙ h

-- so do the notes of a call, where the first and the last ones do
pub call_begins : (first last : List NoteValue) (a b : Server) (x : Proceeds first last a b) → list_any starts last ≡ false → list_any starts (x.sending ++ last) ≡ false
call_begins first last a b x e = any_then starts x.sending last (outgoing_starts x.sending x.outgoing) e

-- and the steps of orders
answers_start : (f : ConfigValue) (admits : List ℕ → Bool) (from i : ℕ) (standing : ℕ → Standing) (o : OrderValue) (xs : List Step) → Answers f admits from i standing o xs → list_any starts (notes_of xs) ≡ false
answers_start f admits from i standing o xs (serves sending outgoing none is) =
    ap (λ (z : List Step). list_any starts (notes_of z)) is ∙ ap (list_any starts) (notes_of-notes sending) ∙ outgoing_starts sending outgoing
answers_start f admits from i standing o xs (refuses reason may is) = ap (λ (z : List Step). list_any starts (notes_of z)) is

performs_start : (f : ConfigValue) (admits : List ℕ → Bool) (from i : ℕ) (standing : ℕ → Standing) (os : List OrderValue) (xs : List Step) → Performs f admits from i standing os xs → list_any starts (notes_of xs) ≡ false
performs_start f admits from i standing [] xs is = ap (λ (z : List Step). list_any starts (notes_of z)) is
performs_start f admits from i standing (o ∷ os) xs x =
    ap (λ (z : List Step). list_any starts (notes_of z)) x.2 ∙ ap (list_any starts) (notes_of-append x.0 x.1)
    ∙ any_then starts (notes_of x.0) (notes_of x.1) (answers_start f admits from i standing o x.0 x.3) (performs_start f admits from (i + 1) (standings_after x.0 standing) os x.1 x.4)

-- ---- what follows from steps

record Acts (count owed : ℕ) (xs : List Step) (a b : Server) : Type 0 where
  onward : Onward count owed a b
  progress : (c : ℕ) → progress_at b.hub c ≡ progress_by_steps c xs (progress_at a.hub c)
  net : NetAfter (notes_of xs) a.net b.net
  config : b.hub.config ≡ a.hub.config
  short : ShortRings a → ShortRings b
  waits : RingsWait a → RingsWait b

steps_by : {count owed : ℕ} (P : ℕ → Type 0) (xs : List Step) (a b : Server) → Acts count owed xs a b → Ties b → IsTable (table_of b.hub) → b.hub.named ≡ a.hub.named → ((c : ℕ) → P c → list_any (begins_of c) (notes_of xs) ≡ false)
    → list_any is_acceptance (notes_of xs) ≡ false → StepsWith count owed P a b
steps_by P xs a b x ties table named calm none = record {
  onward = x.onward;
  config = x.config;
  named = named;
  net_named = x.net.named;
  table = λ _. table;
  ties = λ _. ties;
  short = x.short;
  waits = x.waits;
  there = λ there c live.
      let both : (a.net.live c && not (is_gone_in c (notes_of xs))) ≡ true = sym (x.net.live c) ∙ live in
      let was = and_left (a.net.live c) (not (is_gone_in c (notes_of xs))) both in
      present c ∙ ap (λ (z : Bool). z && not (is_gone_in c (notes_of xs))) (there c was ∙ sym was) ∙ both;
  kept = λ c k. kept_at a.hub c ∙ (stays c).kept (sym (kept_at b.hub c) ∙ k);
  reading = λ c. reading_after c a.hub b.hub (stays c);
  due = λ c _ r. x.net.due c (not_true (is_gone_in c (notes_of xs)) (and_right (is_present a.hub c) (not (is_gone_in c (notes_of xs))) (sym (present c) ∙ read_present b.hub c r)));
  phase = λ c p. phases_read c a.hub b.hub (calm_at c p);
  weight = λ c p. (calm_at c p).weight;
}
  where
    stays : (c : ℕ) → Stays (progress_at a.hub c) (progress_at b.hub c)
    stays c = stays_after c xs a.hub b.hub (x.progress c) none

    calm_at : (c : ℕ) → P c → Calm (progress_at a.hub c) (progress_at b.hub c)
    calm_at c p = calm_after c xs a.hub b.hub (x.progress c) (calm c p)

    present : (c : ℕ) → is_present b.hub c ≡ (is_present a.hub c && not (is_gone_in c (notes_of xs)))
    present c = present_after c xs a.hub b.hub (x.progress c) none

-- a call that is told by its notes
steps_of : {count owed : ℕ} (P : ℕ → Type 0) (ns : List NoteValue) (f : ℕ → List Item) (a b : Server) → Advances ns a b → Onward count owed a b → Appends f a b → Ties b → IsTable (table_of b.hub)
    → b.hub.named ≡ a.hub.named → ((c : ℕ) → P c → list_any (begins_of c) ns ≡ false) → list_any is_acceptance ns ≡ false → StepsWith count owed P a b
steps_of P ns f a b adv onward app ties table named calm none =
    let back : notes_of (of_notes ns) ≡ ns = notes_of-notes ns in
    steps_by P (of_notes ns) a b
    (record {
      onward = onward;
      progress = λ c. adv.progress c ∙ sym (steps_of_notes c ns (progress_at a.hub c));
      net = subst (λ (z : List NoteValue). NetAfter z a.net b.net) (sym back) adv.net;
      config = app.lines.config;
      short = app.short;
      waits = app.waits;
    })
    ties table named (λ c p. ap (list_any (begins_of c)) back ∙ calm c p) (ap (list_any is_acceptance) back ∙ none)

-- one whose first note begins nothing for these connections
pub steps_first : (P : ℕ → Type 0) (conn : ℕ) (n : NoteValue) (f : ℕ → List Item) (a b : Server) → Sends conn (n ∷ []) f a b → ((c : ℕ) → P c → begins_of c n ≡ false) → (is_acceptance n || is_turn n) ≡ false → Steps P a b
steps_first P conn n f a b x calm none =
    let sent = call_begins (n ∷ []) [] a b x.proceeds refl in
    let ns = x.proceeds.sending ++ [] in
    let turns = ap (λ (z : Bool). cond z (suc (number_of is_turn ns)) (number_of is_turn ns)) (or_right (is_acceptance n) (is_turn n) none) ∙ turnless ns sent in
    let calmly : list_any is_acceptance (n ∷ ns) ≡ false = ap (λ (z : Bool). z || list_any is_acceptance ns) (or_left (is_acceptance n) (is_turn n) none) ∙ accepts_none ns sent in
    steps_of P (n ∷ ns) f a b x.proceeds.advances (onward_proceeds 0 (n ∷ []) [] a b x.proceeds turns x.named calmly) x.appends x.ties x.table x.named
    (λ c p. ap (λ (z : Bool). z || list_any (begins_of c) ns) (calm c p) ∙ begin_none c ns sent)
    calmly

-- and nothing for any
pub steps_sends : {conn : ℕ} {n : NoteValue} {f : ℕ → List Item} (a b : Server) → Sends conn (n ∷ []) f a b → starts n ≡ false → Steps Every a b
steps_sends {conn} {n} {f} a b x calm = steps_first Every conn n f a b x (λ c _. none_of c n (starts_begins n calm))
    (ap (λ (z : Bool). z || is_turn n) (begins_more n (starts_begins n calm)) ∙ starts_turn n calm)

pub steps_makes : (n : NoteValue) (a b : Server) → Makes (n ∷ []) a b → Appends nothing a b → Ties b → IsTable (table_of b.hub) → b.hub.named ≡ a.hub.named → starts n ≡ false → Steps Every a b
steps_makes n a b x app ties table named calm =
    let none : list_any is_acceptance (n ∷ []) ≡ false = ap (λ (z : Bool). z || false) (begins_more n (starts_begins n calm)) in
    steps_of Every (n ∷ []) nothing a b x.advances
    (onward_call 0 (number_of is_link_failure (n ∷ [])) 0 (n ∷ []) a b x.advances x.fails.faults (omega arith) (ap (λ (z : Bool). cond z 1 0) (starts_turn n calm)) (omega (arith, named)) (λ c _. unaccepted (n ∷ []) c none))
    app ties table named (λ c _. ap (λ (z : Bool). z || false) (none_of c n (starts_begins n calm))) none

-- a tick
tick_starts : (ns : List NoteValue) → list_all is_of_tick ns ≡ true → list_any starts ns ≡ false
tick_starts ns e = none_follow is_of_tick starts one ns e
  where
    one : (n : NoteValue) → is_of_tick n ≡ true → starts n ≡ false
    one note.turn h = clash false refl h
    one (note.accepted c) h = clash false refl h
    one (note.opened c route param) h = clash false refl h
    one _ h = refl

pub steps_ticks : (a b : Server) → Ticks a b → Ties b → IsTable (table_of b.hub) → b.hub.named ≡ a.hub.named → Steps Every a b
steps_ticks a b x ties table named =
    let made : List NoteValue = note.tick ∷ x.rest in
    let none : list_any starts made ≡ false = tick_starts x.rest x.of_tick in
    let adv = tick_advances a b x in
    let does = x.does (λ _. []) in
    steps_of Every made _ a b adv
    (onward_call 0 (number_of is_link_failure made) 0 made a b adv x.fails.faults (omega arith) (turnless made none) (omega (arith, named)) (λ c _. unaccepted made c (accepts_none made none)))
    does.appends ties table named (λ c _. begin_none c made none) (accepts_none made none)

pub steps_notes : {conn : ℕ} {n : NoteValue} (a b : Server) → Notes conn (n ∷ []) a b → starts n ≡ false → Steps Every a b
steps_notes {conn} {n} a b x calm = steps_makes n a b x.makes x.appends x.ties x.table x.named calm

pub steps_given : {conn count : ℕ} (a b : Server) → GivesOctets conn count a b → Steps Every a b
steps_given a b x = steps_makes (note.given _ _) a b x.makes x.appends x.ties x.table x.named refl

-- a read of the link failed before
steps_lost : (conn : ℕ) (a b : Server) → LosesLink conn a b → StepsWith 0 1 Every a b
steps_lost conn a b x =
    let ms = note.gone conn LinkFailed ∷ [] in
    steps_of Every ms nothing a b x.advances (onward_call 0 0 1 ms a b x.advances x.fails.faults refl refl (let same = x.named in omega arith) (λ c _. refl)) x.appends x.ties x.table x.named (λ d _. refl) refl

finishes_start : (conns : List ℕ) → list_any starts (finishes conns) ≡ false
finishes_start [] = refl
finishes_start (c ∷ conns) = finishes_start conns

-- an offering
steps_offered : (conn : ℕ) (a b : Server) → Offers conn a b → Steps Every a b
steps_offered conn a b x =
    let last = finishes x.finished in
    let none : list_any starts (x.proceeds.sending ++ last) ≡ false = call_begins [] last a b x.proceeds (finishes_start x.finished) in
    steps_of Every (x.proceeds.sending ++ last) nothing a b x.proceeds.advances (onward_proceeds 0 [] last a b x.proceeds (turnless (x.proceeds.sending ++ last) none) x.named (accepts_none (x.proceeds.sending ++ last) none)) x.appends x.ties x.table x.named
    (λ c _. begin_none c (x.proceeds.sending ++ last) none) (accepts_none (x.proceeds.sending ++ last) none)

-- the end of a turn
pub steps_ended : (a b : Server) → EndsTurn a b → Appends nothing a b → Ties b → IsTable (table_of b.hub) → b.hub.named ≡ a.hub.named → StepsWith 1 0 Every a b
steps_ended a b x app ties table named =
    let front = x.proceeds.sending ++ finishes x.finished in
    let none : list_any starts front ≡ false = any_then starts x.proceeds.sending (finishes x.finished) (outgoing_starts x.proceeds.sending x.proceeds.outgoing) (finishes_start x.finished) in
    let all : front ++ note.turn ∷ [] ≡ x.proceeds.sending ++ (finishes x.finished ++ note.turn ∷ []) = append_assoc x.proceeds.sending (finishes x.finished) (note.turn ∷ []) in
    let unaccepting : list_any is_acceptance (x.proceeds.sending ++ (finishes x.finished ++ note.turn ∷ [])) ≡ false =
    ap (list_any is_acceptance) (sym all) ∙ any_then is_acceptance front (note.turn ∷ []) (accepts_none front none) refl in
    steps_of Every (x.proceeds.sending ++ (finishes x.finished ++ note.turn ∷ [])) nothing a b x.proceeds.advances
    (onward_proceeds 1 [] (finishes x.finished ++ note.turn ∷ []) a b x.proceeds
    (ap (number_of is_turn) (sym all) ∙ number_then is_turn front (note.turn ∷ []) ∙ ap (λ (z : ℕ). z + 1) (turnless front none)) named unaccepting)
    app ties table named
    (λ c _. ap (list_any (begins_of c)) (sym all) ∙ any_then (begins_of c) front (note.turn ∷ []) (begin_none c front none) refl)
    unaccepting

-- orders that were served
pub steps_served : (admits : List ℕ → Bool) (conn : ℕ) (orders : List OrderValue) (a b : Server) → ServesOrders admits conn orders a b → Ties b → IsTable (table_of b.hub) → b.hub.named ≡ a.hub.named → Steps Every a b
steps_served admits conn orders a b x ties table named =
    let does = x.does (λ _. []) in
    let none = performs_start _ _ conn 0 _ orders x.steps x.performs in
    steps_by Every x.steps a b
    (record {
      onward = onward_owed 0 (number_of is_link_failure (notes_of x.steps)) 0 (notes_of x.steps) a b does.told does.net does.fails.faults (omega arith) (turnless (notes_of x.steps) none)
          (owed_steps (λ _. []) x.steps a b does (all_none starts is_turn starts_turn (notes_of x.steps) none) (λ c _. unaccepted (notes_of x.steps) c (accepts_none (notes_of x.steps) none)));
      progress = does.progress;
      net = does.net;
      config = does.appends.lines.config;
      short = does.appends.short;
      waits = does.appends.waits;
    })
    ties table named (λ c _. begin_none c (notes_of x.steps) none) (accepts_none (notes_of x.steps) none)

-- ---- one step after another

-- one that leaves the hub
pub steps_still : (P : ℕ → Type 0) (h : HubState) (a b : NetState) (t t' : Option (List NoteValue)) → Onward 0 0 (server h a t) (server h b t') → b.named ≡ a.named → (Ties (server h a t) → Ties (server h b t'))
    → (ShortRings (server h a t) → ShortRings (server h b t')) → (RingsWait (server h a t) → RingsWait (server h b t')) → (AreThere (server h a t) → AreThere (server h b t'))
    → ((c : ℕ) → P c → is_reading (phase_at h c) ≡ true → b.due c ≡ a.due c) → Steps P (server h a t) (server h b t')
steps_still P h a b t t' onward named ties short waits there due = record {
  onward = onward;
  config = refl;
  named = refl;
  net_named = named;
  table = λ table. table;
  ties = ties;
  short = short;
  waits = waits;
  there = there;
  kept = λ c k. k;
  reading = λ c r. r;
  due = due;
  phase = λ c p r. inl refl;
  weight = λ c p. omega arith;
}

pub steps_same : (P : ℕ → Type 0) (s : Server) → Steps P s s
steps_same P s = steps_still P s.hub s.net s.net s.told s.told (onward_same s) refl (λ t. t) (λ t. t) (λ t. t) (λ t. t) (λ c p r. refl)

steps_join : {m o n p k q : ℕ} (P : ℕ → Type 0) (a b d : Server) → StepsWith m o P a b → StepsWith n p P b d → Onward k q a d → StepsWith k q P a d
steps_join P a b d x y onward = record {
  onward = onward;
  config = y.config ∙ x.config;
  named = y.named ∙ x.named;
  net_named = y.net_named ∙ x.net_named;
  table = λ t. y.table (x.table t);
  ties = λ t. y.ties (x.ties t);
  short = λ t. y.short (x.short t);
  waits = λ t. y.waits (x.waits t);
  there = λ t. y.there (x.there t);
  kept = λ c k. x.kept c (y.kept c k);
  reading = λ c r. x.reading c (y.reading c r);
  due = λ c p r. y.due c p r ∙ x.due c p (y.reading c r);
  phase = λ c p. stays_or_leaves (phase_at a.hub c) (phase_at b.hub c) (phase_at d.hub c) (x.phase c p) (y.phase c p);
  weight = λ c p. let m = x.weight c p in let n = y.weight c p in omega arith;
}

pub steps_then : (P : ℕ → Type 0) (a b d : Server) → Steps P a b → Steps P b d → Steps P a d
steps_then P a b d x y = steps_join P a b d x y (onward_then a b d x.onward y.onward)

pub steps_but : {count owed : ℕ} (conn : ℕ) (a b : Server) → StepsWith count owed Every a b → StepsWith count owed (But conn) a b
steps_but conn a b x = record {
  onward = x.onward;
  config = x.config;
  named = x.named;
  net_named = x.net_named;
  table = x.table;
  ties = x.ties;
  short = x.short;
  waits = x.waits;
  there = x.there;
  kept = x.kept;
  reading = x.reading;
  due = λ c p r. x.due c (tt {0}) r;
  phase = λ c p r. x.phase c (tt {0}) r;
  weight = λ c p. x.weight c (tt {0});
}

-- a read of the link failed, and this was noted
pub steps_failed : (conn : ℕ) (a b d : Server) → Steps (But conn) a b → RisesBeyond 1 0 a b → LosesLink conn b d → Steps (But conn) a d
steps_failed conn a b d x failed lost =
    let y = steps_lost conn b d lost in
    steps_join (But conn) a b d x (steps_but conn b d y) (onward_paid a b d x.onward failed y.onward)

-- a note of the loop's own that says nothing of what was sent changes nothing else
pub steps_noted : (n : NoteValue) (h : HubState) (net : NetState) (t t' : Option (List NoteValue)) → IsNoted t n t' → ((c : ℕ) → is_silent c n ≡ true) → (is_turn n || is_link_failure n) ≡ false → Steps Every (server h net t) (server h net t')
steps_noted n h net t t' noted silent none = steps_still Every h net net t t'
    (record {
      grows = grows_noted n h h net t t' noted;
      turns = turns_noted 0 (n ∷ []) t t' (told_one t t' n noted) (ap (λ (z : Bool). cond z 1 0) (or_left (is_turn n) (is_link_failure n) none));
      room = omega arith;
      passed = λ _. refl;
      faults = omega arith;
      links = links_noted 0 0 (n ∷ []) (server h net t) (server h net t') (ap (λ (z : Bool). cond z 1 0) (or_right (is_turn n) (is_link_failure n) none)) (told_one t t' n noted) (rose_same net.faults);
      telling = telling_still h net net t t' (n ∷ []) (told_one t t' n noted);
    })
    refl (λ ties. ties) (λ short c there. short_silent c (ring_at h c) t t' n noted (silent c) (short c there)) (λ waits. waits) (λ there. there) (λ c p r. refl)

-- ---- a link that takes octets again

-- what is held is offered, where the connection is there
pub steps_freed : (conn : ℕ) (a b : Server) → OffersIfThere conn a b → Steps Every a b
steps_freed conn a b x = by_cases (is_present a.hub conn)
    (λ there. steps_offered conn a b (x.there there))
    (λ away. subst (λ (z : Server). Steps Every a z) (sym (x.away away)) (steps_same Every a))

pub waits_freed : (conn : ℕ) (a b : Server) → OffersIfThere conn a b → ((c : ℕ) → c ≢ conn → Waits c a) → RingsWait b
waits_freed conn a b x others = by_cases (is_present a.hub conn)
    (λ there. (x.there there).waits others)
    (λ away. subst RingsWait (sym (x.away away)) (λ c. ⊎_elim
    (λ (same : c ≡ conn). λ here. clash (is_present a.hub conn) away (ap (is_present a.hub) (sym same) ∙ here))
    (λ (ne : c ≡ conn → ⊥). others c ne) (cases_eq c conn)))
