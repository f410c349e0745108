-- A hub beside its notes, after a call that is told by its steps; and after the orders of an event.
use Rattle.run_laws.proofs.Below.{◌≡◌, ◌<◌, ◌^◌, ◌-◌, ◌+◌, ℕ, List, [], ◌∷◌, ◌++◌, Option, Some, None, Bool, true, false, cond, not, ◌&&◌, nat_eq, length, refl, sym, ap, ◌∙◌, subst, append-nil, append_assoc, length-append, arith, list_all, list_any, Phase, Head, Open, Leaving, Ending, Gone, Why, ConfigValue, NoteValue, EventValue, OrderValue, send, subscribe, unsubscribe, publish, close, Item, is_acceptance, closes, is_accepted, has_number, accepted_by, took_sum, ◌≤◌, drops_still, fairly_longer, Line, is_open, closing, leaves_open, topics_left, with_topic, without_topic, has_topic, put, data_frame, closed_by_server, obey, World, line_after, noted, noted_all, world, orders_of, Standing, unless_gone, standing_of, is_away, Ordered, event_at, Server, is_present, by_note, by_order, notes_of, standings_after, is_for, items_of, line_by, line_by_all, is_outgoing, Answers, Performs, serves, refuses, Covers, same, event_lines, event_state, event_ordered, all_follow, all_then, none_follow, notes_of-append, notes_of-notes, act, open_shown, accepts_none, items_steps, ends_obeys, Progress, progress_at, progress_by_step, progress_by_steps, progress_obeys, may_step, may_all_step, standing_in, standings_at, Does, ServesAll, by_cases, clash, and_left, and_right, front_later, away_by_phase, unaccepted, AgreesAt, Agrees, line_progress, untold, is_early, IsToldOnce, is_closed, is_of_orders}
use Rattle.ws_kinds.specs.NoteValue as note
use Rattle.run_meaning.specs.Server as run
use Rattle.run_meaning.specs.Steps.{Step}
use Rattle.run_meaning.specs.Bridge.Covers.{more}
use Rattle.run_laws.proofs.ProgressLemmas.{Ends, progress_is, due_shown, once_more, none_before, one_progress, closes_same, unclosed, all_none}
use Rattle.run_laws.proofs.WorldLemmas.{obeys_by, none_obeys}
use Rattle.run_laws.proofs.RestLemmas.{rests_then}
use Rattle.run_laws.proofs.AgreeLemmas.{rests_of, agrees_of, ends_of, told_is, took_after}

-- ---- an order

shown_closing : (p : Option Phase) → unless_gone (closing p) ≡ closing (unless_gone p)
shown_closing None = refl
shown_closing (Some Head) = refl
shown_closing (Some Open) = refl
shown_closing (Some Leaving) = refl
shown_closing (Some Ending) = refl
shown_closing (Some Gone) = refl

leaves_closing : (p : Option Phase) → leaves_open (unless_gone p) (closing (unless_gone p)) ≡ leaves_open p (closing p)
leaves_closing None = refl
leaves_closing (Some Head) = refl
leaves_closing (Some Open) = refl
leaves_closing (Some Leaving) = refl
leaves_closing (Some Ending) = refl
leaves_closing (Some Gone) = refl

early_closing : (p : Option Phase) → is_early (closing p) ≡ true → (is_early p ≡ true) × (leaves_open p (closing p) ≡ false)
early_closing None e = clash false refl e
early_closing (Some Head) e = (refl, refl)
early_closing (Some Open) e = clash false refl e
early_closing (Some Leaving) e = clash false refl e
early_closing (Some Ending) e = clash false refl e
early_closing (Some Gone) e = clash false refl e

abbrev closed_progress : ℕ → List ℕ → Line → List (ℕ × List ℕ) → Progress
closed_progress code reason l told = record {
  phase = closing (unless_gone l.phase);
  topics = topics_left (unless_gone l.phase) (closing (unless_gone l.phase)) l.topics;
  due = cond (leaves_open (unless_gone l.phase) (closing (unless_gone l.phase))) (Some (code, reason)) (untold l.left_open told);
}

-- what an order makes of the progress is told by what it makes of the line
module _ {S : Type 0} (r : run.Server S) where
  progress_put : (b : Bool) (xs : List Item) (l : Line) (told : List (ℕ × List ℕ)) → line_progress l told ≡ line_progress (cond b (put xs l) l) told
  progress_put true xs l told = refl
  progress_put false xs l told = refl

  progress_close : (code : ℕ) (reason : List ℕ) (l : Line) (told : List (ℕ × List ℕ)) → Ends l told
      → closed_progress code reason l told ≡ line_progress (closed_by_server code reason l) told
  progress_close code reason l told ends =
      let p = l.phase in
      let leaves = leaves_open (unless_gone p) (closing (unless_gone p)) in
      let alike = leaves_closing p in
      progress_is (closing (unless_gone p)) (unless_gone (closing p)) (topics_left (unless_gone p) (closing (unless_gone p)) l.topics) (topics_left p (closing p) l.topics)
      (cond leaves (Some (code, reason)) (untold l.left_open told)) (untold (cond (leaves_open p (closing p)) (Some (code, reason)) l.left_open) told)
      (sym (shown_closing p)) (ap (λ (z : Bool). cond z [] l.topics) alike)
      (due_shown leaves (code, reason) l.left_open told (λ t. none_before r l told (closing p) ends (sym alike ∙ t)) ∙ ap (λ (z : Bool). untold (cond z (Some (code, reason)) l.left_open) told) alike)

  order_progress : (from c : ℕ) (o : OrderValue) (l : Line) (told : List (ℕ × List ℕ)) → Ends l told → progress_obeys from c o (line_progress l told) ≡ line_progress (obey from c o l) told
  order_progress from c (send to kind body) l told ends = progress_put (nat_eq to c) (data_frame kind body ∷ []) l told
  order_progress from c (subscribe topic) l told ends = one (nat_eq from c)
    where
      one : (b : Bool) → cond b (record { phase = unless_gone l.phase; topics = with_topic topic l.topics; due = untold l.left_open told }) (line_progress l told) ≡ line_progress (cond b (record l { topics = with_topic topic l.topics }) l) told
      one true = refl
      one false = refl
  order_progress from c (unsubscribe topic) l told ends = one (nat_eq from c)
    where
      one : (b : Bool) → cond b (record { phase = unless_gone l.phase; topics = without_topic topic l.topics; due = untold l.left_open told }) (line_progress l told) ≡ line_progress (cond b (record l { topics = without_topic topic l.topics }) l) told
      one true = refl
      one false = refl
  order_progress from c (publish topic kind body) l told ends = progress_put (not (nat_eq from c) && has_topic topic l.topics) (data_frame kind body ∷ []) l told
  order_progress from c (close code reason) l told ends = by_cases (nat_eq from c)
      (λ own.
      ap (λ (z : Bool). cond z (closed_progress code reason l told) (line_progress l told)) own ∙ progress_close code reason l told ends
      ∙ ap (λ (z : Bool). line_progress (cond z (closed_by_server code reason l) l) told) (sym own))
      (λ other. ap (λ (z : Bool). cond z (closed_progress code reason l told) (line_progress l told)) other ∙ ap (λ (z : Bool). line_progress (cond z (closed_by_server code reason l) l) told) (sym other))

  -- phase and end alone
  pub record EndsSo (line : Line) (told : List (ℕ × List ℕ)) : Type 0 where
    pub early : is_early line.phase ≡ true → line.left_open ≡ None
    pub once : IsToldOnce line.left_open told

  so : (l : Line) (told : List (ℕ × List ℕ)) → Ends l told → EndsSo l told
  so l told ends = record { early = ends.early; once = ends.once }

  so_close : (code : ℕ) (reason : List ℕ) (l : Line) (told : List (ℕ × List ℕ)) → Ends l told → EndsSo (closed_by_server code reason l) told
  so_close code reason l told ends = record {
    early = λ h. let e = early_closing l.phase h in ap (λ (z : Bool). cond z (Some (code, reason)) l.left_open) e.1 ∙ ends.early e.0;
    once = once_more (leaves_open l.phase (closing l.phase)) (code, reason) l.left_open told (none_before r l told (closing l.phase) ends) ends.once;
  }

  act_so : (o : OrderValue) (l : Line) (told : List (ℕ × List ℕ)) → Ends l told → EndsSo (act o l) told
  act_so (send to kind body) l told ends = record { early = ends.early; once = ends.once }
  act_so (subscribe topic) l told ends = record { early = ends.early; once = ends.once }
  act_so (unsubscribe topic) l told ends = record { early = ends.early; once = ends.once }
  act_so (publish topic kind body) l told ends = record { early = ends.early; once = ends.once }
  act_so (close code reason) l told ends = so_close code reason l told ends

  open_where : (from c : ℕ) (o : OrderValue) (l : Line) (told : List (ℕ × List ℕ)) → may_step c (by_order from o) (line_progress l told) ≡ true → is_for from c o l.topics ≡ true → is_open l.phase ≡ true
  open_where from c o l told may own = sym (open_shown l.phase) ∙ sym (ap (λ (z : Bool). cond z (is_open (unless_gone l.phase)) true) own) ∙ may

  order_ends : (from c : ℕ) (o : OrderValue) (l : Line) (told : List (ℕ × List ℕ)) → may_step c (by_order from o) (line_progress l told) ≡ true → Ends l told → Ends (obey from c o l) told
  order_ends from c o l told may ends =
      let y = obeys_by (λ (z : Line). EndsSo z told) from c o l (act_so o l told ends) (so l told ends) in
      record {
        early = y.early;
        once = y.once;
        topics = ends_obeys from c o l (open_where from c o l told may) ends.topics;
      }

  -- ---- steps

  one_step : (c : ℕ) (x : Step) (l : Line) (told : List (ℕ × List ℕ)) → is_accepted c (notes_of (x ∷ [])) ≡ false → may_step c x (line_progress l told) ≡ true → Ends l told
      → (progress_by_step c x (line_progress l told) ≡ line_progress (line_by r c x l) told) × Ends (line_by r c x l) told
  one_step c (by_note n) l told e may ends = one_progress r c n l told (ap (has_number c) (sym (append-nil (accepted_by n))) ∙ e) ends
  one_step c (by_order from o) l told e may ends = (order_progress from c o l told ends, order_ends from c o l told may ends)

  all_steps : (c : ℕ) (xs : List Step) (l : Line) (told : List (ℕ × List ℕ)) → is_accepted c (notes_of xs) ≡ false → may_all_step c xs (line_progress l told) ≡ true → Ends l told
      → (progress_by_steps c xs (line_progress l told) ≡ line_progress (line_by_all r c xs l) told) × Ends (line_by_all r c xs l) told
  all_steps c [] l told e may ends = (refl, ends)
  all_steps c (x ∷ xs) l told e may ends =
      let u = accepts_none r c x xs e in
      let one = one_step c x l told u.0 (and_left (may_step c x (line_progress l told)) (may_all_step c xs (progress_by_step c x (line_progress l told))) may) ends in
      let all = all_steps c xs (line_by r c x l) told u.1
      (ap (may_all_step c xs) (sym one.0) ∙ and_right (may_step c x (line_progress l told)) (may_all_step c xs (progress_by_step c x (line_progress l told))) may) one.1 in
      (ap (progress_by_steps c xs) one.0 ∙ all.0, all.1)

  steps_none : (c : ℕ) (xs : List Step) (l : Line) → is_accepted c (notes_of xs) ≡ false → l.phase ≡ None → (line_by_all r c xs l).phase ≡ None
  steps_none c [] l e away = away
  steps_none c (x ∷ xs) l e away = let u = accepts_none r c x xs e in steps_none c xs (line_by r c x l) u.1 (one x u.0)
    where
      one : (y : Step) → is_accepted c (notes_of (y ∷ [])) ≡ false → (line_by r c y l).phase ≡ None
      one (by_note n) h = all_none r c (n ∷ []) l h away
      one (by_order from o) h = none_obeys from c o l away

  -- what each note and each order that may come keeps
  pub steps_keep : (P : Line → Type 0) (ok : NoteValue → Bool) (c : ℕ) → ((n : NoteValue) (l : Line) → ok n ≡ true → P l → P (line_after r c n l))
      → ((from : ℕ) (o : OrderValue) (l : Line) → (is_for from c o l.topics ≡ true → is_open l.phase ≡ true) → P l → P (obey from c o l))
      → (xs : List Step) (l : Line) (told : List (ℕ × List ℕ)) → list_all ok (notes_of xs) ≡ true → is_accepted c (notes_of xs) ≡ false → may_all_step c xs (line_progress l told) ≡ true → Ends l told → P l → P (line_by_all r c xs l)
  steps_keep P ok c notes orders [] l told all e may ends x = x
  steps_keep P ok c notes orders (by_note n ∷ xs) l told all e may ends x =
      let u = accepts_none r c (by_note n) xs e in
      let one = one_step c (by_note n) l told u.0 (and_left (may_step c (by_note n) (line_progress l told)) (may_all_step c xs (progress_by_step c (by_note n) (line_progress l told))) may) ends in
      steps_keep P ok c notes orders xs (line_after r c n l) told (and_right (ok n) (list_all ok (notes_of xs)) all) u.1
      (ap (may_all_step c xs) (sym one.0) ∙ and_right (may_step c (by_note n) (line_progress l told)) (may_all_step c xs (progress_by_step c (by_note n) (line_progress l told))) may) one.1
      (notes n l (and_left (ok n) (list_all ok (notes_of xs)) all) x)
  steps_keep P ok c notes orders (by_order from o ∷ xs) l told all e may ends x =
      let here = and_left (may_step c (by_order from o) (line_progress l told)) (may_all_step c xs (progress_by_step c (by_order from o) (line_progress l told))) may in
      let one = one_step c (by_order from o) l told refl here ends in
      steps_keep P ok c notes orders xs (obey from c o l) told all e
      (ap (may_all_step c xs) (sym one.0) ∙ and_right (may_step c (by_order from o) (line_progress l told)) (may_all_step c xs (progress_by_step c (by_order from o) (line_progress l told))) may) one.1
      (orders from o l (open_where from c o l told here) x)

  -- a connection after a call that is told by its steps
  pub at_steps : (c : ℕ) (l : Line) (ns : List NoteValue) (xs : List Step) (a b : Server) → AgreesAt c l ns a → Does r.reply xs a b → is_accepted c (notes_of xs) ≡ false → closes c (notes_of xs) ≡ []
      → AgreesAt c (line_by_all r c xs l) (ns ++ notes_of xs) b
  at_steps c l ns xs a b x does away none =
      let told = closes c ns in
      let alike : closes c (ns ++ notes_of xs) ≡ told = closes_same c ns (notes_of xs) none in
      let all = all_steps c xs l told away (ap (may_all_step c xs) (sym x.progress) ∙ does.may_come c) (record { early = x.early; once = x.once; topics = x.topics }) in
      let progress : progress_at b.hub c ≡ line_progress (line_by_all r c xs l) told = does.progress c ∙ ap (progress_by_steps c xs) x.progress ∙ all.0 in
      agrees_of c (line_by_all r c xs l) (ns ++ notes_of xs) b
      (rests_then c l.phase (line_by_all r c xs l).phase l.items (line_by_all r c xs l).items (items_of r.reply c xs (standings_at a.hub c)) a b (rests_of c l ns a x)
      does.appends.lines.config does.appends.lines.named (does.appends.lines.lines c) (does.appends.fronts c) (ap (λ (z : Progress). z.phase) progress) (λ known e. known (steps_none c xs l away e))
      (items_steps r c xs l away ∙ ap (λ (z : Standing). l.items ++ items_of r.reply c xs z) (sym (ap standing_in x.progress))))
      (progress ∙ ap (λ (z : List (ℕ × List ℕ)). line_progress (line_by_all r c xs l) z) (sym alike))
      (subst (λ (z : List (ℕ × List ℕ)). Ends (line_by_all r c xs l) z) (sym alike) all.1)

-- ---- further items of a connection that is gone

away_hidden : (p : Option Phase) → is_away p ≡ true → unless_gone p ≡ None
away_hidden None e = refl
away_hidden (Some Gone) e = refl
away_hidden (Some Head) e = clash false refl e
away_hidden (Some Open) e = clash false refl e
away_hidden (Some Leaving) e = clash false refl e
away_hidden (Some Ending) e = clash false refl e

longer : (x y last : ℕ) → x + y < last → x < last
longer x y last e = omega arith

pub agrees_more : (c : ℕ) (l : Line) (xs : List Item) (ns : List NoteValue) (s : Server) → is_away l.phase ≡ true → AgreesAt c l ns s → AgreesAt c (put xs l) ns s
agrees_more c l xs ns s away x =
    let absent : is_present s.hub c ≡ false = away_by_phase s.hub c (ap (λ (z : Progress). z.phase) x.progress ∙ away_hidden l.phase away) in
    record {
      progress = x.progress;
      early = x.early;
      once = x.once;
      topics = x.topics;
      known = x.known;
      stands = λ there. clash (is_present s.hub c) absent there;
      count = λ there. clash (is_present s.hub c) absent there;
      front = λ gone few. front_later c l.items xs s.net s.net s.told s.told refl (drops_still c s.told) (x.front gone (fewer few));
      fair = λ there. clash (is_present s.hub c) absent there;
      drops = λ gone few. fairly_longer c s.hub.config.limit l.items xs s.net s.told (x.drops gone (fewer few));
    }
  where
    fewer : length (l.items ++ xs) < 2 ^ 64 - 1 → length l.items < 2 ^ 64 - 1
    fewer few = longer (length l.items) (length xs) (2 ^ 64 - 1) (subst (λ (k : ℕ). k < 2 ^ 64 - 1) (length-append l.items xs) few)

pub agrees_covers : (c : ℕ) (l m : Line) (ns : List NoteValue) (s : Server) → Covers l m → AgreesAt c l ns s → AgreesAt c m ns s
agrees_covers c l m ns s (same e) x = subst (λ (z : Line). AgreesAt c z ns s) (sym e) x
agrees_covers c l m ns s (more xs away e) x = subst (λ (z : Line). AgreesAt c z ns s) (sym e) (agrees_more c l xs ns s away x)

-- ---- the orders of an event

pub outgoing_of_orders : (n : NoteValue) → is_outgoing n ≡ true → is_of_orders n ≡ true
outgoing_of_orders (note.unserved c i y) e = refl
outgoing_of_orders _ e = e

-- a test that the notes pass which orders make
pub orders_notes : (ok : NoteValue → Bool) (f : ConfigValue) (admits : List ℕ → Bool) (c : ℕ) → ((n : NoteValue) → is_outgoing n ≡ true → ok n ≡ true) → ((i : ℕ) (y : Why) → ok (note.unserved c i y) ≡ true)
    → (os : List OrderValue) (i : ℕ) (xs : List Step) (p : ℕ → Standing) → Performs f admits c i p os xs → list_all ok (notes_of xs) ≡ true
orders_notes ok f admits c sent named [] i xs p h = ap (λ (z : List Step). list_all ok (notes_of z)) h
orders_notes ok f admits c sent named (o ∷ os) i xs p h =
    ap (list_all ok) (ap notes_of h.2 ∙ notes_of-append h.0 h.1)
    ∙ all_then ok (notes_of h.0) (notes_of h.1) (first h.3) (orders_notes ok f admits c sent named os (i + 1) h.1 (standings_after h.0 p) h.4)
  where
    first : Answers f admits c i p o h.0 → list_all ok (notes_of h.0) ≡ true
    first (serves ms sends none is) = ap (list_all ok) (ap notes_of is ∙ notes_of-notes ms) ∙ all_follow is_outgoing ok sent ms sends
    first (refuses reason may is) = ap (λ (z : List Step). list_all ok (notes_of z)) is ∙ ap (λ (z : Bool). z && true) (named i reason)

orders_unclosed : (ns : List NoteValue) → list_all is_of_orders ns ≡ true → list_any is_closed ns ≡ false
orders_unclosed ns e = none_follow is_of_orders is_closed one ns e
  where
    one : (n : NoteValue) → is_of_orders n ≡ true → is_closed n ≡ false
    one (note.closed d code reason) e = clash false refl e
    one _ e = refl

pub orders_unaccepting : (ns : List NoteValue) → list_all is_of_orders ns ≡ true → list_any is_acceptance ns ≡ false
orders_unaccepting ns e = none_follow is_of_orders is_acceptance one ns e
  where
    one : (n : NoteValue) → is_of_orders n ≡ true → is_acceptance n ≡ false
    one (note.accepted c) e = clash false refl e
    one _ e = refl

module _ {S : Type 0} (r : run.Server S) where
  -- The hub is as the notes say, up to an event and what was sent since its note. Then its orders are served.
  module _ (f : ConfigValue) (before : List NoteValue) (n : NoteValue) (e : EventValue) (sending : List NoteValue) (a b : Server) (at : event_at n (noted r n (world r before)) ≡ Some e) (out : list_all is_outgoing sending ≡ true)
      (agrees : Agrees (noted_all r sending (noted r n (world r before))) (before ++ n ∷ sending) a) (x : ServesAll f r.admits e.conn 0 (orders_of r e (noted r n (world r before))) a b) where
    abbrev here : World S
    here = noted_all r sending (noted r n (world r before))

    performs : Performs f r.admits e.conn 0 (λ d. standing_of ((noted_all r sending (noted r n (world r before))).line d)) (orders_of r e (noted r n (world r before))) x.steps
    performs = subst (λ (z : ℕ → Standing). Performs f r.admits e.conn 0 z (orders_of r e (noted r n (world r before))) x.steps) (λ k d. (ap standing_in (agrees.lines d).progress) k) x.performs

    pub served_notes : list_all is_of_orders (notes_of x.steps) ≡ true
    served_notes = orders_notes is_of_orders f r.admits e.conn outgoing_of_orders (λ i y. refl) (orders_of r e (noted r n (world r before))) 0 x.steps (standings_at a.hub) x.performs

    accepts_nobody : (d : ℕ) → is_accepted d (notes_of x.steps) ≡ false
    accepts_nobody d = unaccepted (notes_of x.steps) d (orders_unaccepting (notes_of x.steps) served_notes)

    -- the hub is as all notes say
    pub agrees_orders : (after : List NoteValue) → b.told ≡ Some after → Agrees (world r (before ++ n ∷ (sending ++ notes_of x.steps))) (before ++ n ∷ (sending ++ notes_of x.steps)) b
    agrees_orders after told =
        let does = x.does r.reply in
        let whole : (before ++ n ∷ sending) ++ notes_of x.steps ≡ before ++ n ∷ (sending ++ notes_of x.steps) = append_assoc before (n ∷ sending) (notes_of x.steps) in
        record {
          tells = does.net.net.tells ∙ agrees.tells;
          took = λ d. subst (λ (z : List NoteValue). took_sum d z ≤ length (b.net.taken d)) whole
              (took_after d (before ++ n ∷ sending) (notes_of x.steps) a.net b.net does.net agrees.tells (agrees.took d));
          told = told_is (before ++ n ∷ sending) (notes_of x.steps) after a.told b.told does.told agrees.told told ∙ ap (λ (z : List NoteValue). Some z) whole;
          lines = λ d.
              let bridge = event_lines r f before n e sending x.steps at out (λ c. (agrees.lines c).topics) performs d in
              agrees_covers d (line_by_all r d x.steps (here.line d)) ((world r (before ++ n ∷ (sending ++ notes_of x.steps))).line d) (before ++ n ∷ (sending ++ notes_of x.steps)) b bridge.0
              (subst (λ (z : List NoteValue). AgreesAt d (line_by_all r d x.steps (here.line d)) z b) whole
              (at_steps r d (here.line d) (before ++ n ∷ sending) x.steps a b (agrees.lines d) does (accepts_nobody d) (unclosed (notes_of x.steps) d (orders_unclosed (notes_of x.steps) served_notes))));
        }

    -- each order is served or named, and the state is the one after the event
    pub ordered_orders : Ordered r f before → Ordered r f (before ++ n ∷ (sending ++ notes_of x.steps)) × ((world r (before ++ n ∷ (sending ++ notes_of x.steps))).state ≡ r.after (world r before).state e)
    ordered_orders ordered =
        (event_ordered r f before n e sending x.steps at out (λ c. (agrees.lines c).topics) performs ordered, event_state r f before n e sending x.steps at out (λ c. (agrees.lines c).topics) performs)

    -- what the notes and the orders keep of a connection, whatever items it has
    pub orders_keep : (d : ℕ) (P : Line → Type 0) → ((m : NoteValue) (l : Line) → is_of_orders m ≡ true → P l → P (line_after r d m l))
        → ((from : ℕ) (o : OrderValue) (l : Line) → (is_for from d o l.topics ≡ true → is_open l.phase ≡ true) → P l → P (obey from d o l))
        → ((items : List Item) (l : Line) → P l → P (put items l)) → P ((noted_all r sending (noted r n (world r before))).line d) → P ((world r (before ++ n ∷ (sending ++ notes_of x.steps))).line d)
    orders_keep d P notes orders puts now =
        let ends = ends_of d (here.line d) (before ++ n ∷ sending) a (agrees.lines d) in
        covers (event_lines r f before n e sending x.steps at out (λ c. (agrees.lines c).topics) performs d).0
        (steps_keep r P is_of_orders d notes orders x.steps (here.line d) (closes d (before ++ n ∷ sending)) served_notes (accepts_nobody d)
        (ap (may_all_step d x.steps) (sym (agrees.lines d).progress) ∙ (x.does r.reply).may_come d) ends now)
      where
        covers : {l m : Line} → Covers l m → P l → P m
        covers {l = l} (same e) y = subst (λ (z : Line). P z) (sym e) y
        covers {l = l} (more items away e) y = subst (λ (z : Line). P z) (sym e) (puts items l y)
