-- Calls by their steps, one after another; and the orders of a connection.
use Rattle.hub_notes.proofs.Below.{◌≡◌, ◌+◌, ℕ, List, [], ◌∷◌, ◌++◌, Option, Some, Bool, true, false, cond, ◌&&◌, nat_eq, length, refl, sym, ap, ◌∙◌, subst, append-nil, list_all, Phase, ConfigValue, NoteValue, OrderValue, send, subscribe, unsubscribe, publish, close, Item, is_of, NetState, is_open, sends, closing, leaves_open, topics_left, with_topic, without_topic, Standing, and-assoc, Server, then_also, Step, by_note, by_order, notes_of, of_notes, standing_by, standing_obeys, standing_after, standing_after_all, standings_after, is_for, frames_of, items_by, items_of, appended_by, is_outgoing, Answers, notes_of-append, notes_of-notes, items-append, performs_more, Progress, progress_at, progress_by, progress_after, progress_after_all, may_all_come, progress_obeys, progress_by_step, progress_by_steps, may_step, may_all_step, standing_in, standings_at, FailsAfter, NetAfter, AreNoted, Advances, Proceeds, Appends, Does, Obeys, Serves, ServesAll, by_cases, clash, and_left, and_right, CountsBeside, tell_by_all, TellsBy}
use Rattle.ws_kinds.specs.NoteValue as note
use Rattle.hub_notes.proofs.NoteLemmas.{told_then, told_none, tells_then, counts_then, same_then, same_counts}
use Rattle.hub_notes.proofs.NetLemmas.{net_then, net_same, fails_then, fails_same}
use Rattle.hub_notes.proofs.FrontLemmas.{appends_then, appends_as, appends_same, appends_after_nothing}

-- ---- what steps make of a connection

standing_obeyed : (from c : ℕ) (o : OrderValue) (p : Progress) → standing_in (progress_obeys from c o p) ≡ standing_obeys from c o (standing_in p)
standing_obeyed from c (send to kind body) p = refl
standing_obeyed from c (publish topic kind body) p = refl
standing_obeyed from c (subscribe topic) p = one (nat_eq from c)
  where
    one : (b : Bool) → standing_in (cond b (record { phase = p.phase; topics = with_topic topic p.topics; due = p.due }) p) ≡ cond b (record { phase = p.phase; topics = with_topic topic p.topics }) (standing_in p)
    one true = refl
    one false = refl
standing_obeyed from c (unsubscribe topic) p = one (nat_eq from c)
  where
    one : (b : Bool) → standing_in (cond b (record { phase = p.phase; topics = without_topic topic p.topics; due = p.due }) p) ≡ cond b (record { phase = p.phase; topics = without_topic topic p.topics }) (standing_in p)
    one true = refl
    one false = refl
standing_obeyed from c (close code reason) p = one (nat_eq from c) (cond (leaves_open p.phase (closing p.phase)) (Some (code, reason)) p.due)
  where
    one : (b : Bool) (due : Option (ℕ × List ℕ)) → standing_in (cond b (record { phase = closing p.phase; topics = topics_left p.phase (closing p.phase) p.topics; due = due }) p)
        ≡ cond b (record { phase = closing p.phase; topics = topics_left p.phase (closing p.phase) p.topics }) (standing_in p)
    one true due = refl
    one false due = refl

standing_stepped : (c : ℕ) (x : Step) (p : Progress) → standing_in (progress_by_step c x p) ≡ standing_after c x (standing_in p)
standing_stepped c (by_note n) p = one (is_of c n)
  where
    one : (b : Bool) → standing_in (cond b (progress_by n p) p) ≡ cond b (standing_by n (standing_in p)) (standing_in p)
    one true = refl
    one false = refl
standing_stepped c (by_order from o) p = standing_obeyed from c o p

-- what shows of a connection's progress to orders, after steps
pub standing_steps : (c : ℕ) (xs : List Step) (p : Progress) → standing_in (progress_by_steps c xs p) ≡ standing_after_all c xs (standing_in p)
standing_steps c [] p = refl
standing_steps c (x ∷ xs) p = standing_steps c xs (progress_by_step c x p) ∙ ap (standing_after_all c xs) (standing_stepped c x p)

pub steps_then : (c : ℕ) (xs ys : List Step) (p : Progress) → progress_by_steps c (xs ++ ys) p ≡ progress_by_steps c ys (progress_by_steps c xs p)
steps_then c [] ys p = refl
steps_then c (x ∷ xs) ys p = steps_then c xs ys (progress_by_step c x p)

may_steps : (c : ℕ) (xs ys : List Step) (p : Progress) → may_all_step c (xs ++ ys) p ≡ (may_all_step c xs p && may_all_step c ys (progress_by_steps c xs p))
may_steps c [] ys p = refl
may_steps c (x ∷ xs) ys p =
    let q = progress_by_step c x p in
    ap (λ (z : Bool). may_step c x p && z) (may_steps c xs ys q) ∙ and-assoc (may_step c x p) (may_all_step c xs q) (may_all_step c ys (progress_by_steps c xs q))

-- notes as steps
pub notes_step : (c : ℕ) (ns : List NoteValue) (p : Progress) → progress_by_steps c (of_notes ns) p ≡ progress_after_all c ns p
notes_step c [] p = refl
notes_step c (n ∷ ns) p = notes_step c ns (progress_after c n p)

notes_may : (c : ℕ) (ns : List NoteValue) (p : Progress) → may_all_step c (of_notes ns) p ≡ may_all_come c ns p
notes_may c [] p = refl
notes_may c (n ∷ ns) p = ap (λ (z : Bool). may_step c (by_note n) p && z) (notes_may c ns (progress_after c n p))

wordless : (texts : ℕ → List ℕ) (c : ℕ) (n : NoteValue) (own : Standing) → is_outgoing n ≡ true → items_by texts c (by_note n) own ≡ []
wordless texts c n own e = by_cases (is_of c n)
    (λ here. ap (λ (z : Bool). cond z (sends (texts c) own.phase n) []) here ∙ silent own.phase n e)
    (λ other. ap (λ (z : Bool). cond z (sends (texts c) own.phase n) []) other)
  where
    silent : (q : Option Phase) (m : NoteValue) → is_outgoing m ≡ true → sends (texts c) q m ≡ []
    silent q (note.took d o t) e = refl
    silent q (note.dropped d i h) e = refl
    silent q (note.gone d left) e = refl
    silent q _ e = clash false refl e

-- notes of what was to be sent append nothing
pub items_outgoing : (texts : ℕ → List ℕ) (c : ℕ) (ns : List NoteValue) (own : Standing) → list_all is_outgoing ns ≡ true → items_of texts c (of_notes ns) own ≡ []
items_outgoing texts c [] own e = refl
items_outgoing texts c (n ∷ ns) own e =
    ap (λ (z : List Item). z ++ items_of texts c (of_notes ns) (standing_after c (by_note n) own)) (wordless texts c n own (and_left (is_outgoing n) (list_all is_outgoing ns) e))
    ∙ items_outgoing texts c ns (standing_after c (by_note n) own) (and_right (is_outgoing n) (list_all is_outgoing ns) e)

-- ---- calls one after another

-- how the connections stand after steps
pub standings_does : (texts : ℕ → List ℕ) (xs : List Step) (a b : Server) → Does texts xs a b → (c : ℕ) → standings_at b.hub c ≡ standings_after xs (standings_at a.hub) c
standings_does texts xs a b x c = ap standing_in (x.progress c) ∙ standing_steps c xs (progress_at a.hub c)

pub does_then : (texts : ℕ → List ℕ) (xs ys : List Step) (a b d : Server) → Does texts xs a b → Does texts ys b d → Does texts (xs ++ ys) a d
does_then texts xs ys a b d x y =
    let same : notes_of xs ++ notes_of ys ≡ notes_of (xs ++ ys) = sym (notes_of-append xs ys) in
    record {
      told = subst (λ (z : List NoteValue). AreNoted a.told z d.told) same (told_then a.told b.told d.told (notes_of xs) (notes_of ys) x.told y.told);
      may_come = λ c. may_steps c xs ys (progress_at a.hub c) ∙ ap (λ (z : Bool). z && may_all_step c ys (progress_by_steps c xs (progress_at a.hub c))) (x.may_come c)
          ∙ ap (λ (z : Progress). may_all_step c ys z) (sym (x.progress c)) ∙ y.may_come c;
      progress = λ c. y.progress c ∙ ap (progress_by_steps c ys) (x.progress c) ∙ sym (steps_then c xs ys (progress_at a.hub c));
      counts = subst (λ (z : List NoteValue). CountsBeside z a.hub d.hub) same (counts_then (notes_of xs) (notes_of ys) a.hub b.hub d.hub x.counts y.counts);
      tells = subst (λ (z : List NoteValue). TellsBy z a.hub d.hub) same (tells_then (notes_of xs) (notes_of ys) a.hub b.hub d.hub x.tells y.tells);
      net = subst (λ (z : List NoteValue). NetAfter z a.net d.net) same (net_then (notes_of xs) (notes_of ys) a.net b.net d.net x.net y.net);
      fails = subst (λ (z : List NoteValue). FailsAfter z a.net d.net) same (fails_then (notes_of xs) (notes_of ys) a.net b.net d.net x.net.net.tells x.fails y.fails);
      appends = appends_as (then_also (appended_by texts xs (standings_at a.hub)) (appended_by texts ys (standings_at b.hub))) (appended_by texts (xs ++ ys) (standings_at a.hub)) a d
          (appends_then (appended_by texts xs (standings_at a.hub)) (appended_by texts ys (standings_at b.hub)) a b d x.appends y.appends)
          (λ c. ap (λ (z : Standing). items_of texts c xs (standings_at a.hub c) ++ items_of texts c ys z) (standings_does texts xs a b x c) ∙ sym (items-append texts c xs ys (standings_at a.hub c)));
    }

pub does_same : (texts : ℕ → List ℕ) (s : Server) → Does texts [] s s
does_same texts s = record { told = told_none s.told; may_come = λ c. refl; progress = λ c. refl; tells = λ e c. refl; counts = λ e. same_counts s.hub; net = net_same s.net; fails = fails_same s.net; appends = appends_same s }

-- a call that makes notes, and appends what they send
pub does_notes : (texts : ℕ → List ℕ) (ns : List NoteValue) (f : ℕ → List Item) (a b : Server) → Advances ns a b → FailsAfter ns a.net b.net → Appends f a b
    → ((c : ℕ) → f c ≡ appended_by texts (of_notes ns) (standings_at a.hub) c) → Does texts (of_notes ns) a b
does_notes texts ns f a b x fails app items = record {
  told = subst (λ (z : List NoteValue). AreNoted a.told z b.told) (sym (notes_of-notes ns)) x.told;
  may_come = λ c. notes_may c ns (progress_at a.hub c) ∙ x.may_come c;
  progress = λ c. x.progress c ∙ sym (notes_step c ns (progress_at a.hub c));
  tells = subst (λ (z : List NoteValue). TellsBy z a.hub b.hub) (sym (notes_of-notes ns)) x.tells;
  counts = subst (λ (z : List NoteValue). CountsBeside z a.hub b.hub) (sym (notes_of-notes ns)) x.counts;
  net = subst (λ (z : List NoteValue). NetAfter z a.net b.net) (sym (notes_of-notes ns)) x.net;
  fails = subst (λ (z : List NoteValue). FailsAfter z a.net b.net) (sym (notes_of-notes ns)) fails;
  appends = appends_as f (appended_by texts (of_notes ns) (standings_at a.hub)) a b app items;
}

-- what a call does whose steps are notes
pub advances_does : (texts : ℕ → List ℕ) (ns : List NoteValue) (a b : Server) → Does texts (of_notes ns) a b → Advances ns a b
advances_does texts ns a b x = record {
  told = subst (λ (z : List NoteValue). AreNoted a.told z b.told) (notes_of-notes ns) x.told;
  may_come = λ c. sym (notes_may c ns (progress_at a.hub c)) ∙ x.may_come c;
  progress = λ c. x.progress c ∙ notes_step c ns (progress_at a.hub c);
  tells = subst (λ (z : List NoteValue). TellsBy z a.hub b.hub) (notes_of-notes ns) x.tells;
  counts = subst (λ (z : List NoteValue). CountsBeside z a.hub b.hub) (notes_of-notes ns) x.counts;
  net = subst (λ (z : List NoteValue). NetAfter z a.net b.net) (notes_of-notes ns) x.net;
}

-- ---- orders

-- what an order appends for each connection
abbrev pub framed : ℕ → OrderValue → (ℕ → Standing) → ℕ → List Item
framed from o standing c = cond (is_for from c o (standing c).topics) (frames_of o) []

-- an order that is served: the tables change as it says, and then its frames are put
pub does_order : (texts : ℕ → List ℕ) (from : ℕ) (o : OrderValue) (f : ℕ → List Item) (a m b : Server) (obeys : Obeys from o a m) (x : Proceeds [] [] m b) → Appends f m b
    → ((c : ℕ) → f c ≡ framed from o (standings_at a.hub) c) → ((c : ℕ) → is_for from c o (standings_at a.hub c).topics ≡ true → is_open (standings_at a.hub c).phase ≡ true)
    → Does texts (by_order from o ∷ of_notes x.sending) a b
does_order texts from o f a m b obeys x app items may =
    let all = append-nil x.sending in
    let adv : Advances x.sending m b = subst (λ (z : List NoteValue). Advances z m b) all x.advances in
    let failed : FailsAfter x.sending m.net b.net = subst (λ (z : List NoteValue). FailsAfter z m.net b.net) all x.fails in
    let notes : notes_of (of_notes x.sending) ≡ x.sending = notes_of-notes x.sending in
    record {
      told = subst (λ (z : List NoteValue). AreNoted a.told z b.told) (sym notes) (subst (λ (z : Option (List NoteValue)). AreNoted z x.sending b.told) obeys.told adv.told);
      may_come = λ c.
          ap (λ (z : Bool). z && may_all_step c (of_notes x.sending) (progress_obeys from c o (progress_at a.hub c))) (allowed c)
          ∙ notes_may c x.sending (progress_obeys from c o (progress_at a.hub c)) ∙ ap (may_all_come c x.sending) (sym (obeys.progress c)) ∙ adv.may_come c;
      progress = λ c. adv.progress c ∙ ap (progress_after_all c x.sending) (obeys.progress c) ∙ sym (notes_step c x.sending (progress_obeys from c o (progress_at a.hub c)));
      counts = subst (λ (z : List NoteValue). CountsBeside z a.hub b.hub) (sym notes) (λ e. same_then a.hub m.hub b.hub obeys.counts (adv.counts e));
      tells = subst (λ (z : List NoteValue). TellsBy z a.hub b.hub) (sym notes) (λ e c. adv.tells e c ∙ ap (tell_by_all c x.sending) (obeys.tells c));
      net = subst (λ (z : List NoteValue). NetAfter z a.net b.net) (sym notes) (subst (λ (z : NetState). NetAfter x.sending z b.net) obeys.net adv.net);
      fails = subst (λ (z : List NoteValue). FailsAfter z a.net b.net) (sym notes) (subst (λ (z : NetState). FailsAfter x.sending z b.net) obeys.net failed);
      appends = appends_as f (appended_by texts (by_order from o ∷ of_notes x.sending) (standings_at a.hub)) a b (appends_after_nothing f a m b obeys.appends app)
          (λ c.
          items c ∙ sym (append-nil (framed from o (standings_at a.hub) c))
          ∙ ap (λ (z : List Item). framed from o (standings_at a.hub) c ++ z) (sym (items_outgoing texts c x.sending (standing_after c (by_order from o) (standings_at a.hub c)) x.outgoing)));
    }
  where
    allowed : (c : ℕ) → may_step c (by_order from o) (progress_at a.hub c) ≡ true
    allowed c = by_cases (is_for from c o (standings_at a.hub c).topics)
        (λ now. ap (λ (z : Bool). cond z (is_open (standings_at a.hub c).phase) true) now ∙ may c now)
        (λ off. ap (λ (z : Bool). cond z (is_open (standings_at a.hub c).phase) true) off)

-- an order whose tables are those of before
pub obeys_same : (from : ℕ) (o : OrderValue) (s : Server) → ((c : ℕ) (p : Progress) → progress_obeys from c o p ≡ p) → Obeys from o s s
obeys_same from o s same = record { progress = λ c. sym (same c (progress_at s.hub c)); tells = λ c. refl; counts = same_counts s.hub; net = refl; told = refl; appends = appends_same s }

-- one more order
pub serves_more : (f : ConfigValue) (admits : List ℕ → Bool) (from i : ℕ) (os : List OrderValue) (o : OrderValue) (a b d : Server) → ServesAll f admits from i os a b
    → Serves f admits from (i + length os) o b d → ServesAll f admits from i (os ++ o ∷ []) a d
serves_more f admits from i os o a b d x y = record {
  steps = x.steps ++ y.steps;
  performs = performs_more f admits from i (standings_at a.hub) os o x.steps y.steps x.performs
      (subst (λ (z : ℕ → Standing). Answers f admits from (i + length os) z o y.steps) (λ k c. standings_does (λ _. []) x.steps a b (x.does (λ _. [])) c k) y.answers);
  does = λ texts. does_then texts x.steps y.steps a b d (x.does texts) (y.does texts);
}

pub serves_none : (f : ConfigValue) (admits : List ℕ → Bool) (from i : ℕ) (s : Server) → ServesAll f admits from i [] s s
serves_none f admits from i s = record { steps = []; performs = refl; does = λ texts. does_same texts s }
