-- The steps of an event's orders beside the notes that they make.
use Rattle.run_meaning.proofs.Below.{◌≡◌, ◌≤◌, ◌<◌, ◌+◌, ℕ, suc, zero, List, [], ◌∷◌, ◌++◌, Option, Some, None, Bool, true, false, cond, ◌&&◌, ◌||◌, nat_eq, take, slice_get, refl, sym, ap, ◌∙◌, subst, append-nil, append_assoc, arith, le_refl, nat_tests, list_all, Why, ConfigValue, NoteValue, OrderValue, send, subscribe, unsubscribe, publish, close, Item, is_gone_in, is_accepted, Server, Line, World, is_open, put, data_frame, obey, serve, perform, is_refused, line_after, Standing, standing_of, standings, is_away, asked, named, may_be_gone, Justified, by_reason, by_memory, by_gone, Step, by_note, by_order, notes_of, of_notes, standings_after, is_for, line_by_all, Answers, Performs, is_outgoing, for_reason, for_memory, serves, refuses, TopicsEnd, Covers, same, by_cases, clash}
use Rattle.ws_kinds.specs.NoteValue as note
use Rattle.run_meaning.proofs.Parts.{gone-append}
use Rattle.run_meaning.proofs.Serving.{is_within}
use Rattle.run_meaning.specs.Bridge.Covers.{more}
use Rattle.run_meaning.proofs.NoteLemmas.{outgoing_within, outgoing_no_name, notes_of-append, notes_of-notes, refused_then, refused_before, named_then, named_none, names_itself, names_now, all_then}
use Rattle.run_meaning.proofs.LineLemmas.{lines_after, lines_after-append, notes_by, line_by_all-append, lines_put, lines_stay, lines_away, lines_gone}
use Rattle.run_meaning.proofs.StepLemmas.{obey_not, obey_does, ends_obeys, ends_steps, shown_steps}
use Rattle.run_meaning.proofs.WhyLemmas.{away_not_open, away_shown, open_where_for, why_asked, needs_asked, may_where_away, some_where_away}

-- ---- one connection

put_twice : (xs ys : List Item) (l : Line) → put ys (put xs l) ≡ put (xs ++ ys) l
put_twice xs ys l = ap (λ (z : List Item). record l { items = z }) (append_assoc l.items xs ys)

covers_put : (l w : Line) (ys : List Item) → is_away l.phase ≡ true → Covers l w → Covers l (put ys w)
covers_put l w ys away (same e) = more ys away (ap (put ys) e)
covers_put l w ys away (more xs gone e) = more (xs ++ ys) away (ap (put ys) e ∙ put_twice xs ys l)

-- an order that is for nobody who is gone does nothing to one who is
not_for_away : (c d : ℕ) (o : OrderValue) (l : Line) → (is_for c d o l.topics ≡ true → is_open l.phase ≡ true) → is_away l.phase ≡ true → is_for c d o l.topics ≡ false
not_for_away c d o l may away = by_cases (is_for c d o l.topics)
    (λ now. clash (is_open l.phase) (away_not_open l.phase away) (may now))
    (λ off. off)

covers_obeyed : (c d : ℕ) (o : OrderValue) (l x : Line) → (is_for c d o l.topics ≡ true → is_open l.phase ≡ true) → Covers l x → Covers (obey c d o l) (obey c d o x)
covers_obeyed c d o l x may (same e) = same (ap (obey c d o) e)
covers_obeyed c d o l x may (more xs away e) =
    let off = not_for_away c d o l may away in
    let still = obey_not c d o l off in
    more xs (ap (λ (z : Line). is_away z.phase) still ∙ away) (ap (obey c d o) e ∙ obey_not c d o (put xs l) off ∙ ap (put xs) (sym still))

pub covers_shows : (l x : Line) → Covers l x → standing_of x ≡ standing_of l
covers_shows l x (same e) = ap standing_of e
covers_shows l x (more xs away e) = ap standing_of e

module _ {S : Type 0} (s : Server S) where
  pub covers_notes : (d : ℕ) (ns : List NoteValue) (l x : Line) → list_all is_within ns ≡ true → Covers l x → Covers (lines_after s d ns l) (lines_after s d ns x)
  covers_notes d ns l x within (same e) = same (ap (lines_after s d ns) e)
  covers_notes d ns l x within (more xs away e) = more xs (lines_away s d ns l within away) (ap (lines_after s d ns) e ∙ lines_put s d ns xs l within)

  -- one that the notes say is gone is so by the steps too
  covers_gone : (d : ℕ) (ms : List NoteValue) (l x : Line) → list_all is_within ms ≡ true → is_gone_in d ms ≡ true → Covers l (lines_after s d ms x) → is_away l.phase ≡ true
  covers_gone d ms l x within gone (same e) = ap (λ (z : Line). is_away z.phase) (sym e) ∙ lines_gone s d ms x within gone
  covers_gone d ms l x within gone (more xs away e) = away

  -- an order that is served after notes, and by the notes before them
  covers_order : (c d : ℕ) (o : OrderValue) (ms : List NoteValue) (l x : Line) → list_all is_within ms ≡ true → (is_for c d o l.topics ≡ true → is_open l.phase ≡ true)
      → Covers l (lines_after s d ms x) → Covers (obey c d o l) (lines_after s d ms (obey c d o x))
  covers_order c d o ms l x within may h = by_cases (is_gone_in d ms)
      (λ gone.
      let away = covers_gone d ms l x within gone h in
      let off = not_for_away c d o l may away in
      subst (λ (z : Line). Covers z (lines_after s d ms (obey c d o x))) (sym (obey_not c d o l off)) (by_cases (is_for c d o x.topics)
      (λ now. late o now off away)
      (λ none. subst (λ (z : Line). Covers l (lines_after s d ms z)) (sym (obey_not c d o x none)) h)))
      (λ stays.
      subst (λ (z : Line). Covers (obey c d o l) z) (sym (lines_stay s d ms (obey c d o x) within stays))
      (covers_obeyed c d o l x may (subst (λ (z : Line). Covers l z) (lines_stay s d ms x within stays) h)))
    where
      late : (p : OrderValue) → is_for c d p x.topics ≡ true → is_for c d p l.topics ≡ false → is_away l.phase ≡ true → Covers l (lines_after s d ms (obey c d p x))
      late (publish topic kind body) now off away =
          subst (λ (z : Line). Covers l z) (sym (ap (lines_after s d ms) (obey_does c d (publish topic kind body) x now) ∙ lines_put s d ms (data_frame kind body ∷ []) x within))
          (covers_put l (lines_after s d ms x) (data_frame kind body ∷ []) away h)
      late (send to kind body) now off away = clash (nat_eq to d) off now
      late (subscribe topic) now off away = clash (nat_eq c d) off now
      late (unsubscribe topic) now off away = clash (nat_eq c d) off now
      late (close code reason) now off away = clash (nat_eq c d) off now

  -- ---- one order

  -- what the answer to one order makes
  pub record Blocked (c i : ℕ) (o : OrderValue) (first : List Step) (lines : ℕ → Line) (ms : List NoteValue) (from : ℕ → Line) : Type 0 where
    pub within : list_all is_within (notes_of first) ≡ true
    pub accepts : (d : ℕ) → is_accepted d (notes_of first) ≡ false
    pub names : (j : ℕ) → is_refused (notes_of first) c j ≡ true → j ≡ i
    pub ends : (d : ℕ) → TopicsEnd (line_by_all s d first (lines d))
    pub covers : (d : ℕ) → Covers (line_by_all s d first (lines d)) (lines_after s d (ms ++ notes_of first) (cond (is_refused (notes_of first) c i) (from d) (obey c d o (from d))))

  pub accepts_within : (d : ℕ) (ns : List NoteValue) → list_all is_within ns ≡ true → is_accepted d ns ≡ false
  accepts_within d [] e = refl
  accepts_within d (note.took c o t ∷ ns) e = accepts_within d ns e
  accepts_within d (note.dropped c i h ∷ ns) e = accepts_within d ns e
  accepts_within d (note.unserved c i y ∷ ns) e = accepts_within d ns e
  accepts_within d (note.gone c left ∷ ns) e = accepts_within d ns e
  accepts_within d (_ ∷ ns) e = clash false refl e

  blocked : (f : ConfigValue) (c i : ℕ) (o : OrderValue) (first : List Step) (lines : ℕ → Line) (ms : List NoteValue) (from : ℕ → Line)
      → Answers f s.admits c i (λ d. standing_of (lines d)) o first → ((d : ℕ) → TopicsEnd (lines d)) → list_all is_within ms ≡ true
      → ((d : ℕ) → Covers (lines d) (lines_after s d ms (from d))) → Blocked c i o first lines ms from
  blocked f c i o first lines ms from (serves sending out none is) ends within covers =
      let notes : notes_of first ≡ sending = ap notes_of is ∙ notes_of-notes sending in
      let sent = outgoing_within sending out in
      let may : (d : ℕ) → is_for c d o (lines d).topics ≡ true → is_open (lines d).phase ≡ true = λ d own. open_where_for f s.admits c lines o d none (ends d) own in
      let line : (d : ℕ) → line_by_all s d first (lines d) ≡ lines_after s d sending (obey c d o (lines d)) =
      λ d. ap (λ (z : List Step). line_by_all s d z (lines d)) is ∙ notes_by s d sending (obey c d o (lines d)) in
      record {
        within = ap (list_all is_within) notes ∙ sent;
        accepts = λ d. ap (is_accepted d) notes ∙ accepts_within d sending sent;
        names = λ j e. clash (is_refused (notes_of first) c j) (ap (λ (z : List NoteValue). is_refused z c j) notes ∙ outgoing_no_name c j sending out) e;
        ends = λ d. subst (λ (z : Line). TopicsEnd z) (sym (line d)) (ends_steps s d sending (obey c d o (lines d)) (ends_obeys c d o (lines d) (may d) (ends d)));
        covers = λ d.
            subst (λ (z : Line). Covers z (lines_after s d (ms ++ notes_of first) (cond (is_refused (notes_of first) c i) (from d) (obey c d o (from d))))) (sym (line d))
            (subst (λ (z : List NoteValue). Covers (lines_after s d sending (obey c d o (lines d))) (lines_after s d (ms ++ z) (cond (is_refused z c i) (from d) (obey c d o (from d))))) (sym notes)
            (subst (λ (z : Bool). Covers (lines_after s d sending (obey c d o (lines d))) (lines_after s d (ms ++ sending) (cond z (from d) (obey c d o (from d))))) (sym (outgoing_no_name c i sending out))
            (subst (λ (z : Line). Covers (lines_after s d sending (obey c d o (lines d))) z) (sym (lines_after-append s d ms sending (obey c d o (from d))))
            (covers_notes d sending (obey c d o (lines d)) (lines_after s d ms (obey c d o (from d))) sent (covers_order c d o ms (lines d) (from d) within (may d) (covers d))))));
      }
  blocked f c i o first lines ms from (refuses reason may is) ends within covers =
      let n = note.unserved c i reason in
      let notes : notes_of first ≡ n ∷ [] = ap notes_of is in
      let line : (d : ℕ) → line_by_all s d first (lines d) ≡ line_after s d n (lines d) = λ d. ap (λ (z : List Step). line_by_all s d z (lines d)) is in
      record {
        within = ap (list_all is_within) notes;
        accepts = λ d. ap (is_accepted d) notes;
        names = λ j e. only_this j (sym (ap (λ (z : List NoteValue). is_refused z c j) notes) ∙ e);
        ends = λ d. subst (λ (z : Line). TopicsEnd z) (sym (line d)) (ends_steps s d (n ∷ []) (lines d) (ends d));
        covers = λ d.
            subst (λ (z : Line). Covers z (lines_after s d (ms ++ notes_of first) (cond (is_refused (notes_of first) c i) (from d) (obey c d o (from d))))) (sym (line d))
            (subst (λ (z : List NoteValue). Covers (line_after s d n (lines d)) (lines_after s d (ms ++ z) (cond (is_refused z c i) (from d) (obey c d o (from d))))) (sym notes)
            (subst (λ (z : Bool). Covers (line_after s d n (lines d)) (lines_after s d (ms ++ n ∷ []) (cond z (from d) (obey c d o (from d))))) (sym (names_now c i reason []))
            (subst (λ (z : Line). Covers (line_after s d n (lines d)) z) (sym (lines_after-append s d ms (n ∷ []) (from d)))
            (covers_notes d (n ∷ []) (lines d) (lines_after s d ms (from d)) refl (covers d)))));
      }
    where
      only_this : (j : ℕ) → is_refused (note.unserved c i reason ∷ []) c j ≡ true → j ≡ i
      only_this j e = number (nat_eq c c) j e
        where
          number : (b : Bool) (j : ℕ) → ((b && nat_eq i j) || false) ≡ true → j ≡ i
          number true j e = grind (arith, nat_tests)
          number false j e = clash false refl e

  -- ---- all orders

  -- The orders from number i on are still to be answered by these steps. So far the notes `ms` came, and the orders that
  -- were served lead from the event's world to this one, the notes aside; by the steps so far the lines are these.
  pub record Underway (f : ConfigValue) (c i : ℕ) (os : List OrderValue) (xs : List Step) (lines : ℕ → Line) (ms : List NoteValue) (w : World S) (u : ℕ → Bool) : Type 0 where
    pub performs : Performs f s.admits c i (λ d. standing_of (lines d)) os xs
    pub ends : (d : ℕ) → TopicsEnd (lines d)
    pub within : list_all is_within ms ≡ true
    pub covers : (d : ℕ) → Covers (lines d) (lines_after s d ms (w.line d))
    pub unserved : (j : ℕ) → i ≤ j → u j ≡ is_refused (notes_of xs) c j
    pub earlier : (j : ℕ) → i ≤ j → is_refused ms c j ≡ false

  -- the orders that these steps name have these numbers
  pub names_from : (f : ConfigValue) (c i : ℕ) (os : List OrderValue) (xs : List Step) (p : ℕ → Standing) → Performs f s.admits c i p os xs → (j : ℕ) → j < i → is_refused (notes_of xs) c j ≡ false
  names_from f c i [] xs p e j lt = ap (λ (z : List Step). is_refused (notes_of z) c j) e
  names_from f c i (o ∷ os) xs p all j lt =
      ap (λ (z : List Step). is_refused (notes_of z) c j) all.2
      ∙ ap (λ (z : List NoteValue). is_refused z c j) (notes_of-append all.0 all.1)
      ∙ refused_then (notes_of all.0) (notes_of all.1) c j (first all.3)
      ∙ names_from f c (i + 1) os all.1 (standings_after all.0 p) all.4 j (omega arith)
    where
      other : (k : ℕ) → k < i → ((nat_eq c c && nat_eq i k) || false) ≡ false
      other k lt = grind (arith, nat_tests)

      first : Answers f s.admits c i p o all.0 → is_refused (notes_of all.0) c j ≡ false
      first (serves sending out none is) = ap (λ (z : List Step). is_refused (notes_of z) c j) is ∙ ap (λ (z : List NoteValue). is_refused z c j) (notes_of-notes sending) ∙ outgoing_no_name c j sending out
      first (refuses reason may is) = ap (λ (z : List Step). is_refused (notes_of z) c j) is ∙ other j lt

  module _ (f : ConfigValue) (c i : ℕ) (o : OrderValue) (os : List OrderValue) (xs : List Step) (lines : ℕ → Line) (ms : List NoteValue) (w : World S) (u : ℕ → Bool) (at : Underway f c i (o ∷ os) xs lines ms w u) where
    abbrev pub first : List Step
    first = at.performs.0

    abbrev pub rest : List Step
    rest = at.performs.1

    abbrev pub next_lines : ℕ → Line
    next_lines d = line_by_all s d first (lines d)

    abbrev pub next_world : World S
    next_world = cond (u i) w (serve c o w)

    pub block : Blocked c i o first lines ms (λ d. w.line d)
    block = blocked f c i o first lines ms (λ d. w.line d) at.performs.3 at.ends at.within at.covers

    notes_both : notes_of xs ≡ notes_of first ++ notes_of rest
    notes_both = ap notes_of at.performs.2 ∙ notes_of-append first rest

    pub this_unserved : u i ≡ is_refused (notes_of first) c i
    this_unserved =
        at.unserved i (le_refl i) ∙ ap (λ (z : List NoteValue). is_refused z c i) notes_both
        ∙ refused_before (notes_of first) (notes_of rest) c i (names_from f c (i + 1) os rest (standings_after first (λ d. standing_of (lines d))) at.performs.4 i (omega arith))

    not_this : (j : ℕ) → i + 1 ≤ j → is_refused (notes_of first) c j ≡ false
    not_this j le = by_cases (is_refused (notes_of first) c j)
        (λ named. absurd (above j i (block.names j named) le))
        (λ free. free)
      where
        above : (j i : ℕ) → j ≡ i → i + 1 ≤ j → ⊥
        above j i e le = omega arith

    world_line : (d : ℕ) → next_world.line d ≡ cond (is_refused (notes_of first) c i) (w.line d) (obey c d o (w.line d))
    world_line d = one (u i) ∙ ap (λ (z : Bool). cond z (w.line d) (obey c d o (w.line d))) this_unserved
      where
        one : (b : Bool) → (cond b w (serve c o w)).line d ≡ cond b (w.line d) (obey c d o (w.line d))
        one true = refl
        one false = refl

    pub underway_next : Underway f c (i + 1) os rest next_lines (ms ++ notes_of first) next_world u
    underway_next = record {
      performs = subst (λ (z : ℕ → Standing). Performs f s.admits c (i + 1) z os rest) (λ k d. sym (shown_steps s d first (lines d) (block.accepts d)) k) at.performs.4;
      ends = block.ends;
      within = all_then is_within ms (notes_of first) at.within block.within;
      covers = λ d. subst (λ (z : Line). Covers (next_lines d) (lines_after s d (ms ++ notes_of first) z)) (sym (world_line d)) (block.covers d);
      unserved = λ j le. at.unserved j (omega arith) ∙ ap (λ (z : List NoteValue). is_refused z c j) notes_both ∙ refused_then (notes_of first) (notes_of rest) c j (not_this j le);
      earlier = λ j le. refused_then ms (notes_of first) c j (at.earlier j (omega arith)) ∙ not_this j le;
    }

    pub whole_notes : ms ++ notes_of xs ≡ (ms ++ notes_of first) ++ notes_of rest
    whole_notes = ap (λ (z : List NoteValue). ms ++ z) notes_both ∙ sym (append_assoc ms (notes_of first) (notes_of rest))

    pub whole_line : (d : ℕ) → line_by_all s d xs (lines d) ≡ line_by_all s d rest (next_lines d)
    whole_line d = ap (λ (z : List Step). line_by_all s d z (lines d)) at.performs.2 ∙ line_by_all-append s d first rest (lines d)

  pub covers_all : (f : ConfigValue) (c i : ℕ) (os : List OrderValue) (xs : List Step) (lines : ℕ → Line) (ms : List NoteValue) (w : World S) (u : ℕ → Bool) → Underway f c i os xs lines ms w u
      → (d : ℕ) → Covers (line_by_all s d xs (lines d)) (lines_after s d (ms ++ notes_of xs) ((perform u c i os w).line d)) × TopicsEnd (line_by_all s d xs (lines d))
  covers_all f c i [] xs lines ms w u at d =
      subst (λ (z : List Step). Covers (line_by_all s d z (lines d)) (lines_after s d (ms ++ notes_of z) (w.line d)) × TopicsEnd (line_by_all s d z (lines d))) (sym at.performs)
      (subst (λ (z : List NoteValue). Covers (lines d) (lines_after s d z (w.line d))) (sym (append-nil ms)) (at.covers d), at.ends d)
  covers_all f c i (o ∷ os) xs lines ms w u at d =
      let end = perform u c (i + 1) os (next_world f c i o os xs lines ms w u at) in
      subst (λ (z : Line). Covers z (lines_after s d (ms ++ notes_of xs) (end.line d)) × TopicsEnd z) (sym (whole_line f c i o os xs lines ms w u at d))
      (subst (λ (z : List NoteValue). Covers (line_by_all s d (rest f c i o os xs lines ms w u at) (next_lines f c i o os xs lines ms w u at d)) (lines_after s d z (end.line d)) × TopicsEnd (line_by_all s d (rest f c i o os xs lines ms w u at) (next_lines f c i o os xs lines ms w u at d)))
      (sym (whole_notes f c i o os xs lines ms w u at))
      (covers_all f c (i + 1) os (rest f c i o os xs lines ms w u at) (next_lines f c i o os xs lines ms w u at) (ms ++ notes_of (first f c i o os xs lines ms w u at)) (next_world f c i o os xs lines ms w u at) u
      (underway_next f c i o os xs lines ms w u at) d))

  -- ---- each order is justified

  module _ (f : ConfigValue) (c i : ℕ) (o : OrderValue) (os : List OrderValue) (xs : List Step) (lines : ℕ → Line) (ms : List NoteValue) (w : World S) (u : ℕ → Bool) (at : Underway f c i (o ∷ os) xs lines ms w u) where
    abbrev shown : ℕ → Standing
    shown d = standing_of (lines d)

    -- one that is not gone stands by the steps as at its place in the notes' world
    same_where_stays : (a : ℕ) → is_gone_in a ms ≡ false → standings w a ≡ shown a
    same_where_stays a stays = covers_shows (lines a) (w.line a) (subst (λ (z : Line). Covers (lines a) z) (lines_stay s a ms (w.line a) at.within stays) (at.covers a))

    away_where_gone : (a : ℕ) → is_gone_in a ms ≡ true → is_away (shown a).phase ≡ true
    away_where_gone a gone = away_shown (lines a).phase ∙ covers_gone a ms (lines a) (w.line a) at.within gone (at.covers a)

    named_is : named c i (ms ++ notes_of xs) ≡ named c i (notes_of at.performs.0 ++ notes_of at.performs.1)
    named_is = named_then ms (notes_of xs) c i (at.earlier i (le_refl i)) ∙ ap (named c i) (ap notes_of at.performs.2 ∙ notes_of-append at.performs.0 at.performs.1)

    rest_free : is_refused (notes_of at.performs.1) c i ≡ false
    rest_free = names_from f c (i + 1) os at.performs.1 (standings_after at.performs.0 (λ d. standing_of (lines d))) at.performs.4 i (omega arith)

    named_served : (sending : List NoteValue) → list_all is_outgoing sending ≡ true → at.performs.0 ≡ by_order c o ∷ of_notes sending → named c i (ms ++ notes_of xs) ≡ None
    named_served sending out is =
        named_is ∙ ap (λ (z : List NoteValue). named c i (z ++ notes_of at.performs.1)) (ap notes_of is ∙ notes_of-notes sending)
        ∙ named_then sending (notes_of at.performs.1) c i (outgoing_no_name c i sending out) ∙ named_none (notes_of at.performs.1) c i rest_free

    named_refused : (reason : Why) → at.performs.0 ≡ by_note (note.unserved c i reason) ∷ [] → named c i (ms ++ notes_of xs) ≡ Some reason
    named_refused reason is = named_is ∙ ap (λ (z : List Step). named c i (notes_of z ++ notes_of at.performs.1)) is ∙ names_itself c i reason (notes_of at.performs.1)

    gone_whole : (a : ℕ) → is_gone_in a ms ≡ true → is_gone_in a (ms ++ notes_of xs) ≡ true
    gone_whole a gone = gone-append a ms (notes_of xs) ∙ ap (λ (z : Bool). z || is_gone_in a (notes_of xs)) gone

    -- where the connection that is asked for, if there is one, stands the same
    by_same : ((a : ℕ) → asked c o ≡ Some a → standings w a ≡ shown a) → Answers f s.admits c i shown o at.performs.0 → Justified s f c i o w (ms ++ notes_of xs)
    by_same alike (serves sending out none is) = by_reason (named_served sending out is ∙ sym (why_asked f s.admits c o (standings w) shown alike ∙ none))
    by_same alike (refuses reason (for_reason why) is) = by_reason (named_refused reason is ∙ sym (why_asked f s.admits c o (standings w) shown alike ∙ why))
    by_same alike (refuses reason (for_memory none needs memory) is) =
        by_memory (named_refused reason is ∙ ap (λ (z : Why). Some z) memory) (why_asked f s.admits c o (standings w) shown alike ∙ none) (needs_asked f s.admits c o (standings w) shown alike ∙ needs)

    -- where it is gone
    by_going : (a : ℕ) → asked c o ≡ Some a → is_gone_in a ms ≡ true → Answers f s.admits c i shown o at.performs.0 → Justified s f c i o w (ms ++ notes_of xs)
    by_going a e gone (serves sending out none is) = some_where_away f s.admits c o a shown e (away_where_gone a gone) none
    by_going a e gone (refuses reason (for_reason why) is) =
        by_gone a e (gone_whole a gone) (ap may_be_gone (named_refused reason is ∙ sym why) ∙ may_where_away f s.admits c o a shown e (away_where_gone a gone))
    by_going a e gone (refuses reason (for_memory none needs memory) is) = some_where_away f s.admits c o a shown e (away_where_gone a gone) none

    by_asked : (q : Option ℕ) → asked c o ≡ q → Justified s f c i o w (ms ++ notes_of xs)
    by_asked None e = by_same (λ a h. absurd (nobody a (sym e ∙ h))) at.performs.3
      where
        nobody : (a : ℕ) → None ≡ Some a → ⊥
        nobody a h = cc
    by_asked (Some a) e = by_cases (is_gone_in a ms)
        (λ gone. by_going a e gone at.performs.3)
        (λ stays. by_same (λ b h. subst (λ (z : ℕ). standings w z ≡ shown z) (the_one a b (sym e ∙ h)) (same_where_stays a stays)) at.performs.3)
      where
        the_one : (a b : ℕ) → Some a ≡ Some b → a ≡ b
        the_one a b h = cc

    pub justified_first : Justified s f c i o w (ms ++ notes_of xs)
    justified_first = by_asked (asked c o) refl

  number_next : (i k : ℕ) → (i + 1) + k ≡ i + suc k
  number_next i k = omega arith

  number_none : (i : ℕ) → i ≡ i + 0
  number_none i = omega arith

  pub justified_all : (f : ConfigValue) (c i : ℕ) (os : List OrderValue) (xs : List Step) (lines : ℕ → Line) (ms : List NoteValue) (w : World S) (u : ℕ → Bool) → Underway f c i os xs lines ms w u
      → (k : ℕ) (o : OrderValue) → slice_get os k ≡ Some o → Justified s f c (i + k) o (perform u c i (take k os) w) (ms ++ notes_of xs)
  justified_all f c i [] xs lines ms w u at k o e = absurd (none k o e)
    where
      none : (k : ℕ) (o : OrderValue) → slice_get [] k ≡ Some o → ⊥
      none k o e = cc
  justified_all f c i (p ∷ os) xs lines ms w u at zero o e =
      let it : p ≡ o = cc in
      subst (λ (z : ℕ). Justified s f c z o w (ms ++ notes_of xs)) (number_none i)
      (subst (λ (z : OrderValue). Justified s f c i z w (ms ++ notes_of xs)) it (justified_first f c i p os xs lines ms w u at))
  justified_all f c i (p ∷ os) xs lines ms w u at (suc k) o e =
      subst (λ (z : ℕ). Justified s f c z o (perform u c (i + 1) (take k os) (next_world f c i p os xs lines ms w u at)) (ms ++ notes_of xs)) (number_next i k)
      (subst (λ (z : List NoteValue). Justified s f c ((i + 1) + k) o (perform u c (i + 1) (take k os) (next_world f c i p os xs lines ms w u at)) z) (sym (whole_notes f c i p os xs lines ms w u at))
      (justified_all f c (i + 1) os (rest f c i p os xs lines ms w u at) (next_lines f c i p os xs lines ms w u at) (ms ++ notes_of (first f c i p os xs lines ms w u at)) (next_world f c i p os xs lines ms w u at) u
      (underway_next f c i p os xs lines ms w u at) k o e))
