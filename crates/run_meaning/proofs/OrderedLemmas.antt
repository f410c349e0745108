-- After all orders of an event: what the notes say, and what the steps made.
use Rattle.run_meaning.proofs.Below.{◌≡◌, ◌<◌, ◌≤◌, ◌+◌, ℕ, List, [], ◌∷◌, ◌++◌, Some, Bool, true, false, ◌&&◌, ◌||◌, nat_eq, length, take, refl, sym, ap, ◌∙◌, subst, zero-add, arith, nat_tests, list_any, list_all, Why, ConfigValue, NoteValue, EventValue, OrderValue, is_event, is_unserved, Server, Line, World, world, noted, noted_all, perform, is_refused, orders_of, Standing, standing_of, Ordered, Justified, event_at, at_order, Step, notes_of, standings_after, line_by_all, is_outgoing, Answers, Performs, serves, refuses, TopicsEnd, Covers, same, clash, or_left, or_right}
use Rattle.ws_kinds.specs.NoteValue as note
use Rattle.run_meaning.proofs.Parts.{place_of}
use Rattle.run_meaning.proofs.Parts.Placed.{early, late}
use Rattle.run_meaning.proofs.Serving.{is_within}
use Rattle.run_meaning.proofs.Underway.{underway_all, perform-state}
use Rattle.run_meaning.proofs.Ordering.{ordered_event}
use Rattle.run_meaning.proofs.NoteLemmas.{outgoing_within, outgoing_no_order, outgoing_no_name, within_no_event, notes_of-append, notes_of-notes, refused_then, all_then}
use Rattle.run_meaning.proofs.LineLemmas.{noted_line}
use Rattle.run_meaning.proofs.BridgeLemmas.{Underway, covers_all, justified_all}

-- no such place
not_named_in : (ns before rest : List NoteValue) (c j : ℕ) (y : Why) → list_any is_unserved ns ≡ false → ns ≡ before ++ note.unserved c j y ∷ rest → ⊥
not_named_in [] [] rest c j y e h = cc
not_named_in [] (x ∷ before) rest c j y e h = cc
not_named_in (n ∷ ns) [] rest c j y e h =
    let it : n ≡ note.unserved c j y = cc in
    clash false refl (sym (or_left (is_unserved n) (list_any is_unserved ns) e) ∙ ap is_unserved it)
not_named_in (n ∷ ns) (x ∷ before) rest c j y e h =
    let tail : ns ≡ before ++ note.unserved c j y ∷ rest = cc in
    not_named_in ns before rest c j y (or_right (is_unserved n) (list_any is_unserved ns) e) tail

-- the notes that orders make
pub performs_within : (f : ConfigValue) (admits : List ℕ → Bool) (c : ℕ) (os : List OrderValue) (i : ℕ) (ys : List Step) (p : ℕ → Standing) → Performs f admits c i p os ys → list_all is_within (notes_of ys) ≡ true
performs_within f admits c [] i ys p h = ap (λ (z : List Step). list_all is_within (notes_of z)) h
performs_within f admits c (o ∷ os) i ys p h =
    ap (list_all is_within) (ap notes_of h.2 ∙ notes_of-append h.0 h.1)
    ∙ all_then is_within (notes_of h.0) (notes_of h.1) (first h.3) (performs_within f admits c os (i + 1) h.1 (standings_after h.0 p) h.4)
  where
    first : Answers f admits c i p o h.0 → list_all is_within (notes_of h.0) ≡ true
    first (serves ms sends none is) = ap (list_all is_within) (ap notes_of is ∙ notes_of-notes ms) ∙ outgoing_within ms sends
    first (refuses reason may is) = ap (λ (z : List Step). list_all is_within (notes_of z)) is

-- where an order is named: it is one of these, and the first time
pub record Named (c i count : ℕ) (before : List NoteValue) (other j : ℕ) : Type 0 where
  pub conn : c ≡ other
  pub low : i ≤ j
  pub high : j < i + count
  pub once : is_refused before other j ≡ false

module _ {S : Type 0} (s : Server S) where
  pub named_at : (f : ConfigValue) (c i : ℕ) (os : List OrderValue) (xs : List Step) (p : ℕ → Standing) → Performs f s.admits c i p os xs
      → (before rest : List NoteValue) (other j : ℕ) (y : Why) → notes_of xs ≡ before ++ note.unserved other j y ∷ rest → Named c i (length os) before other j
  named_at f c i [] xs p e before rest other j y h = absurd (not_named_in [] before rest other j y refl (sym (ap notes_of e) ∙ h))
  named_at f c i (o ∷ os) xs p all before rest other j y h =
      elim (place_of (notes_of all.0) (notes_of all.1) before rest (note.unserved other j y) (sym (ap notes_of all.2 ∙ notes_of-append all.0 all.1) ∙ h)) [
        | early more q r ↦ here all.3 more q
        | late more q r ↦
            let later = named_at f c (i + 1) os all.1 (standings_after all.0 p) all.4 more rest other j y r in
            record {
              conn = later.conn;
              low = let g = later.low in omega arith;
              high = below later.high;
              once = ap (λ (z : List NoteValue). is_refused z other j) q ∙ refused_then (notes_of all.0) more other j (ap (λ (z : ℕ). is_refused (notes_of all.0) z j) (sym later.conn) ∙ not_first all.3 later.low) ∙ later.once;
            }
      ]
    where
      below : j < (i + 1) + length os → j < i + length (o ∷ os)
      below g = omega arith

      other_number : (k : ℕ) → i + 1 ≤ k → ((nat_eq c c && nat_eq i k) || false) ≡ false
      other_number k le = grind (arith, nat_tests)

      not_first : Answers f s.admits c i p o all.0 → i + 1 ≤ j → is_refused (notes_of all.0) c j ≡ false
      not_first (serves sending out none is) le = ap (λ (z : List Step). is_refused (notes_of z) c j) is ∙ ap (λ (z : List NoteValue). is_refused z c j) (notes_of-notes sending) ∙ outgoing_no_name c j sending out
      not_first (refuses reason may is) le = ap (λ (z : List Step). is_refused (notes_of z) c j) is ∙ other_number j le

      it_alone : (reason : Why) (more : List NoteValue) → note.unserved c i reason ∷ [] ≡ before ++ note.unserved other j y ∷ more → Named c i (length (o ∷ os)) before other j
      it_alone reason more e = alone before e
        where
          alone : (bs : List NoteValue) → note.unserved c i reason ∷ [] ≡ bs ++ note.unserved other j y ∷ more → Named c i (length (o ∷ os)) bs other j
          alone [] e =
              let a : c ≡ other = cc in
              let b : i ≡ j = cc in
              record { conn = a; low = at_least b; high = at_most b; once = refl }
            where
              at_least : i ≡ j → i ≤ j
              at_least b = omega arith

              at_most : i ≡ j → j < i + length (o ∷ os)
              at_most b = omega arith
          alone (b ∷ bs) e = absurd (nothing bs (let z : [] ≡ bs ++ note.unserved other j y ∷ more = cc in z))
            where
              nothing : (bs : List NoteValue) → [] ≡ bs ++ note.unserved other j y ∷ more → ⊥
              nothing [] e = cc
              nothing (b ∷ bs) e = cc

      here : Answers f s.admits c i p o all.0 → (more : List NoteValue) → notes_of all.0 ≡ before ++ note.unserved other j y ∷ more → Named c i (length (o ∷ os)) before other j
      here (serves sending out none is) more e = absurd (not_named_in sending before more other j y (outgoing_no_order sending out) (sym (ap notes_of is ∙ notes_of-notes sending) ∙ e))
      here (refuses reason may is) more e = it_alone reason more (sym (ap notes_of is) ∙ e)

  -- ---- an event, what is sent before its first order, and its orders

  module _ (f : ConfigValue) (before : List NoteValue) (n : NoteValue) (e : EventValue) (sending : List NoteValue) (xs : List Step)
      (at : event_at n (noted s n (world s before)) ≡ Some e) (out : list_all is_outgoing sending ≡ true) (ends : (d : ℕ) → TopicsEnd ((noted_all s sending (noted s n (world s before))).line d))
      (all : Performs f s.admits e.conn 0 (λ d. standing_of ((noted_all s sending (noted s n (world s before))).line d)) (orders_of s e (noted s n (world s before))) xs) where
    abbrev here : World S
    here = noted s n (world s before)

    abbrev sent : World S
    sent = noted_all s sending here

    abbrev made : List NoteValue
    made = sending ++ notes_of xs

    abbrev given : World S
    given = record here { state = s.after here.state e }

    begins : Underway s f e.conn 0 (orders_of s e here) xs (λ d. sent.line d) sending given (is_refused made e.conn)
    begins = record {
      performs = all;
      ends = ends;
      within = outgoing_within sending out;
      covers = λ d. same (sym (noted_line s d sending here));
      unserved = λ j le. refused_then sending (notes_of xs) e.conn j (outgoing_no_name e.conn j sending out);
      earlier = λ j le. outgoing_no_name e.conn j sending out;
    }

    no_event : list_any is_event made ≡ false
    no_event = within_no_event made (all_then is_within sending (notes_of xs) (outgoing_within sending out) (performs_within f s.admits e.conn (orders_of s e here) 0 xs (λ d. standing_of (sent.line d)) all))

    take_whole : (ps : List OrderValue) → take (length ps) ps ≡ ps
    take_whole [] = refl
    take_whole (p ∷ ps) = ap (λ qs. p ∷ qs) (take_whole ps)

    world_is : world s (before ++ n ∷ made) ≡ noted_all s made (perform (is_refused made e.conn) e.conn 0 (orders_of s e here) given)
    world_is = underway_all s before made n e at no_event ∙ ap (λ (ps : List OrderValue). noted_all s made (perform (is_refused made e.conn) e.conn 0 ps given)) (take_whole (orders_of s e here))

    -- each connection: by the steps and by the notes
    pub event_lines : (d : ℕ) → Covers (line_by_all s d xs (sent.line d)) ((world s (before ++ n ∷ made)).line d) × TopicsEnd (line_by_all s d xs (sent.line d))
    event_lines d =
        let both = covers_all s f e.conn 0 (orders_of s e here) xs (λ c. sent.line c) sending given (is_refused made e.conn) begins d in (
          subst (λ (z : Line). Covers (line_by_all s d xs (sent.line d)) z)
              (sym (ap (λ (z : World S). z.line d) world_is ∙ noted_line s d made (perform (is_refused made e.conn) e.conn 0 (orders_of s e here) given))) both.0,
          both.1,
        )

    noted_state : (ns : List NoteValue) (w : World S) → (noted_all s ns w).state ≡ w.state
    noted_state [] w = refl
    noted_state (m ∷ ms) w = noted_state ms (noted s m w)

    -- the handler's state
    pub event_state : (world s (before ++ n ∷ made)).state ≡ s.after (world s before).state e
    event_state =
        ap (λ (z : World S). z.state) world_is ∙ noted_state made (perform (is_refused made e.conn) e.conn 0 (orders_of s e here) given)
        ∙ perform-state (is_refused made e.conn) e.conn 0 (orders_of s e here) given

    -- each order is justified, and no other is named
    pub event_ordered : Ordered s f before → Ordered s f (before ++ n ∷ made)
    event_ordered ordered =
        ordered_event s f before made n e at no_event
        (λ i lt o there. subst (λ (z : ℕ). Justified s f e.conn z o (at_order s e i here made) made) (zero-add i) (justified_all s f e.conn 0 (orders_of s e here) xs (λ d. sent.line d) sending given (is_refused made e.conn) begins i o there))
        (λ front rest c j y split. place front rest c j y split)
        ordered
      where
        place : (front rest : List NoteValue) (c j : ℕ) (y : Why) → made ≡ front ++ note.unserved c j y ∷ rest → (e.conn ≡ c) × (j < length (orders_of s e here)) × (is_refused front c j ≡ false)
        place front rest c j y split =
            elim (place_of sending (notes_of xs) front rest (note.unserved c j y) split) [
              | early more q r ↦ absurd (not_named_in sending front more c j y (outgoing_no_order sending out) q)
              | late more q r ↦
                  let it = named_at f e.conn 0 (orders_of s e here) xs (λ d. standing_of (sent.line d)) all more rest c j y r in
                  (it.conn, low_end it.high, ap (λ (z : List NoteValue). is_refused z c j) q ∙ refused_then sending more c j (outgoing_no_name c j sending out) ∙ it.once)
            ]
          where
            low_end : j < 0 + length (orders_of s e here) → j < length (orders_of s e here)
            low_end g = omega arith
