-- What notes within the orders of an event make of a line.
use Rattle.run_meaning.proofs.Below.{◌≡◌, ℕ, List, [], ◌∷◌, ◌++◌, Option, Some, None, Bool, true, false, cond, ◌||◌, ◌+◌, refl, sym, ap, ◌∙◌, append-nil, list_all, Phase, Head, Open, Leaving, Ending, Gone, NoteValue, Item, is_of, is_gone, is_gone_in, Server, Line, World, moved, leaves_open, topics_left, cause_of, route_after, param_after, is_frame, appended, after_own, line_after, noted, noted_all, put, obey, leaves_alone, is_away, Step, by_note, by_order, of_notes, line_by_all, by_cases, clash, and_left, and_right, or_right}
use Rattle.ws_kinds.specs.NoteValue as note
use Rattle.run_meaning.proofs.Underway.{left_alone}
use Rattle.run_meaning.proofs.Serving.{is_within, alone_unless_gone}

same_items : (xs ys zs : List Item) → zs ≡ [] → (xs ++ ys) ++ zs ≡ (xs ++ zs) ++ ys
same_items xs ys zs e = ap (λ (z : List Item). (xs ++ ys) ++ z) e ∙ append-nil (xs ++ ys) ∙ ap (λ (z : List Item). z ++ ys) (sym (append-nil xs) ∙ ap (λ (z : List Item). xs ++ z) (sym e))

-- a line after a note of its own, with these items
abbrev with_items : NoteValue → Line → List Item → Line
with_items n l items = record {
  phase = moved l.phase n;
  topics = topics_left l.phase (moved l.phase n) l.topics;
  items = items;
  route = route_after n l.route;
  param = param_after n l.param;
  left_open = cond (leaves_open l.phase (moved l.phase n)) (Some (cause_of n)) l.left_open;
  frames = cond (is_frame n) (l.frames + 1) l.frames;
  last_frame = l.last_frame;
}

away_moves : (p : Option Phase) (n : NoteValue) → is_within n ≡ true → is_away p ≡ true → is_away (moved p n) ≡ true
away_moves None (note.took c o t) w e = refl
away_moves None (note.dropped c i h) w e = refl
away_moves None (note.unserved c i y) w e = refl
away_moves None (note.gone c left) w e = refl
away_moves None _ w e = clash false refl w
away_moves (Some Gone) (note.gone c left) w e = refl
away_moves (Some Gone) _ w e = refl
away_moves (Some Head) n w e = clash false refl e
away_moves (Some Open) n w e = clash false refl e
away_moves (Some Leaving) n w e = clash false refl e
away_moves (Some Ending) n w e = clash false refl e

gone_moves : (p : Option Phase) (d : ℕ) (n : NoteValue) → is_gone d n ≡ true → is_away (moved p n) ≡ true
gone_moves None d (note.gone c left) e = refl
gone_moves (Some Head) d (note.gone c left) e = refl
gone_moves (Some Open) d (note.gone c left) e = refl
gone_moves (Some Leaving) d (note.gone c left) e = refl
gone_moves (Some Ending) d (note.gone c left) e = refl
gone_moves (Some Gone) d (note.gone c left) e = refl
gone_moves p d _ e = clash false refl e

gone_is_own : (d : ℕ) (n : NoteValue) → is_gone d n ≡ true → is_of d n ≡ true
gone_is_own d (note.gone c left) e = e
gone_is_own d _ e = clash false refl e

module _ {S : Type 0} (s : Server S) where
  abbrev pub lines_after : ℕ → List NoteValue → Line → Line
  lines_after d [] l = l
  lines_after d (n ∷ ns) l = lines_after d ns (line_after s d n l)

  pub noted_line : (d : ℕ) (ns : List NoteValue) (w : World S) → (noted_all s ns w).line d ≡ lines_after d ns (w.line d)
  noted_line d [] w = refl
  noted_line d (n ∷ ns) w = noted_line d ns (noted s n w)

  pub lines_after-append : (d : ℕ) (xs ys : List NoteValue) (l : Line) → lines_after d (xs ++ ys) l ≡ lines_after d ys (lines_after d xs l)
  lines_after-append d [] ys l = refl
  lines_after-append d (x ∷ xs) ys l = lines_after-append d xs ys (line_after s d x l)

  pub notes_by : (d : ℕ) (ns : List NoteValue) (l : Line) → line_by_all s d (of_notes ns) l ≡ lines_after d ns l
  notes_by d [] l = refl
  notes_by d (n ∷ ns) l = notes_by d ns (line_after s d n l)

  pub line_by_all-append : (d : ℕ) (xs ys : List Step) (l : Line) → line_by_all s d (xs ++ ys) l ≡ line_by_all s d ys (line_by_all s d xs l)
  line_by_all-append d [] ys l = refl
  line_by_all-append d (by_note n ∷ xs) ys l = line_by_all-append d xs ys (line_after s d n l)
  line_by_all-append d (by_order c o ∷ xs) ys l = line_by_all-append d xs ys (obey c d o l)

  pub own_line : (d : ℕ) (n : NoteValue) (l : Line) → is_of d n ≡ true → line_after s d n l ≡ after_own s n l
  own_line d n l e = ap (λ (z : Bool). cond z (after_own s n l) l) e

  pub other_line : (d : ℕ) (n : NoteValue) (l : Line) → is_of d n ≡ false → line_after s d n l ≡ l
  other_line d n l e = ap (λ (z : Bool). cond z (after_own s n l) l) e

  wordless : (p : Option Phase) (n : NoteValue) → is_within n ≡ true → appended s p n ≡ []
  wordless p (note.took c o t) e = refl
  wordless p (note.dropped c i h) e = refl
  wordless p (note.unserved c i y) e = refl
  wordless p (note.gone c left) e = refl
  wordless p _ e = clash false refl e

  line_put : (d : ℕ) (n : NoteValue) (xs : List Item) (l : Line) → is_within n ≡ true → line_after s d n (put xs l) ≡ put xs (line_after s d n l)
  line_put d n xs l e = by_cases (is_of d n)
      (λ own. own_line d n (put xs l) own ∙ ap (with_items n l) (same_items l.items xs (appended s l.phase n) (wordless l.phase n e)) ∙ ap (put xs) (sym (own_line d n l own)))
      (λ other. other_line d n (put xs l) other ∙ ap (put xs) (sym (other_line d n l other)))

  -- items that were put before are put after
  pub lines_put : (d : ℕ) (ns : List NoteValue) (xs : List Item) (l : Line) → list_all is_within ns ≡ true → lines_after d ns (put xs l) ≡ put xs (lines_after d ns l)
  lines_put d [] xs l e = refl
  lines_put d (n ∷ ns) xs l e =
      ap (lines_after d ns) (line_put d n xs l (and_left (is_within n) (list_all is_within ns) e))
      ∙ lines_put d ns xs (line_after s d n l) (and_right (is_within n) (list_all is_within ns) e)

  -- a connection that is not gone among the notes is left as it was
  pub lines_stay : (d : ℕ) (ns : List NoteValue) (l : Line) → list_all is_within ns ≡ true → is_gone_in d ns ≡ false → lines_after d ns l ≡ l
  lines_stay d [] l e g = refl
  lines_stay d (n ∷ ns) l e g =
      let alone = alone_unless_gone d (n ∷ ns) e g in
      ap (lines_after d ns) (left_alone s d n l (and_left (leaves_alone d n) (list_all (leaves_alone d) ns) alone))
      ∙ lines_stay d ns l (and_right (is_within n) (list_all is_within ns) e) (or_right (is_gone d n) (is_gone_in d ns) g)

  away_line : (d : ℕ) (n : NoteValue) (l : Line) → is_within n ≡ true → is_away l.phase ≡ true → is_away (line_after s d n l).phase ≡ true
  away_line d n l w e = by_cases (is_of d n)
      (λ own. ap (λ (z : Line). is_away z.phase) (own_line d n l own) ∙ away_moves l.phase n w e)
      (λ other. ap (λ (z : Line). is_away z.phase) (other_line d n l other) ∙ e)

  -- one that is gone stays so
  pub lines_away : (d : ℕ) (ns : List NoteValue) (l : Line) → list_all is_within ns ≡ true → is_away l.phase ≡ true → is_away (lines_after d ns l).phase ≡ true
  lines_away d [] l w e = e
  lines_away d (n ∷ ns) l w e =
      lines_away d ns (line_after s d n l) (and_right (is_within n) (list_all is_within ns) w) (away_line d n l (and_left (is_within n) (list_all is_within ns) w) e)

  -- and one that the notes say is gone is so
  pub lines_gone : (d : ℕ) (ns : List NoteValue) (l : Line) → list_all is_within ns ≡ true → is_gone_in d ns ≡ true → is_away (lines_after d ns l).phase ≡ true
  lines_gone d [] l w g = clash false refl g
  lines_gone d (n ∷ ns) l w g =
      let rest = and_right (is_within n) (list_all is_within ns) w in
      by_cases (is_gone d n)
      (λ here. lines_away d ns (line_after s d n l) rest (ap (λ (z : Line). is_away z.phase) (own_line d n l (gone_is_own d n here)) ∙ gone_moves l.phase d n here))
      (λ later. lines_gone d ns (line_after s d n l) rest (sym (ap (λ (z : Bool). z || is_gone_in d ns) later) ∙ g))
