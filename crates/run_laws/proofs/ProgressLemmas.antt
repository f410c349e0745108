-- What notes make of a line, and of the progress that it tells.
use Rattle.run_laws.proofs.Below.{◌≡◌, ℕ, List, [], ◌∷◌, ◌++◌, Option, Some, None, Bool, true, false, cond, refl, sym, ap, ◌∙◌, subst, append-nil, list_all, list_any, Phase, Head, Open, Leaving, Ending, Gone, NoteValue, Item, is_of, accepted_by, closed_by, closes, has_number, is_accepted, Line, moved, leaves_open, topics_left, cause_of, appended, after_own, line_after, closes-append, is_outgoing, Progress, progress_by, progress_after, progress_after_all, unless_gone, by_cases, clash, or_left, or_right, and_left, and_right, untold, line_progress, is_early, IsToldOnce, TopicsEnd, lines_after, own_line, other_line, all_follow, none_follow, none_moves, moves_shown, ends_left, gone_moves, leaves_shown, is_closed, is_wordless, rest_unaccepted}
use Rattle.ws_kinds.specs.NoteValue as note
use Rattle.run_meaning.specs.Server.{Server}

-- ---- phases

-- a phase before Open's end follows none but such a phase
pub early_before : (p : Option Phase) (n : NoteValue) → moved None n ≡ None → is_early (moved p n) ≡ true → is_early p ≡ true
early_before None n e h = clash false refl (sym (ap is_early e) ∙ h)
early_before (Some Head) n e h = refl
early_before (Some Open) n e h = refl
early_before (Some Leaving) (note.peer_close c code r) e h = h
early_before (Some Leaving) (note.failed c code) e h = h
early_before (Some Leaving) (note.gone c left) e h = h
early_before (Some Leaving) _ e h = h
early_before (Some Ending) (note.gone c left) e h = h
early_before (Some Ending) _ e h = h
early_before (Some Gone) n e h = clash false refl (sym (ap is_early (gone_moves n)) ∙ h)

-- and Open is not left by a note that leads to one
early_stays : (p : Option Phase) (n : NoteValue) → is_early (moved p n) ≡ true → leaves_open p (moved p n) ≡ false
early_stays None n h = refl
early_stays (Some Head) n h = refl
early_stays (Some Open) (note.peer_close c code r) h = clash false refl h
early_stays (Some Open) (note.failed c code) h = clash false refl h
early_stays (Some Open) (note.gone c left) h = clash false refl h
early_stays (Some Open) _ h = refl
early_stays (Some Leaving) n h = refl
early_stays (Some Ending) n h = refl
early_stays (Some Gone) n h = refl

pub leaves_early : (p : Option Phase) (q : Option Phase) → leaves_open p q ≡ true → is_early p ≡ true
leaves_early None q h = clash false refl h
leaves_early (Some Head) q h = refl
leaves_early (Some Open) q h = refl
leaves_early (Some Leaving) q h = clash false refl h
leaves_early (Some Ending) q h = clash false refl h
leaves_early (Some Gone) q h = clash false refl h

-- ---- what is due

pub due_shown : (b : Bool) (x : ℕ × List ℕ) (left : Option (ℕ × List ℕ)) (told : List (ℕ × List ℕ)) → (b ≡ true → told ≡ []) → cond b (Some x) (untold left told) ≡ untold (cond b (Some x) left) told
due_shown true x left [] h = refl
due_shown true x left (t ∷ ts) h = absurd (let z : t ∷ ts ≡ [] = h refl in cc)
due_shown false x left told h = refl

abbrev progress_of : Option Phase → List (List ℕ) → Option (ℕ × List ℕ) → Progress
progress_of p ts x = record { phase = p; topics = ts; due = x }

pub progress_is : (p q : Option Phase) (ts us : List (List ℕ)) (x y : Option (ℕ × List ℕ)) → p ≡ q → ts ≡ us → x ≡ y → progress_of p ts x ≡ progress_of q us y
progress_is p q ts us x y e g h = ap (λ (z : Option Phase). progress_of z ts x) e ∙ ap (λ (z : List (List ℕ)). progress_of q z x) g ∙ ap (progress_of q us) h

-- ---- what the handler was told of a connection's end

-- nothing before it left Open, and then once; and only while it is open it has topics
pub record Ends (line : Line) (told : List (ℕ × List ℕ)) : Type 0 where
  pub early : is_early line.phase ≡ true → line.left_open ≡ None
  pub once : IsToldOnce line.left_open told
  pub topics : TopicsEnd line

pub told_none : (left : Option (ℕ × List ℕ)) (told : List (ℕ × List ℕ)) → IsToldOnce left told → left ≡ None → told ≡ []
told_none left [] once e = refl
told_none left (x ∷ []) once e = absurd (let z : None ≡ Some x = sym e ∙ once in cc)
told_none left (x ∷ y ∷ told) once e = absurd once

pub once_more : (b : Bool) (x : ℕ × List ℕ) (left : Option (ℕ × List ℕ)) (told : List (ℕ × List ℕ)) → (b ≡ true → told ≡ []) → IsToldOnce left told → IsToldOnce (cond b (Some x) left) told
once_more true x left told h once = subst (λ (z : List (ℕ × List ℕ)). IsToldOnce (Some x) z) (sym (h refl)) (tt {0})
once_more false x left told h once = once

-- ---- notes that are told of nobody's acceptance, or of nobody's end

one_unclosed : (c : ℕ) (n : NoteValue) → is_closed n ≡ false → closed_by c n ≡ []
one_unclosed c (note.closed d code r) e = clash true e refl
one_unclosed c _ e = refl

pub unclosed : (ns : List NoteValue) (c : ℕ) → list_any is_closed ns ≡ false → closes c ns ≡ []
unclosed [] c e = refl
unclosed (n ∷ ns) c e =
    ap (λ (z : List (ℕ × List ℕ)). z ++ closes c ns) (one_unclosed c n (or_left (is_closed n) (list_any is_closed ns) e))
    ∙ unclosed ns c (or_right (is_closed n) (list_any is_closed ns) e)

pub outgoing_unclosed : (ns : List NoteValue) → list_all is_outgoing ns ≡ true → list_any is_closed ns ≡ false
outgoing_unclosed ns e = none_follow is_outgoing is_closed one ns e
  where
    one : (n : NoteValue) → is_outgoing n ≡ true → is_closed n ≡ false
    one (note.closed d code r) e = clash false refl e
    one _ e = refl

-- notes that end nothing leave what the handler was told of ends
pub closes_same : (c : ℕ) (ns ms : List NoteValue) → closes c ms ≡ [] → closes c (ns ++ ms) ≡ closes c ns
closes_same c ns ms e = closes-append c ns ms ∙ ap (λ (z : List (ℕ × List ℕ)). closes c ns ++ z) e ∙ append-nil (closes c ns)

-- ---- lines

abbrev phase_of : Line → Option Phase
phase_of l = l.phase

abbrev items_of : Line → List Item
items_of l = l.items

module _ {S : Type 0} (r : Server S) where
  -- ---- progress

  pub none_before : (l : Line) (told : List (ℕ × List ℕ)) (next : Option Phase) → Ends l told → leaves_open l.phase next ≡ true → told ≡ []
  none_before l told next ends t = told_none l.left_open told ends.once (ends.early (leaves_early l.phase next t))

  own_progress : (n : NoteValue) (l : Line) (told : List (ℕ × List ℕ)) → moved None n ≡ None → Ends l told → progress_by n (line_progress l told) ≡ line_progress (after_own r n l) told
  own_progress n l told e ends =
      let p = l.phase in
      let leaves = leaves_open (unless_gone p) (moved (unless_gone p) n) in
      let same = leaves_shown p n in
      let none : leaves ≡ true → told ≡ [] = λ t. none_before l told (moved p n) ends (sym same ∙ t) in
      progress_is (unless_gone (moved (unless_gone p) n)) (unless_gone (moved p n)) (topics_left (unless_gone p) (moved (unless_gone p) n) l.topics) (topics_left p (moved p n) l.topics) (cond leaves (Some (cause_of n)) (untold l.left_open told)) (untold (cond (leaves_open p (moved p n)) (Some (cause_of n)) l.left_open) told)
      (moves_shown p n e) (ap (λ (z : Bool). cond z [] l.topics) same)
      (due_shown leaves (cause_of n) l.left_open told none ∙ ap (λ (z : Bool). untold (cond z (Some (cause_of n)) l.left_open) told) same)

  own_ends : (n : NoteValue) (l : Line) (told : List (ℕ × List ℕ)) → moved None n ≡ None → Ends l told → Ends (after_own r n l) told
  own_ends n l told e ends = record {
    early = λ h. ap (λ (z : Bool). cond z (Some (cause_of n)) l.left_open) (early_stays l.phase n h) ∙ ends.early (early_before l.phase n e h);
    once = once_more (leaves_open l.phase (moved l.phase n)) (cause_of n) l.left_open told (none_before l told (moved l.phase n) ends) ends.once;
    topics = λ away. ends_left l.phase (moved l.phase n) l.topics ends.topics away;
  }

  pub one_progress : (c : ℕ) (n : NoteValue) (l : Line) (told : List (ℕ × List ℕ)) → has_number c (accepted_by n) ≡ false → Ends l told
      → (progress_after c n (line_progress l told) ≡ line_progress (line_after r c n l) told) × Ends (line_after r c n l) told
  one_progress c n l told e ends = by_cases (is_of c n)
      (λ own.
      let still = none_moves c n e own in (
        ap (λ (z : Bool). cond z (progress_by n (line_progress l told)) (line_progress l told)) own ∙ own_progress n l told still ends
            ∙ ap (λ (z : Line). line_progress z told) (sym (own_line r c n l own)),
        subst (λ (z : Line). Ends z told) (sym (own_line r c n l own)) (own_ends n l told still ends),
      ))
      (λ other. (
        ap (λ (z : Bool). cond z (progress_by n (line_progress l told)) (line_progress l told)) other
            ∙ ap (λ (z : Line). line_progress z told) (sym (other_line r c n l other)),
        subst (λ (z : Line). Ends z told) (sym (other_line r c n l other)) ends,
      ))

  -- what notes make of the progress is told by what they make of the line
  pub all_progress : (c : ℕ) (ns : List NoteValue) (l : Line) (told : List (ℕ × List ℕ)) → is_accepted c ns ≡ false → Ends l told
      → (progress_after_all c ns (line_progress l told) ≡ line_progress (lines_after r c ns l) told) × Ends (lines_after r c ns l) told
  all_progress c [] l told e ends = (refl, ends)
  all_progress c (n ∷ ns) l told e ends =
      let u = rest_unaccepted c n ns e in
      let one = one_progress c n l told u.0 ends in
      let all = all_progress c ns (line_after r c n l) told u.1 one.1 in
      (ap (λ (z : Progress). progress_after_all c ns z) one.0 ∙ all.0, all.1)

  -- who was not accepted before is not accepted by them
  pub all_none : (c : ℕ) (ns : List NoteValue) (l : Line) → is_accepted c ns ≡ false → l.phase ≡ None → (lines_after r c ns l).phase ≡ None
  all_none c [] l e away = away
  all_none c (n ∷ ns) l e away =
      let u = rest_unaccepted c n ns e in
      all_none c ns (line_after r c n l) u.1 (by_cases (is_of c n)
      (λ own. ap phase_of (own_line r c n l own) ∙ ap (λ (z : Option Phase). moved z n) away ∙ none_moves c n u.0 own)
      (λ other. ap phase_of (other_line r c n l other) ∙ away))

  -- ---- items

  pub one_wordless : (p : Option Phase) (n : NoteValue) → is_wordless n ≡ true → appended r p n ≡ []
  one_wordless p (note.opened c route param) e = clash false refl e
  one_wordless p (note.head c status) e = clash false refl e
  one_wordless p (note.ping_got c body) e = clash false refl e
  one_wordless p (note.pinged c) e = clash false refl e
  one_wordless p (note.peer_close c code reason) e = clash false refl e
  one_wordless p (note.failed c code) e = clash false refl e
  one_wordless p _ e = refl

  pub wordless_line : (c : ℕ) (n : NoteValue) (l : Line) → is_wordless n ≡ true → (line_after r c n l).items ≡ l.items
  wordless_line c n l e = by_cases (is_of c n)
      (λ own. ap items_of (own_line r c n l own) ∙ ap (λ (z : List Item). l.items ++ z) (one_wordless l.phase n e) ∙ append-nil l.items)
      (λ other. ap items_of (other_line r c n l other))

  pub wordless_lines : (c : ℕ) (ns : List NoteValue) (l : Line) → list_all is_wordless ns ≡ true → (lines_after r c ns l).items ≡ l.items
  wordless_lines c [] l e = refl
  wordless_lines c (n ∷ ns) l e =
      wordless_lines c ns (line_after r c n l) (and_right (is_wordless n) (list_all is_wordless ns) e)
      ∙ wordless_line c n l (and_left (is_wordless n) (list_all is_wordless ns) e)

-- notes of octets that were to be sent send nothing further
pub outgoing_wordless : (ns : List NoteValue) → list_all is_outgoing ns ≡ true → list_all is_wordless ns ≡ true
outgoing_wordless ns e = all_follow is_outgoing is_wordless one ns e
  where
    one : (n : NoteValue) → is_outgoing n ≡ true → is_wordless n ≡ true
    one (note.opened c route param) e = e
    one (note.head c status) e = e
    one (note.ping_got c body) e = e
    one (note.pinged c) e = e
    one (note.peer_close c code reason) e = e
    one (note.failed c code) e = e
    one _ e = refl
