-- What steps make of a line, of what shows of it to orders, and of its items.
use Rattle.run_meaning.proofs.Below.{◌≡◌, ◌+◌, suc, length, ℕ, List, [], ◌∷◌, ◌++◌, Option, Some, None, Bool, true, false, cond, not, ◌&&◌, nat_eq, refl, sym, ap, ◌∙◌, subst, append-nil, append_assoc, arith, nat_tests, Phase, Head, Open, Leaving, Ending, Gone, NoteValue, OrderValue, send, subscribe, unsubscribe, publish, close, Item, is_of, has_number, accepted_by, is_accepted, Server, Line, moved, closing, leaves_open, topics_left, is_open, has_topic, with_topic, without_topic, sends, appended, line_after, put, data_frame, closed_by_server, obey, Standing, unless_gone, standing_of, Step, by_note, by_order, notes_of, standing_by, standing_obeys, standing_after, standing_after_all, standings_after, is_for, frames_of, items_by, items_of, line_by, line_by_all, ConfigValue, Answers, Performs, TopicsEnd, by_cases, clash, or_left, or_right, same_number}
use Rattle.ws_kinds.specs.NoteValue as note
use Rattle.run_meaning.proofs.Parts.{accepted-append}
use Rattle.run_meaning.proofs.LineLemmas.{own_line, other_line, lines_after}

-- ---- phases as they show

pub none_moves : (c : ℕ) (n : NoteValue) → has_number c (accepted_by n) ≡ false → is_of c n ≡ true → moved None n ≡ None
none_moves c (note.accepted d) e own = absurd (grind (arith, nat_tests))
none_moves c _ e own = refl

pub away_moves : (n : NoteValue) → moved (Some Gone) n ≡ Some Gone
away_moves (note.gone d left) = refl
away_moves _ = refl

-- what shows of a phase moves as the phase does
pub moves_shown : (p : Option Phase) (n : NoteValue) → moved None n ≡ None → unless_gone (moved (unless_gone p) n) ≡ unless_gone (moved p n)
moves_shown None n e = refl
moves_shown (Some Head) n e = refl
moves_shown (Some Open) n e = refl
moves_shown (Some Leaving) n e = refl
moves_shown (Some Ending) n e = refl
moves_shown (Some Gone) n e = ap unless_gone e ∙ sym (ap unless_gone (away_moves n))

pub leaves_shown : (p : Option Phase) (n : NoteValue) → leaves_open (unless_gone p) (moved (unless_gone p) n) ≡ leaves_open p (moved p n)
leaves_shown None n = refl
leaves_shown (Some Head) n = refl
leaves_shown (Some Open) n = refl
leaves_shown (Some Leaving) n = refl
leaves_shown (Some Ending) n = refl
leaves_shown (Some Gone) n = refl

pub open_shown : (p : Option Phase) → is_open (unless_gone p) ≡ is_open p
open_shown None = refl
open_shown (Some Head) = refl
open_shown (Some Open) = refl
open_shown (Some Leaving) = refl
open_shown (Some Ending) = refl
open_shown (Some Gone) = refl

abbrev standing : Option Phase → List (List ℕ) → Standing
standing p ts = record { phase = p; topics = ts }

standing_is : (p q : Option Phase) (ts us : List (List ℕ)) → p ≡ q → ts ≡ us → standing p ts ≡ standing q us
standing_is p q ts us e h = ap (λ (z : Option Phase). standing z ts) e ∙ ap (standing q) h

-- ---- one step

shown_close : (p : Option Phase) (ts : List (List ℕ)) → standing (unless_gone (closing p)) (topics_left p (closing p) ts) ≡ standing (closing (unless_gone p)) (topics_left (unless_gone p) (closing (unless_gone p)) ts)
shown_close None ts = refl
shown_close (Some Head) ts = refl
shown_close (Some Open) ts = refl
shown_close (Some Leaving) ts = refl
shown_close (Some Ending) ts = refl
shown_close (Some Gone) ts = refl

-- an order by the test whether it is for the connection
abbrev pub act : OrderValue → Line → Line
act (send to kind body) l = put (data_frame kind body ∷ []) l
act (subscribe topic) l = record l { topics = with_topic topic l.topics }
act (unsubscribe topic) l = record l { topics = without_topic topic l.topics }
act (publish topic kind body) l = put (data_frame kind body ∷ []) l
act (close code reason) l = closed_by_server code reason l

pub obey_acts : (c d : ℕ) (o : OrderValue) (l : Line) → obey c d o l ≡ cond (is_for c d o l.topics) (act o l) l
obey_acts c d (send to kind body) l = refl
obey_acts c d (subscribe topic) l = refl
obey_acts c d (unsubscribe topic) l = refl
obey_acts c d (publish topic kind body) l = refl
obey_acts c d (close code reason) l = refl

pub obey_not : (c d : ℕ) (o : OrderValue) (l : Line) → is_for c d o l.topics ≡ false → obey c d o l ≡ l
obey_not c d o l e = obey_acts c d o l ∙ ap (λ (z : Bool). cond z (act o l) l) e

pub obey_does : (c d : ℕ) (o : OrderValue) (l : Line) → is_for c d o l.topics ≡ true → obey c d o l ≡ act o l
obey_does c d o l e = obey_acts c d o l ∙ ap (λ (z : Bool). cond z (act o l) l) e

pub shown_obeys : (c d : ℕ) (o : OrderValue) (l : Line) → standing_of (obey c d o l) ≡ standing_obeys c d o (standing_of l)
shown_obeys c d (send to kind body) l = one (nat_eq to d)
  where
    one : (b : Bool) → standing_of (cond b (put (data_frame kind body ∷ []) l) l) ≡ standing_of l
    one true = refl
    one false = refl
shown_obeys c d (subscribe topic) l = one (nat_eq c d)
  where
    one : (b : Bool) → standing_of (cond b (record l { topics = with_topic topic l.topics }) l) ≡ cond b (standing (unless_gone l.phase) (with_topic topic l.topics)) (standing_of l)
    one true = refl
    one false = refl
shown_obeys c d (unsubscribe topic) l = one (nat_eq c d)
  where
    one : (b : Bool) → standing_of (cond b (record l { topics = without_topic topic l.topics }) l) ≡ cond b (standing (unless_gone l.phase) (without_topic topic l.topics)) (standing_of l)
    one true = refl
    one false = refl
shown_obeys c d (publish topic kind body) l = one (not (nat_eq c d) && has_topic topic l.topics)
  where
    one : (b : Bool) → standing_of (cond b (put (data_frame kind body ∷ []) l) l) ≡ standing_of l
    one true = refl
    one false = refl
shown_obeys c d (close code reason) l = one (nat_eq c d)
  where
    one : (b : Bool) → standing_of (cond b (closed_by_server code reason l) l) ≡ cond b (standing (closing (unless_gone l.phase)) (topics_left (unless_gone l.phase) (closing (unless_gone l.phase)) l.topics)) (standing_of l)
    one true = shown_close l.phase l.topics
    one false = refl

-- what a step leaves no topics of: one that is not open
pub ends_left : (p q : Option Phase) (ts : List (List ℕ)) → (is_open p ≡ false → ts ≡ []) → is_open q ≡ false → topics_left p q ts ≡ []
ends_left p q ts ends away = by_cases (is_open p)
    (λ now. ap (λ (z : Bool). cond (z && not (is_open q)) [] ts) now ∙ ap (λ (z : Bool). cond (not z) [] ts) away)
    (λ not_now. ap (λ (z : Bool). cond (z && not (is_open q)) [] ts) not_now ∙ ends not_now)

ends_acts : (o : OrderValue) (l : Line) → is_open l.phase ≡ true → TopicsEnd (act o l)
ends_acts (send to kind body) l now e = clash (is_open l.phase) e now
ends_acts (subscribe topic) l now e = clash (is_open l.phase) e now
ends_acts (unsubscribe topic) l now e = clash (is_open l.phase) e now
ends_acts (publish topic kind body) l now e = clash (is_open l.phase) e now
ends_acts (close code reason) l now e = ends_left l.phase (closing l.phase) l.topics (λ off. clash (is_open l.phase) off now) e

pub ends_obeys : (c d : ℕ) (o : OrderValue) (l : Line) → (is_for c d o l.topics ≡ true → is_open l.phase ≡ true) → TopicsEnd l → TopicsEnd (obey c d o l)
ends_obeys c d o l may ends = by_cases (is_for c d o l.topics)
    (λ now. subst (λ (z : Line). TopicsEnd z) (sym (obey_does c d o l now)) (ends_acts o l (may now)))
    (λ off. subst (λ (z : Line). TopicsEnd z) (sym (obey_not c d o l off)) ends)

reply_shown : (text other : List ℕ) (p : Option Phase) (c route : ℕ) (param : List ℕ) → text ≡ other → sends text p (note.opened c route param) ≡ sends other (unless_gone p) (note.opened c route param)
reply_shown text other p c route param e = ap (λ (z : List ℕ). sends z p (note.opened c route param)) e

abbrev is_opening : NoteValue → Bool
is_opening (note.opened c route param) = true
is_opening _ = false

closed_shown : (text : List ℕ) (p : Option Phase) (c code : ℕ) (reason : List ℕ) → sends [] p (note.peer_close c code reason) ≡ sends text (unless_gone p) (note.peer_close c code reason)
closed_shown text None c code reason = refl
closed_shown text (Some Head) c code reason = refl
closed_shown text (Some Open) c code reason = refl
closed_shown text (Some Leaving) c code reason = refl
closed_shown text (Some Ending) c code reason = refl
closed_shown text (Some Gone) c code reason = refl

failed_shown : (text : List ℕ) (p : Option Phase) (c code : ℕ) → sends [] p (note.failed c code) ≡ sends text (unless_gone p) (note.failed c code)
failed_shown text None c code = refl
failed_shown text (Some Head) c code = refl
failed_shown text (Some Open) c code = refl
failed_shown text (Some Leaving) c code = refl
failed_shown text (Some Ending) c code = refl
failed_shown text (Some Gone) c code = refl

-- only the note of an opening sends the text
sends_shown : (text : List ℕ) (p : Option Phase) (n : NoteValue) → is_opening n ≡ false → sends [] p n ≡ sends text (unless_gone p) n
sends_shown text p (note.opened c route param) e = clash true e refl
sends_shown text p (note.head c status) e = refl
sends_shown text p (note.ping_got c body) e = refl
sends_shown text p (note.pinged c) e = refl
sends_shown text p (note.peer_close c code reason) e = closed_shown text p c code reason
sends_shown text p (note.failed c code) e = failed_shown text p c code
sends_shown text p _ e = refl

module _ {S : Type 0} (s : Server S) where
  appended_shown : (d : ℕ) (p : Option Phase) (n : NoteValue) → is_of d n ≡ true → appended s p n ≡ sends (s.reply d) (unless_gone p) n
  appended_shown d p (note.opened c route param) own = reply_shown (s.reply c) (s.reply d) p c route param (ap s.reply (same_number c d own))
  appended_shown d p n own = sends_shown (s.reply d) p n refl

  pub shown_noted : (d : ℕ) (n : NoteValue) (l : Line) → has_number d (accepted_by n) ≡ false → standing_of (line_after s d n l) ≡ standing_after d (by_note n) (standing_of l)
  shown_noted d n l e = by_cases (is_of d n)
      (λ own.
      ap standing_of (own_line s d n l own)
      ∙ standing_is (unless_gone (moved l.phase n)) (unless_gone (moved (unless_gone l.phase) n)) (topics_left l.phase (moved l.phase n) l.topics) (topics_left (unless_gone l.phase) (moved (unless_gone l.phase) n) l.topics)
      (sym (moves_shown l.phase n (none_moves d n e own))) (ap (λ (z : Bool). cond z [] l.topics) (sym (leaves_shown l.phase n)))
      ∙ ap (λ (z : Bool). cond z (standing_by n (standing_of l)) (standing_of l)) (sym own))
      (λ other. ap standing_of (other_line s d n l other) ∙ ap (λ (z : Bool). cond z (standing_by n (standing_of l)) (standing_of l)) (sym other))

  pub ends_noted : (d : ℕ) (n : NoteValue) (l : Line) → TopicsEnd l → TopicsEnd (line_after s d n l)
  ends_noted d n l ends = by_cases (is_of d n)
      (λ own. subst (λ (z : Line). TopicsEnd z) (sym (own_line s d n l own)) (λ away. ends_left l.phase (moved l.phase n) l.topics ends away))
      (λ other. subst (λ (z : Line). TopicsEnd z) (sym (other_line s d n l other)) ends)

  pub shown_step : (d : ℕ) (x : Step) (l : Line) → is_accepted d (notes_of (x ∷ [])) ≡ false → standing_of (line_by s d x l) ≡ standing_after d x (standing_of l)
  shown_step d (by_note n) l e = shown_noted d n l (ap (has_number d) (sym (append-nil (accepted_by n))) ∙ e)
  shown_step d (by_order c o) l e = shown_obeys c d o l

  notes_first : (x : Step) (xs : List Step) → notes_of (x ∷ xs) ≡ notes_of (x ∷ []) ++ notes_of xs
  notes_first (by_note n) xs = refl
  notes_first (by_order c o) xs = refl

  pub accepts_none : (d : ℕ) (x : Step) (xs : List Step) → is_accepted d (notes_of (x ∷ xs)) ≡ false → (is_accepted d (notes_of (x ∷ [])) ≡ false) × (is_accepted d (notes_of xs) ≡ false)
  accepts_none d x xs e =
      let both = sym (ap (is_accepted d) (notes_first x xs) ∙ accepted-append d (notes_of (x ∷ [])) (notes_of xs)) ∙ e in
      (or_left (is_accepted d (notes_of (x ∷ []))) (is_accepted d (notes_of xs)) both, or_right (is_accepted d (notes_of (x ∷ []))) (is_accepted d (notes_of xs)) both)

  -- what shows of a line after steps
  pub shown_steps : (d : ℕ) (xs : List Step) (l : Line) → is_accepted d (notes_of xs) ≡ false → standing_of (line_by_all s d xs l) ≡ standing_after_all d xs (standing_of l)
  shown_steps d [] l e = refl
  shown_steps d (x ∷ xs) l e =
      let u = accepts_none d x xs e in
      shown_steps d xs (line_by s d x l) u.1 ∙ ap (standing_after_all d xs) (shown_step d x l u.0)

  -- ---- items

  items_acts : (o : OrderValue) (l : Line) → (act o l).items ≡ l.items ++ frames_of o
  items_acts (send to kind body) l = refl
  items_acts (subscribe topic) l = sym (append-nil l.items)
  items_acts (unsubscribe topic) l = sym (append-nil l.items)
  items_acts (publish topic kind body) l = refl
  items_acts (close code reason) l = refl

  items_step : (d : ℕ) (x : Step) (l : Line) → (line_by s d x l).items ≡ l.items ++ items_by s.reply d x (standing_of l)
  items_step d (by_note n) l = by_cases (is_of d n)
      (λ own.
      ap (λ (z : Line). z.items) (own_line s d n l own)
      ∙ ap (λ (z : List Item). l.items ++ z) (appended_shown d l.phase n own ∙ ap (λ (z : Bool). cond z (sends (s.reply d) (unless_gone l.phase) n) []) (sym own)))
      (λ other.
      ap (λ (z : Line). z.items) (other_line s d n l other) ∙ sym (append-nil l.items)
      ∙ ap (λ (z : Bool). l.items ++ cond z (sends (s.reply d) (unless_gone l.phase) n) []) (sym other))
  items_step d (by_order c o) l = by_cases (is_for c d o l.topics)
      (λ now. ap (λ (z : Line). z.items) (obey_does c d o l now) ∙ items_acts o l ∙ ap (λ (z : Bool). l.items ++ cond z (frames_of o) []) (sym now))
      (λ off. ap (λ (z : Line). z.items) (obey_not c d o l off) ∙ sym (append-nil l.items) ∙ ap (λ (z : Bool). l.items ++ cond z (frames_of o) []) (sym off))

  -- the items of a line after steps
  pub items_steps : (d : ℕ) (xs : List Step) (l : Line) → is_accepted d (notes_of xs) ≡ false → (line_by_all s d xs l).items ≡ l.items ++ items_of s.reply d xs (standing_of l)
  items_steps d [] l e = sym (append-nil l.items)
  items_steps d (x ∷ xs) l e =
      let u = accepts_none d x xs e in
      items_steps d xs (line_by s d x l) u.1
      ∙ ap (λ (z : List Item). z ++ items_of s.reply d xs (standing_of (line_by s d x l))) (items_step d x l)
      ∙ append_assoc l.items (items_by s.reply d x (standing_of l)) (items_of s.reply d xs (standing_of (line_by s d x l)))
      ∙ ap (λ (z : Standing). l.items ++ (items_by s.reply d x (standing_of l) ++ items_of s.reply d xs z)) (shown_step d x l u.0)

  -- only one that is open has topics, if steps are for those that are open
  pub ends_steps : (d : ℕ) (ns : List NoteValue) (l : Line) → TopicsEnd l → TopicsEnd (lines_after s d ns l)
  ends_steps d [] l ends = ends
  ends_steps d (n ∷ ns) l ends = ends_steps d ns (line_after s d n l) (ends_noted d n l ends)

-- ---- steps one after another

pub standing-append : (d : ℕ) (xs ys : List Step) (p : Standing) → standing_after_all d (xs ++ ys) p ≡ standing_after_all d ys (standing_after_all d xs p)
standing-append d [] ys p = refl
standing-append d (x ∷ xs) ys p = standing-append d xs ys (standing_after d x p)

pub items-append : (texts : ℕ → List ℕ) (d : ℕ) (xs ys : List Step) (p : Standing) → items_of texts d (xs ++ ys) p ≡ items_of texts d xs p ++ items_of texts d ys (standing_after_all d xs p)
items-append texts d [] ys p = refl
items-append texts d (x ∷ xs) ys p =
    ap (λ (z : List Item). items_by texts d x p ++ z) (items-append texts d xs ys (standing_after d x p))
    ∙ sym (append_assoc (items_by texts d x p) (items_of texts d xs (standing_after d x p)) (items_of texts d ys (standing_after_all d xs (standing_after d x p))))

-- ---- one more order

pub number_first : (i n : ℕ) → i + suc n ≡ (i + 1) + n
number_first i n = omega arith

number_end : (i : ℕ) → i + 0 ≡ i
number_end i = omega arith

pub performs_more : (f : ConfigValue) (admits : List ℕ → Bool) (c i : ℕ) (p : ℕ → Standing) (os : List OrderValue) (o : OrderValue) (xs ys : List Step) → Performs f admits c i p os xs
    → Answers f admits c (i + length os) (standings_after xs p) o ys → Performs f admits c i p (os ++ o ∷ []) (xs ++ ys)
performs_more f admits c i p [] o xs ys none one =
    (ys, [], ap (λ (z : List Step). z ++ ys) none ∙ sym (append-nil ys), subst (λ (z : ℕ). Answers f admits c z p o ys) (number_end i) (subst (λ (z : List Step). Answers f admits c (i + 0) (standings_after z p) o ys) none one), refl)
performs_more f admits c i p (q ∷ os) o xs ys all one = (
  all.0,
  all.1 ++ ys,
  ap (λ (z : List Step). z ++ ys) all.2 ∙ append_assoc all.0 all.1 ys,
  all.3,
  performs_more f admits c (i + 1) (standings_after all.0 p) os o all.1 ys all.4
      (subst (λ (z : ℕ). Answers f admits c z (standings_after all.1 (standings_after all.0 p)) o ys) (number_first i (length os))
      (subst (λ (z : ℕ → Standing). Answers f admits c (i + suc (length os)) z o ys) (λ k d. (ap (λ (z : List Step). standing_after_all d z (p d)) all.2 ∙ standing-append d all.0 all.1 (p d)) k) one)),
)
