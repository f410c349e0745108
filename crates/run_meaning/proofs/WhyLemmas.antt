-- Reasons for which orders are not served, by the connections that they ask for.
use Rattle.run_meaning.proofs.Below.{◌≡◌, ◌⊎◌, inl, inr, ℕ, List, [], ◌∷◌, Option, Some, None, Bool, true, false, not, ◌&&◌, nat_eq, nat_lt, nat_le, length, refl, sym, ap, ◌∙◌, Kind, Phase, Head, Open, Leaving, Ending, Gone, Why, Absent, NotOpen, TooBig, BadText, BadTopic, Forbidden, TooMany, BadCode, ConfigValue, OrderValue, send, subscribe, unsubscribe, publish, close, Line, is_open, has_topic, Standing, unless_gone, standing_of, is_away, is_bad_text, is_bad_topic, is_bad_close, first_reason, why_send, why_subscribe, why_unsubscribe, why_close, why_at, needs_memory, asked, may_be_gone, is_for, TopicsEnd, by_cases, clash, and_right, same_number}
use Rattle.run_meaning.proofs.StepLemmas.{open_shown}

pub away_not_open : (p : Option Phase) → is_away p ≡ true → is_open p ≡ false
away_not_open None e = refl
away_not_open (Some Gone) e = refl
away_not_open (Some Head) e = clash false refl e
away_not_open (Some Open) e = clash false refl e
away_not_open (Some Leaving) e = clash false refl e
away_not_open (Some Ending) e = clash false refl e

pub away_shown : (p : Option Phase) → is_away (unless_gone p) ≡ is_away p
away_shown None = refl
away_shown (Some Head) = refl
away_shown (Some Open) = refl
away_shown (Some Leaving) = refl
away_shown (Some Ending) = refl
away_shown (Some Gone) = refl

second_not : (a o : Bool) (x : Why) (rest : List (Bool × Why)) → first_reason ((a, x) ∷ (not o, NotOpen) ∷ rest) ≡ None → o ≡ true
second_not true o x rest e = let z : Some x ≡ None = e in cc
second_not false true x rest e = refl
second_not false false x rest e = let z : Some NotOpen ≡ None = e in cc

first_not : (o : Bool) (rest : List (Bool × Why)) → first_reason ((not o, NotOpen) ∷ rest) ≡ None → o ≡ true
first_not true rest e = refl
first_not false rest e = let z : Some NotOpen ≡ None = e in cc

not_open_first : (o : Bool) (rest : List (Bool × Why)) → o ≡ false → first_reason ((not o, NotOpen) ∷ rest) ≡ Some NotOpen
not_open_first true rest e = clash true e refl
not_open_first false rest e = refl

absent_first : (a : Bool) (rest : List (Bool × Why)) → a ≡ true → first_reason ((a, Absent) ∷ rest) ≡ Some Absent
absent_first true rest e = refl
absent_first false rest e = clash false refl e

-- the reasons of each order behind its phase
module _ (f : ConfigValue) (admits : List ℕ → Bool) where
  abbrev after_send : Option Phase → Kind → List ℕ → List (Bool × Why)
  after_send p kind body = (not (is_open p), NotOpen) ∷ (nat_lt f.max_message (length body), TooBig) ∷ (is_bad_text kind body, BadText) ∷ []

  abbrev after_subscribe : Standing → List ℕ → List (Bool × Why)
  after_subscribe own topic = (is_bad_topic topic, BadTopic) ∷ (not (admits topic), Forbidden) ∷ (not (has_topic topic own.topics) && nat_le 64 (length own.topics), TooMany) ∷ []

abbrev after_unsubscribe : List ℕ → List (Bool × Why)
after_unsubscribe topic = (is_bad_topic topic, BadTopic) ∷ []

abbrev after_close : ℕ → List ℕ → List (Bool × Why)
after_close code reason = (is_bad_close code reason, BadCode) ∷ []

module _ (f : ConfigValue) (admits : List ℕ → Bool) (c : ℕ) where
  -- an order is served for those alone who are open
  pub open_where_for : (lines : ℕ → Line) (o : OrderValue) (d : ℕ) → why_at f admits c (λ i. standing_of (lines i)) o ≡ None → TopicsEnd (lines d)
      → is_for c d o (lines d).topics ≡ true → is_open (lines d).phase ≡ true
  open_where_for lines (send to kind body) d e ends own =
      ap (λ i. is_open (lines i).phase) (sym (same_number to d own)) ∙ sym (open_shown (lines to).phase)
      ∙ second_not (is_away (unless_gone (lines to).phase)) (is_open (unless_gone (lines to).phase)) Absent ((nat_lt f.max_message (length body), TooBig) ∷ (is_bad_text kind body, BadText) ∷ []) e
  open_where_for lines (subscribe topic) d e ends own =
      ap (λ i. is_open (lines i).phase) (sym (same_number c d own)) ∙ sym (open_shown (lines c).phase) ∙ first_not (is_open (unless_gone (lines c).phase)) (after_subscribe f admits (standing_of (lines c)) topic) e
  open_where_for lines (unsubscribe topic) d e ends own =
      ap (λ i. is_open (lines i).phase) (sym (same_number c d own)) ∙ sym (open_shown (lines c).phase) ∙ first_not (is_open (unless_gone (lines c).phase)) (after_unsubscribe topic) e
  open_where_for lines (publish topic kind body) d e ends own = by_cases (is_open (lines d).phase)
      (λ now. now)
      (λ off. clash false refl (sym (ap (has_topic topic) (ends off)) ∙ and_right (not (nat_eq c d)) (has_topic topic (lines d).topics) own))
  open_where_for lines (close code reason) d e ends own =
      ap (λ i. is_open (lines i).phase) (sym (same_number c d own)) ∙ sym (open_shown (lines c).phase) ∙ first_not (is_open (unless_gone (lines c).phase)) (after_close code reason) e

  -- the same, where connections are told by how they stand
  pub open_standing : (p : ℕ → Standing) (o : OrderValue) (d : ℕ) → why_at f admits c p o ≡ None → (is_open (p d).phase ≡ false → (p d).topics ≡ [])
      → is_for c d o (p d).topics ≡ true → is_open (p d).phase ≡ true
  open_standing p (send to kind body) d e ends own =
      ap (λ i. is_open (p i).phase) (sym (same_number to d own))
      ∙ second_not (is_away (p to).phase) (is_open (p to).phase) Absent ((nat_lt f.max_message (length body), TooBig) ∷ (is_bad_text kind body, BadText) ∷ []) e
  open_standing p (subscribe topic) d e ends own = ap (λ i. is_open (p i).phase) (sym (same_number c d own)) ∙ first_not (is_open (p c).phase) (after_subscribe f admits (p c) topic) e
  open_standing p (unsubscribe topic) d e ends own = ap (λ i. is_open (p i).phase) (sym (same_number c d own)) ∙ first_not (is_open (p c).phase) (after_unsubscribe topic) e
  open_standing p (publish topic kind body) d e ends own = by_cases (is_open (p d).phase)
      (λ now. now)
      (λ off. clash false refl (sym (ap (has_topic topic) (ends off)) ∙ and_right (not (nat_eq c d)) (has_topic topic (p d).topics) own))
  open_standing p (close code reason) d e ends own = ap (λ i. is_open (p i).phase) (sym (same_number c d own)) ∙ first_not (is_open (p c).phase) (after_close code reason) e

  -- reasons are the same where the connection that is asked for stands the same
  pub why_asked : (o : OrderValue) (p q : ℕ → Standing) → ((a : ℕ) → asked c o ≡ Some a → p a ≡ q a) → why_at f admits c p o ≡ why_at f admits c q o
  why_asked (send to kind body) p q h = ap (λ (z : Standing). why_send f z.phase kind body) (h to refl)
  why_asked (subscribe topic) p q h = ap (λ (z : Standing). why_subscribe admits z topic) (h c refl)
  why_asked (unsubscribe topic) p q h = ap (λ (z : Standing). why_unsubscribe z.phase topic) (h c refl)
  why_asked (publish topic kind body) p q h = refl
  why_asked (close code reason) p q h = ap (λ (z : Standing). why_close z.phase code reason) (h c refl)

  pub needs_asked : (o : OrderValue) (p q : ℕ → Standing) → ((a : ℕ) → asked c o ≡ Some a → p a ≡ q a) → needs_memory c p o ≡ needs_memory c q o
  needs_asked (send to kind body) p q h = refl
  needs_asked (subscribe topic) p q h = ap (λ (z : Standing). not (has_topic topic z.topics)) (h c refl)
  needs_asked (unsubscribe topic) p q h = refl
  needs_asked (publish topic kind body) p q h = refl
  needs_asked (close code reason) p q h = refl

  -- one that is gone has the reason Absent or NotOpen against it
  pub why_away : (o : OrderValue) (a : ℕ) (p : ℕ → Standing) → asked c o ≡ Some a → is_away (p a).phase ≡ true → (why_at f admits c p o ≡ Some Absent) ⊎ (why_at f admits c p o ≡ Some NotOpen)
  why_away (send to kind body) a p e away =
      let same : to ≡ a = cc in
      inl (absent_first (is_away (p to).phase) (after_send f admits (p to).phase kind body) (ap (λ i. is_away (p i).phase) same ∙ away))
  why_away (subscribe topic) a p e away =
      let same : c ≡ a = cc in
      inr (not_open_first (is_open (p c).phase) (after_subscribe f admits (p c) topic) (away_not_open (p c).phase (ap (λ i. is_away (p i).phase) same ∙ away)))
  why_away (unsubscribe topic) a p e away =
      let same : c ≡ a = cc in
      inr (not_open_first (is_open (p c).phase) (after_unsubscribe topic) (away_not_open (p c).phase (ap (λ i. is_away (p i).phase) same ∙ away)))
  why_away (publish topic kind body) a p e away = let z : None ≡ Some a = e in cc
  why_away (close code reason) a p e away =
      let same : c ≡ a = cc in
      inr (not_open_first (is_open (p c).phase) (after_close code reason) (away_not_open (p c).phase (ap (λ i. is_away (p i).phase) same ∙ away)))

  pub may_where_away : (o : OrderValue) (a : ℕ) (p : ℕ → Standing) → asked c o ≡ Some a → is_away (p a).phase ≡ true → may_be_gone (why_at f admits c p o) ≡ true
  may_where_away o a p e away = one (why_away o a p e away)
    where
      one : (why_at f admits c p o ≡ Some Absent) ⊎ (why_at f admits c p o ≡ Some NotOpen) → may_be_gone (why_at f admits c p o) ≡ true
      one (inl h) = ap may_be_gone h
      one (inr h) = ap may_be_gone h

  pub some_where_away : {A : Type 0} (o : OrderValue) (a : ℕ) (p : ℕ → Standing) → asked c o ≡ Some a → is_away (p a).phase ≡ true → why_at f admits c p o ≡ None → A
  some_where_away {A = A} o a p e away none = one (why_away o a p e away)
    where
      clashes : (x : Why) → Some x ≡ None → ⊥
      clashes x h = cc

      one : (why_at f admits c p o ≡ Some Absent) ⊎ (why_at f admits c p o ≡ Some NotOpen) → A
      one (inl h) = absurd (clashes Absent (sym h ∙ none))
      one (inr h) = absurd (clashes NotOpen (sym h ∙ none))
