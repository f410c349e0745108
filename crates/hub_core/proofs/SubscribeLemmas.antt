-- Subscriptions that begin and end.
use Rattle.hub_core.proofs.Below.{◌≡◌, ◌≤◌, ℕ, List, [], ◌∷◌, Option, Some, None, Bool, true, false, cond, not, ◌&&◌, nat_eq, length, refl, sym, ap, ◌∙◌, NoteValue, NetState, Why, server, entry_of, no_entry, is_gone, Progress, progress_at, standings_at, clash, by_cases, falsely, TableState, hub_of, nat_le, ◌⊎◌, inl, inr, MayRefuse, for_reason, for_memory, arith, nat_tests, NotOpen, BadTopic, Forbidden, TooMany, Memory, OrderValue, has_topic, ChangesTopics, is_open, frames_of, Standing, first_reason, is_bad_topic, why_at, why_subscribe, why_unsubscribe, Ties, progress_obeys, Obeys, changed, IsHub, ServesOrder, TellingsState}
use Rattle.hub_core.proofs.StateLemmas.{plain_change, topics_elsewhere}
use Rattle.hub_core.proofs.CallLemmas.{Forgets, appends_stay, stays_forgotten}
use Rattle.hub_core.proofs.OrderLemmas.{open_alone}
use Rattle.hub_core.proofs.StandLemmas.{present_open}

-- ---- the reasons

no_reason : (off bad : Bool) → first_reason ((not off, NotOpen) ∷ (bad, BadTopic) ∷ []) ≡ None → (off ≡ true) × (bad ≡ false)
no_reason true false e = (refl, refl)
no_reason false bad e = absurd (let h = e in cc)
no_reason true true e = absurd (let h = e in cc)

-- what is a topic, of a connection that is open
pub fits : (own : Standing) (topic : List ℕ) → why_unsubscribe own.phase topic ≡ None → (is_open own.phase ≡ true) × (is_bad_topic topic ≡ false)
fits own topic none = no_reason (is_open own.phase) (is_bad_topic topic) none

module _ (admits : List ℕ → Bool) (own : Standing) (topic : List ℕ) where
  -- one that is admitted may be subscribed to, unless there are as many
  pub subscribe_fits : why_unsubscribe own.phase topic ≡ None → admits topic ≡ true
      → why_subscribe admits own topic ≡ cond (not (has_topic topic own.topics) && nat_le 64 (length own.topics)) (Some TooMany) None
  subscribe_fits none admitted =
      let f = fits own topic none in one (is_open own.phase) (is_bad_topic topic) (admits topic) (not (has_topic topic own.topics) && nat_le 64 (length own.topics)) f.0 f.1 admitted
    where
      one : (off bad may many : Bool) → off ≡ true → bad ≡ false → may ≡ true → first_reason ((not off, NotOpen) ∷ (bad, BadTopic) ∷ (not may, Forbidden) ∷ (many, TooMany) ∷ []) ≡ cond many (Some TooMany) None
      one true false true true o b m = refl
      one true false true false o b m = refl
      one false bad may many o b m = clash false refl o
      one true true may many o b m = clash true b refl
      one true false false many o b m = clash false refl m

  -- one that is not admitted is forbidden
  pub subscribe_forbidden : why_unsubscribe own.phase topic ≡ None → admits topic ≡ false → why_subscribe admits own topic ≡ Some Forbidden
  subscribe_forbidden none barred =
      let f = fits own topic none in one (is_open own.phase) (is_bad_topic topic) (admits topic) (not (has_topic topic own.topics) && nat_le 64 (length own.topics)) f.0 f.1 barred
    where
      one : (off bad may many : Bool) → off ≡ true → bad ≡ false → may ≡ false → first_reason ((not off, NotOpen) ∷ (bad, BadTopic) ∷ (not may, Forbidden) ∷ (many, TooMany) ∷ []) ≡ Some Forbidden
      one true false false many o b m = refl
      one false bad may many o b m = clash false refl o
      one true true may many o b m = clash true b refl
      one true false true many o b m = clash true m refl

  -- and what is refused so is refused to subscribe to
  pub subscribe_refused : (why : Why) → why_unsubscribe own.phase topic ≡ Some why → why_subscribe admits own topic ≡ Some why
  subscribe_refused why e = one (is_open own.phase) (is_bad_topic topic) (not (admits topic)) (not (has_topic topic own.topics) && nat_le 64 (length own.topics)) e
    where
      one : (off bad barred many : Bool) → first_reason ((not off, NotOpen) ∷ (bad, BadTopic) ∷ []) ≡ Some why → first_reason ((not off, NotOpen) ∷ (bad, BadTopic) ∷ (barred, Forbidden) ∷ (many, TooMany) ∷ []) ≡ Some why
      one false bad barred many h = h
      one true true barred many h = h
      one true false barred many h = absurd (let z = h in cc)

-- ---- who is too many

pub many_is : (has : Bool) (count : ℕ) → has ≡ false → 64 ≤ count → (not has && nat_le 64 count) ≡ true
many_is has count e l = ap (λ (z : Bool). not z && nat_le 64 count) e ∙ grind (arith, nat_tests)

pub many_not : (has : Bool) (count : ℕ) → ((has ≡ false) × (64 ≤ count) → ⊥) → (not has && nat_le 64 count) ≡ false
many_not has count other = by_cases has (λ e. ap (λ (z : Bool). not z && nat_le 64 count) e) (λ e. by_cases (nat_le 64 count)
    (λ l. absurd (other (e, grind (arith, nat_tests))))
    (λ l. ap (λ (z : Bool). not has && z) l ∙ one (not has)))
  where
    one : (b : Bool) → (b && false) ≡ false
    one true = refl
    one false = refl

-- a subscription that is not stored is refused for its reason, or for want of memory
pub subscribe_unstored : (admits : List ℕ → Bool) (own : Standing) (topic : List ℕ) (why : Why) → why_unsubscribe own.phase topic ≡ None → admits topic ≡ true → (why ≡ TooMany) ⊎ (why ≡ Memory)
    → (why ≡ TooMany → (has_topic topic own.topics ≡ false) × (64 ≤ length own.topics)) → ((has_topic topic own.topics ≡ false) × (64 ≤ length own.topics) → why ≡ TooMany) → (why ≡ Memory → has_topic topic own.topics ≡ false)
    → MayRefuse (why_subscribe admits own topic) (not (has_topic topic own.topics)) why
subscribe_unstored admits own topic why none admitted (inl many) are_many only_many memory =
    let both = are_many many in
    for_reason (subscribe_fits admits own topic none admitted ∙ ap (λ (z : Bool). cond z (Some TooMany) None) (many_is (has_topic topic own.topics) (length own.topics) both.0 both.1) ∙ ap Some (sym many))
subscribe_unstored admits own topic why none admitted (inr stored) are_many only_many memory =
    for_memory (subscribe_fits admits own topic none admitted ∙ ap (λ (z : Bool). cond z (Some TooMany) None) (many_not (has_topic topic own.topics) (length own.topics) (λ both. let h : TooMany ≡ Memory = sym (only_many both) ∙ stored in cc)))
    (ap not (memory stored)) stored

-- ---- the topics of one connection change

module _ (admits : List ℕ → Bool) (a : TableState) (p q : List (ℕ × List ℕ)) (r : TellingsState) (net : NetState) (t : Option (List NoteValue)) (c number : ℕ) (order : OrderValue) (f : List (List ℕ) → List (List ℕ))
    (whole : IsHub a p r) (opened : is_open (standings_at (hub_of a p r) c).phase ≡ true) (changes : ChangesTopics c f p q)
    (obeys : (d : ℕ) (x : Progress) → progress_obeys c d order x ≡ cond (nat_eq c d) (record { phase = x.phase; topics = f x.topics; due = x.due }) x) where
  forgets : Forgets c (hub_of a p r) (hub_of a q r)
  forgets = record {
    entry = sym (ap (λ (z : Bool). cond z no_entry (entry_of a.entries c)) (falsely (is_gone (entry_of a.entries c).phase) (present_open (hub_of a p r) c opened)));
    cork = refl;
    pending = refl;
    change = plain_change p q r r (record { config = refl; named = refl; entries = λ x ne. refl; due = λ x ne. refl }) (topics_elsewhere c f p q changes) (λ x ne. refl);
  }

  progress_changed : (d : ℕ) → progress_at (hub_of a q r) d ≡ progress_obeys c d order (progress_at (hub_of a p r) d)
  progress_changed d = ap (λ (z : List (List ℕ)). record { phase = (progress_at (hub_of a p r) d).phase; topics = z; due = (progress_at (hub_of a p r) d).due }) (changes d) ∙ one (nat_eq c d) ∙ sym (obeys d (progress_at (hub_of a p r) d))
    where
      x : Progress
      x = progress_at (hub_of a p r) d

      one : (own : Bool) → record { phase = x.phase; topics = cond own (f x.topics) x.topics; due = x.due } ≡ cond own (record { phase = x.phase; topics = f x.topics; due = x.due }) x
      one true = refl
      one false = refl

  obeyed : Obeys c order (server (hub_of a p r) net t) (server (hub_of a q r) net t)
  obeyed = record { progress = progress_changed; tells = λ d. refl; counts = λ d there. (there, refl); net = refl; told = refl; appends = appends_stay (stays_forgotten forgets) net t }

  pub topics_served : frames_of order ≡ [] → why_at a.config admits c (standings_at (hub_of a p r)) order ≡ None → Ties (server (hub_of a p r) net t) → ServesOrder admits c number order (server (hub_of a p r) net t) (server (hub_of a q r) net t)
  topics_served no_frame none ties = record {
    ties = ties;
    serves = changed a.config admits c number (server (hub_of a p r) net t) (server (hub_of a q r) net t) order no_frame none (open_alone a p r net t whole) obeyed;
    named = refl;
    table = whole.table;
  }
