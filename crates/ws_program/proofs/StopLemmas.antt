-- The answers of a net in memory that follows its schedule: those that the acts done pass, and then Stop.
use Rattle.ws_program.proofs.Below.{◌≡◌, ◌<◌, ◌≤◌, ◌+◌, ◌-◌, ◌^◌, ℕ, zero, suc, List, [], ◌∷◌, ◌++◌, Bool, true, false, not, ◌&&◌, length, take, replicate, ◌⊎◌, inl, inr, refl, sym, ap, ◌∙◌, append-nil, min, arith, rules, eq-or-lt_of_le, take-length, cases_lt, length-append, length-take-le, take-append-le, take_all, list_all, NetEvent, Act, passes, passes_by, MemNetState, FollowsSchedule, net_state, is_stop, and_left, and_right}
use Rattle.std.proofs.lemmas.List.{length-take}
use Rattle.link_trait.specs.declared.net.NetEvent.TheVariants as event
use Rattle.link_trait.specs.declared.act.Act.TheVariants as act

-- acts pass no Stop
pub no_stop : (acts : List Act) → list_all (λ answer. not (is_stop answer)) (passes acts) ≡ true
no_stop [] = refl
no_stop (act.Arrive c credit ∷ acts) = no_stop acts
no_stop (act.Octets c octets ∷ acts) = no_stop acts
no_stop (act.End c ∷ acts) = no_stop acts
no_stop (act.ReadFails c ∷ acts) = no_stop acts
no_stop (act.Room c more ∷ acts) = no_stop acts
no_stop (act.WriteFails c ∷ acts) = no_stop acts
no_stop (act.Tick ∷ acts) = no_stop acts
no_stop (act.Turn ∷ acts) = no_stop acts

-- a list without Stop does not end with it
ends_without : (before : List NetEvent) → list_all (λ answer. not (is_stop answer)) (before ++ event.Stop ∷ []) ≡ true → ⊥
ends_without [] e = let z : false ≡ true = e in cc
ends_without (b ∷ before) e = ends_without before (and_right (not (is_stop b)) (list_all (λ answer. not (is_stop answer)) (before ++ event.Stop ∷ [])) e)

-- how many Stop a list has
abbrev stops_in : List NetEvent → ℕ
stops_in [] = 0
stops_in (event.Stop ∷ rest) = stops_in rest + 1
stops_in (_ ∷ rest) = stops_in rest

stops_one : (e : NetEvent) (rest : List NetEvent) → not (is_stop e) ≡ true → stops_in (e ∷ rest) ≡ stops_in rest
stops_one (event.Accept c) rest e = refl
stops_one (event.Readable c) rest e = refl
stops_one (event.Writable c) rest e = refl
stops_one event.Tick rest e = refl
stops_one event.Turn rest e = refl
stops_one event.Stop rest e = let z : false ≡ true = e in cc
stops_one event.Failed rest e = refl

stops_none : (es rest : List NetEvent) → list_all (λ answer. not (is_stop answer)) es ≡ true → stops_in (es ++ rest) ≡ stops_in rest
stops_none [] rest none = refl
stops_none (e ∷ es) rest none =
    stops_one e (es ++ rest) (and_left (not (is_stop e)) (list_all (λ answer. not (is_stop answer)) es) none)
    ∙ stops_none es rest (and_right (not (is_stop e)) (list_all (λ answer. not (is_stop answer)) es) none)

stops_only : (count : ℕ) → stops_in (replicate count event.Stop) ≡ count
stops_only zero = refl
stops_only (suc count) = ap (λ k. k + 1) (stops_only count) ∙ omega arith

module _ (net : MemNetState) (before : List NetEvent) (follows : FollowsSchedule net) (ends : (net_state net).passed ≡ before ++ event.Stop ∷ []) where
  pub stop_done : net.done ≡ length net.acts
  stop_done = by_order (eq-or-lt_of_le follows.done)
    where
      by_order : (net.done ≡ length net.acts) ⊎ (net.done < length net.acts) → net.done ≡ length net.acts
      by_order (inl all) = all
      by_order (inr more) =
          let shown : passes (take net.done net.acts) ++ replicate (net.answers - length (passes (take net.done net.acts))) event.Stop ≡ before ++ event.Stop ∷ [] = ends in
          let zero_left : net.answers - length (passes (take net.done net.acts)) ≡ 0 = none (net.answers) (length (passes (take net.done net.acts))) (follows.stops more) in
          let plain : passes (take net.done net.acts) ≡ before ++ event.Stop ∷ [] =
          sym (append-nil (passes (take net.done net.acts))) ∙ ap (λ k. passes (take net.done net.acts) ++ replicate k event.Stop) (sym zero_left) ∙ shown in
          absurd (ends_without before (ap (λ es. list_all (λ answer. not (is_stop answer)) es) (sym plain) ∙ no_stop (take net.done net.acts)))
        where
          none : (a b : ℕ) → a ≡ b → a - b ≡ 0
          none a b e = omega arith

  pub stop_passed : list_all (λ answer. not (is_stop answer)) before ≡ true → (net_state net).passed ≡ passes net.acts ++ event.Stop ∷ []
  stop_passed only =
      let acts = take net.done net.acts in
      let count = net.answers - length (passes acts) in
      let shown : passes acts ++ replicate count event.Stop ≡ before ++ event.Stop ∷ [] = ends in
      let one : count ≡ 1 = sym (stops_only count) ∙ sym (stops_none (passes acts) (replicate count event.Stop) (no_stop acts)) ∙ ap stops_in shown ∙ stops_none before (event.Stop ∷ []) only in
      let all : acts ≡ net.acts = ap (λ k. take k net.acts) stop_done ∙ take-length net.acts in
      ap (λ k. passes acts ++ replicate k event.Stop) one ∙ ap (λ zs. passes zs ++ event.Stop ∷ []) all

-- ---- a list of answers that is never full

pub passes_few : (acts : List Act) → length (passes acts) ≤ length acts
passes_few [] = omega arith
passes_few (a ∷ acts) =
    let one = one_few a in
    let more = passes_few acts in
    let all = length-append (passes_by a) (passes acts) in
    omega arith
  where
    one_few : (a : Act) → length (passes_by a) ≤ 1
    one_few (act.Arrive c credit) = omega arith
    one_few (act.Octets c octets) = omega arith
    one_few (act.End c) = omega arith
    one_few (act.ReadFails c) = omega arith
    one_few (act.Room c more) = omega arith
    one_few (act.WriteFails c) = omega arith
    one_few act.Tick = omega arith
    one_few act.Turn = omega arith

all_take : {A : Type 0} (p : A → Bool) (k : ℕ) (xs : List A) → list_all p xs ≡ true → list_all p (take k xs) ≡ true
all_take p zero xs e = refl
all_take p (suc k) [] e = refl
all_take p (suc k) (x ∷ xs) e = both (p x) (list_all p (take k xs)) (and_left (p x) (list_all p xs) e) (all_take p k xs (and_right (p x) (list_all p xs) e))
  where
    both : (a b : Bool) → a ≡ true → b ≡ true → (a && b) ≡ true
    both a b e f = ap (λ z. z && b) e ∙ f

abbrev pub is_going : NetEvent → Bool
is_going answer = not (is_stop answer)

module _ (net : MemNetState) (follows : FollowsSchedule net) where
  -- where no answer is Stop, they are those that the acts done pass
  pub plain_passed : list_all is_going (net_state net).passed ≡ true → (net_state net).passed ≡ passes (take net.done net.acts)
  plain_passed only =
      let acts = take net.done net.acts in
      let count = net.answers - length (passes acts) in
      let shown : list_all is_going (passes acts ++ replicate count event.Stop) ≡ true = only in
      let none : stops_in ((passes acts ++ replicate count event.Stop) ++ []) ≡ 0 = stops_none (passes acts ++ replicate count event.Stop) [] shown in
      let zero_left : count ≡ 0 = sym (stops_only count) ∙ sym (stops_none (passes acts) (replicate count event.Stop) (no_stop acts)) ∙ ap stops_in (sym (append-nil (passes acts ++ replicate count event.Stop))) ∙ none in
      ap (λ k. passes acts ++ replicate k event.Stop) zero_left ∙ append-nil (passes acts)

  module _ (few : length net.acts + 1 < 2 ^ 64 - 1) (answers last : List NetEvent) (only : list_all is_going answers ≡ true) (one : length last ≤ 1)
      (ends : (net_state net).passed ≡ [] ++ take (2 ^ 64 - 1 - length {A = NetEvent} []) (answers ++ last)) where
    short_answers : length (answers ++ last) ≤ 2 ^ 64 - 1
    short_answers = by_order (cases_lt (2 ^ 64 - 1) (length (answers ++ last)))
      where
        done_few : length (take net.done net.acts) ≤ length net.acts
        done_few = least (length (take net.done net.acts)) net.done (length net.acts) (length-take net.done net.acts)
          where
            least : (t d n : ℕ) → t ≡ min d n → t ≤ n
            least t d n e = grind (arith, rules)

        full : (top : ℕ) → top ≡ 2 ^ 64 - 1 - length {A = NetEvent} [] → 2 ^ 64 - 1 < length (answers ++ last) → ⊥
        full top is over =
            let all = length-append answers last in
            let most : top ≤ length answers = room top (length answers) (length last) (length (answers ++ last)) is all one over in
            let cut : (net_state net).passed ≡ take top answers = ends ∙ ap (λ k. take k (answers ++ last)) (sym is) ∙ take-append-le top answers last most in
            let going : list_all is_going (net_state net).passed ≡ true = ap (λ es. list_all is_going es) cut ∙ all_take is_going top answers only in
            let count : length (net_state net).passed ≡ top = ap (λ es. length es) cut ∙ length-take-le top answers most in
            let same : length (net_state net).passed ≡ length (passes (take net.done net.acts)) = ap (λ es. length es) (plain_passed going) in
            let short = passes_few (take net.done net.acts) in
            no_room top (length (net_state net).passed) (length (passes (take net.done net.acts))) (length (take net.done net.acts)) (length net.acts) is count same short done_few few
          where
            room : (top a l n : ℕ) → top ≡ 2 ^ 64 - 1 - 0 → n ≡ a + l → l ≤ 1 → 2 ^ 64 - 1 < n → top ≤ a
            room top a l n is all one over = omega arith

            no_room : (top p q t n : ℕ) → top ≡ 2 ^ 64 - 1 - 0 → p ≡ top → p ≡ q → q ≤ t → t ≤ n → n + 1 < 2 ^ 64 - 1 → ⊥
            no_room top p q t n is count same short done few = absurd (omega arith)

        by_order : (2 ^ 64 - 1 < length (answers ++ last)) ⊎ (length (answers ++ last) ≤ 2 ^ 64 - 1) → length (answers ++ last) ≤ 2 ^ 64 - 1
        by_order (inl over) = absurd (full (2 ^ 64 - 1 - length {A = NetEvent} []) refl over)
        by_order (inr fits) = fits

    pub all_answers : (net_state net).passed ≡ answers ++ last
    all_answers = ends ∙ take_all (2 ^ 64 - 1 - length {A = NetEvent} []) (answers ++ last) (fits (length (answers ++ last)) short_answers)
      where
        fits : (n : ℕ) → n ≤ 2 ^ 64 - 1 → n ≤ 2 ^ 64 - 1 - 0
        fits n e = omega arith
