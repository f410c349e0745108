-- How a run over a net in memory ends, by its answers.
use Rattle.ws_program.proofs.Below.{◌≡◌, ◌<◌, ◌≤◌, ◌+◌, ◌-◌, ◌^◌, ℕ, zero, suc, List, [], ◌∷◌, ◌++◌, Bool, true, false, cond, ◌&&◌, length, take, refl, sym, ap, ◌∙◌, subst, append-nil, arith, list_all, count_by, is_count_by, NetEvent, Act, passes, MemNetState, FollowsSchedule, net_state, is_rest, NetState, number_of, GrowsBy, goes_on, Runs, is_turn_act, and_left, and_right}
use Rattle.link_trait.specs.declared.net.NetEvent.TheVariants as event
use Rattle.link_trait.specs.declared.act.Act.TheVariants as act
use Rattle.loop_runner.specs.Turns.{PassesTurns}
use Rattle.loop_runner.specs.declared.turns.Ran.TheVariants as ran
use Rattle.loop_runner.proofs.AnswerLemmas.{grows_last}
use Rattle.loop_runner.proofs.TurnLemmas.{rose_before}
use Rattle.hub_notes.proofs.NetLemmas.{number_then}
use Rattle.ws_program.proofs.StopLemmas.{is_going, plain_passed, all_answers, stop_done, stop_passed}

one_more : (k : ℕ) → suc k ≡ 1 + k
one_more k = omega arith

pub turns_counted : (acts : List Act) → number_of is_turn_act acts ≡ count_by is_turn_act acts
turns_counted acts =
    is_count_by (λ (xs : List Act). number_of is_turn_act xs) is_turn_act refl (λ x xs. ap (λ k. cond (is_turn_act x) k (number_of is_turn_act xs)) (one_more (number_of is_turn_act xs))) acts

rests_passed : (acts : List Act) → number_of is_rest (passes acts) ≡ number_of is_turn_act acts
rests_passed [] = refl
rests_passed (act.Arrive c credit ∷ acts) = rests_passed acts
rests_passed (act.Octets c octets ∷ acts) = rests_passed acts
rests_passed (act.End c ∷ acts) = rests_passed acts
rests_passed (act.ReadFails c ∷ acts) = rests_passed acts
rests_passed (act.Room c more ∷ acts) = rests_passed acts
rests_passed (act.WriteFails c ∷ acts) = rests_passed acts
rests_passed (act.Tick ∷ acts) = rests_passed acts
rests_passed (act.Turn ∷ acts) = ap (λ k. suc k) (rests_passed acts)

number-take : {A : Type 0} (p : A → Bool) (k : ℕ) (xs : List A) → number_of p (take k xs) ≤ number_of p xs
number-take p zero xs = omega arith
number-take p (suc k) [] = omega arith
number-take p (suc k) (x ∷ xs) = one (p x) (number_of p (take k xs)) (number_of p xs) (number-take p k xs)
  where
    one : (b : Bool) (a c : ℕ) → a ≤ c → (cond b (suc a) a) ≤ (cond b (suc c) c)
    one true a c e = omega arith
    one false a c e = e

-- an answer after which a run goes on is not Stop
going : (answer : NetEvent) → goes_on answer ≡ true → is_going answer ≡ true
going (event.Accept c) e = refl
going (event.Readable c) e = refl
going (event.Writable c) e = refl
going event.Tick e = refl
going event.Turn e = refl
going event.Stop e = let z : false ≡ true = e in cc
going event.Failed e = refl

all_going : (answers : List NetEvent) → list_all goes_on answers ≡ true → list_all is_going answers ≡ true
all_going [] e = refl
all_going (a ∷ answers) e =
    ap (λ z. z && list_all is_going answers) (going a (and_left (goes_on a) (list_all goes_on answers) e)) ∙ all_going answers (and_right (goes_on a) (list_all goes_on answers) e)

all-append : {A : Type 0} (p : A → Bool) (xs ys : List A) → list_all p xs ≡ true → list_all p ys ≡ true → list_all p (xs ++ ys) ≡ true
all-append p [] ys e f = f
all-append p (x ∷ xs) ys e f = ap (λ z. z && list_all p (xs ++ ys)) (and_left (p x) (list_all p xs) e) ∙ all-append p xs ys (and_right (p x) (list_all p xs) e) f

abbrev is_whole : NetEvent → Bool
is_whole event.Failed = false
is_whole _ = true

no_failure : (acts : List Act) → list_all is_whole (passes acts) ≡ true
no_failure [] = refl
no_failure (act.Arrive c credit ∷ acts) = no_failure acts
no_failure (act.Octets c octets ∷ acts) = no_failure acts
no_failure (act.End c ∷ acts) = no_failure acts
no_failure (act.ReadFails c ∷ acts) = no_failure acts
no_failure (act.Room c more ∷ acts) = no_failure acts
no_failure (act.WriteFails c ∷ acts) = no_failure acts
no_failure (act.Tick ∷ acts) = no_failure acts
no_failure (act.Turn ∷ acts) = no_failure acts

fails_not : (before : List NetEvent) → list_all is_whole (before ++ event.Failed ∷ []) ≡ true → ⊥
fails_not [] e = let z : false ≡ true = e in cc
fails_not (b ∷ before) e = fails_not before (and_right (is_whole b) (list_all is_whole (before ++ event.Failed ∷ [])) e)

module _ (net : MemNetState) (follows : FollowsSchedule net) (few : length net.acts + 1 < 2 ^ 64 - 1) (old : NetState) (turns : ℕ) (told : old.tells ≡ true) (none : old.passed ≡ []) where
  from_none : (answers : List NetEvent) → GrowsBy answers old.passed (net_state net).passed → (net_state net).passed ≡ [] ++ take (2 ^ 64 - 1 - length {A = NetEvent} []) answers
  from_none answers grows = grows ∙ ap (λ (es : List NetEvent). es ++ take (2 ^ 64 - 1 - length es) answers) none

  pub ran_stopped : (count : ℕ) → Runs (ran.Stopped count) turns old (net_state net) → (net.done ≡ length net.acts) × ((net_state net).passed ≡ passes net.acts ++ event.Stop ∷ [])
  ran_stopped count runs =
      let told = runs.2.told told in
      let only = all_going told.0 told.1.0 in
      let ends = all_answers net follows few told.0 (event.Stop ∷ []) only (omega arith) (from_none (told.0 ++ event.Stop ∷ []) told.2) in
      (stop_done net told.0 follows ends, stop_passed net told.0 follows ends only)

  pub ran_never_spent : count_by is_turn_act net.acts < turns → Runs ran.Spent turns old (net_state net) → ⊥
  ran_never_spent more runs =
      let told = runs.told told in
      let only = all_going told.0 told.1.0 in
      let ends = all_answers net follows few told.0 [] only (omega arith) (from_none (told.0 ++ []) told.2) in
      let all : (net_state net).passed ≡ told.0 = ends ∙ append-nil told.0 in
      let plain : told.0 ≡ passes (take net.done net.acts) = sym all ∙ plain_passed net follows (ap (λ es. list_all is_going es) all ∙ only) in
      let count : turns ≡ number_of is_turn_act (take net.done net.acts) = sym told.1.1 ∙ ap (λ es. number_of is_rest es) plain ∙ rests_passed (take net.done net.acts) in
      let most = number-take is_turn_act net.done net.acts in
      less turns (number_of is_turn_act (take net.done net.acts)) (number_of is_turn_act net.acts) count most (subst (λ k. k < turns) (sym (turns_counted net.acts)) more)
    where
      less : (t a b : ℕ) → t ≡ a → a ≤ b → b < t → ⊥
      less t a b e f g = absurd (omega arith)

  pub ran_never_failed : Runs ran.NetFault turns old (net_state net) → ⊥
  ran_never_failed runs =
      let told = runs.2.told told in
      let only = all_going told.0 told.1.0 in
      let ends = all_answers net follows few told.0 (event.Failed ∷ []) only (omega arith) (from_none (told.0 ++ event.Failed ∷ []) told.2) in
      let plain = plain_passed net follows (ap (λ es. list_all is_going es) ends ∙ all-append is_going told.0 (event.Failed ∷ []) only refl) in
      fails_not told.0 (ap (λ es. list_all is_whole es) (sym ends ∙ plain) ∙ no_failure (take net.done net.acts))

  -- where all turns were made, nothing passed but what the acts pass that were done
  pub ran_spent : Runs ran.Spent turns old (net_state net) → (net_state net).passed ≡ passes (take net.done net.acts)
  ran_spent runs =
      let told = runs.told told in
      let only = all_going told.0 told.1.0 in
      let ends = all_answers net follows few told.0 [] only (omega arith) (from_none (told.0 ++ []) told.2) in
      let all : (net_state net).passed ≡ told.0 = ends ∙ append-nil told.0 in
      plain_passed net follows (ap (λ es. list_all is_going es) all ∙ only)

  -- a run that is stopped has a turn more than the acts
  pub ran_count : (count : ℕ) → Runs (ran.Stopped count) turns old (net_state net) → count ≡ count_by is_turn_act net.acts + 1
  ran_count count runs =
      let told = runs.2.told told in
      let only = all_going told.0 told.1.0 in
      let ends = all_answers net follows few told.0 (event.Stop ∷ []) only (omega arith) (from_none (told.0 ++ event.Stop ∷ []) told.2) in
      let shown : told.0 ++ event.Stop ∷ [] ≡ passes net.acts ++ event.Stop ∷ [] = sym ends ∙ (ran_stopped count runs).1 in
      let first = number_then is_rest told.0 (event.Stop ∷ []) in
      let second = number_then is_rest (passes net.acts) (event.Stop ∷ []) in
      let same : number_of is_rest (told.0 ++ event.Stop ∷ []) ≡ number_of is_rest (passes net.acts ++ event.Stop ∷ []) = ap (λ es. number_of is_rest es) shown in
      let made : number_of is_rest (passes net.acts) ≡ count_by is_turn_act net.acts = rests_passed net.acts ∙ turns_counted net.acts in
      whole count (number_of is_rest told.0) (number_of is_rest (passes net.acts)) (count_by is_turn_act net.acts) runs.0 told.1.1
      (sum (number_of is_rest told.0) (number_of is_rest (passes net.acts)) (number_of is_rest (told.0 ++ event.Stop ∷ [])) (number_of is_rest (passes net.acts ++ event.Stop ∷ [])) first second same) made
    where
      sum : (a b x y : ℕ) → x ≡ a + 1 → y ≡ b + 1 → x ≡ y → a ≡ b
      sum a b x y first second same = omega (arith, first, second, same)

      whole : (c a b n : ℕ) → 1 ≤ c → a ≡ c - 1 → a ≡ b → b ≡ n → c ≡ n + 1
      whole c a b n some e f g = omega (arith, some, e, f, g)

-- ---- some turns, and then a run

turns_join : (m n : ℕ) (last : List NetEvent) (a b c : NetState) → PassesTurns m [] a b → PassesTurns n last b c → PassesTurns (m + n) last a c
turns_join m n last a b c x y = record {
  tells = y.tells ∙ x.tells;
  told = λ t.
      let u = x.told t in
      let v = y.told (x.tells ∙ t) in
      let before : GrowsBy u.0 a.passed b.passed = subst (λ (z : List NetEvent). GrowsBy z a.passed b.passed) (append-nil u.0) u.2 in
      let count = number_then is_rest u.0 v.0 in
      (u.0 ++ v.0, (all-append goes_on u.0 v.0 u.1.0 v.1.0, count ∙ both (number_of is_rest u.0) (number_of is_rest v.0) u.1.1 v.1.1), grows_last u.0 v.0 last a.passed b.passed c.passed before v.2);
  faults = let p = x.faults in let q = y.faults in omega arith;
}
  where
    both : (i j : ℕ) → i ≡ m → j ≡ n → i + j ≡ m + n
    both i j e f = omega (arith, e, f)

module _ (turns : ℕ) (a b c : NetState) (first : PassesTurns 1 [] a b) where
  pub stopped_then : (count : ℕ) → Runs (ran.Stopped count) turns b c → Runs (ran.Stopped (count + 1)) (turns + 1) a c
  stopped_then count runs =
      let some = runs.0 in
      let most = runs.1 in
      let same : 1 + (count - 1) ≡ count + 1 - 1 = omega (arith, some) in
      (omega arith, omega (arith, most), subst (λ k. PassesTurns k (event.Stop ∷ []) a c) same (turns_join 1 (count - 1) (event.Stop ∷ []) a b c first runs.2))

  pub spent_then : Runs ran.Spent turns b c → Runs ran.Spent (turns + 1) a c
  spent_then runs = subst (λ k. PassesTurns k [] a c) (sum turns) (turns_join 1 turns [] a b c first runs)
    where
      sum : (n : ℕ) → 1 + n ≡ n + 1
      sum n = omega arith

  pub failed_then : Runs ran.NetFault turns b c → Runs ran.NetFault (turns + 1) a c
  failed_then runs =
      let before = runs.0 in
      let fewer = runs.1 in
      (1 + before, omega (arith, fewer), turns_join 1 before (event.Failed ∷ []) a b c first runs.2, rose_before a.faults b.faults c.faults first.faults runs.3)
