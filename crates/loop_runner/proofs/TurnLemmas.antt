-- What the net answers, and how a turn begins and ends.
use Rattle.loop_runner.proofs.Below.{◌≡◌, ◌≤◌, ◌<◌, ◌+◌, ◌-◌, ◌^◌, inl, inr, ⊎_elim, ℕ, List, [], ◌∷◌, ◌++◌, Option, Bool, true, false, cond, nat_lt, ◌&&◌, ◌||◌, not, is_some, Some, None, refl, sym, ap, ◌∙◌, subst, arith, append-nil, cases_eq, nat_tests, list_all, list_any, NoteValue, Rose, NetState, Same, Reads, CountsFault, CountsNetReadFaults, Nexts, CountsNextFaults, passing, is_rest, NetEvent, NetRead, number_of, is_reading, list_all-append, HubState, Entry, Server, server, is_present, is_gone, has_entry, entry_of, phase_at, Settled, clash, and_left, and_right, AreThere, there_same, Turned, Intake, Intakes, intake_at, max_of, Ready, But, RisesBeyond, Onward, Steps, is_between, goes_on, ending, GrowsBy, AreBetween, AreTurns, Passes, PassesBetween, PassesTurn, PassesTurns, FailsAs, FailsBeyondLinks, number_then, told_none}
use Rattle.link_trait.specs.declared.net.NetEvent.TheVariants as event
use Rattle.link_trait.specs.declared.net.NetRead.TheVariants as read
use Rattle.loop_runner.specs.declared.turn.Turned.TheVariants as turned
use Rattle.loop_runner.proofs.AnswerLemmas.{grows_none, grows_last, grows_next}
use Rattle.loop_runner.proofs.GrowLemmas.{grows_read}
use Rattle.loop_runner.proofs.NotedLemmas.{links_both, links_still, number_none}
use Rattle.loop_runner.proofs.StepLemmas.{onward_still, steps_still, telling_still}

-- an answer that leaves the links live leaves each live one that of an entry which is not gone
pub there_next : (answer : NetEvent) (h : HubState) (a b : NetState) (t : Option (List NoteValue)) → Nexts answer a b → Same a.live b.live → AreThere (server h a t) → AreThere (server h b t)
there_next answer h a b t next same there = λ c live. there c (sym (same c) ∙ live)

-- ---- faults of the net

pub next_least : (answer : NetEvent) (a b : ℕ) → CountsNextFaults answer a b → a ≤ b
next_least (event.Accept c) a b e = e
next_least (event.Readable c) a b e = e
next_least (event.Writable c) a b e = e
next_least event.Tick a b e = e
next_least event.Turn a b e = e
next_least event.Stop a b e = e
next_least event.Failed a b e = e.0

read_least : (result : NetRead) (a b : ℕ) → CountsNetReadFaults result a b → a ≤ b
read_least (read.Octets n) a b e = e
read_least read.End a b e = e
read_least read.Later a b e = e
read_least read.Failed a b e = e.0

-- the net counted a fault, and nothing was noted
pub links_rose : (h : HubState) (a b : NetState) (t : Option (List NoteValue)) → CountsFault a.faults b.faults → RisesBeyond 1 0 (server h a t) (server h b t)
links_rose h a b t r = links_still 1 h h a b t (⊎_elim (λ (more : a.faults < b.faults). inl (omega arith)) (λ (most : b.faults ≡ 2 ^ 64 - 1). inr (omega arith)) r.1)

-- the net answered, and nothing was noted
pub links_next : (answer : NetEvent) (h : HubState) (a b : NetState) (t : Option (List NoteValue)) → Nexts answer a b → RisesBeyond 0 0 (server h a t) (server h b t)
links_next answer h a b t n = links_still 0 h h a b t (inl (let least = next_least answer a.faults b.faults n.faults in omega arith))

pub steps_read : (conn : ℕ) (space : List ℕ) (result : NetRead) (h : HubState) (a b : NetState) (t : Option (List NoteValue)) → Reads conn space result a b → Steps (But conn) (server h a t) (server h b t)
steps_read conn space result h a b t x = steps_still (But conn) h a b t t
    (onward_still h h a b t (grows_read conn space result h a b t x) x.room (λ told. (x.told told).passed) (read_least result a.faults b.faults x.faults) (telling_still h a b t t [] (told_none t)))
    x.named (λ ties c there. x.live c ∙ ties c there) (λ short. short) (λ waits c there some. x.writable c ∙ waits c there some) (there_same (server h a t) b x.live) (λ c ne r. x.due_elsewhere c ne)

-- ---- answers

between_both : (xs ys : List NetEvent) → AreBetween xs → AreBetween ys → AreBetween (xs ++ ys)
between_both xs ys e h = list_all-append is_between xs ys ∙ ap (λ (z : Bool). z && list_all is_between ys) e ∙ h

-- some answers, and then more
passes_join : (P Q R : List NetEvent → Type 0) (last : List NetEvent) (a b d : NetState) → ((xs ys : List NetEvent) → P xs → Q ys → R (xs ++ ys)) → Passes P [] a b → Passes Q last b d → Passes R last a d
passes_join P Q R last a b d both x y = record {
  tells = y.tells ∙ x.tells;
  told = λ t.
      let u = x.told t in
      let v = y.told (x.tells ∙ t) in
      let before : GrowsBy u.0 a.passed b.passed = subst (λ (z : List NetEvent). GrowsBy z a.passed b.passed) (append-nil u.0) u.2 in
      (u.0 ++ v.0, both u.0 v.0 u.1 v.1, grows_last u.0 v.0 last a.passed b.passed d.passed before v.2);
  faults = let p = x.faults in let q = y.faults in omega arith;
}

-- an answer that ends no turn
pub passes_next : (answer : NetEvent) (a b : NetState) → Nexts answer a b → AreBetween (passing answer) → PassesBetween a b
passes_next answer a b n between = record {
  tells = n.net.tells;
  told = λ t. (passing answer, between, grows_next a.passed answer (passing answer ++ []) b.passed (sym (append-nil (passing answer))) (n.told t).passed);
  faults = next_least answer a.faults b.faults n.faults;
}

pub passes_then : (a b d : NetState) → PassesBetween a b → PassesBetween b d → PassesBetween a d
passes_then a b d x y = passes_join AreBetween AreBetween AreBetween [] a b d between_both x y

pub passes_turn : (end : Turned) (a b d : NetState) → PassesBetween a b → PassesTurn end b d → PassesTurn end a d
passes_turn end a b d x y = passes_join AreBetween AreBetween AreBetween (ending end ∷ []) a b d between_both x y

pub passes_onward : {count owed : ℕ} (a b : Server) → Onward count owed a b → PassesBetween a.net b.net
passes_onward a b x = record {
  tells = x.grows.tells;
  told = λ t. ([], refl, subst (λ (z : List NetEvent). GrowsBy [] a.net.passed z) (sym (x.passed t)) (grows_none a.net.passed));
  faults = x.faults;
}

-- an answer that ends it, and what follows
passing_ending : (end : Turned) → passing (ending end) ≡ ending end ∷ []
passing_ending turned.Turn = refl
passing_ending turned.Stop = refl
passing_ending turned.Failed = refl

pub passes_ended : {count owed : ℕ} (end : Turned) (h : HubState) (a b : NetState) (t : Option (List NoteValue)) (s : Server) → Nexts (ending end) a b → Onward count owed (server h b t) s → PassesTurn end a s.net
passes_ended end h a b t s n x = record {
  tells = x.grows.tells ∙ n.net.tells;
  told = λ told. (
    [],
    refl,
    subst (λ (z : List NetEvent). GrowsBy (ending end ∷ []) a.passed z) (sym (x.passed (n.net.tells ∙ told)))
        (grows_next a.passed (ending end) (ending end ∷ []) b.passed (passing_ending end) (n.told told).passed),
  );
  faults = let p = next_least (ending end) a.faults b.faults n.faults in let q = x.faults in omega arith;
}

-- ---- a turn that failed

rose_after : (a b d : ℕ) → CountsFault a b → b ≤ d → Rose a d
rose_after a b d (first, inl more) least = inl (omega arith)
rose_after a b d (first, inr is) least = ⊎_elim (λ (e : d ≡ 2 ^ 64 - 1). inr e) (λ (ne : d ≡ 2 ^ 64 - 1 → ⊥). inl (omega (arith, ne))) (cases_eq d (2 ^ 64 - 1))

pub rose_before : (a b d : ℕ) → a ≤ b → Rose b d → Rose a d
rose_before a b d least (inl more) = inl (omega arith)
rose_before a b d least (inr is) = inr is

pub fails_beyond : (a b d : Server) → a.net.faults ≤ b.net.faults → RisesBeyond 0 0 a b → b.net.faults ≤ d.net.faults → FailsBeyondLinks b d → FailsBeyondLinks a d
fails_beyond a b d x links y f = record { rose = rose_before a.net.faults b.net.faults d.net.faults x f.rose; beyond = links_both 0 0 1 0 a b d links f.beyond y }

pub fails_then : (end : Turned) (a b d : Server) → a.net.faults ≤ b.net.faults → RisesBeyond 0 0 a b → b.net.faults ≤ d.net.faults → FailsAs end b d → FailsAs end a d
fails_then turned.Turn a b d x links y f = tt {0}
fails_then turned.Stop a b d x links y f = tt {0}
fails_then turned.Failed a b d x links y f = fails_beyond a b d x links y f

-- it failed where the net said so last
pub fails_ended : (end : Turned) (h : HubState) (a b : NetState) (t : Option (List NoteValue)) (d : Server) → Nexts (ending end) a b → Onward 1 0 (server h b t) d → FailsAs end (server h a t) d
fails_ended turned.Turn h a b t d n x = tt {0}
fails_ended turned.Stop h a b t d n x = tt {0}
fails_ended turned.Failed h a b t d n x = record {
  rose = rose_after a.faults b.faults d.net.faults n.faults x.faults;
  beyond = links_both 1 0 0 0 (server h a t) (server h b t) d (links_rose h a b t n.faults) x.links x.faults;
}

-- ---- turn after turn

one_between : (x : NetEvent) → is_between x ≡ true → is_rest x ≡ false
one_between (event.Accept c) e = refl
one_between (event.Readable c) e = refl
one_between (event.Writable c) e = refl
one_between event.Tick e = refl
one_between event.Turn e = clash false refl e
one_between event.Stop e = clash false refl e
one_between event.Failed e = clash false refl e

pub none_rest : (xs : List NetEvent) → list_all is_between xs ≡ true → list_any is_rest xs ≡ false
none_rest [] e = refl
none_rest (x ∷ xs) e =
    ap (λ (z : Bool). z || list_any is_rest xs) (one_between x (and_left (is_between x) (list_all is_between xs) e)) ∙ none_rest xs (and_right (is_between x) (list_all is_between xs) e)

one_goes : (x : NetEvent) → is_between x ≡ true → goes_on x ≡ true
one_goes (event.Accept c) e = refl
one_goes (event.Readable c) e = e
one_goes (event.Writable c) e = e
one_goes event.Tick e = refl
one_goes event.Turn e = refl
one_goes event.Stop e = e
one_goes event.Failed e = e

all_go : (xs : List NetEvent) → list_all is_between xs ≡ true → list_all goes_on xs ≡ true
all_go [] e = refl
all_go (x ∷ xs) e =
    ap (λ (z : Bool). z && list_all goes_on xs) (one_goes x (and_left (is_between x) (list_all is_between xs) e)) ∙ all_go xs (and_right (is_between x) (list_all is_between xs) e)

-- turns, and then answers that end none
turns_between : (count : ℕ) (xs ys : List NetEvent) → AreTurns count xs → list_all is_between ys ≡ true → AreTurns count (xs ++ ys)
turns_between count xs ys are p =
    let none = number_none is_rest ys (none_rest ys p) in
    let both = number_then is_rest xs ys in
    let counted = are.1 in
    (list_all-append goes_on xs ys ∙ ap (λ (z : Bool). z && list_all goes_on ys) are.0 ∙ all_go ys p, omega arith)

-- and then Turn
turns_turn : (count : ℕ) (xs : List NetEvent) → AreTurns count xs → AreTurns (count + 1) (xs ++ event.Turn ∷ [])
turns_turn count xs are =
    let both = number_then is_rest xs (event.Turn ∷ []) in
    let counted = are.1 in
    let one : number_of is_rest (event.Turn ∷ []) ≡ 1 = refl in
    (list_all-append goes_on xs (event.Turn ∷ []) ∙ ap (λ (z : Bool). z && true) are.0, omega arith)

pub turns_none : (a : NetState) → PassesTurns 0 [] a a
turns_none a = record { tells = refl; told = λ _. ([], (refl, refl), grows_none a.passed); faults = omega arith }

-- turns, and then one that ended in some way
pub turns_last : (count : ℕ) (end : Turned) (a b d : NetState) → PassesTurns count [] a b → PassesTurn end b d → PassesTurns count (ending end ∷ []) a d
turns_last count end a b d x y = passes_join (AreTurns count) AreBetween (AreTurns count) (ending end ∷ []) a b d (turns_between count) x y

-- and with Turn, it is one more
pub turns_more : (count : ℕ) (a b d : NetState) → PassesTurns count [] a b → PassesTurn turned.Turn b d → PassesTurns (count + 1) [] a d
turns_more count a b d x y =
    let z = turns_last count turned.Turn a b d x y in
    record {
      tells = z.tells;
      told = λ t.
          let u = z.told t in
          (u.0 ++ event.Turn ∷ [], turns_turn count u.0 u.1, subst (λ (z : List NetEvent). GrowsBy z a.passed d.passed) (sym (append-nil (u.0 ++ event.Turn ∷ []))) u.2);
      faults = z.faults;
    }

pub turns_stop : (count : ℕ) (a b d : NetState) → PassesTurns count [] a b → PassesTurn turned.Stop b d → PassesTurns (count + 1 - 1) (event.Stop ∷ []) a d
turns_stop count a b d x y = let e : count ≡ count + 1 - 1 = omega arith in subst (λ (z : ℕ). PassesTurns z (event.Stop ∷ []) a d) e (turns_last count turned.Stop a b d x y)

-- ---- before the first turn

new_away : (entries : List Entry) (c : ℕ) → entries ≡ [] → (has_entry entries c ≡ false) × (not (is_gone (entry_of entries c).phase) ≡ false)
new_away [] c e = (refl, refl)
new_away (first ∷ rest) c e = cc

new_unread : (h : HubState) (c : ℕ) → h.entries ≡ [] → is_reading (phase_at h c) ≡ false
new_unread h c e = ap (λ (z : List Entry). is_reading (cond (has_entry z c) (Some (entry_of z c).phase) None)) e

-- a hub and intakes without connections are ready
pub ready_new : (intakes : Intakes) (h : HubState) (net : NetState) (t : Option (List NoteValue)) → h.config.max_message ≡ max_of intakes → h.entries ≡ [] → h.named ≡ 0 → Settled h
    → ((c : ℕ) → intake_at intakes c ≡ None) → Ready intakes (server h net t)
ready_new intakes h net t max entries named settled none = record {
  max = max;
  entries = λ c. (new_away h.entries c entries).0 ∙ sym (ap is_some (none c));
  ties = λ c there. clash (is_present h c) (new_away h.entries c entries).1 there;
  named = omega arith;
  settled = settled;
  short = λ c there. clash (is_present h c) (new_away h.entries c entries).1 there;
  waits = λ c there. clash (is_present h c) (new_away h.entries c entries).1 there;
  asked = λ c r. clash (is_reading (phase_at h c)) (new_unread h c entries) r;
  readers = λ c intake at. absurd (no_intake (intake_at intakes c) intake (none c) at);
  taken = λ c intake at. absurd (no_intake (intake_at intakes c) intake (none c) at);
}
  where
    no_intake : (x : Option Intake) (y : Intake) → x ≡ None → x ≡ Some y → ⊥
    no_intake x y e h = clash (is_some x) (ap is_some e) (ap is_some h)
