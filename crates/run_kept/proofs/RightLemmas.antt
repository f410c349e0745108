-- What is kept after a turn is what the relation of a run asks for.
use Rattle.run_kept.proofs.Below.{◌≡◌, ◌≢◌, ◌<◌, ◌^◌, ◌-◌, inl, inr, ◌⊎◌, ℕ, List, [], ◌∷◌, ◌++◌, Option, Some, None, Bool, true, false, cond, not, ◌&&◌, length, refl, sym, ap, ◌∙◌, subst, Phase, Head, Open, Leaving, Ending, Gone, ConfigValue, NoteValue, RouteTable, closes, is_accepted, is_gone_phase, phase, plain, world, heard, last_frame, Lived, Carries, Carried, all_spelled, LeftAtEnd, is_reading, is_ending, Sound, Right, Server, has_entry, entry_at, is_present, phase_at, ring_at, held_at, held_octets, Settled, Ties, settled_held, RingsWait, unless_gone, due_at, by_cases, clash, away_by_phase, there_by_phase, away_by_gone, rests_of, agrees_due, agrees_told, agrees_untold, agrees_hub_phase, ReaderView, HearsAll, agrees_carried, agrees_phase, accepted_known, unaccepted_phase, head_waits, frames_end, lived_of_all, lived_of_front, AreThere, backlog_at, AreRead, IntakeView, HearsAt, RestsAt, Kept, Fair, Timely, ToldRight, AreTold, accepted_more, agrees_fair}
use Rattle.ws_kinds.specs.NoteValue as note
use Rattle.run_meaning.specs.Server as run
use Rattle.run_meaning.specs.Kept as meaning
use Rattle.run_meaning.specs.Settled as meant
use Rattle.hub_lines.specs.State.{is_gone}
use Rattle.run_kept.proofs.PassingLemmas.{none_reads}
use Rattle.run_kept.proofs.ReadLemmas.{reading_shown}

-- ---- bits

both_ways : (a b : Bool) → (a ≡ true → b ≡ true) → (b ≡ true → a ≡ true) → a ≡ b
both_ways true b to from = sym (to refl)
both_ways false true to from = from refl
both_ways false false to from = refl

ending_is : (p : Option Phase) → is_ending p ≡ true → p ≡ Some Ending
ending_is None e = clash false refl e
ending_is (Some Head) e = clash false refl e
ending_is (Some Open) e = clash false refl e
ending_is (Some Leaving) e = clash false refl e
ending_is (Some Ending) e = refl
ending_is (Some Gone) e = clash false refl e

ending_away : (p : Phase) (has : Bool) → not (is_gone p) ≡ false → cond has (Some p) None ≡ Some Ending → ⊥
ending_away Head has away e = clash true away refl
ending_away Open has away e = clash true away refl
ending_away Leaving has away e = clash true away refl
ending_away Ending has away e = clash true away refl
ending_away Gone true away e = let z : Some Gone ≡ Some Ending = e in cc
ending_away Gone false away e = let z : None ≡ Some Ending = e in cc

module _ {S : Type 0} (r : run.Server S) (f : ConfigValue) (t : RouteTable) (ns : List NoteValue) (s : Server) (now : S) (is : ℕ → IntakeView) (k : Kept r f t ns s now is None) where
  -- ---- the relation of a run

  life_of : (c : ℕ) (p : Option Phase) (octets : List ℕ) (d : ReaderView) → phase r ns c ≡ p → HearsAt t f.max_message p (last_frame r ns c) (heard c ns) octets d → RestsAt t p octets d → p ≢ None → Lived r t f.max_message ns c octets
  life_of c None octets d e x y known = absurd (known refl)
  life_of c (Some Head) octets d e x y known =
      lived_of_all r t f.max_message ns c octets (subst (λ (z : Option ℕ). HearsAll t f.max_message z (heard c ns) octets) (sym x.0) (head_waits t f.max_message (heard c ns) octets d x.1 y))
  life_of c (Some Open) octets d e x y known =
      lived_of_all r t f.max_message ns c octets (subst (λ (z : Option ℕ). HearsAll t f.max_message z (heard c ns) octets) (sym x.0) (frames_end t f.max_message None (heard c ns) octets d x.1 y))
  life_of c (Some Leaving) octets d e x y known =
      lived_of_all r t f.max_message ns c octets (subst (λ (z : Option ℕ). HearsAll t f.max_message z (heard c ns) octets) (sym x.1) (frames_end t f.max_message (Some x.0) (heard c ns) octets d x.2 y))
  life_of c (Some Ending) octets d e x y known = lived_of_all r t f.max_message ns c octets x
  life_of c (Some Gone) octets d e x y known = lived_of_front r t f.max_message ns c octets x (ap is_gone_phase e)

  pub kept_lived : (c : ℕ) → is_accepted c ns ≡ true → Lived r t f.max_message ns c (s.net.given c)
  kept_lived c there = life_of c (phase r ns c) (s.net.given c) (is c).reader refl (k.hears c) (k.rests c (none_reads c)) (accepted_known r c ns there)

  -- who is there is who was accepted and is not gone
  pub there_is : (c : ℕ) → is_present s.hub c ≡ (is_accepted c ns && not (is_gone_phase (phase r ns c)))
  there_is c =
      let p = phase r ns c in
      let shown = (rests_of c ((world r ns).line c) ns s (k.agrees.lines c)).shown in
      by_cases (is_accepted c ns)
      (λ was. by_cases (is_gone_phase p)
      (λ gone. away_by_gone s.hub c p shown gone ∙ sym (ap (λ (z : Bool). z && not (is_gone_phase p)) was ∙ ap not gone))
      (λ stays. there_by_phase s.hub c p shown (accepted_known r c ns was) stays ∙ sym (ap (λ (z : Bool). z && not (is_gone_phase p)) was ∙ ap not stays)))
      (λ new. away_by_phase s.hub c (shown ∙ ap unless_gone (unaccepted_phase r c ns new)) ∙ sym (ap (λ (z : Bool). z && not (is_gone_phase p)) new))

  -- where a connection is there, this is what its ring holds
  abbrev IsHeld : (ℕ → List ℕ) → Type 0
  IsHeld held = (c : ℕ) → is_present s.hub c ≡ true → held c ≡ ring_at s.hub c

  carries_any : (gone : Bool) (took held other octets : List ℕ) → gone ≡ true → Carries gone took held octets → Carries gone took other octets
  carries_any true took held other octets e x = x
  carries_any false took held other octets e x = clash false refl e

  gone_if_away : (was gone : Bool) → (was && not gone) ≡ false → was ≡ true → gone ≡ true
  gone_if_away true true e h = refl
  gone_if_away true false e h = clash true e refl
  gone_if_away false gone e h = clash false refl h

  carried_by : (held : ℕ → List ℕ) → IsHeld held → Settled s.hub → (c : ℕ) → length (plain r ns c) < 2 ^ 64 - 1 → is_accepted c ns ≡ true → Carried r ns c (s.net.taken c) (held c)
  carried_by held is_held settled c few there =
      let carried = agrees_carried r ns s k.agrees settled c few there in
      by_cases (is_present s.hub c)
      (λ present. subst (λ (z : List ℕ). Carried r ns c (s.net.taken c) z) (sym (is_held c present)) carried)
      (λ away. carries_any (is_gone_phase (phase r ns c)) (s.net.taken c) (ring_at s.hub c) (held c) (all_spelled (meaning.kept r ns c))
      (gone_if_away (is_accepted c ns) (is_gone_phase (phase r ns c)) (sym (there_is c) ∙ away) there) carried)

  -- each drop was fair, since only who was accepted is named
  fair_there : ((c : ℕ) → length (plain r ns c) < 2 ^ 64 - 1) → ((before rest : List NoteValue) (n : NoteValue) → ns ≡ before ++ n ∷ rest → Sound r f before n) → Fair r f ns
  fair_there few sound before rest c i h e =
      let n = note.dropped c i h in
      let was : is_accepted c before ≡ true = by_cases (is_accepted c before) (λ y. y) (λ no. clash false refl ((sound before rest n e).named c refl no)) in
      let there : is_accepted c ns ≡ true = subst (λ (z : List NoteValue). is_accepted c z ≡ true) (sym e) (accepted_more c before (n ∷ rest) was) in
      agrees_fair r f ns s k.agrees k.configured before rest c i h e (accepted_known r c ns there) (few c)

  right_by : (held : ℕ → List ℕ) → IsHeld held → Settled s.hub → ((c : ℕ) → length (plain r ns c) < 2 ^ 64 - 1)
      → ((before rest : List NoteValue) (n : NoteValue) → ns ≡ before ++ n ∷ rest → Sound r f before n) → ToldRight r ns → Timely r f ns → Right r f t ns s.net now held
  right_by held is_held settled few sound told timely = record {
    ordered = k.ordered;
    follows = k.follows;
    lived = kept_lived;
    carried = λ c there. carried_by held is_held settled c (few c) there;
    state = k.state;
    fair = fair_there few sound;
    told = told;
    timely = timely;
    sound = sound;
  }

  backlog_is : IsHeld (backlog_at s.hub)
  backlog_is c present = ap (λ (z : Bool). cond z (ring_at s.hub c) []) present

  pub kept_right_there : Settled s.hub → ((c : ℕ) → length (plain r ns c) < 2 ^ 64 - 1) → ((before rest : List NoteValue) (n : NoteValue) → ns ≡ before ++ n ∷ rest → Sound r f before n)
      → ToldRight r ns → Timely r f ns → Right r f t ns s.net now (backlog_at s.hub)
  kept_right_there settled few sound told timely = right_by (backlog_at s.hub) backlog_is settled few sound told timely

  -- ---- what holds after a turn

  reading_is : (c : ℕ) → is_reading (phase_at s.hub c) ≡ is_reading (phase r ns c)
  reading_is c = sym (reading_shown (phase_at s.hub c)) ∙ ap is_reading (agrees_phase (world r ns) ns s k.agrees c) ∙ reading_shown (phase r ns c)

  told_or_left : (c : ℕ) (cause : ℕ × List ℕ) (due : Option (ℕ × List ℕ)) → due_at s.hub c ≡ due → ((other : ℕ × List ℕ) → due ≡ Some other → LeftAtEnd r c ns) → ((world r ns).line c).left_open ≡ Some cause
      → (closes c ns ≡ cause ∷ []) ⊎ ((closes c ns ≡ []) × LeftAtEnd r c ns)
  told_or_left c cause None e left left_it = inl (agrees_told (world r ns) ns s k.agrees c cause e left_it)
  told_or_left c cause (Some other) e left left_it = inr ((agrees_due (world r ns) ns s k.agrees c other e).1, left other refl)

  ending_there : (c : ℕ) → phase_at s.hub c ≡ Some Ending → is_present s.hub c ≡ true
  ending_there c e = by_cases (is_present s.hub c) (λ t. t)
      (λ away. absurd (ending_away (entry_at s.hub c).phase (has_entry s.hub.entries c) away e))

  -- in the last turn the handler was told of each that had something to tell
  abbrev IsToldNow : Type 0
  IsToldNow = (before made : List NoteValue) → ns ≡ before ++ made → meant.IsTurn before made → AreTold r before made

  settled_by : (held : ℕ → List ℕ) → IsHeld held → ((c : ℕ) → held c ≢ [] → is_present s.hub c ≡ true) → Settled s.hub → s.net.rested ≡ true → RingsWait s → AreRead None s
      → ((c : ℕ) → phase_at s.hub c ≡ Some Ending → held_octets (held_at s.hub c) ≢ []) → ((c : ℕ) (cause : ℕ × List ℕ) → due_at s.hub c ≡ Some cause → LeftAtEnd r c ns)
      → Ties s → AreThere s → IsToldNow → meant.Settled r ns s.net (record { pending = 0; gathered = []; backlog = held })
  settled_by held is_held present settled rested waits asked ending due ties there told = record {
    rested = rested;
    drained = refl;
    flushed = refl;
    waits = λ c holds. waits c (present c holds) (λ none. holds (is_held c (present c holds) ∙ none));
    asked = λ c reads. asked c (none_reads c) (reading_is c ∙ reads);
    ending = λ c ends none.
        let by_hub : phase_at s.hub c ≡ Some Ending = agrees_hub_phase (world r ns) ns s k.agrees c Ending refl (ending_is (phase r ns c) ends) in
        ending c by_hub (settled_held s.hub c settled ∙ sym (is_held c (ending_there c by_hub)) ∙ none);
    closed = λ c code reason left_it. told_or_left c (code, reason) (due_at s.hub c) refl (due c) left_it;
    only_those = λ c left_it. agrees_untold (world r ns) ns s k.agrees c left_it;
    live = λ c. both_ways (s.net.live c) (is_present s.hub c) (there c) (ties c) ∙ there_is c;
    told = told;
  }

  backlog_there : (c : ℕ) → backlog_at s.hub c ≢ [] → is_present s.hub c ≡ true
  backlog_there c holds = by_cases (is_present s.hub c) (λ t. t) (λ away. absurd (holds (ap (λ (z : Bool). cond z (ring_at s.hub c) []) away)))

  -- with what is held for those who are there
  pub kept_settled_there : Settled s.hub → s.net.rested ≡ true → RingsWait s → AreRead None s
      → ((c : ℕ) → phase_at s.hub c ≡ Some Ending → held_octets (held_at s.hub c) ≢ []) → ((c : ℕ) (cause : ℕ × List ℕ) → due_at s.hub c ≡ Some cause → LeftAtEnd r c ns)
      → Ties s → AreThere s → IsToldNow → meant.Settled r ns s.net (record { pending = 0; gathered = []; backlog = backlog_at s.hub })
  kept_settled_there settled rested waits asked ending due ties there told = settled_by (backlog_at s.hub) backlog_is backlog_there settled rested waits asked ending due ties there told
