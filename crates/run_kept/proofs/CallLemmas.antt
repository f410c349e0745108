-- The notes of the calls of a hub are sound.
use Rattle.run_kept.proofs.Below.{◌≡◌, ◌<◌, ◌≤◌, ℕ, List, [], ◌∷◌, ◌++◌, Option, Some, None, is_some, Bool, true, false, cond, nat_eq, ◌||◌, length, refl, sym, ap, ◌∙◌, subst, append-nil, append_assoc, arith, nat_tests, list_all, list_any, Phase, Head, Open, Leaving, Ending, Gone, ConfigValue, NoteValue, OrderValue, conn_of, is_of, is_some_of, is_acceptance, is_unserved, gather, has_number, accepted_by, is_accepted, is_gone_in, closes, world, unless_gone, is_reading, Sound, NoneDue, entries, may_follow_gone, accepted_more, sound_one, HubState, Server, has_entry, entry_at, phase_at, Progress, progress_at, progress_after, progress_after_all, may_come, may_all_come, progress_obeys, progress_by_steps, may_step, may_all_step, standings_at, due_at, Advances, Proceeds, by_cases, clash, and_left, and_right, itself, Agrees, told_is, agrees_due, agrees_told, unlike_more, new_above, agrees_entries, AreUnlike, IsTable, table_of, gather-append, Arrival, Taken, Busy, Memory, Arrives, Ticks, ServesAll, by_note, by_order, notes_of, Step, orders_notes, unaccepted_left, all_then, IsHere, Shows, AreSound, arrival_note, is_inner, is_refusal_of}
use Rattle.ws_kinds.specs.NoteValue as note
use Rattle.run_meaning.specs.Server as run
use Rattle.hub_lines.specs.State as hub
use Rattle.run_kept.proofs.KnownLemmas.{gone_accepted, here_by, here_note, here_notes, here_order, shows_sound, shows_call, shows_one, shows_told}
use Rattle.run_kept.proofs.PassingLemmas.{same_numbers}
use Rattle.run_kept.proofs.ReadingCalls.{no_numbers}
use Rattle.run_kept.proofs.TickLemmas.{tick_advances, tick_inner}
use Rattle.run_kept.proofs.PlaceLemmas.{outgoing_one, outgoing_inner, inner_unaccepted, all_front, all_back, some_comes, own_of, comes_there, sound_more, sound_inner, sound_told, sound_arrival, sound_given, sound_tick}

-- who is named at a place of the notes of a call is there
pub here_there : (made ns xs ys : List NoteValue) (n : NoteValue) (a b : Server) (c : ℕ) → Shows ns a → Advances made a b → made ≡ xs ++ n ∷ ys → is_accepted c xs ≡ false
    → conn_of n ≡ Some c → ((p : Option Phase) → may_come p n ≡ true → is_some p ≡ true) → (is_accepted c (ns ++ xs) ≡ true) × (is_gone_in c (ns ++ xs) ≡ false)
here_there made ns xs ys n a b c shows adv e new own some =
    let q = progress_at a.hub c in
    let may : may_all_come c (xs ++ n ∷ ys) q ≡ true = ap (λ (z : List NoteValue). may_all_come c z q) (sym e) ∙ adv.may_come c in
    let there = some (progress_after_all c xs q).phase (comes_there c xs ys n q (own_of n c own) may) in
    let here = here_notes c xs q ns new (shows c) in
    (here.accepted there, here.stays there)

shown_phase : (h : HubState) (c : ℕ) (p : Phase) → hub.is_gone p ≡ false → phase_at h c ≡ Some p → is_some (progress_at h c).phase ≡ true
shown_phase h c p stays at = by_cases (has_entry h.entries c)
    (λ has.
    let z : Some (entry_at h c).phase ≡ Some p = sym (ap (λ (z : Bool). cond z (Some (entry_at h c).phase) None) has) ∙ at in
    ap (λ (z : Option Phase). is_some (unless_gone z)) z ∙ one p stays)
    (λ none. absurd (let z : None ≡ Some p = sym (ap (λ (z : Bool). cond z (Some (entry_at h c).phase) None) none) ∙ at in cc))
  where
    one : (p : Phase) → hub.is_gone p ≡ false → is_some (unless_gone (Some p)) ≡ true
    one Head e = refl
    one Open e = refl
    one Leaving e = refl
    one Ending e = refl
    one Gone e = clash true e refl

reads_some : (p : Option Phase) → is_reading p ≡ true → (q : Phase) × (hub.is_gone q ≡ false) × (p ≡ Some q)
reads_some None e = clash false refl e
reads_some (Some Head) e = (Head, refl, refl)
reads_some (Some Open) e = (Open, refl, refl)
reads_some (Some Leaving) e = (Leaving, refl, refl)
reads_some (Some Ending) e = clash false refl e
reads_some (Some Gone) e = clash false refl e

-- ---- the numbers of those who were accepted

pub unlike_still : (ns made : List NoteValue) → list_any is_acceptance made ≡ false → AreUnlike (gather accepted_by ns) → AreUnlike (gather accepted_by (ns ++ made))
unlike_still ns made e unlike = same_numbers ns made (no_numbers made e) unlike

pub unlike_arrival : (arrival : Arrival) (ns : List NoteValue) (c : ℕ) → is_accepted c ns ≡ false → AreUnlike (gather accepted_by ns) → AreUnlike (gather accepted_by (ns ++ arrival_note arrival c ∷ []))
unlike_arrival Taken ns c new unlike = subst AreUnlike (sym (gather-append accepted_by ns (note.accepted c ∷ []))) (unlike_more (gather accepted_by ns) c unlike new)
unlike_arrival Busy ns c new unlike = unlike_still ns (note.busy c ∷ []) refl unlike
unlike_arrival Memory ns c new unlike = unlike_still ns (note.no_room c ∷ []) refl unlike

-- where no Closed event is due, the handler was told of each connection that left Open
pub none_due : {S : Type 0} (r : run.Server S) (ns : List NoteValue) (s : Server) → Agrees (world r ns) ns s → ((c : ℕ) → due_at s.hub c ≡ None) → NoneDue r ns
none_due r ns s x none c code reason left told = absurd (let e : (code, reason) ∷ [] ≡ [] = sym (agrees_told (world r ns) ns s x c (code, reason) (none c) left) ∙ told in cc)

module _ {S : Type 0} (r : run.Server S) (f : ConfigValue) where
  -- at each place of the notes of a call such a note is sound
  pub inner_there : (made ns xs ys : List NoteValue) (n : NoteValue) (a b : Server) → Shows ns a → Advances made a b → made ≡ xs ++ n ∷ ys → ((c : ℕ) → is_accepted c xs ≡ false) → is_inner n ≡ true → Sound r f (ns ++ xs) n
  inner_there made ns xs ys n a b shows adv e new inner =
      sound_inner r f (ns ++ xs) n inner
      (λ c own. here_there made ns xs ys n a b c shows adv e (new c) own (λ p h. some_comes p n c own inner h))

  pub sound_call : (made ns : List NoteValue) (a b : Server) → Shows ns a → Advances made a b → list_all is_inner made ≡ true → AreSound r f ns → AreSound r f (ns ++ made) × Shows (ns ++ made) b
  sound_call made ns a b shows adv inner sound = (
    sound_more r f ns made
        (λ xs ys n e.
        let all : list_all is_inner (xs ++ n ∷ ys) ≡ true = ap (list_all is_inner) (sym e) ∙ inner in
        inner_there made ns xs ys n a b shows adv e (λ c. inner_unaccepted xs c (all_front is_inner xs (n ∷ ys) all)) (and_left (is_inner n) (list_all is_inner ys) (all_back is_inner xs (n ∷ ys) all)))
        sound,
    shows_call made ns a b (λ c. inner_unaccepted made c inner) adv shows,
  )

  pub sound_proceed : (first last ns : List NoteValue) (a b : Server) (x : Proceeds first last a b) → Shows ns a → list_all is_inner first ≡ true → list_all is_inner last ≡ true → AreSound r f ns
      → AreSound r f (ns ++ (first ++ (x.sending ++ last))) × Shows (ns ++ (first ++ (x.sending ++ last))) b
  sound_proceed first last ns a b x shows before after sound =
      sound_call (first ++ (x.sending ++ last)) ns a b shows x.advances
      (all_then is_inner first (x.sending ++ last) before (all_then is_inner x.sending last (outgoing_inner x.sending x.outgoing) after)) sound

  -- of a connection that the hub shows
  pub sound_shown : (ns : List NoteValue) (n : NoteValue) (c : ℕ) (p : Phase) (s : Server) → Shows ns s → conn_of n ≡ Some c → hub.is_gone p ≡ false → phase_at s.hub c ≡ Some p → is_inner n ≡ true → Sound r f ns n
  sound_shown ns n c p s shows own stays at inner =
      let there = shown_phase s.hub c p stays at in
      sound_inner r f ns n inner (λ d other.
      let e : c ≡ d = cc in
      subst (λ (z : ℕ). (is_accepted z ns ≡ true) × (is_gone_in z ns ≡ false)) e ((shows c).accepted there, (shows c).stays there))

  -- octets came of a connection that is read, or time went by
  pub sound_octets : (ns : List NoteValue) (c count : ℕ) (s : Server) → Agrees (world r ns) ns s → ((d : ℕ) → due_at s.hub d ≡ None) → is_reading (phase_at s.hub c) ≡ true → 1 ≤ count → AreSound r f ns → AreSound r f (ns ++ note.given c count ∷ [])
  sound_octets ns c count s agrees none reads some sound =
      let p = reads_some (phase_at s.hub c) reads in
      let there = shown_phase s.hub c p.0 p.1 p.2 in
      let here = shows_sound r f ns s sound agrees c in
      sound_one r f ns (note.given c count) (sound_given r f ns c count some (here.accepted there) (here.stays there) (none_due r ns s agrees none)) sound

  pub sound_time : (ns : List NoteValue) (a b : Server) (x : Ticks a b) → Agrees (world r ns) ns a → ((d : ℕ) → due_at a.hub d ≡ None) → AreSound r f ns → AreSound r f (ns ++ note.tick ∷ x.rest) × Shows (ns ++ note.tick ∷ x.rest) b
  sound_time ns a b x agrees none sound =
      let adv = tick_advances a b x in
      let shows = shows_sound r f ns a sound agrees in
      let inner = tick_inner x.rest x.of_tick in
      (sound_more r f ns (note.tick ∷ x.rest) (at shows adv inner) sound, shows_call (note.tick ∷ x.rest) ns a b (λ c. inner_unaccepted x.rest c inner) adv shows)
    where
      at : Shows ns a → Advances (note.tick ∷ x.rest) a b → list_all is_inner x.rest ≡ true → (xs ys : List NoteValue) (n : NoteValue) → note.tick ∷ x.rest ≡ xs ++ n ∷ ys → Sound r f (ns ++ xs) n
      at shows adv inner [] ys n e =
          let h : note.tick ≡ n = cc in
          subst (λ (z : NoteValue). Sound r f (ns ++ []) z) h (subst (λ (z : List NoteValue). Sound r f z note.tick) (sym (append-nil ns)) (sound_tick r f ns (none_due r ns a agrees none)))
      at shows adv inner (m ∷ xs) ys n e =
          let h : note.tick ≡ m = cc in
          let g : x.rest ≡ xs ++ n ∷ ys = cc in
          let all : list_all is_inner (xs ++ n ∷ ys) ≡ true = ap (list_all is_inner) (sym g) ∙ inner in
          subst (λ (z : NoteValue). Sound r f (ns ++ z ∷ xs) n) h
          (inner_there (note.tick ∷ x.rest) ns (note.tick ∷ xs) ys n a b shows adv (ap (λ (z : List NoteValue). note.tick ∷ z) g) (λ c. inner_unaccepted xs c (all_front is_inner xs (n ∷ ys) all))
          (and_left (is_inner n) (list_all is_inner ys) (all_back is_inner xs (n ∷ ys) all)))

  -- ---- arrivals

  fewer_apart : (e l m k : ℕ) → e ≡ l → l < m → m ≡ k → false ≡ nat_eq e k
  fewer_apart e l m k h g i = grind (arith, nat_tests)

  as_many : (e l m k : ℕ) → e ≡ l → l ≡ m → m ≡ k → true ≡ nat_eq e k
  as_many e l m k h g i = grind (arith, nat_tests)

  arrives_one : (n : NoteValue) (ns : List NoteValue) (c : ℕ) (a b : Server) → Sound r f ns n → AreSound r f ns → conn_of n ≡ Some c → ((d : ℕ) → has_number d (accepted_by n) ≡ true → d ≡ c) → is_gone_in c ns ≡ false → Advances (n ∷ []) a b → Shows ns a
      → AreSound r f (ns ++ n ∷ []) × Shows (ns ++ n ∷ []) b
  arrives_one n ns c a b this sound own accepts new adv shows = (
    sound_one r f ns n this sound,
    shows_one n ns a b (λ d e. ap (λ (z : ℕ). is_gone_in z ns) (accepts d e) ∙ new) adv shows,
  )

  sound_arrives : (arrival : Arrival) (ns : List NoteValue) (c : ℕ) (a b : Server) → NoneDue r ns → entries r ns ≡ length a.hub.entries → a.hub.config ≡ f → is_accepted c ns ≡ false → Arrives arrival c a b → Shows ns a → AreSound r f ns
      → AreSound r f (ns ++ arrival_note arrival c ∷ []) × Shows (ns ++ arrival_note arrival c ∷ []) b
  sound_arrives Taken ns c a b told many same new comes shows sound =
      let none = gone_accepted r f ns sound c new in
      let one = sound_arrival r f ns (note.accepted c) refl (fewer_apart (entries r ns) (length a.hub.entries) a.hub.config.max_conns f.max_conns many comes.0 (ap (λ (z : ConfigValue). z.max_conns) same))
      (λ d own. let e : c ≡ d = cc in ap (λ (z : ℕ). is_gone_in z ns) (sym e) ∙ none) told in
      arrives_one (note.accepted c) ns c a b one sound refl (λ d e. let h : (nat_eq d c || false) ≡ true = e in grind (arith, nat_tests)) none comes.3.advances shows
  sound_arrives Busy ns c a b told many same new comes shows sound =
      let none = gone_accepted r f ns sound c new in
      let one = sound_arrival r f ns (note.busy c) refl (as_many (entries r ns) (length a.hub.entries) a.hub.config.max_conns f.max_conns many comes.0 (ap (λ (z : ConfigValue). z.max_conns) same))
      (λ d own. let e : c ≡ d = cc in ap (λ (z : ℕ). is_gone_in z ns) (sym e) ∙ none) told in
      arrives_one (note.busy c) ns c a b one sound refl (λ d e. clash false refl e) none comes.2.advances shows
  sound_arrives Memory ns c a b told many same new comes shows sound =
      let none = gone_accepted r f ns sound c new in
      let one = sound_arrival r f ns (note.no_room c) refl (fewer_apart (entries r ns) (length a.hub.entries) a.hub.config.max_conns f.max_conns many comes.0 (ap (λ (z : ConfigValue). z.max_conns) same))
      (λ d own. let e : c ≡ d = cc in ap (λ (z : ℕ). is_gone_in z ns) (sym e) ∙ none) told in
      arrives_one (note.no_room c) ns c a b one sound refl (λ d e. clash false refl e) none comes.2.advances shows

  -- the same, by the hub's table
  pub sound_comes : (arrival : Arrival) (ns : List NoteValue) (c : ℕ) (a b : Server) → Agrees (world r ns) ns a → ((d : ℕ) → due_at a.hub d ≡ None) → IsTable (table_of a.hub) → AreUnlike (gather accepted_by ns) → a.hub.config ≡ f → a.hub.named < c → Arrives arrival c a b
      → AreSound r f ns
      → AreSound r f (ns ++ arrival_note arrival c ∷ []) × Shows (ns ++ arrival_note arrival c ∷ []) b × AreUnlike (gather accepted_by (ns ++ arrival_note arrival c ∷ []))
  sound_comes arrival ns c a b agrees none table unlike same above comes sound =
      let new = new_above r ns a agrees c above in
      let both = sound_arrives arrival ns c a b (none_due r ns a agrees none) (agrees_entries r ns a agrees table.rising table.kept unlike) same new comes (shows_sound r f ns a sound agrees) sound in
      (both.0, both.1, unlike_arrival arrival ns c new unlike)

module _ {S : Type 0} (r : run.Server S) where
  -- whose end is to be told was accepted
  pub due_accepted : (ns : List NoteValue) (s : Server) → Agrees (world r ns) ns s → (c : ℕ) (cause : ℕ × List ℕ) → due_at s.hub c ≡ Some cause → is_accepted c ns ≡ true
  due_accepted ns s x c cause due = by_cases (is_accepted c ns)
      (λ was. was)
      (λ new. absurd (let z : None ≡ Some cause = sym (unaccepted_left r c ns new) ∙ (agrees_due (world r ns) ns s x c cause due).0 in cc))

cause_is : (left_open : Option (ℕ × List ℕ)) (code k : ℕ) (reason text : List ℕ) → left_open ≡ Some (code, reason) → code ≡ k → reason ≡ text → left_open ≡ Some (k, text)
cause_is left_open code k reason text e h i = e ∙ ap (λ (z : ℕ). Some (z, reason)) h ∙ ap (λ (z : List ℕ). Some (k, z)) i

module _ {S : Type 0} (r : run.Server S) (f : ConfigValue) where
  pub sound_closed : (ns : List NoteValue) (c code : ℕ) (reason : List ℕ) (a b : Server) → Agrees (world r ns) ns a → due_at a.hub c ≡ Some (code, reason) → ((d : ℕ) → (progress_at b.hub d).phase ≡ (progress_at a.hub d).phase) → AreSound r f ns
      → AreSound r f (ns ++ note.closed c code reason ∷ []) × Shows (ns ++ note.closed c code reason ∷ []) b
  sound_closed ns c code reason a b agrees due same sound =
      let n = note.closed c code reason in
      let left = agrees_due (world r ns) ns a agrees c (code, reason) due in
      let this = sound_told r f ns n refl (λ d own. let e : c ≡ d = cc in ap (λ (z : ℕ). is_accepted z ns) (sym e) ∙ due_accepted r ns a agrees c (code, reason) due)
      (λ d k text e.
      let g : c ≡ d = cc in
      let h : code ≡ k = cc in
      let i : reason ≡ text = cc in
      subst (λ (z : ℕ). (((world r ns).line z).left_open ≡ Some (k, text)) × (closes z ns ≡ [])) g (cause_is ((world r ns).line c).left_open code k reason text left.0 h i, left.1)) in (
        sound_one r f ns n this sound,
        shows_told ns n a b same (λ d. refl) (shows_sound r f ns a sound agrees),
      )

-- ---- orders

fit_by : (from : ℕ) (n : NoteValue) → (is_inner n || is_refusal_of from n) ≡ true → accepted_by n ≡ []
fit_by from (note.accepted c) e = clash false refl e
fit_by from _ e = refl

refusal_follows : (n : NoteValue) → is_unserved n ≡ true → may_follow_gone n ≡ true
refusal_follows (note.unserved c order why) e = refl
refusal_follows _ e = clash false refl e

named_by : (from c : ℕ) (n : NoteValue) → conn_of n ≡ Some c → is_of from n ≡ true → from ≡ c
named_by from c n own of = let e : nat_eq c from ≡ true = sym (ap (is_some_of from) own) ∙ of in grind (arith, nat_tests)

module _ {S : Type 0} (r : run.Server S) (f : ConfigValue) where
  -- steps of the orders of a connection that was accepted: what was sent, and that an order of it is not served
  sound_steps : (from : ℕ) (xs : List Step) (ns : List NoteValue) (q : ℕ → Progress) → list_all (λ (n : NoteValue). is_inner n || is_refusal_of from n) (notes_of xs) ≡ true → ((c : ℕ) → may_all_step c xs (q c) ≡ true)
      → ((c : ℕ) → IsHere (q c).phase c ns) → is_accepted from ns ≡ true → AreSound r f ns → AreSound r f (ns ++ notes_of xs) × ((c : ℕ) → IsHere (progress_by_steps c xs (q c)).phase c (ns ++ notes_of xs))
  sound_steps from [] ns q ok may here was sound =
      (subst (AreSound r f) (sym (append-nil ns)) sound, λ c. subst (λ (z : List NoteValue). IsHere (q c).phase c z) (sym (append-nil ns)) (here c))
  sound_steps from (by_note n ∷ xs) ns q ok may here was sound =
      let test : NoteValue → Bool = λ m. is_inner m || is_refusal_of from m in
      let fits = and_left (test n) (list_all test (notes_of xs)) ok in
      let comes : (c : ℕ) → cond (is_of c n) (may_come (q c).phase n) true ≡ true = λ c. and_left (may_step c (by_note n) (q c)) (may_all_step c xs (progress_after c n (q c))) (may c) in
      let this : Sound r f ns n = by_cases (is_inner n)
      (λ inner. sound_inner r f ns n inner (λ c own.
      let some = some_comes (q c).phase n c own inner (sym (ap (λ (z : Bool). cond z (may_come (q c).phase n) true) (own_of n c own)) ∙ comes c) in
      ((here c).accepted some, (here c).stays some)))
      (λ outer.
      let refused : is_refusal_of from n ≡ true = sym (ap (λ (z : Bool). z || is_refusal_of from n) outer) ∙ fits in
      let unserved = and_left (is_unserved n) (is_of from n) refused in
      sound_told r f ns n (refusal_follows n unserved)
      (λ c own. ap (λ (z : ℕ). is_accepted z ns) (sym (named_by from c n own (and_right (is_unserved n) (is_of from n) refused))) ∙ was)
      (λ c code reason e. clash false refl (sym (ap is_unserved e) ∙ unserved))) in
      let later = sound_steps from xs (ns ++ n ∷ []) (λ c. progress_after c n (q c)) (and_right (test n) (list_all test (notes_of xs)) ok)
      (λ c. and_right (may_step c (by_note n) (q c)) (may_all_step c xs (progress_after c n (q c))) (may c))
      (λ c. here_note c n (q c) ns (λ h. clash (has_number c (accepted_by n)) (ap (has_number c) (fit_by from n fits)) h) (here c)) (accepted_more from ns (n ∷ []) was) (sound_one r f ns n this sound) in
      let all : (ns ++ n ∷ []) ++ notes_of xs ≡ ns ++ n ∷ notes_of xs = append_assoc ns (n ∷ []) (notes_of xs) in
      (subst (AreSound r f) all later.0, λ c. subst (λ (z : List NoteValue). IsHere (progress_by_steps c xs (progress_after c n (q c))).phase c z) all (later.1 c))
  sound_steps from (by_order d o ∷ xs) ns q ok may here was sound =
      sound_steps from xs ns (λ c. progress_obeys d c o (q c)) ok (λ c. and_right (may_step c (by_order d o) (q c)) (may_all_step c xs (progress_obeys d c o (q c))) (may c))
      (λ c. here_order d c o (q c) ns (here c)) was sound

  pub sound_serves : (config : ConfigValue) (admits : List ℕ → Bool) (from number : ℕ) (os : List OrderValue) (ns after : List NoteValue) (a b : Server) → ServesAll config admits from number os a b → a.told ≡ Some ns → b.told ≡ Some after
      → Shows ns a → is_accepted from ns ≡ true → AreSound r f ns → AreSound r f after × Shows after b
  sound_serves config admits from number os ns after a b x old new shows was sound =
      let does = x.does (λ _. []) in
      let is : ns ++ notes_of x.steps ≡ after = let z : Some (ns ++ notes_of x.steps) ≡ Some after = sym (told_is ns (notes_of x.steps) after a.told b.told does.told old new) ∙ new in cc in
      let all = sound_steps from x.steps ns (progress_at a.hub)
      (orders_notes (λ (n : NoteValue). is_inner n || is_refusal_of from n) config admits from (λ n e. ap (λ (z : Bool). z || is_refusal_of from n) (outgoing_one n e)) (λ i y. itself from) os number x.steps (standings_at a.hub) x.performs)
      does.may_come shows was sound in (
        subst (AreSound r f) is all.0,
        λ c. here_by (progress_by_steps c x.steps (progress_at a.hub c)).phase (progress_at b.hub c).phase c after (ap (λ (z : Progress). z.phase) (does.progress c))
            (subst (λ (z : List NoteValue). IsHere (progress_by_steps c x.steps (progress_at a.hub c)).phase c z) is (all.1 c)),
      )
