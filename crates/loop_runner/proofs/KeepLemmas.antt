-- What is kept from step to step.
use Rattle.loop_runner.proofs.Below.{◌≡◌, ◌<◌, ◌-◌, ◌^◌, ℕ, List, [], ◌++◌, Option, Some, true, false, length, sym, ap, ◌∙◌, subst, append-nil, append_assoc, NoteValue, AreNoted, HandlerMeaning, NetState, RouteTable, plain, AreAdmitted, AreReplies, is_opened_in, told_is, admitted_longer, replies_before, Server, IsTable, table_of, by_cases, clash, IntakeView, Kept, AreSound, shut_kept, Intakes, Every, Grows, Beginning, Holds, KeptAll, AreFew, meaning_of, with_view, ForNotes, ForReplies, Moment, IsKeptThen, Keeps, KeepsOn, KeepsOne, list_any, is_turn, is_telling, TellsBy, told_call, told_orders, IsTold, ServesOrders, OrderValue, notes_of, told_proceed, Proceeds, ◌||◌, ◌∷◌, Bool, refl, ◌&&◌, list_all, is_uncounted, is_ticking, is_tick, IsTicked, IsConfig, Agrees, world, CountsBeside, CountsBy, ticked_call, ticked_counted, ticked_orders, ticked_proceed}
use Rattle.run_meaning.specs.Server as run
use Rattle.loop_runner.proofs.OpenLemmas.{OpensNobody, opens_none}
use Rattle.loop_runner.proofs.StepLemmas.{steps_then}
use Rattle.loop_runner.proofs.ViewLemmas.{with_here, with_same, with_twice, views_of, are_views_of}

pub same_notes : (xs ys : List NoteValue) → Some xs ≡ Some ys → xs ≡ ys
same_notes xs ys e = cc

pub few_front : {S : Type 0} (r : run.Server S) (ns later ms : List NoteValue) → ms ≡ ns ++ later → AreFew r ms → AreFew r ns
few_front r ns later ms whole few = λ front behind is c.
    few front (behind ++ later) (whole ∙ ap (λ (z : List NoteValue). z ++ later) is ∙ append_assoc front behind later) c

-- the items of all these notes are few
pub few_of : {S : Type 0} (r : run.Server S) (ns : List NoteValue) → AreFew r ns → (c : ℕ) → length (plain r ns c) < 2 ^ 64 - 1
few_of r ns few = few ns [] (sym (append-nil ns))

-- the notes of an earlier server, and that these texts of replies agree with its judging too
pub record Earlier {S : Type 0} (b : Beginning S) (replies : ℕ → List ℕ) (ms : List NoteValue) (a : Server) : Type 0 where
  pub notes : List NoteValue
  pub later : List NoteValue
  pub told : a.told ≡ Some notes
  pub all : ms ≡ notes ++ later
  pub tells : a.net.tells ≡ true
  pub agree : AreReplies b.table notes a.net.given replies
  pub few : AreFew (meaning_of b replies) notes

-- what the handler was told stays right with a note, and notes of what was to be sent
pub sent_told : {S : Type 0} (r : run.Server S) (ns ms : List NoteValue) (n : NoteValue) (a b : Server) (x : Proceeds (n ∷ []) [] a b) → is_turn n ≡ false → is_telling n ≡ false → ms ≡ ns ++ n ∷ x.sending
    → IsTold r ns a.hub → IsTold r ms b.hub
sent_told r ns ms n a b x turnless silent e told =
    subst (λ (z : List NoteValue). IsTold r z b.hub) (sym (e ∙ ap (λ (z : List NoteValue). ns ++ n ∷ z) (sym (append-nil x.sending))))
    (told_proceed r ns (n ∷ []) [] a b x (ap (λ (z : Bool). z || false) turnless) refl (ap (λ (z : Bool). z || false) silent) refl told)

-- the same of what the hub counts
pub sent_ticked : {S : Type 0} (r : run.Server S) (ns ms : List NoteValue) (n : NoteValue) (a b : Server) (x : Proceeds (n ∷ []) [] a b) → is_uncounted n ≡ true → is_ticking n ≡ false → b.hub.config ≡ a.hub.config → ms ≡ ns ++ n ∷ x.sending
    → IsTicked r ns a.hub → IsTicked r ms b.hub
sent_ticked r ns ms n a b x rest still config e ticked =
    subst (λ (z : List NoteValue). IsTicked r z b.hub) (sym (e ∙ ap (λ (z : List NoteValue). ns ++ n ∷ z) (sym (append-nil x.sending))))
    (ticked_proceed r ns (n ∷ []) [] a b x (ap (λ (z : Bool). z && true) rest) refl (ap (λ (z : Bool). z || false) still) refl config ticked)

-- these notes were made, and the hub goes on to have counted what all notes say
abbrev pub CountsOn : Type 0 → List NoteValue → Server → Server → Type 0
CountsOn S made a d = (r : run.Server S) (ns : List NoteValue) → IsConfig a.hub.config → d.hub.config ≡ a.hub.config → Agrees (world r ns) ns a → IsTicked r ns a.hub → IsTicked r (ns ++ made) d.hub

-- it does so with notes that are not counted
pub counts_beside : {S : Type 0} (made : List NoteValue) (a d : Server) → list_all is_uncounted made ≡ true → list_any is_ticking made ≡ false → CountsBeside made a.hub d.hub → CountsOn S made a d
counts_beside made a d rest still by r ns numbers same agrees x = ticked_call r ns made a.hub d.hub rest still by same x

-- and with one that is, but is no tick
pub counts_first : {S : Type 0} (n : NoteValue) (a d : Server) → is_tick n ≡ false → is_ticking n ≡ false → CountsBy n a.hub d.hub → CountsOn S (n ∷ []) a d
counts_first n a d tickless still by r ns numbers same agrees x = ticked_counted r ns n [] a d tickless refl (ap (λ (z : Bool). z || false) still) numbers same by agrees x

module _ {S : Type 0} (b : Beginning S) where
  pub earlier : (a d : Server) → Grows a d → (replies : ℕ → List ℕ) (ms : List NoteValue) → d.told ≡ Some ms → d.net.tells ≡ true → AreReplies b.table ms d.net.given replies → AreFew (meaning_of b replies) ms → Earlier b replies ms a
  earlier a d grows replies ms told tells agree few =
      let v = grows.told ms told in
      let was : a.net.tells ≡ true = sym grows.tells ∙ tells in
      record {
        notes = v.0;
        later = v.1;
        told = v.2;
        all = v.3;
        tells = was;
        agree = replies_before b.table v.0 v.1 a.net.given d.net.given replies (subst (λ (z : List NoteValue). AreReplies b.table z d.net.given replies) v.3 agree) (grows.given was);
        few = few_front (meaning_of b replies) v.0 v.1 ms v.3 few;
      }

  -- who was admitted stays so, where nobody else is opened
  pub admitted_on : (a d : Server) → Grows a d → OpensNobody a d → ForNotes b a (λ ns. AreAdmitted b.table ns a.net.given) → ForNotes b d (λ ms. AreAdmitted b.table ms d.net.given)
  admitted_on a d grows nobody old ms told tells few c opened =
      let v = grows.told ms told in
      let was : a.net.tells ≡ true = sym grows.tells ∙ tells in
      let admitted = old v.0 v.2 was (λ replies. few_front (meaning_of b replies) v.0 v.1 ms v.3 (few replies)) in
      admitted_longer b.table v.0 a.net.given d.net.given (grows.given was) admitted c (nobody v.0 ms v.2 told c opened)

  -- what holds for notes and replies goes on to hold for those of a later server
  pub holds_on : (a d : Server) (now next : S) (views later : ℕ → IntakeView) (from to : Option ℕ) → Grows a d
      → ((replies : ℕ → List ℕ) (ns ms : List NoteValue) → a.told ≡ Some ns → a.net.tells ≡ true → d.told ≡ Some ms → AreReplies b.table ms d.net.given replies → AreFew (meaning_of b replies) ms
      → Holds b replies ns a now views from → Holds b replies ms d next later to)
      → KeptAll b a now views from → ForReplies b d (λ replies ms. Holds b replies ms d next later to)
  holds_on a d now next views later from to grows step old ms told tells replies agree few =
      let x = earlier a d grows replies ms told tells agree few in
      step replies x.notes ms x.told x.tells told agree few (old.holds x.notes x.told x.tells replies x.agree x.few)

  -- the same of all that is kept, where nobody is opened
  pub keep_on : (a d : Server) (now next : S) (views later : ℕ → IntakeView) (from to : Option ℕ) → Grows a d → OpensNobody a d
      → ((replies : ℕ → List ℕ) (ns ms : List NoteValue) → a.told ≡ Some ns → a.net.tells ≡ true → d.told ≡ Some ms → AreReplies b.table ms d.net.given replies → AreFew (meaning_of b replies) ms
      → Holds b replies ns a now views from → Holds b replies ms d next later to)
      → KeptAll b a now views from → KeptAll b d next later to
  keep_on a d now next views later from to grows nobody step old = record {
    admitted = admitted_on a d grows nobody old.admitted;
    holds = holds_on a d now next views later from to grows step old;
  }

  -- the same, where it is known what was noted: that no turn ended, and nothing that the handler was told
  pub keep_notes : (made : List NoteValue) (a d : Server) (now next : S) (views later : ℕ → IntakeView) (from to : Option ℕ) → Grows a d → AreNoted a.told made d.told
      → ((c : ℕ) → is_opened_in c made ≡ false) → IsTable (table_of d.hub) → list_any is_turn made ≡ false → list_any is_telling made ≡ false → TellsBy made a.hub d.hub → CountsOn S made a d
      → ((replies : ℕ → List ℕ) (ns ms : List NoteValue) → a.net.tells ≡ true → d.told ≡ Some ms → Holds b replies ns a now views from
      → Kept (meaning_of b replies) b.config b.table (ns ++ made) d next later to × AreSound (meaning_of b replies) b.config (ns ++ made))
      → KeptAll b a now views from → KeptAll b d next later to
  keep_notes made a d now next views later from to grows noted none whole turnless silent tells_by counts step = keep_on a d now next views later from to grows (opens_none made a d noted none)
      (λ replies ns ms was tells told agree few old.
      let is : ns ++ made ≡ ms = same_notes (ns ++ made) ms (sym (told_is ns made ms a.told d.told noted was told) ∙ told) in
      let got = step replies ns ms tells told old in
      subst (λ (z : List NoteValue). Holds b replies z d next later to) is (record {
        kept = got.0;
        sound = got.1;
        whole = whole;
        told = told_call (meaning_of b replies) ns made a.hub d.hub turnless silent tells_by old.told;
        ticked = counts (meaning_of b replies) ns old.whole.numbers (got.0.configured ∙ sym old.kept.configured) old.kept.agrees old.ticked;
      }))

  -- the orders of an event were served, behind these notes
  pub served_told : (replies : ℕ → List ℕ) (front ms : List NoteValue) (conn : ℕ) (orders : List OrderValue) (m d : Server) → ServesOrders b.admits conn orders m d → m.told ≡ Some front → d.told ≡ Some ms
      → IsTold (meaning_of b replies) front m.hub → IsTold (meaning_of b replies) ms d.hub
  served_told replies front ms conn orders m d x was told t =
      let is : front ++ notes_of x.steps ≡ ms = same_notes (front ++ notes_of x.steps) ms (sym (told_is front (notes_of x.steps) ms m.told d.told (x.does (λ _. [])).told was told) ∙ told) in
      subst (λ (z : List NoteValue). IsTold (meaning_of b replies) z d.hub) is (told_orders (meaning_of b replies) front _ _ conn 0 orders m d x t)

  pub served_ticked : (replies : ℕ → List ℕ) (front ms : List NoteValue) (conn : ℕ) (orders : List OrderValue) (m d : Server) → ServesOrders b.admits conn orders m d → m.told ≡ Some front → d.told ≡ Some ms
      → IsTicked (meaning_of b replies) front m.hub → IsTicked (meaning_of b replies) ms d.hub
  served_ticked replies front ms conn orders m d x was told t =
      let is : front ++ notes_of x.steps ≡ ms = same_notes (front ++ notes_of x.steps) ms (sym (told_is front (notes_of x.steps) ms m.told d.told (x.does (λ _. [])).told was told) ∙ told) in
      subst (λ (z : List NoteValue). IsTicked (meaning_of b replies) z d.hub) is (ticked_orders (meaning_of b replies) front _ _ conn 0 orders m d x t)

  -- the same server, with other views of the intakes
  pub keep_there : (s : Server) (now : S) (views later : ℕ → IntakeView) (from to : Option ℕ) → ((replies : ℕ → List ℕ) (ns : List NoteValue) → Holds b replies ns s now views from → Holds b replies ns s now later to)
      → KeptAll b s now views from → KeptAll b s now later to
  keep_there s now views later from to step old = record { admitted = old.admitted; holds = λ ns told tells replies agree few. step replies ns (old.holds ns told tells replies agree few) }

  -- views of the intakes that are the same
  pub keep_views : (s : Server) (now : S) (views later : ℕ → IntakeView) (reading : Option ℕ) → ((conn : ℕ) → later conn ≡ views conn) → KeptAll b s now views reading → KeptAll b s now later reading
  keep_views s now views later reading same = keep_there s now views later reading reading
      (λ replies ns x. record { kept = shut_kept (meaning_of b replies) b.config b.table ns s now views later reading x.kept (λ c _. same c); sound = x.sound; whole = x.whole; told = x.told; ticked = x.ticked })

  -- of one connection, one step after another
  pub keep_one_same : (c : ℕ) (reading : Option ℕ) (view : IntakeView) (s : Server) (now : S) → KeepsOne b c reading reading view view s now s now
  keep_one_same c reading view s now = record { kept = λ views is. keep_views s now views (with_view c view views) reading (with_same c view views is) }

  pub keep_one_then : (c : ℕ) (from mid to : Option ℕ) (u v w : IntakeView) (s t d : Server) (x y z : S) → KeepsOne b c from mid u v s x t y → KeepsOne b c mid to v w t y d z → KeepsOne b c from to u w s x d z
  keep_one_then c from mid to u v w s t d x y z first second = record {
    kept = λ views is old.
        keep_views d z (with_view c w (with_view c v views)) (with_view c w views) to (with_twice c v w views) (second.kept (with_view c v views) (with_here c v views) (first.kept views is old));
  }

-- ---- within a turn

pub keeps_then : {H : Type 0} {handler : HandlerMeaning H} (admits : List ℕ → Bool) (table : RouteTable) (r s t : Intakes) (a b d : Moment handler) → Keeps admits table r s a b → Keeps admits table s t b d → Keeps admits table r t a d
keeps_then admits table r s t a b d x y start config views are k = let now = x start config views are k in y start config now.0 now.1 now.2

pub keeps_on_then : {H : Type 0} {handler : HandlerMeaning H} (admits : List ℕ → Bool) (r s t : Intakes) (a b d : Moment handler) → KeepsOn admits r s a b → KeepsOn admits s t b d → KeepsOn admits r t a d
keeps_on_then admits r s t a b d x y = record {
  running = y.running;
  steps = steps_then Every a.server b.server d.server x.steps y.steps;
  kept = λ table. keeps_then admits table r s t a b d (x.kept table) (y.kept table);
}

-- where the net does not tell, nothing is said
pub where_told : {H : Type 0} {handler : HandlerMeaning H} (b : Beginning handler.State) (before : NetState) (intakes : Intakes) (m : Moment handler) (vs : ℕ → IntakeView) → m.server.net.tells ≡ before.tells
    → (before.tells ≡ true → IsKeptThen intakes m b) → IsKeptThen intakes m b
where_told b before intakes m vs same told = by_cases before.tells told
    (λ (no : before.tells ≡ false). (views_of intakes vs, are_views_of intakes vs, record { admitted = λ notes is tells. clash before.tells no (sym same ∙ tells); holds = λ notes is tells. clash before.tells no (sym same ∙ tells) }))
