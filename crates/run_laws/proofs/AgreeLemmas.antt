-- A hub beside what its notes say, after each kind of step.
use Rattle.run_laws.proofs.Below.{◌≡◌, ◌≢◌, ℕ, List, [], ◌∷◌, ◌++◌, Option, Some, None, Bool, true, false, cond, nat_eq, refl, sym, ap, ◌∙◌, subst, append-nil, ⊎_elim, arith, cases_eq, nat_tests, list_any, itself, by_cases, clash, Phase, Head, Open, Leaving, Ending, Gone, NoteValue, NetState, Item, is_of, is_acceptance, closes, closed_by, is_accepted, Line, World, is_open, moved, leaves_open, cause_of, after_own, line_after, noted, noted_all, unknown, closes-append, lines_after, noted_line, own_line, other_line, taken_of, is_silent, took_sum, HubState, Server, nothing, IsNewTo, Starts, AreNoted, NetAfter, taken, taken-append, took_named, add-zero, ◌&&◌, ◌+◌, ◌≤◌, length, Progress, due_at, progress_at, progress_by, progress_after, progress_after_all, unless_gone, items_at, Advances, Appends, unaccepted, AgreesAt, Agrees, IsToldOnce, line_progress, untold, is_early, is_closed, is_wordless, silent_sum, sum_more, taken_some}
use Rattle.run_laws.proofs.Adding.{other_accepted}
use Rattle.ws_kinds.specs.NoteValue as note
use Rattle.run_meaning.specs.Server as run
use Rattle.run_laws.specs.Tests.{is_aside}
use Rattle.run_laws.proofs.ProgressLemmas.{Ends, told_none, all_progress, all_none, wordless_line, unclosed, closes_same, progress_is}
use Rattle.run_laws.proofs.RestLemmas.{Rests, SaysNothing, rests_then, rests_as}
use Rattle.hub_lines.specs.Told.{took_by}

abbrev shown_of : Progress → Option Phase
shown_of p = p.phase

-- ---- one connection

pub rests_of : (c : ℕ) (l : Line) (ns : List NoteValue) (s : Server) → AgreesAt c l ns s → Rests c l.phase l.items s
rests_of c l ns s x = record { shown = ap shown_of x.progress; known = x.known; stands = x.stands; count = x.count; front = x.front; fair = x.fair; drops = x.drops }

pub agrees_of : (c : ℕ) (l : Line) (ns : List NoteValue) (s : Server) → Rests c l.phase l.items s → progress_at s.hub c ≡ line_progress l (closes c ns) → Ends l (closes c ns) → AgreesAt c l ns s
agrees_of c l ns s x progress ends = record { progress = progress; early = ends.early; once = ends.once; topics = ends.topics; known = x.known; stands = x.stands; count = x.count; front = x.front; fair = x.fair; drops = x.drops }

pub ends_of : (c : ℕ) (l : Line) (ns : List NoteValue) (s : Server) → AgreesAt c l ns s → Ends l (closes c ns)
ends_of c l ns s x = record { early = x.early; once = x.once; topics = x.topics }

ends_as : (l m : Line) (told : List (ℕ × List ℕ)) → m.phase ≡ l.phase → m.left_open ≡ l.left_open → m.topics ≡ l.topics → Ends l told → Ends m told
ends_as l m told phase left topics ends = record {
  early = λ h. left ∙ ends.early (ap is_early (sym phase) ∙ h);
  once = subst (λ (z : Option (ℕ × List ℕ)). IsToldOnce z told) (sym left) ends.once;
  topics = λ h. topics ∙ ends.topics (ap is_open (sym phase) ∙ h);
}

-- what the watch tells after notes
pub told_is : (ns ms after : List NoteValue) (old new : Option (List NoteValue)) → AreNoted old ms new → old ≡ Some ns → new ≡ Some after → new ≡ Some (ns ++ ms)
told_is ns ms after (Some xs) (Some ys) noted e h = ap Some (noted ∙ ap (λ (z : List NoteValue). z ++ ms) (let z : xs ≡ ns = cc in z))
told_is ns ms after (Some xs) None noted e h = absurd (let z : None ≡ Some after = h in cc)
told_is ns ms after None new noted e h = absurd (let z : None ≡ Some ns = e in cc)

-- a connection that the notes neither accept nor close, after a call that makes these notes and appends these items
pub at_call : {S : Type 0} (r : run.Server S) (c : ℕ) (l : Line) (ns ms : List NoteValue) (f : ℕ → List Item) (a b : Server) → AgreesAt c l ns a → Advances ms a b → Appends f a b
    → is_accepted c ms ≡ false → closes c ms ≡ [] → (lines_after r c ms l).items ≡ l.items ++ f c → AgreesAt c (lines_after r c ms l) (ns ++ ms) b
at_call r c l ns ms f a b x adv app away none items =
    let told = closes c ns in
    let same : closes c (ns ++ ms) ≡ told = closes_same c ns ms none in
    let all = all_progress r c ms l told away (ends_of c l ns a x) in
    let progress : progress_at b.hub c ≡ line_progress (lines_after r c ms l) told = adv.progress c ∙ ap (λ (z : Progress). progress_after_all c ms z) x.progress ∙ all.0 in
    agrees_of c (lines_after r c ms l) (ns ++ ms) b
    (rests_then c l.phase (lines_after r c ms l).phase l.items (lines_after r c ms l).items (f c) a b (rests_of c l ns a x) app.lines.config app.lines.named (app.lines.lines c) (app.fronts c)
    (ap shown_of progress) (λ known e. known (all_none r c ms l away e)) items)
    (progress ∙ ap (λ (z : List (ℕ × List ℕ)). line_progress (lines_after r c ms l) z) (sym same))
    (subst (λ (z : List (ℕ × List ℕ)). Ends (lines_after r c ms l) z) (sym same) all.1)

-- ---- the octets taken

more_took : (k l m n k' l' : ℕ) → k ≤ l → m ≡ n → k' ≡ k + m → l' ≡ l + n → k' ≤ l'
more_took k l m n k' l' few same e h = omega arith

-- the notes of a call tell as many further octets as its net
pub took_after : (c : ℕ) (ns ms : List NoteValue) (old new : NetState) → NetAfter ms old new → old.tells ≡ true → took_sum c ns ≤ length (old.taken c) → took_sum c (ns ++ ms) ≤ length (new.taken c)
took_after c ns ms old new after tells few =
    more_took (took_sum c ns) (length (old.taken c)) (took_sum c ms) (taken c ms) (took_sum c (ns ++ ms)) (length (new.taken c)) few (took_named c ms)
    (took_named c (ns ++ ms) ∙ taken-append c ns ms ∙ ap (λ (z : ℕ). z + taken c ms) (sym (took_named c ns)) ∙ ap (λ (z : ℕ). took_sum c ns + z) (sym (took_named c ms)))
    ((after.told tells).taken c)

-- a note that tells no octets, over the same net
took_still : (c : ℕ) (ns : List NoteValue) (n : NoteValue) (old new : NetState) → new ≡ old → is_silent c n ≡ true → took_sum c ns ≤ length (old.taken c) → took_sum c (ns ++ n ∷ []) ≤ length (new.taken c)
took_still c ns n old new same silent few =
    more_took (took_sum c ns) (length (old.taken c)) (took_by c n) 0 (took_sum c (ns ++ n ∷ [])) (length (new.taken c)) few (silent_sum c n silent)
    (sum_more c ns n) (ap (λ (z : NetState). length (z.taken c)) same ∙ sym (add-zero (length (old.taken c))))

-- ---- calls

module _ {S : Type 0} (r : run.Server S) where
  pub agrees_call : (w : World S) (ns after ms : List NoteValue) (f : ℕ → List Item) (a b : Server) → Agrees w ns a → Advances ms a b → Appends f a b → b.told ≡ Some after
      → list_any is_acceptance ms ≡ false → list_any is_closed ms ≡ false
      → ((c : ℕ) → ((noted_all r ms w).line c).items ≡ (w.line c).items ++ f c) → Agrees (noted_all r ms w) (ns ++ ms) b
  agrees_call w ns after ms f a b x adv app told away none items = record {
    tells = adv.net.net.tells ∙ x.tells;
    told = told_is ns ms after a.told b.told adv.told x.told told;
    lines = λ c. subst (λ (z : Line). AgreesAt c z (ns ++ ms) b) (sym (noted_line r c ms w))
        (at_call r c (w.line c) ns ms f a b (x.lines c) adv app (unaccepted ms c away) (unclosed ms c none)
        (ap (λ (z : Line). z.items) (sym (noted_line r c ms w)) ∙ items c));
    took = λ c. took_after c ns ms a.net b.net adv.net x.tells (x.took c);
  }

-- ---- what is due

due_untold : (left : Option (ℕ × List ℕ)) (told : List (ℕ × List ℕ)) (x : ℕ × List ℕ) → untold left told ≡ Some x → (left ≡ Some x) × (told ≡ [])
due_untold left [] x e = (e, refl)
due_untold left (y ∷ told) x e = absurd (let z : None ≡ Some x = e in cc)

told_once : (left : Option (ℕ × List ℕ)) (told : List (ℕ × List ℕ)) (x : ℕ × List ℕ) → IsToldOnce left told → untold left told ≡ None → left ≡ Some x → told ≡ x ∷ []
told_once left [] x once e h = absurd (let z : Some x ≡ None = sym h ∙ e in cc)
told_once left (y ∷ []) x once e h = let z : Some y ≡ Some x = sym once ∙ h in cc
told_once left (y ∷ z ∷ told) x once e h = absurd once

abbrev due_in : Progress → Option (ℕ × List ℕ)
due_in p = p.due

-- a Closed event that is due has the code and the reason with which the connection left Open, and the handler was not told
pub agrees_due : {S : Type 0} (w : World S) (ns : List NoteValue) (s : Server) → Agrees w ns s → (c : ℕ) (x : ℕ × List ℕ) → due_at s.hub c ≡ Some x → ((w.line c).left_open ≡ Some x) × (closes c ns ≡ [])
agrees_due w ns s agrees c x e = due_untold (w.line c).left_open (closes c ns) x (sym (ap due_in (agrees.lines c).progress) ∙ e)

-- where none is due of a connection that left Open, the handler was told once
pub agrees_told : {S : Type 0} (w : World S) (ns : List NoteValue) (s : Server) → Agrees w ns s → (c : ℕ) (x : ℕ × List ℕ) → due_at s.hub c ≡ None → (w.line c).left_open ≡ Some x → closes c ns ≡ x ∷ []
agrees_told w ns s agrees c x e left = told_once (w.line c).left_open (closes c ns) x (agrees.lines c).once (sym (ap due_in (agrees.lines c).progress) ∙ e) left

-- of one that did not leave it, the handler was told nothing
pub agrees_untold : {S : Type 0} (w : World S) (ns : List NoteValue) (s : Server) → Agrees w ns s → (c : ℕ) → (w.line c).left_open ≡ None → closes c ns ≡ []
agrees_untold w ns s agrees c left = told_none (w.line c).left_open (closes c ns) (agrees.lines c).once left

-- ---- the net alone

told_stays : (c : ℕ) (old new : Option (List NoteValue)) → new ≡ old → SaysNothing c old new
told_stays c old new e notes en = (notes, [], sym e ∙ en, sym (append-nil notes), refl)

same_taken : (c : ℕ) (old new : NetState) → old.tells ≡ true → taken_of new c ≡ taken_of old c → new.tells ≡ true → new.taken c ≡ old.taken c
same_taken c old new was same tells =
    (taken_some new.tells (new.taken c) (old.taken c) (same ∙ ap (λ (z : Bool). cond z (Some (old.taken c)) None) was)).1

pub agrees_net : {S : Type 0} (w : World S) (ns : List NoteValue) (a b : Server) → Agrees w ns a → b.hub ≡ a.hub → b.told ≡ a.told → b.net.tells ≡ true → ((c : ℕ) → taken_of b.net c ≡ taken_of a.net c) → Agrees w ns b
agrees_net w ns a b x hub told tells same = record {
  tells = tells;
  told = told ∙ x.told;
  lines = λ c.
      let l = w.line c in
      let y = x.lines c in
      agrees_of c l ns b
      (rests_as c l.phase l.items a b hub (tells ∙ sym x.tells) (same c) (told_stays c a.told b.told told) (rests_of c l ns a y))
      (ap (λ (z : HubState). progress_at z c) hub ∙ y.progress) (ends_of c l ns a y);
  took = λ c. subst (λ (z : List ℕ). took_sum c ns ≤ length z) (sym (same_taken c a.net b.net x.tells (same c) tells)) (x.took c);
}

-- ---- a note that the loop makes

moved_aside : (p : Option Phase) (n : NoteValue) → is_aside n ≡ true → moved p n ≡ p
moved_aside None (note.accepted c) e = clash false refl e
moved_aside None _ e = refl
moved_aside (Some Head) (note.opened c route param) e = clash false refl e
moved_aside (Some Head) (note.head c status) e = clash false refl e
moved_aside (Some Head) (note.gone c left) e = clash false refl e
moved_aside (Some Head) _ e = refl
moved_aside (Some Open) (note.peer_close c code reason) e = clash false refl e
moved_aside (Some Open) (note.failed c code) e = clash false refl e
moved_aside (Some Open) (note.gone c left) e = clash false refl e
moved_aside (Some Open) _ e = refl
moved_aside (Some Leaving) (note.peer_close c code reason) e = clash false refl e
moved_aside (Some Leaving) (note.failed c code) e = clash false refl e
moved_aside (Some Leaving) (note.gone c left) e = clash false refl e
moved_aside (Some Leaving) _ e = refl
moved_aside (Some Ending) (note.gone c left) e = clash false refl e
moved_aside (Some Ending) _ e = refl
moved_aside (Some Gone) (note.gone c left) e = refl
moved_aside (Some Gone) _ e = refl

moved_closed : (p : Option Phase) (c code : ℕ) (reason : List ℕ) → moved p (note.closed c code reason) ≡ p
moved_closed None c code reason = refl
moved_closed (Some Head) c code reason = refl
moved_closed (Some Open) c code reason = refl
moved_closed (Some Leaving) c code reason = refl
moved_closed (Some Ending) c code reason = refl
moved_closed (Some Gone) c code reason = refl

stays_open : (p : Option Phase) → leaves_open p p ≡ false
stays_open None = refl
stays_open (Some Head) = refl
stays_open (Some Open) = refl
stays_open (Some Leaving) = refl
stays_open (Some Ending) = refl
stays_open (Some Gone) = refl

closed_aside : (c : ℕ) (n : NoteValue) → is_aside n ≡ true → closed_by c n ≡ []
closed_aside c (note.closed d code reason) e = clash false refl e
closed_aside c _ e = refl

wordless_aside : (n : NoteValue) → is_aside n ≡ true → is_wordless n ≡ true
wordless_aside (note.opened c route param) e = clash false refl e
wordless_aside (note.head c status) e = clash false refl e
wordless_aside (note.ping_got c body) e = clash false refl e
wordless_aside (note.pinged c) e = clash false refl e
wordless_aside (note.peer_close c code reason) e = clash false refl e
wordless_aside (note.failed c code) e = clash false refl e
wordless_aside _ e = refl

silent_aside : (c : ℕ) (n : NoteValue) → is_aside n ≡ true → is_silent c n ≡ true
silent_aside c (note.took d offered count) e = clash false refl e
silent_aside c (note.dropped d j held) e = clash false refl e
silent_aside c _ e = refl

-- one note, which is silent of the connection
says_one : (c : ℕ) (ns : List NoteValue) (n : NoteValue) (old new : Option (List NoteValue)) → old ≡ Some ns → new ≡ Some (ns ++ n ∷ []) → is_silent c n ≡ true → SaysNothing c old new
says_one c ns n old new eo en silent notes e =
    let same : notes ≡ ns ++ n ∷ [] = let z : Some notes ≡ Some (ns ++ n ∷ []) = sym e ∙ en in cc in
    (ns, n ∷ [], eo, same, ap (λ (z : Bool). z && true) silent)

module _ {S : Type 0} (r : run.Server S) where
  -- a note that moves nothing leaves phase, end and topics
  still_line : (c : ℕ) (n : NoteValue) (l : Line) → moved l.phase n ≡ l.phase → ((line_after r c n l).phase ≡ l.phase) × ((line_after r c n l).left_open ≡ l.left_open) × ((line_after r c n l).topics ≡ l.topics)
  still_line c n l still = by_cases (is_of c n)
      (λ own.
      let e = own_line r c n l own in (
        ap (λ (z : Line). z.phase) e ∙ still,
        ap (λ (z : Line). z.left_open) e ∙ ap (λ (z : Option Phase). cond (leaves_open l.phase z) (Some (cause_of n)) l.left_open) still
            ∙ ap (λ (z : Bool). cond z (Some (cause_of n)) l.left_open) (stays_open l.phase),
        ap (λ (z : Line). z.topics) e ∙ ap (λ (z : Option Phase). cond (leaves_open l.phase z) [] l.topics) still
            ∙ ap (λ (z : Bool). cond z [] l.topics) (stays_open l.phase),
      ))
      (λ other. let e = other_line r c n l other in (ap (λ (z : Line). z.phase) e, ap (λ (z : Line). z.left_open) e, ap (λ (z : Line). z.topics) e))

  rests_still : (c : ℕ) (n : NoteValue) (l : Line) (s : Server) → moved l.phase n ≡ l.phase → is_wordless n ≡ true → Rests c l.phase l.items s → Rests c (line_after r c n l).phase (line_after r c n l).items s
  rests_still c n l s still wordless x =
      subst (λ (z : Option Phase). Rests c z (line_after r c n l).items s) (sym (still_line c n l still).0)
      (subst (λ (z : List Item). Rests c l.phase z s) (sym (wordless_line r c n l wordless)) x)

  ends_still : (c : ℕ) (n : NoteValue) (l : Line) (told : List (ℕ × List ℕ)) → moved l.phase n ≡ l.phase → Ends l told → Ends (line_after r c n l) told
  ends_still c n l told still ends = let e = still_line c n l still in ends_as l (line_after r c n l) told e.0 e.1 e.2 ends

  progress_still : (c : ℕ) (n : NoteValue) (l : Line) (told : List (ℕ × List ℕ)) → moved l.phase n ≡ l.phase → line_progress (line_after r c n l) told ≡ line_progress l told
  progress_still c n l told still =
      let e = still_line c n l still in
      progress_is (unless_gone (line_after r c n l).phase) (unless_gone l.phase) (line_after r c n l).topics l.topics (untold (line_after r c n l).left_open told) (untold l.left_open told)
      (ap unless_gone e.0) e.2 (ap (λ (z : Option (ℕ × List ℕ)). untold z told) e.1)

  -- a connection of which the note says no end
  at_note : (c : ℕ) (n : NoteValue) (l : Line) (ns : List NoteValue) (s : Server) → moved l.phase n ≡ l.phase → closed_by c n ≡ [] → Rests c (line_after r c n l).phase (line_after r c n l).items s
      → progress_at s.hub c ≡ line_progress l (closes c ns) → Ends l (closes c ns) → AgreesAt c (line_after r c n l) (ns ++ n ∷ []) s
  at_note c n l ns s still none x progress ends =
      let same : closes c (ns ++ n ∷ []) ≡ closes c ns = closes_same c ns (n ∷ []) (ap (λ (z : List (ℕ × List ℕ)). z ++ []) none) in
      agrees_of c (line_after r c n l) (ns ++ n ∷ []) s x
      (progress ∙ sym (progress_still c n l (closes c ns) still) ∙ ap (λ (z : List (ℕ × List ℕ)). line_progress (line_after r c n l) z) (sym same))
      (subst (λ (z : List (ℕ × List ℕ)). Ends (line_after r c n l) z) (sym same) (ends_still c n l (closes c ns) still ends))

  pub agrees_aside : (w : World S) (ns : List NoteValue) (n : NoteValue) (a b : Server) → Agrees w ns a → is_aside n ≡ true → b.hub ≡ a.hub → b.net ≡ a.net → b.told ≡ Some (ns ++ n ∷ []) → Agrees (noted r n w) (ns ++ n ∷ []) b
  agrees_aside w ns n a b x aside hub net told = record {
    tells = ap (λ (z : NetState). z.tells) net ∙ x.tells;
    told = told;
    lines = λ c.
        let l = w.line c in
        let y = x.lines c in
        let still = moved_aside l.phase n aside in
        at_note c n l ns b still (closed_aside c n aside)
        (rests_still c n l b still (wordless_aside n aside)
        (rests_as c l.phase l.items a b hub (ap (λ (z : NetState). z.tells) net) (ap (λ (z : NetState). taken_of z c) net) (says_one c ns n a.told b.told x.told told (silent_aside c n aside)) (rests_of c l ns a y)))
        (ap (λ (z : HubState). progress_at z c) hub ∙ y.progress) (ends_of c l ns a y);
    took = λ c. took_still c ns n a.net b.net net (silent_aside c n aside) (x.took c);
  }

  -- ---- a connection is accepted

  accepts : (c : ℕ) (l : Line) → l ≡ unknown → line_after r c (note.accepted c) l ≡ record unknown { phase = Some Head }
  accepts c l e = ap (λ (z : Line). line_after r c (note.accepted c) z) e ∙ ap (λ (z : Bool). cond z (after_own r (note.accepted c) unknown) unknown) (itself c)

  at_accepted : (c : ℕ) (ns : List NoteValue) (a b : Server) → progress_at a.hub c ≡ line_progress unknown [] → Advances (note.accepted c ∷ []) a b → Starts c b → b.hub.named ≡ c → IsNewTo c b → items_at b.hub c ≡ 0
      → ((notes : List NoteValue) → b.told ≡ Some notes → took_sum c notes ≡ 0) → closes c ns ≡ [] → AgreesAt c (record unknown { phase = Some Head }) (ns ++ note.accepted c ∷ []) b
  at_accepted c ns a b before adv starts named fresh none took untold_yet =
      let n = note.accepted c in
      let told : closes c (ns ++ n ∷ []) ≡ [] = closes_same c ns (n ∷ []) refl ∙ untold_yet in
      let own : is_of c n ≡ true = grind (arith, nat_tests) in
      record {
        progress = adv.progress c ∙ ap (λ (z : Progress). progress_after c n z) before ∙ ap (λ (z : Bool). cond z (progress_by n (line_progress unknown [])) (line_progress unknown [])) own
            ∙ ap (λ (z : List (ℕ × List ℕ)). line_progress (record unknown { phase = Some Head }) z) (sym told);
        early = λ h. refl;
        topics = λ h. refl;
        once = subst (λ (z : List (ℕ × List ℕ)). IsToldOnce None z) (sym told) (tt {0});
        known = λ h. let e = named in omega arith;
        stands = λ there. starts.stands fresh;
        count = λ there few. none;
        front = λ gone few. clash false refl gone;
        fair = λ there. starts.fair fresh took;
        drops = λ gone few. clash false refl gone;
      }

  took_nothing : (c : ℕ) (ns notes : List NoteValue) (octets : List ℕ) (t : Option (List NoteValue)) → t ≡ Some ns → t ≡ Some notes → took_sum c ns ≤ length octets → octets ≡ [] → took_sum c notes ≡ 0
  took_nothing c ns notes octets t told e few none =
      let same : notes ≡ ns = let z : Some notes ≡ Some ns = sym e ∙ told in cc in
      let empty : length octets ≡ 0 = ap length none in
      ap (took_sum c) same ∙ omega arith

  other_of : (c d : ℕ) → d ≢ c → nat_eq c d ≡ false
  other_of c d ne = grind (arith, nat_tests)

  pub agrees_accepted : (w : World S) (c : ℕ) (ns after : List NoteValue) (a b : Server) → Agrees w ns a → Advances (note.accepted c ∷ []) a b → Appends nothing a b → b.told ≡ Some after
      → Starts c b → b.hub.named ≡ c → IsNewTo c b → items_at b.hub c ≡ 0 → w.line c ≡ unknown → closes c ns ≡ [] → Agrees (noted r (note.accepted c) w) (ns ++ note.accepted c ∷ []) b
  agrees_accepted w c ns after a b x adv app told starts named fresh none unknown_yet untold_yet =
      let n = note.accepted c in
      let before : progress_at a.hub c ≡ line_progress unknown [] = (x.lines c).progress ∙ ap (λ (z : Line). line_progress z (closes c ns)) unknown_yet ∙ ap (λ (z : List (ℕ × List ℕ)). line_progress unknown z) untold_yet in
      let tells : b.net.tells ≡ true = adv.net.net.tells ∙ x.tells in
      let told_now = told_is ns (n ∷ []) after a.told b.told adv.told x.told told in
      let took_now : (d : ℕ) → took_sum d (ns ++ n ∷ []) ≤ length (b.net.taken d) = λ d. took_after d ns (n ∷ []) a.net b.net adv.net x.tells (x.took d) in
      let took_none : (notes : List NoteValue) → b.told ≡ Some notes → took_sum c notes ≡ 0 = λ notes e. took_nothing c (ns ++ n ∷ []) notes (b.net.taken c) b.told told_now e (took_now c) (fresh.taken tells) in
      record {
        tells = tells;
        told = told_now;
        took = took_now;
        lines = λ d. ⊎_elim
            (λ (q : d ≡ c). subst (λ (z : ℕ). AgreesAt z ((noted r n w).line z) (ns ++ n ∷ []) b) (sym q)
            (subst (λ (z : Line). AgreesAt c z (ns ++ n ∷ []) b) (sym (accepts c (w.line c) unknown_yet)) (at_accepted c ns a b before adv starts named fresh none took_none untold_yet)))
            (λ (ne : d ≢ c). at_call r d (w.line d) ns (n ∷ []) nothing a b (x.lines d) adv app (other_accepted c d ne) refl
            (ap (λ (z : Line). z.items) (other_line r d n (w.line d) (other_of c d ne)) ∙ sym (append-nil (w.line d).items)))
            (cases_eq d c);
      }

  -- ---- the handler is told that a connection left Open

  untold_more : (left : Option (ℕ × List ℕ)) (told : List (ℕ × List ℕ)) (x : ℕ × List ℕ) → untold left (told ++ x ∷ []) ≡ None
  untold_more left [] x = refl
  untold_more left (t ∷ told) x = refl

  closes_more : (c code : ℕ) (reason : List ℕ) (ns : List NoteValue) → closes c (ns ++ note.closed c code reason ∷ []) ≡ closes c ns ++ (code, reason) ∷ []
  closes_more c code reason ns = closes-append c ns (note.closed c code reason ∷ []) ∙ ap (λ (z : List (ℕ × List ℕ)). closes c ns ++ z) (own c)
    where
      own : (c : ℕ) → closes c (note.closed c code reason ∷ []) ≡ (code, reason) ∷ []
      own c = let e : nat_eq c c ≡ true = grind (arith, nat_tests) in ap (λ (z : Bool). cond z ((code, reason) ∷ []) [] ++ []) e

  closed_other : (c d code : ℕ) (reason : List ℕ) → d ≢ c → closed_by d (note.closed c code reason) ≡ []
  closed_other c d code reason ne = ap (λ (z : Bool). cond z ((code, reason) ∷ []) []) (other_of c d ne)

  -- the hub hands out the event, and then the loop notes it
  rests_closed : (c code : ℕ) (reason : List ℕ) (l : Line) (d : ℕ) (ns : List NoteValue) (a b e : Server) → AgreesAt d l ns a → a.told ≡ Some ns → Appends nothing a b → (progress_at b.hub d).phase ≡ (progress_at a.hub d).phase
      → b.told ≡ a.told → e.hub ≡ b.hub → e.net ≡ b.net → e.told ≡ Some (ns ++ note.closed c code reason ∷ [])
      → Rests d (line_after r d (note.closed c code reason) l).phase (line_after r d (note.closed c code reason) l).items e
  rests_closed c code reason l d ns a b e x told_a app phase told_b hub net told =
      let n = note.closed c code reason in
      rests_still d n l e (moved_closed l.phase c code reason) refl
      (rests_as d l.phase l.items b e hub (ap (λ (z : NetState). z.tells) net) (ap (λ (z : NetState). taken_of z d) net) (says_one d ns n b.told e.told (told_b ∙ told_a) told refl)
      (rests_then d l.phase l.phase l.items l.items [] a b (rests_of d l ns a x) app.lines.config app.lines.named (app.lines.lines d) (app.fronts d) (phase ∙ ap shown_of x.progress) (λ known. known) (sym (append-nil l.items))))

  pub agrees_closed : (w : World S) (c code : ℕ) (reason : List ℕ) (ns : List NoteValue) (a b e : Server) → Agrees w ns a → due_at a.hub c ≡ Some (code, reason)
      → Appends nothing a b → progress_at b.hub c ≡ record (progress_at a.hub c) { due = None } → ((d : ℕ) → d ≢ c → progress_at b.hub d ≡ progress_at a.hub d) → b.net ≡ a.net → b.told ≡ a.told
      → e.hub ≡ b.hub → e.net ≡ b.net → e.told ≡ Some (ns ++ note.closed c code reason ∷ []) → Agrees (noted r (note.closed c code reason) w) (ns ++ note.closed c code reason ∷ []) e
  agrees_closed w c code reason ns a b e x handed app here elsewhere net_b told_b hub net told =
      let n = note.closed c code reason in
      let due = agrees_due w ns a x c (code, reason) handed in
      record {
        tells = ap (λ (z : NetState). z.tells) (net ∙ net_b) ∙ x.tells;
        told = told;
        took = λ d. took_still d ns n a.net e.net (net ∙ net_b) refl (x.took d);
        lines = λ d. ⊎_elim
            (λ (q : d ≡ c). subst (λ (z : ℕ). AgreesAt z ((noted r n w).line z) (ns ++ n ∷ []) e) (sym q)
            (let l = w.line c in
            let m = line_after r c n l in
            let y = x.lines c in
            let still = moved_closed l.phase c code reason in
            let same = still_line c n l still in
            let more = closes_more c code reason ns in
            agrees_of c m (ns ++ n ∷ []) e
            (rests_closed c code reason l c ns a b e y x.told app (ap shown_of here) told_b hub net told)
            (ap (λ (z : HubState). progress_at z c) hub ∙ here ∙ progress_is (progress_at a.hub c).phase (unless_gone m.phase) (progress_at a.hub c).topics m.topics None (untold m.left_open (closes c (ns ++ n ∷ [])))
            (ap shown_of y.progress ∙ ap unless_gone (sym same.0)) (ap (λ (z : Progress). z.topics) y.progress ∙ sym same.2) (sym (ap (untold m.left_open) more ∙ untold_more m.left_open (closes c ns) (code, reason))))
            (record {
              early = λ h. absurd (let none = y.early (ap is_early (sym same.0) ∙ h) in let z : Some (code, reason) ≡ None = sym due.0 ∙ none in cc);
              once = subst (λ (z : List (ℕ × List ℕ)). IsToldOnce m.left_open z) (sym (more ∙ ap (λ (z : List (ℕ × List ℕ)). z ++ (code, reason) ∷ []) due.1)) (same.1 ∙ due.0);
              topics = λ h. same.2 ∙ y.topics (ap is_open (sym same.0) ∙ h);
            })))
            (λ (ne : d ≢ c).
            let l = w.line d in
            let y = x.lines d in
            let still = moved_closed l.phase c code reason in
            let p = elsewhere d ne in
            at_note d n l ns e still (closed_other c d code reason ne)
            (rests_closed c code reason l d ns a b e y x.told app (ap shown_of p) told_b hub net told)
            (ap (λ (z : HubState). progress_at z d) hub ∙ p ∙ y.progress) (ends_of d l ns a y))
            (cases_eq d c);
      }
