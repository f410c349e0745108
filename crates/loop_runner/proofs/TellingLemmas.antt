-- The handler is told of one connection after another, and so of all in each turn.
use Rattle.loop_runner.proofs.Below.{◌≡◌, ◌≤◌, ◌+◌, ◌&&◌, length, ℕ, suc, List, [], ◌∷◌, ◌++◌, Option, Some, None, Bool, true, cond, refl, sym, ap, ◌∙◌, subst, arith, append_cancel_left, and_left, by_cases, Open, NoteValue, EventValue, is_turn, number_of, number_then, phase, is_open, world, open_is, tell, Phase, Entry, entry_of, unless_gone, HubState, Server, progress_at, news_at, news_is, has_news, tell_at, NoneToTell, IsTable, table_of, AreTold, BetweenTurns, TellsAll, TellsNext, all_told, told_next, told_given, told_is, is_accepted, accepted_more, shows_sound, sound_call, sound_serves, event_for, IntakeView, Agrees, Beginning, KeptAll, IsToldNow, IsBetweenTurns, EndsWithTurn, AreFew, AreReplies, meaning_of, Grows, NotesTurns, ServesOrders, is_kept_at, is_some, at_first, after_turn, ticked_call}
use Rattle.ws_kinds.specs.NoteValue as note
use Rattle.ws_kinds.specs.EventValue as event
use Rattle.run_meaning.specs.Server as run
use Rattle.loop_runner.proofs.GrowLemmas.{grows_makes, grows_served, grows_then}
use Rattle.loop_runner.proofs.KeepLemmas.{earlier, keep_on, same_notes, served_ticked, served_told}
use Rattle.loop_runner.proofs.OpenLemmas.{opens_none, opens_served, opens_then}
use Rattle.loop_runner.proofs.ProgressLemmas.{kept_at, kept_by}

-- ---- who has something to tell

pub news_kept : (h : HubState) (c : ℕ) → news_at h c ≡ true → is_kept_at h c ≡ true
news_kept h c news =
    let p = progress_at h c in
    kept_at h c ∙ ap (λ (z : Option Phase). kept_by z p.due) (open_is p.phase (and_left (is_open p.phase) (has_news (tell_at h c)) news))

-- is an entry, and so of a number that was accepted
pub news_low : (h : HubState) (c : ℕ) → IsTable (table_of h) → news_at h c ≡ true → c ≤ h.named
news_low h c table news = table.named c (table.kept c ∙ news_kept h c news)

no_entries : (entries : List Entry) → length entries ≡ 0 → entries ≡ []
no_entries [] none = refl
no_entries (first ∷ rest) none = absurd (omega arith)

-- where nobody is an entry, nobody has
pub nothing_to_tell : (h : HubState) → length h.entries ≡ 0 → NoneToTell 0 h
nothing_to_tell h count c above =
    let none = no_entries h.entries count in ap (λ (z : List Entry). is_open (unless_gone (Some (entry_of z c).phase)) && has_news (tell_at h c)) none

-- ---- a Told event is given

module _ {S : Type 0} (b : Beginning S) (after conn dropped : ℕ) (drained : Bool) (a m d : Server) (now next : S) (views : ℕ → IntakeView) (given : EventValue) (x : TellsNext after conn dropped drained a m) where
  pub keep_told : given ≡ event_for conn (views conn) (event.told dropped drained) → next ≡ b.after now given → ServesOrders b.admits conn (b.said next given) m d → IsTable (table_of d.hub)
      → KeptAll b a now views None → KeptAll b d next views None
  keep_told event_is state served whole =
      let n : NoteValue = note.told conn dropped drained in
      let orders = b.said next given in
      let opened = and_left (is_open (progress_at a.hub conn).phase) (has_news (tell_at a.hub conn)) x.next.news in
      keep_on b a d now next views views None None
      (grows_then a m d (grows_makes (n ∷ []) a m x.makes) (grows_served b.admits conn orders m d served))
      (opens_then a m d (grows_served b.admits conn orders m d served) (opens_none (n ∷ []) a m x.makes.advances.told (λ c. refl)) (opens_served b.admits conn orders m d served))
      (λ replies ns ms was tells told agree few h.
      let r = meaning_of b replies in
      let earlier = (grows_served b.admits conn orders m d served).told ms told in
      let told_m : m.told ≡ Some (ns ++ n ∷ []) = told_is ns (n ∷ []) earlier.0 a.told m.told x.makes.advances.told was earlier.2 in
      let now_open : phase r ns conn ≡ Some Open =
      open_is (phase r ns conn) (and_left (is_open (phase r ns conn)) (has_news (tell r ns conn)) (sym (news_is r ns a h.kept.agrees h.told.tellings conn) ∙ x.next.news)) in
      let shows = shows_sound r b.config ns a h.sound h.kept.agrees in
      let first = sound_call r b.config (n ∷ []) ns a m shows x.makes.advances refl h.sound in
      let accepted : is_accepted conn (ns ++ n ∷ []) ≡ true = accepted_more conn ns (n ∷ []) ((shows conn).accepted (ap is_some (open_is (progress_at a.hub conn).phase opened))) in
      record {
        kept = (told_given r b.config b.table ns ms conn dropped drained given a m d now next views h.kept now_open x.makes x.appends event_is state served told h.whole whole).1;
        sound = (sound_serves r b.config _ _ conn 0 orders (ns ++ n ∷ []) ms m d served told_m told first.1 accepted first.0).0;
        whole = whole;
        told = served_told b replies (ns ++ n ∷ []) ms conn orders m d served told_m told (told_next r ns after conn dropped drained a m h.kept.agrees x h.told);
        ticked = served_ticked b replies (ns ++ n ∷ []) ms conn orders m d served told_m told (ticked_call r ns (n ∷ []) a.hub m.hub refl refl x.makes.advances.counts x.appends.lines.config h.ticked);
      })

-- ---- the notes of one turn

-- nothing was noted, or that a turn ended last
ends_turn : List NoteValue → Bool
ends_turn [] = true
ends_turn (n ∷ []) = is_turn n
ends_turn (n ∷ m ∷ ns) = ends_turn (m ∷ ns)

last_turn : (ns : List NoteValue) → ends_turn (ns ++ note.turn ∷ []) ≡ true
unfolding ends_turn
last_turn [] = refl
last_turn (n ∷ []) = refl
last_turn (n ∷ m ∷ ns) = last_turn (m ∷ ns)

between_ends : (ns : List NoteValue) → BetweenTurns ns → ends_turn ns ≡ true
unfolding ends_turn
between_ends [] at_first = refl
between_ends ns (after_turn earlier) = last_turn earlier

ends_later : (n : NoteValue) (ns : List NoteValue) → ends_turn (n ∷ ns) ≡ true → ends_turn ns ≡ true
unfolding ends_turn
ends_later n [] e = refl
ends_later n (m ∷ ns) e = e

some_turn : (n : NoteValue) (ns : List NoteValue) → ends_turn (n ∷ ns) ≡ true → 1 ≤ number_of is_turn (n ∷ ns)
unfolding ends_turn
some_turn n [] e = let one : number_of is_turn (n ∷ []) ≡ 1 = ap (λ (z : Bool). cond z 1 0) e in omega arith
some_turn n (m ∷ ns) e = let rest = some_turn m ns e in by_cases (is_turn n)
    (λ turn. let sum : number_of is_turn (n ∷ m ∷ ns) ≡ suc (number_of is_turn (m ∷ ns)) = ap (λ (z : Bool). cond z (suc (number_of is_turn (m ∷ ns))) (number_of is_turn (m ∷ ns))) turn in omega arith)
    (λ none. let sum : number_of is_turn (n ∷ m ∷ ns) ≡ number_of is_turn (m ∷ ns) = ap (λ (z : Bool). cond z (suc (number_of is_turn (m ∷ ns))) (number_of is_turn (m ∷ ns))) none in omega arith)

-- a list of notes is parted in one way into those before its last turn, and those of that turn
same_turn : (xs us ys vs : List NoteValue) → xs ++ us ≡ ys ++ vs → ends_turn xs ≡ true → ends_turn ys ≡ true → number_of is_turn us ≡ 1 → number_of is_turn vs ≡ 1 → xs ≡ ys
same_turn [] us [] vs e x y one other = refl
same_turn [] us (y ∷ ys) vs e x z one other =
    absurd (let some = some_turn y ys z in let sum = number_then is_turn (y ∷ ys) vs in let all : number_of is_turn us ≡ number_of is_turn ((y ∷ ys) ++ vs) = ap (number_of is_turn) e in omega arith)
same_turn (x ∷ xs) us [] vs e z y one other =
    absurd (let some = some_turn x xs z in let sum = number_then is_turn (x ∷ xs) us in let all : number_of is_turn ((x ∷ xs) ++ us) ≡ number_of is_turn vs = ap (number_of is_turn) e in omega arith)
same_turn (x ∷ xs) us (y ∷ ys) vs e f g one other =
    let first : x ≡ y = cc in
    let rest : xs ++ us ≡ ys ++ vs = cc in
    let tails = same_turn xs us ys vs rest (ends_later x xs f) (ends_later y ys g) one other in
    ap (λ (z : NoteValue). z ∷ xs) first ∙ ap (λ (z : List NoteValue). y ∷ z) tails

told_once : {S : Type 0} (r : run.Server S) (ns ms all : List NoteValue) → all ≡ ns ++ ms → BetweenTurns ns → number_of is_turn ms ≡ 1 → AreTold r ns ms → IsToldNow r all
told_once r ns ms all e began one told before made h turn =
    let same : before ≡ ns = same_turn before made ns ms (sym h ∙ e) (between_ends before turn.begins) (between_ends ns began) turn.one one in
    let rest : made ≡ ms = append_cancel_left ns made ms (ap (λ (z : List NoteValue). z ++ made) (sym same) ∙ sym h ∙ e) in
    subst (λ (z : List NoteValue). AreTold r z made) (sym same) (subst (λ (z : List NoteValue). AreTold r ns z) (sym rest) told)

pub ended_between : (told : Option (List NoteValue)) → EndsWithTurn told → IsBetweenTurns told
ended_between told last notes is = let x = last notes is in subst BetweenTurns (sym x.1) (after_turn x.0)

pub told_in_turn : {S : Type 0} (b : Beginning S) (a d : Server) (now next : S) (views later : ℕ → IntakeView) → Grows a d → NotesTurns 1 a.told d.told → TellsAll a d → IsBetweenTurns a.told → KeptAll b a now views None → KeptAll b d next later None
    → (replies : ℕ → List ℕ) (notes : List NoteValue) → d.told ≡ Some notes → d.net.tells ≡ true → AreReplies b.table notes d.net.given replies → AreFew (meaning_of b replies) notes → IsToldNow (meaning_of b replies) notes
told_in_turn b a d now next views later grows turns all began k l replies notes is tells agree few =
    let r = meaning_of b replies in
    let x = earlier b a d grows replies notes is tells agree few in
    let before = k.holds x.notes x.told x.tells replies x.agree x.few in
    let after = l.holds notes is tells replies agree few in
    let count = turns notes is in
    let same : count.0 ≡ x.notes = same_notes count.0 x.notes (sym count.1 ∙ x.told) in
    let sum = number_then is_turn x.notes x.later in
    let whole : number_of is_turn notes ≡ number_of is_turn (x.notes ++ x.later) = ap (number_of is_turn) x.all in
    let turned : number_of is_turn notes ≡ number_of is_turn x.notes + 1 = count.2 ∙ ap (λ (z : List NoteValue). number_of is_turn z + 1) same in
    let one : number_of is_turn x.later ≡ 1 = omega arith in
    told_once r x.notes x.later notes x.all (began x.notes x.told) one
    (all_told r x.notes x.later a d before.kept.agrees before.told.tellings all (subst (λ (z : List NoteValue). Agrees (world r z) z d) x.all after.kept.agrees))
