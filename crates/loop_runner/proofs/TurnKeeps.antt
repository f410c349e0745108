-- What is kept where a connection comes, and as a turn ends.
use Rattle.loop_runner.proofs.Below.{◌≡◌, ◌<◌, ◌^◌, ◌-◌, ℕ, List, [], ◌∷◌, ◌++◌, length, take, Option, Some, None, Bool, true, false, cond, nat_eq, nat_lt, refl, sym, ap, ◌∙◌, subst, arith, length-append, ◌||◌, nat_tests, Conn, ConfigValue, NoteValue, IsNoted, AreNoted, NetState, Nexts, Shuts, passing, passed_after, is_rest, NetEvent, RouteTable, is_gone_in, is_accepted, world, Follows, arrival, entries, sound_one, HubState, Server, server, has_entry, nothing, Appends, due_at, IsTable, table_of, Makes, Arrives, EndsTurn, Taken, Busy, Memory, told_one, Agrees, agrees_aside, told_is, none_but, new_above, agrees_entries, next_but, aside_but, AreSound, IntakeView, Kept, kept_arrived, none_due, sound_comes, sound_time, gone_accepted, kept_passing, sound_arrival, sound_turn, agrees_now, kept_tick, kept_busy, kept_memory, kept_no_room, kept_shut, kept_readable, kept_writable, kept_turned, Intake, IsNew, Beginning, Holds, KeptAll, meaning_of, intake_view, with_view, Grows, Onward, GrowsBy, Passes, is_opened, is_present, Offers, by_cases, kept_offered, sound_offer, OffersIfThere, is_turn, is_telling, TellsBy, IsTold, HoldsAs, told_proceed, told_end, holds_as, finishes, finishes_turnless, finishes_silent, Settled, ◌&&◌, list_all, list_any, clash, none_follow, all_then, none_then, is_opened_in, is_uncounted, is_ticking, CountsBeside, CountsBy, IsTicked, Ticks, is_of_tick, tick_advances, told_call, ticked_proceed, ticked_tick}
use Rattle.ws_kinds.specs.NoteValue as note
use Rattle.link_trait.specs.declared.net.NetEvent.TheVariants as event
use Rattle.run_meaning.specs.Server as run
use Rattle.loop_runner.proofs.GrowLemmas.{grows_advances, grows_then, grows_makes, grows_noted, grows_next, grows_shut, grows_ended, grows_proceeds}
use Rattle.loop_runner.proofs.OpenLemmas.{opens_ended, opens_none, opens_offered, opens_same, opens_then}
use Rattle.loop_runner.proofs.KeepLemmas.{counts_beside, counts_first, few_front, few_of, keep_notes, keep_on}
use Rattle.loop_runner.proofs.ViewLemmas.{with_here, with_other}

-- ---- fewer answers were counted before

-- the count of answers was below its end before, where it is below it now
fewer_passed : (passed : List NetEvent) (answer : NetEvent) (after : List NetEvent) → after ≡ passed_after passed answer → length after < 2 ^ 64 - 1 → length passed < 2 ^ 64 - 1
fewer_passed passed answer after is few = by_test (nat_lt (length passed) (2 ^ 64 - 1)) refl
  where
    less : (n m : ℕ) → nat_lt n m ≡ true → n < m
    less n m e = grind (arith, nat_tests)

    by_test : (z : Bool) → nat_lt (length passed) (2 ^ 64 - 1) ≡ z → length passed < 2 ^ 64 - 1
    by_test true e = less (length passed) (2 ^ 64 - 1) e
    by_test false e =
        let same : after ≡ passed = is ∙ ap (λ (z : Bool). cond z (passed ++ passing answer) passed) e in
        subst (λ (z : List NetEvent). length z < 2 ^ 64 - 1) same few

pub few_before : (answer : NetEvent) (a b : NetState) → Nexts answer a b → a.tells ≡ true → length b.passed < 2 ^ 64 - 1 → length a.passed < 2 ^ 64 - 1
few_before answer a b n t few = fewer_passed a.passed answer b.passed (n.told t).passed few

pub few_onward : {count owed : ℕ} (a b : Server) → Onward count owed a b → a.net.tells ≡ true → length b.net.passed < 2 ^ 64 - 1 → length a.net.passed < 2 ^ 64 - 1
few_onward a b x t few = subst (λ (z : List NetEvent). length z < 2 ^ 64 - 1) (x.passed t) few

few_grown : (answers old new : List NetEvent) → GrowsBy answers old new → length new < 2 ^ 64 - 1 → length old < 2 ^ 64 - 1
few_grown answers old new grows few = let l = ap length grows ∙ length-append old (take (2 ^ 64 - 1 - length old) answers) in omega arith

pub few_passes : {P : List NetEvent → Type 0} (last : List NetEvent) (a b : NetState) → Passes P last a b → a.tells ≡ true → length b.passed < 2 ^ 64 - 1 → length a.passed < 2 ^ 64 - 1
few_passes last a b x t few = few_grown ((x.told t).0 ++ last) a.passed b.passed (x.told t).2 few

-- ---- a connection comes

apart : (e l m k : ℕ) → e ≡ l → m ≡ k → nat_eq l m ≡ false → false ≡ nat_eq e k
apart e l m k h i ne = grind (arith, nat_tests)

module _ {S : Type 0} (r : run.Server S) (f : ConfigValue) (t : RouteTable) (ns : List NoteValue) (a : Server) (now : S) (vs : ℕ → IntakeView) (k : Kept r f t ns a now vs None)
    (conn : Conn) (net : NetState) (next : Nexts (event.Accept conn) a.net net) (table : IsTable (table_of a.hub)) (above : a.hub.named < conn.0) (none : (c : ℕ) → due_at a.hub c ≡ None) (sound : AreSound r f ns) where
  agrees_next : Agrees (world r ns) ns (server a.hub net a.told)
  agrees_next = agrees_now r f t ns a now vs k net (next.net.tells ∙ k.agrees.tells) (next.told k.agrees.tells).traffic

  many : entries r ns ≡ length a.hub.entries
  many = agrees_entries r ns a k.agrees table.rising table.kept k.unlike

  unknown : is_accepted conn.0 ns ≡ false
  unknown = new_above r ns a k.agrees conn.0 above

  -- the loop has too little memory, while the hub has place
  sound_no_room : nat_eq (length a.hub.entries) a.hub.config.max_conns ≡ false → AreSound r f (ns ++ note.no_room conn.0 ∷ [])
  sound_no_room room = sound_one r f ns (note.no_room conn.0)
      (sound_arrival r f ns (note.no_room conn.0) refl (apart (entries r ns) (length a.hub.entries) a.hub.config.max_conns f.max_conns many (ap (λ (z : ConfigValue). z.max_conns) k.configured) room)
      (λ d own. let e : conn.0 ≡ d = cc in ap (λ (z : ℕ). is_gone_in z ns) (sym e) ∙ gone_accepted r f ns sound conn.0 unknown) (none_due r ns a k.agrees none))
      sound

  sound_busy : nat_eq (length a.hub.entries) a.hub.config.max_conns ≡ true → AreSound r f (ns ++ note.busy conn.0 ∷ [])
  sound_busy full = sound_one r f ns (note.busy conn.0)
      (sound_arrival r f ns (note.busy conn.0) refl (both (entries r ns) (length a.hub.entries) a.hub.config.max_conns f.max_conns many (ap (λ (z : ConfigValue). z.max_conns) k.configured) full)
      (λ d own. let e : conn.0 ≡ d = cc in ap (λ (z : ℕ). is_gone_in z ns) (sym e) ∙ gone_accepted r f ns sound conn.0 unknown) (none_due r ns a k.agrees none))
      sound
    where
      both : (e l m k : ℕ) → e ≡ l → m ≡ k → nat_eq l m ≡ true → true ≡ nat_eq e k
      both e l m k h i same = grind (arith, nat_tests)

  -- there are as many as there may be, which the loop notes itself
  kept_full : length a.net.passed < 2 ^ 64 - 1 → (b : Server) (after : List NoteValue) → b.hub ≡ a.hub → b.net ≡ net → AreNoted a.told (note.busy conn.0 ∷ []) b.told → b.told ≡ Some after
      → Kept r f t (ns ++ note.busy conn.0 ∷ []) b now vs None
  kept_full few b after hub same noted told =
      let tells : net.tells ≡ true = next.net.tells ∙ k.agrees.tells in
      let traffic = (next.told k.agrees.tells).traffic in
      let n = note.busy conn.0 in
      kept_passing r f t ns (n ∷ []) a b now vs k refl
      (agrees_aside r (world r ns) ns n (server a.hub net a.told) b agrees_next refl hub same (told_is ns (n ∷ []) after a.told b.told noted k.agrees.told told))
      (subst (λ (z : NetState). Follows (ns ++ n ∷ []) z) (sym same)
      (none_but (ns ++ n ∷ []) net (aside_but ns n (arrival conn.0 ∷ []) [] net refl refl (next_but (event.Accept conn) ns a.net net k.agrees.tells few next k.follows))))
      (ap (λ (z : HubState). z.config) hub) (λ c. ap (λ (z : NetState). z.given c) same ∙ traffic.given c)
      (λ c there. ap (λ (z : HubState). has_entry z.entries c) (sym hub) ∙ there)

module _ {S : Type 0} (b : Beginning S) (conn : Conn) (h : HubState) (before net : NetState) (t : Option (List NoteValue)) (now : S) (views : ℕ → IntakeView)
    (next : Nexts (event.Accept conn) before net) (few : length before.passed < 2 ^ 64 - 1) (whole : IsTable (table_of h)) (above : h.named < conn.0) (none : (c : ℕ) → due_at h c ≡ None) where
  abbrev a : Server
  a = server h before t

  abbrev m : Server
  m = server h net t

  grows_from : (d : Server) → Grows m d → Grows a d
  grows_from d x = grows_then a m d (grows_next (event.Accept conn) h before net t next) x

  agrees_then : (replies : ℕ → List ℕ) (ns : List NoteValue) → Holds b replies ns a now views None → Agrees (world (meaning_of b replies) ns) ns m
  agrees_then replies ns x = agrees_next (meaning_of b replies) b.config b.table ns a now views x.kept conn net next whole above none x.sound

  -- it was accepted
  pub keep_accepted : (d : Server) (intake : Intake) → Arrives Taken conn.0 m d → Appends nothing m d → IsTable (table_of d.hub) → CountsBy (note.accepted conn.0) h d.hub → IsNew h.config.max_message (Some intake)
      → KeptAll b a now views None → KeptAll b d now (with_view conn.0 (intake_view intake) views) None
  keep_accepted d intake arrives app whole_now counts new =
      let makes : Makes (note.accepted conn.0 ∷ []) m d = arrives.3 in
      let later = with_view conn.0 (intake_view intake) views in
      let here : later conn.0 ≡ intake_view intake = with_here conn.0 (intake_view intake) views in
      keep_notes b (note.accepted conn.0 ∷ []) a d now now views later None None (grows_from d (grows_makes (note.accepted conn.0 ∷ []) m d makes)) makes.advances.told (λ c. refl) whole_now refl refl makes.advances.tells (counts_first (note.accepted conn.0) a d refl refl counts)
      (λ replies ns ms tells told x.
      let r = meaning_of b replies in (
        kept_arrived r b.config b.table ns a now views x.kept conn net d ms next arrives app told above x.sound later few whole whole_now
            (ap (λ (z : IntakeView). z.reader.raw) here ∙ new.1) (ap (λ (z : IntakeView). z.reader.unread) here ∙ new.0)
            (ap (λ (z : IntakeView). z.reader.max) here ∙ new.2 ∙ ap (λ (z : ConfigValue). z.max_message) x.kept.configured)
            (ap (λ (z : IntakeView). z.route) here ∙ new.3) (ap (λ (z : IntakeView). z.param) here ∙ new.4)
            (λ c ne. with_other conn.0 (intake_view intake) views c ne),
        (sound_comes r b.config Taken ns conn.0 m d (agrees_then replies ns x) none whole x.kept.unlike x.kept.configured above arrives x.sound).0,
      ))

  -- it was turned away, and its link was shut
  keep_shut : (n : NoteValue) (d : Server) (end : NetState) → ((c : ℕ) → is_opened c n ≡ false) → AreNoted t (n ∷ []) d.told → IsTable (table_of d.hub) → Grows m d → Shuts conn.0 d.net end
      → is_turn n ≡ false → is_telling n ≡ false → TellsBy (n ∷ []) h d.hub → is_uncounted n ≡ true → is_ticking n ≡ false → CountsBeside (n ∷ []) h d.hub
      → ((replies : ℕ → List ℕ) (ns ms : List NoteValue) → d.told ≡ Some ms → Holds b replies ns a now views None
      → Kept (meaning_of b replies) b.config b.table (ns ++ n ∷ []) d now views None × AreSound (meaning_of b replies) b.config (ns ++ n ∷ []))
      → KeptAll b a now views None → KeptAll b (server d.hub end d.told) now views None
  keep_shut n d end unopened noted table grows shuts turnless silent tells_by rest still counts step =
      keep_notes b (n ∷ []) a (server d.hub end d.told) now now views views None None
      (grows_from (server d.hub end d.told) (grows_then m d (server d.hub end d.told) grows (grows_shut conn.0 d.hub d.net end d.told shuts))) noted (λ c. ap (λ (z : Bool). z || false) (unopened c)) table
      (ap (λ (z : Bool). z || false) turnless) (ap (λ (z : Bool). z || false) silent) tells_by
      (counts_beside (n ∷ []) a (server d.hub end d.told) (ap (λ (z : Bool). z && true) rest) (ap (λ (z : Bool). z || false) still) counts)
      (λ replies ns ms tells told x.
      let got = step replies ns ms told x in
      (kept_shut (meaning_of b replies) b.config b.table (ns ++ n ∷ []) d now views got.0 conn.0 end shuts, got.1))

  pub keep_busy : (d : Server) (end : NetState) → Arrives Busy conn.0 m d → Appends nothing m d → IsTable (table_of d.hub) → Shuts conn.0 d.net end
      → KeptAll b a now views None → KeptAll b (server d.hub end d.told) now views None
  keep_busy d end arrives app table shuts = keep_shut (note.busy conn.0) d end (λ c. refl) arrives.2.advances.told table (grows_makes (note.busy conn.0 ∷ []) m d arrives.2) shuts refl refl arrives.2.advances.tells refl refl arrives.2.advances.counts
      (λ replies ns ms told x. let r = meaning_of b replies in (
        kept_busy r b.config b.table ns a now views x.kept conn net d ms few next arrives app told,
        (sound_comes r b.config Busy ns conn.0 m d (agrees_then replies ns x) none whole x.kept.unlike x.kept.configured above arrives x.sound).0,
      ))

  pub keep_memory : (d : Server) (end : NetState) → Arrives Memory conn.0 m d → Appends nothing m d → IsTable (table_of d.hub) → Shuts conn.0 d.net end
      → KeptAll b a now views None → KeptAll b (server d.hub end d.told) now views None
  keep_memory d end arrives app table shuts = keep_shut (note.no_room conn.0) d end (λ c. refl) arrives.2.advances.told table (grows_makes (note.no_room conn.0 ∷ []) m d arrives.2) shuts refl refl arrives.2.advances.tells refl refl arrives.2.advances.counts
      (λ replies ns ms told x. let r = meaning_of b replies in (
        kept_memory r b.config b.table ns a now views x.kept conn net d ms few next arrives app told,
        (sound_comes r b.config Memory ns conn.0 m d (agrees_then replies ns x) none whole x.kept.unlike x.kept.configured above arrives x.sound).0,
      ))

  -- the loop had too little memory for it, and noted that
  pub keep_no_room : (end : NetState) (t' : Option (List NoteValue)) → IsNoted t (note.no_room conn.0) t' → Shuts conn.0 net end → nat_eq (length h.entries) h.config.max_conns ≡ false
      → KeptAll b a now views None → KeptAll b (server h end t') now views None
  keep_no_room end t' noted shuts room = keep_shut (note.no_room conn.0) (server h net t') end (λ c. refl) (told_one t t' (note.no_room conn.0) noted) whole (grows_noted (note.no_room conn.0) h h net t t' noted) shuts refl refl (λ _ c. refl) refl refl (λ _ c there. (there, refl))
      (λ replies ns ms told x. let r = meaning_of b replies in (
        kept_no_room r b.config b.table ns a now views x.kept conn net (server h net t') ms few next refl refl (told_one t t' (note.no_room conn.0) noted) told,
        sound_no_room r b.config b.table ns a now views x.kept conn net next whole above none x.sound room,
      ))

  -- there are as many as there may be, which the loop noted
  pub keep_full : (end : NetState) (t' : Option (List NoteValue)) → IsNoted t (note.busy conn.0) t' → Shuts conn.0 net end → nat_eq (length h.entries) h.config.max_conns ≡ true
      → KeptAll b a now views None → KeptAll b (server h end t') now views None
  keep_full end t' noted shuts full = keep_shut (note.busy conn.0) (server h net t') end (λ c. refl) (told_one t t' (note.busy conn.0) noted) whole (grows_noted (note.busy conn.0) h h net t t' noted) shuts refl refl (λ _ c. refl) refl refl (λ _ c there. (there, refl))
      (λ replies ns ms told x. let r = meaning_of b replies in (
        kept_full r b.config b.table ns a now views x.kept conn net next whole above none x.sound few (server h net t') ms refl refl (told_one t t' (note.busy conn.0) noted) told,
        sound_busy r b.config b.table ns a now views x.kept conn net next whole above none x.sound full,
      ))

-- ---- notes of a tick, and that connections are finished

tick_unopened : (c : ℕ) (ns : List NoteValue) → list_all is_of_tick ns ≡ true → is_opened_in c ns ≡ false
tick_unopened c ns e = none_follow is_of_tick (is_opened c) one ns e
  where
    one : (n : NoteValue) → is_of_tick n ≡ true → is_opened c n ≡ false
    one (note.opened d route param) h = clash false refl h
    one _ h = refl

tick_turnless : (ns : List NoteValue) → list_all is_of_tick ns ≡ true → list_any is_turn ns ≡ false
tick_turnless ns e = none_follow is_of_tick is_turn one ns e
  where
    one : (n : NoteValue) → is_of_tick n ≡ true → is_turn n ≡ false
    one note.turn h = clash false refl h
    one _ h = refl

tick_silent : (ns : List NoteValue) → list_all is_of_tick ns ≡ true → list_any is_telling ns ≡ false
tick_silent ns e = none_follow is_of_tick is_telling one ns e
  where
    one : (n : NoteValue) → is_of_tick n ≡ true → is_telling n ≡ false
    one (note.told c dropped drained) h = clash false refl h
    one _ h = refl

finishes_uncounted : (cs : List ℕ) → list_all is_uncounted (finishes cs) ≡ true
finishes_uncounted [] = refl
finishes_uncounted (c ∷ cs) = finishes_uncounted cs

finishes_unticking : (cs : List ℕ) → list_any is_ticking (finishes cs) ≡ false
finishes_unticking [] = refl
finishes_unticking (c ∷ cs) = finishes_unticking cs

-- ---- answers of the net, and the end of a turn

module _ {S : Type 0} (b : Beginning S) (h : HubState) (before net : NetState) (t : Option (List NoteValue)) (now : S) (views : ℕ → IntakeView) where
  abbrev was : Server
  was = server h before t

  -- an answer that notes nothing
  keep_answer : (answer : NetEvent) → Nexts answer before net → ((replies : ℕ → List ℕ) (ns : List NoteValue) → Kept (meaning_of b replies) b.config b.table ns was now views None → Kept (meaning_of b replies) b.config b.table ns (server h net t) now views None)
      → KeptAll b was now views None → KeptAll b (server h net t) now views None
  keep_answer answer next step = keep_on b was (server h net t) now now views views None None (grows_next answer h before net t next) (opens_same was (server h net t) refl)
      (λ replies ns ms known tells told agree few x.
      let is : ns ≡ ms = let z : Some ns ≡ Some ms = sym known ∙ told in cc in
      subst (λ (z : List NoteValue). Holds b replies z (server h net t) now views None) is (record { kept = step replies ns x.kept; sound = x.sound; whole = x.whole; told = x.told; ticked = x.ticked }))

  -- a connection can be read
  pub keep_readable : (conn : Conn) → Nexts (event.Readable conn) before net → KeptAll b was now views None → KeptAll b (server h net t) now views None
  keep_readable conn next = keep_answer (event.Readable conn) next (λ replies ns k. kept_readable (meaning_of b replies) b.config b.table ns was now views k conn net next)

  -- or takes octets
  keep_writable : (conn : Conn) → Nexts (event.Writable conn) before net → KeptAll b was now views None → KeptAll b (server h net t) now views None
  keep_writable conn next = keep_answer (event.Writable conn) next (λ replies ns k. kept_writable (meaning_of b replies) b.config b.table ns was now views k conn net next)

  -- time went by
  pub keep_tick : (d : Server) → ((c : ℕ) → due_at h c ≡ None) → Nexts event.Tick before net → length before.passed < 2 ^ 64 - 1 → Ticks (server h net t) d → IsTable (table_of d.hub)
      → KeptAll b was now views None → KeptAll b d now views None
  keep_tick d none next few x whole =
      let m = server h net t in
      let adv = tick_advances m d x in
      keep_on b was d now now views views None None (grows_then was m d (grows_next event.Tick h before net t next) (grows_advances (note.tick ∷ x.rest) m d adv))
      (opens_none (note.tick ∷ x.rest) was d adv.told (λ c. tick_unopened c x.rest x.of_tick))
      (λ replies ns ms known tells told agree items y.
      let r = meaning_of b replies in
      let both = kept_tick r b.config b.table ns was now views y.kept net d ms x few next told y.whole whole in
      let agrees : Agrees (world r ns) ns m = agrees_now r b.config b.table ns was now views y.kept net (next.net.tells ∙ tells) (next.told tells).traffic in
      record {
        kept = both.1;
        sound = subst (λ (z : List NoteValue). AreSound r b.config z) (sym both.0) (sound_time r b.config ns m d x agrees none y.sound).0;
        whole = whole;
        told = subst (λ (z : List NoteValue). IsTold r z d.hub) (sym both.0) (told_call r ns (note.tick ∷ x.rest) h d.hub (tick_turnless x.rest x.of_tick) (tick_silent x.rest x.of_tick) adv.tells y.told);
        ticked = subst (λ (z : List NoteValue). IsTicked r z d.hub) (sym both.0) (ticked_tick r ns m d x y.whole.numbers agrees y.ticked);
      })

  -- what is held is offered
  keep_offered : (conn : Conn) (d : Server) → Nexts (event.Writable conn) before net → Offers conn.0 (server h net t) d → KeptAll b was now views None → KeptAll b d now views None
  keep_offered conn d next offers =
      let m = server h net t in
      keep_on b was d now now views views None None (grows_then was m d (grows_next (event.Writable conn) h before net t next) (grows_proceeds [] _ m d offers.proceeds)) (opens_then was m d (grows_proceeds [] _ m d offers.proceeds) (opens_same was m refl) (opens_offered conn.0 m d offers))
      (λ replies ns ms known tells told agree items x.
      let r = meaning_of b replies in
      let both = kept_offered r b.config b.table ns was now views x.kept conn net d ms offers next told x.whole in
      let at = kept_writable r b.config b.table ns was now views x.kept conn net next in
      let sending = offers.proceeds.sending in
      let last = finishes offers.finished in
      record {
        kept = both.1;
        sound = subst (λ (z : List NoteValue). AreSound r b.config z) (sym both.0) (sound_offer r b.config ns ms conn.0 m d offers at.agrees told at.follows.taken (few_of r ns (few_front r ns (sending ++ last) ms both.0 items)) x.sound).0;
        whole = offers.table;
        told = subst (λ (z : List NoteValue). IsTold r z d.hub) (sym both.0) (told_proceed r ns [] last m d offers.proceeds refl (finishes_turnless offers.finished) refl (finishes_silent offers.finished) x.told);
        ticked = subst (λ (z : List NoteValue). IsTicked r z d.hub) (sym both.0)
            (ticked_proceed r ns [] last m d offers.proceeds refl (finishes_uncounted offers.finished) refl (finishes_unticking offers.finished) offers.appends.lines.config x.ticked);
      })

  -- where the connection is there, and else nothing is
  pub keep_freed : (conn : Conn) (d : Server) → Nexts (event.Writable conn) before net → OffersIfThere conn.0 (server h net t) d → KeptAll b was now views None → KeptAll b d now views None
  keep_freed conn d next x k = by_cases (is_present h conn.0)
      (λ there. keep_offered conn d next (x.there there) k)
      (λ away. subst (λ (z : Server). KeptAll b z now views None) (sym (x.away away)) (keep_writable conn next k))

  -- the turn ends
  pub keep_ended : (answer : NetEvent) (d : Server) → is_rest answer ≡ true → Nexts answer before net → length before.passed < 2 ^ 64 - 1 → EndsTurn (server h net t) d → Appends nothing (server h net t) d → IsTable (table_of d.hub) → Settled d.hub
      → KeptAll b was now views None → KeptAll b d now views None
  keep_ended answer d rest next few ends app whole settled =
      keep_on b was d now now views views None None (grows_then was (server h net t) d (grows_next answer h before net t next) (grows_ended (server h net t) d ends)) (opens_then was (server h net t) d (grows_ended (server h net t) d ends) (opens_same was (server h net t) refl) (opens_ended (server h net t) d ends))
      (λ replies ns ms known tells told agree items x.
      let r = meaning_of b replies in
      let both = kept_turned r b.config b.table ns was now views x.kept answer net d ms ends rest few next app told x.whole whole in
      let traffic = (next.told tells).traffic in
      let agrees : Agrees (world r ns) ns (server h net t) = agrees_now r b.config b.table ns was now views x.kept net (next.net.tells ∙ tells) traffic in
      let made = ends.proceeds.sending ++ (finishes ends.finished ++ note.turn ∷ []) in
      record {
        kept = both.1;
        sound = subst (λ (z : List NoteValue). AreSound r b.config z) (sym both.0)
            (sound_turn r b.config ns ms (server h net t) d ends agrees told (λ c k. ap (λ (z : List ℕ). length z) (traffic.taken c) ∙ x.kept.follows.taken c k) (few_of r ns (few_front r ns made ms both.0 items)) x.sound).0;
        whole = whole;
        told = subst (λ (z : List NoteValue). IsTold r z d.hub) (sym both.0)
            (told_end r ns (server h net t) d ends (subst (λ (z : List NoteValue). HoldsAs r z d.hub) both.0 (holds_as r ms d both.1.agrees settled (few_of r ms items) both.1.follows.taken)) x.told);
        ticked = subst (λ (z : List NoteValue). IsTicked r z d.hub) (sym both.0)
            (ticked_proceed r ns [] (finishes ends.finished ++ note.turn ∷ []) (server h net t) d ends.proceeds refl
            (all_then is_uncounted (finishes ends.finished) (note.turn ∷ []) (finishes_uncounted ends.finished) refl) refl
            (none_then is_ticking (finishes ends.finished) (note.turn ∷ []) (finishes_unticking ends.finished) refl) app.lines.config x.ticked);
      })
