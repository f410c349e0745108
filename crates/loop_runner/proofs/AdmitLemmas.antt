-- What is kept where the head of a request is judged.
use Rattle.loop_runner.proofs.Below.{◌≡◌, ◌≤◌, ℕ, List, [], ◌∷◌, ◌++◌, Option, Some, None, Bool, true, false, ◌||◌, nat_eq, drop, length, is_some, refl, sym, ap, ◌∙◌, subst, append-nil, append_assoc, ConfigValue, Phase, Head, NoteValue, EventValue, reading, replied, RouteTable, Verdict, Judged, admit, refuse, undecided, answer_text, judged_stays, refusal_text, is_accepted, heard, last_frame, phase, world, AreAdmitted, AreReplies, is_opened, is_opened_in, list_any-append, texts_exist, by_cases, clash, is_same, Meaning, accepted_more, Server, phase_at, only, Proceeds, Appends, IsTable, table_of, Sends, HearsHead, HearsFrames, told_is, head_admitted, agrees_told_phase, admitted_longer, reply_of_opened, event_for, IntakeView, HearsAt, Kept, AreSound, sound_proceed, sound_serves, opened_given, shows_sound, known_world, waits_kept, refused_kept, shut_kept, Decision, More, Refuse, decision_seen, Beginning, meaning_of, with_view, ForNotes, KeptAll, ServesOrders, KeepsOne, told_proceed, ticked_proceed}
use Rattle.ws_kinds.specs.NoteValue as note
use Rattle.ws_kinds.specs.EventValue as event
use Rattle.run_meaning.specs.Life as life
use Rattle.run_meaning.specs.Replies.{is_admitted}
use Rattle.loop_runner.proofs.GrowLemmas.{grows_proceeds, grows_served, grows_then}
use Rattle.loop_runner.proofs.OpenLemmas.{opens_sent, opens_served, outgoing_unopened}
use Rattle.loop_runner.proofs.KeepLemmas.{admitted_on, few_front, holds_on, keep_on, keep_there, same_notes, sent_ticked, sent_told, served_ticked, served_told}
use Rattle.loop_runner.proofs.ViewLemmas.{with_here, with_other, with_same}

module _ {S : Type 0} (r : Meaning S) (config : ConfigValue) (table : RouteTable) (ns : List NoteValue) (conn : ℕ) (s : Server) (now : S) (views : ℕ → IntakeView) (reading : Option ℕ)
    (k : Kept r config table ns s now views reading) (is : phase_at s.hub conn ≡ Some Head) where
  head_phase : phase r ns conn ≡ Some Head
  head_phase = agrees_told_phase (world r ns) ns s k.agrees conn Head refl is

  -- of a connection in phase Head nothing was heard, and its reader has all octets
  head_there : HearsHead config.max_message (heard conn ns) (s.net.given conn) (views conn).reader
  head_there = (subst (λ (z : Option Phase). HearsAt table config.max_message z (last_frame r ns conn) (heard conn ns) (s.net.given conn) (views conn).reader) head_phase (k.hears conn)).1

  head_accepted : AreSound r config ns → is_accepted conn ns ≡ true
  head_accepted sound = sym ((known_world r config ns sound).accepted conn) ∙ ap (λ (z : Option Phase). is_some z) head_phase

-- who is opened by an admission is the one that is admitted
opened_only : (conn route : ℕ) (param : List ℕ) (ns ms : List NoteValue) (c : ℕ) (a m : Server) → Proceeds (note.opened conn route param ∷ []) [] a m → a.told ≡ Some ns → m.told ≡ Some ms
    → is_opened_in c ns ≡ false → is_opened_in c ms ≡ true → conn ≡ c
opened_only conn route param ns ms c a m x was told new opened =
    let n : NoteValue = note.opened conn route param in
    let made : List NoteValue = n ∷ (x.sending ++ []) in
    let is : ms ≡ ns ++ made = same_notes ms (ns ++ made) (sym told ∙ told_is ns made ms a.told m.told x.advances.told was told) in
    let none : is_opened_in c (x.sending ++ []) ≡ false = ap (is_opened_in c) (append-nil x.sending) ∙ outgoing_unopened c x.sending x.outgoing in
    let both : (is_opened_in c ns || (nat_eq conn c || is_opened_in c (x.sending ++ []))) ≡ true = sym (list_any-append (is_opened c) ns made) ∙ ap (is_opened_in c) (sym is) ∙ opened in
    is_same conn c (middle (is_opened_in c ns) (nat_eq conn c) (is_opened_in c (x.sending ++ [])) new none both)
  where
    middle : (x y z : Bool) → x ≡ false → z ≡ false → (x || (y || z)) ≡ true → y ≡ true
    middle true y z e h g = clash true e refl
    middle false true z e h g = refl
    middle false false z e h g = clash z h g

module _ {S : Type 0} (b : Beginning S) (conn : ℕ) where
  -- more octets are needed
  pub keep_waiting : (s : Server) (now : S) (view : IntakeView) (d : Decision) → phase_at s.hub conn ≡ Some Head → d ≡ More → Judged b.table view.reader.raw (decision_seen d) → KeepsOne b conn (Some conn) None view view s now s now
  keep_waiting s now view d is decided judged = record {
    kept = λ views at. keep_there b s now views (with_view conn view views) (Some conn) None (λ replies ns x.
        let r = meaning_of b replies in
        let head = head_there r b.config b.table ns conn s now views (Some conn) x.kept is in
        let raw : view.reader.raw ≡ s.net.given conn = ap (λ (z : IntakeView). z.reader.raw) (sym at) ∙ head.raw in
        let waits : Judged b.table (s.net.given conn) undecided = subst (λ (z : List ℕ). Judged b.table z undecided) raw (subst (λ (z : Decision). Judged b.table view.reader.raw (decision_seen z)) decided judged) in
        record {
          kept = shut_kept r b.config b.table ns s now views (with_view conn view views) None (waits_kept r b.config b.table ns conn s now views x.kept is waits) (λ c _. with_same conn view views at c);
          sound = x.sound;
          whole = x.whole;
          told = x.told;
          ticked = x.ticked;
        });
  }

  -- the request is refused
  pub keep_refused : (status : ℕ) (text : List ℕ) (a d : Server) (now : S) (view : IntakeView) (decision : Decision) → phase_at a.hub conn ≡ Some Head → decision ≡ Refuse status → Judged b.table view.reader.raw (decision_seen decision)
      → text ≡ refusal_text status → Sends conn (note.head conn status ∷ []) (only conn (replied text)) a d → KeepsOne b conn (Some conn) None view view a now d now
  keep_refused status text a d now view decision is decided judged text_is sent = record {
    kept = λ views at.
        keep_on b a d now now views (with_view conn view views) (Some conn) None (grows_proceeds (note.head conn status ∷ []) [] a d sent.proceeds) (opens_sent (note.head conn status) a d sent.proceeds (λ c. refl))
        (λ replies ns ms was tells told agree few old.
        let r = meaning_of b replies in
        let head = head_there r b.config b.table ns conn a now views (Some conn) old.kept is in
        let raw : view.reader.raw ≡ a.net.given conn = ap (λ (z : IntakeView). z.reader.raw) (sym at) ∙ head.raw in
        let refused : Judged b.table (a.net.given conn) (refuse status) = subst (λ (z : List ℕ). Judged b.table z (refuse status)) raw (subst (λ (z : Decision). Judged b.table view.reader.raw (decision_seen z)) decided judged) in
        let put : Sends conn (note.head conn status ∷ []) (only conn (replied (refusal_text status))) a d = subst (λ (z : List ℕ). Sends conn (note.head conn status ∷ []) (only conn (replied z)) a d) text_is sent in
        let got = refused_kept r b.config b.table ns ms conn status a d now views put.proceeds old.kept old.whole put.table is refused put.appends told in
        let more = sound_proceed r b.config (note.head conn status ∷ []) [] ns a d put.proceeds (shows_sound r b.config ns a old.sound old.kept.agrees) refl refl old.sound in
        record {
          kept = shut_kept r b.config b.table ms d now views (with_view conn view views) None got.1 (λ c _. with_same conn view views at c);
          sound = subst (λ (z : List NoteValue). AreSound r b.config z) (ap (λ (z : List NoteValue). ns ++ note.head conn status ∷ z) (append-nil put.proceeds.sending) ∙ sym got.0) more.0;
          whole = put.table;
          told = sent_told r ns ms (note.head conn status) a d put.proceeds refl refl got.0 old.told;
          ticked = sent_ticked r ns ms (note.head conn status) a d put.proceeds refl refl put.appends.lines.config got.0 old.ticked;
        });
  }

  -- the request is admitted, and the connection is open: who was admitted before stays so, and so is this one
  admitted_now : (a m : Server) (now : S) (views : ℕ → IntakeView) (view : IntakeView) → KeptAll b a now views (Some conn) → views conn ≡ view → phase_at a.hub conn ≡ Some Head
      → (end route : ℕ) (param accept : List ℕ) (protocol : Bool) → Judged b.table view.reader.raw (admit end route param accept protocol) → Proceeds (note.opened conn route param ∷ []) [] a m
      → ForNotes b m (λ ms. AreAdmitted b.table ms m.net.given)
  admitted_now a m now views view all at is end route param accept protocol judged x ms told tells few c opened =
      let n : NoteValue = note.opened conn route param in
      let grows = grows_proceeds (n ∷ []) [] a m x in
      let v = grows.told ms told in
      let was : a.net.tells ≡ true = sym grows.tells ∙ tells in
      let fewer = λ (replies : ℕ → List ℕ). few_front (meaning_of b replies) v.0 v.1 ms v.3 (few replies) in
      let old = all.admitted v.0 v.2 was fewer in
      let texts = texts_exist b.table v.0 a.net.given old in
      let holds = all.holds v.0 v.2 was texts.0 texts.1 (fewer texts.0) in
      let head = head_there (meaning_of b texts.0) b.config b.table v.0 conn a now views (Some conn) holds.kept is in
      let raw : view.reader.raw ≡ a.net.given conn = ap (λ (z : IntakeView). z.reader.raw) (sym at) ∙ head.raw in
      let verdict : Verdict = admit end route param accept protocol in
      let judged_given : Judged b.table (a.net.given conn) verdict = subst (λ (z : List ℕ). Judged b.table z verdict) raw judged in
      by_cases (is_opened_in c v.0)
      (λ before. admitted_longer b.table v.0 a.net.given m.net.given (grows.given was) old c before)
      (λ new.
      let rest = grows.given was conn in
      subst (λ (z : ℕ). (w : Verdict) × Judged b.table (m.net.given z) w × (is_admitted w ≡ true)) (opened_only conn route param v.0 ms c a m x v.2 told new opened)
      (verdict, subst (λ (z : List ℕ). Judged b.table z verdict) (sym rest.1) (judged_stays b.table (a.net.given conn) rest.0 verdict judged_given (λ same. cc)), refl))

  -- the request is admitted, and the orders that answer the Opened event were served
  pub keep_opened : (end : ℕ) (accept : List ℕ) (protocol : Bool) (text : List ℕ) (a m d : Server) (now next : S) (view opened : IntakeView) (given : EventValue) → given ≡ event_for conn opened event.opened → phase_at a.hub conn ≡ Some Head
      → Judged b.table view.reader.raw (admit end opened.route opened.param accept protocol) → end ≤ length view.reader.raw → ((more : List ℕ) → opened.reader.ahead more ≡ reading view.reader.max (drop end view.reader.raw ++ more))
      → text ≡ answer_text b.table (admit end opened.route opened.param accept protocol) → (x : Proceeds (note.opened conn opened.route opened.param ∷ []) [] a m) → Appends (only conn (replied text)) a m
      → next ≡ b.after now given → ServesOrders b.admits conn (b.said next given) m d → IsTable (table_of d.hub) → KeepsOne b conn (Some conn) (Some conn) view opened a now d next
  keep_opened end accept protocol text a m d now next view opened given event_is is judged within skipped text_is x app state served whole = record {
    kept = λ views at all.
        let grows = grows_then a m d (grows_proceeds (note.opened conn opened.route opened.param ∷ []) [] a m x) (grows_served b.admits conn (b.said next given) m d served) in
        record {
          admitted = admitted_on b m d (grows_served b.admits conn (b.said next given) m d served) (opens_served b.admits conn (b.said next given) m d served)
              (admitted_now a m now views view all at is end opened.route opened.param accept protocol judged x);
          holds =
              holds_on b a d now next views (with_view conn opened views) (Some conn) (Some conn) grows
              (λ replies ns ms was tells told agree few old.
              let r = meaning_of b replies in
              let n : NoteValue = note.opened conn opened.route opened.param in
              let later : ℕ → IntakeView = with_view conn opened views in
              let here : later conn ≡ opened = with_here conn opened views in
              let head = head_there r b.config b.table ns conn a now views (Some conn) old.kept is in
              let seen : view.reader.raw ≡ a.net.given conn = ap (λ (z : IntakeView). z.reader.raw) (sym at) ∙ head.raw in
              let made : List NoteValue = n ∷ (x.sending ++ []) in
              let rest = (grows_served b.admits conn (b.said next given) m d served).told ms told in
              let told_m : m.told ≡ Some (ns ++ made) = told_is ns made rest.0 a.told m.told x.advances.told was rest.2 in
              let all : ms ≡ ns ++ n ∷ ((x.sending ++ []) ++ rest.1) = rest.3 ∙ ap (λ (z : List NoteValue). z ++ rest.1) (same_notes rest.0 (ns ++ made) (sym rest.2 ∙ told_m)) ∙ append_assoc ns made rest.1 in
              let judged_given : Judged b.table (a.net.given conn) (admit end opened.route opened.param accept protocol) = subst (λ (z : List ℕ). Judged b.table z (admit end opened.route opened.param accept protocol)) seen judged in
              let longer = grows.given tells conn in
              let answers : replies conn ≡ answer_text b.table (admit end opened.route opened.param accept protocol) =
              reply_of_opened b.table ns ((x.sending ++ []) ++ rest.1) d.net.given replies conn opened.route opened.param (a.net.given conn) longer.0 end opened.route opened.param accept protocol
              (subst (λ (z : List NoteValue). AreReplies b.table z d.net.given replies) all agree) longer.1 judged_given in
              let frames = head_admitted b.table b.config.max_message (heard conn ns) (a.net.given conn) end opened.route opened.param accept protocol (views conn).reader opened.reader head judged_given
              (subst (λ (z : List ℕ). end ≤ length z) seen within)
              (λ further. skipped further ∙ ap (λ (z : IntakeView). reading z.reader.max (drop end z.reader.raw ++ further)) (sym at)) in
              let got = opened_given r b.config b.table ns ms conn opened.route opened.param text given a m d now next views later old.kept (head_phase r b.config b.table ns conn a now views (Some conn) old.kept is) x app
              (answers ∙ sym text_is)
              (subst (λ (z : IntakeView). HearsFrames b.table b.config.max_message None (heard conn ns ++ life.opened opened.route opened.param ∷ []) (a.net.given conn) z.reader) (sym here) frames)
              (ap (λ (z : IntakeView). z.route) here) (ap (λ (z : IntakeView). z.param) here) (λ other ne. with_other conn opened views other ne)
              (event_is ∙ ap (λ (z : IntakeView). event_for conn z event.opened) (sym here)) state served told old.whole whole in
              let more = sound_proceed r b.config (n ∷ []) [] ns a m x (shows_sound r b.config ns a old.sound old.kept.agrees) refl refl old.sound in
              record {
                kept = got.1;
                sound = (sound_serves r b.config _ _ conn 0 (b.said next given) (ns ++ made) ms m d served told_m told more.1 (accepted_more conn ns made (head_accepted r b.config b.table ns conn a now views (Some conn) old.kept is old.sound)) more.0).0;
                whole = whole;
                told = served_told b replies (ns ++ made) ms conn (b.said next given) m d served told_m told (told_proceed r ns (n ∷ []) [] a m x refl refl refl refl old.told);
                ticked = served_ticked b replies (ns ++ made) ms conn (b.said next given) m d served told_m told (ticked_proceed r ns (n ∷ []) [] a m x refl refl refl refl app.lines.config old.ticked);
              }) all;
        };
  }
