-- What is kept where a step of a reader is taken.
use Rattle.loop_runner.proofs.Below.{◌≡◌, ⊎_elim, ℕ, List, [], ◌∷◌, ◌++◌, Option, Some, None, Bool, true, false, is_some, ◌&&◌, refl, sym, ap, ◌∙◌, subst, append-nil, cases_eq, list_all, Kind, Phase, Head, Open, Leaving, Ending, Gone, ConfigValue, NoteValue, EventValue, OrderValue, IsNoted, Pong, Event, Item, whole, close_item, RouteTable, Reader, read, is_frame_heard, is_open, phase, world, is_reading, sound_one, Server, server, is_gone, phase_at, only, served, Proceeds, progress_at, IsTable, table_of, has_frames, clash, told_one, Sends, Notes, Agrees, ReaderView, IsRead, told_is, agrees_told_phase, agrees_hub_phase, AreSound, is_inner, Shows, IntakeView, RestsAt, Kept, event_for, shows_sound, shows_told, sound_proceed, sound_call, sound_shown, sound_serves, shut_kept, message_given, stepped_kept, passed_kept, ping_kept, pong_kept, close_kept, failure_kept, Beginning, Holds, meaning_of, view_by, view_of, with_view, HasFrames, ServesOrders, KeepsOne, is_opened, is_turn, is_telling, told_call, is_uncounted, is_ticking, ticked_call}
use Rattle.ws_kinds.specs.NoteValue as note
use Rattle.ws_kinds.specs.EventValue as event
use Rattle.wire_meaning.specs.Event as wire
use Rattle.run_meaning.specs.Server as run
use Rattle.loop_runner.proofs.ProgressLemmas.{phase_read}
use Rattle.loop_runner.proofs.GrowLemmas.{grows_makes, grows_proceeds, grows_served, grows_then, grows_noted}
use Rattle.loop_runner.proofs.OpenLemmas.{opens_none, opens_sent, opens_served, opens_then}
use Rattle.loop_runner.proofs.KeepLemmas.{counts_beside, keep_notes, keep_on, keep_there, sent_ticked, sent_told, served_ticked, served_told}
use Rattle.loop_runner.proofs.ViewLemmas.{with_same, same_but, view_read}

-- ---- notes

module _ {S : Type 0} (r : run.Server S) (f : ConfigValue) where
  -- a note that is sound, and notes of what was to be sent
  sound_sends : (ns ms : List NoteValue) (n : NoteValue) (a b : Server) (x : Proceeds (n ∷ []) [] a b) → Agrees (world r ns) ns a → is_inner n ≡ true → ms ≡ ns ++ n ∷ x.sending → AreSound r f ns → AreSound r f ms
  sound_sends ns ms n a b x agrees inner e sound =
      let all : list_all is_inner (n ∷ []) ≡ true = ap (λ (z : Bool). z && true) inner in
      subst (λ (z : List NoteValue). AreSound r f z) (sym (e ∙ ap (λ (z : List NoteValue). ns ++ n ∷ z) (sym (append-nil x.sending))))
      (sound_proceed r f (n ∷ []) [] ns a b x (shows_sound r f ns a sound agrees) all refl sound).0

  -- a message of an open connection, and then its orders
  sound_message : (admits : List ℕ → Bool) (ns ms : List NoteValue) (c : ℕ) (kind : Kind) (body : List ℕ) (a b : Server) (t : Option (List NoteValue)) (orders : List OrderValue) → Agrees (world r ns) ns a → phase_at a.hub c ≡ Some Open
      → IsNoted a.told (note.message c kind body) t → ServesOrders admits c orders (server a.hub a.net t) b → a.told ≡ Some ns → b.told ≡ Some ms → AreSound r f ns → AreSound r f ms
  sound_message admits ns ms c kind body a b t orders agrees at noted serves was told sound =
      let n = note.message c kind body in
      let mid = server a.hub a.net t in
      let shows = shows_sound r f ns a sound agrees in
      let one = sound_one r f ns n (sound_shown r f ns n c Open a shows refl refl at refl) sound in
      let goes : Shows (ns ++ n ∷ []) mid = shows_told ns n a mid (λ d. refl) (λ d. refl) shows in
      let earlier = (grows_served admits c orders mid b serves).told ms told in
      let here : t ≡ Some (ns ++ n ∷ []) = told_is ns (n ∷ []) earlier.0 a.told t (told_one a.told t n noted) was earlier.2 in
      let there : (progress_at a.hub c).phase ≡ Some Open = sym (phase_read a.hub c (ap is_reading at)) ∙ at in
      (sound_serves r f _ _ c 0 orders (ns ++ n ∷ []) ms mid b serves here told goes ((goes c).accepted (ap is_some there)) one).0

-- ---- what is kept

rests_out : (table : RouteTable) (p : Option Phase) (os : List ℕ) (rd : ReaderView) → (p ≡ Some Head → ⊥) → has_frames p ≡ false → RestsAt table p os rd
rests_out table None os rd h e = tt {0}
rests_out table (Some Head) os rd h e = absurd (h refl)
rests_out table (Some Open) os rd h e = absurd (let z : true ≡ false = e in cc)
rests_out table (Some Leaving) os rd h e = absurd (let z : true ≡ false = e in cc)
rests_out table (Some Ending) os rd h e = tt {0}
rests_out table (Some Gone) os rd h e = tt {0}

-- who is not being read any more, whether more was to be read or not
pub kept_done : {S : Type 0} {r : run.Server S} {f : ConfigValue} {table : RouteTable} {ns : List NoteValue} {s : Server} {now : S} {views : ℕ → IntakeView} (c : ℕ) → Kept r f table ns s now views None → Kept r f table ns s now views (Some c)
kept_done c k = record {
  agrees = k.agrees;
  follows = k.follows;
  ordered = k.ordered;
  state = k.state;
  unlike = k.unlike;
  configured = k.configured;
  hears = k.hears;
  rests = λ d free. k.rests d (λ p. let q : None ≡ Some d = p in cc);
  routed = k.routed;
}

-- and one of whom no more can be told
pub kept_over : {S : Type 0} {r : run.Server S} {f : ConfigValue} {table : RouteTable} {ns : List NoteValue} {s : Server} {now : S} {views : ℕ → IntakeView} (c : ℕ) → Kept r f table ns s now views (Some c)
    → RestsAt table (phase r ns c) (s.net.given c) (views c).reader → Kept r f table ns s now views None
kept_over {S} {r} {f} {table} {ns} {s} {now} {views} c k rests = record {
  agrees = k.agrees;
  follows = k.follows;
  ordered = k.ordered;
  state = k.state;
  unlike = k.unlike;
  configured = k.configured;
  hears = k.hears;
  rests = λ d _. ⊎_elim
      (λ (e : d ≡ c). subst (λ (z : ℕ). RestsAt table (phase r ns z) (s.net.given z) (views z).reader) (sym e) rests)
      (λ (ne : d ≡ c → ⊥). k.rests d (λ (e : Some c ≡ Some d). ne cc)) (cases_eq d c);
  routed = k.routed;
}

module _ {S : Type 0} (b : Beginning S) (c route : ℕ) (param : List ℕ) where
  -- no frames are read of it
  pub keep_rest : (reader : Reader) (s : Server) (now : S) → HasFrames (phase_at s.hub c) reader → has_frames (phase_at s.hub c) ≡ false → KeepsOne b c (Some c) None (view_of reader route param) (view_of reader route param) s now s now
  keep_rest reader s now can frames = record {
    kept = λ views is. keep_there b s now views (with_view c (view_of reader route param) views) (Some c) None (λ replies ns h.
        let r = meaning_of b replies in
        let later = with_view c (view_of reader route param) views in
        let k = shut_kept r b.config b.table ns s now views later (Some c) h.kept (λ d _. with_same c (view_of reader route param) views is d) in
        let out : (p : Phase) → has_frames (Some p) ≡ true → is_gone p ≡ false → phase r ns c ≡ Some p → ⊥ =
        λ p reads here at. clash (has_frames (phase_at s.hub c)) frames (ap has_frames (agrees_hub_phase (world r ns) ns s k.agrees c p here at) ∙ reads) in
        record {
          kept = kept_over c k (rests_out b.table (phase r ns c) (s.net.given c) (later c).reader
              (λ at. subst (λ (z : Option Phase). HasFrames z reader) (agrees_hub_phase (world r ns) ns s k.agrees c Head refl at) can) (no_frames (phase r ns c) (out Open refl refl) (out Leaving refl refl)));
          sound = h.sound;
          whole = h.whole;
          told = h.told;
          ticked = h.ticked;
        });
  }
    where
      no_frames : (p : Option Phase) → (p ≡ Some Open → ⊥) → (p ≡ Some Leaving → ⊥) → has_frames p ≡ false
      no_frames None o l = refl
      no_frames (Some Head) o l = refl
      no_frames (Some Open) o l = absurd (o refl)
      no_frames (Some Leaving) o l = absurd (l refl)
      no_frames (Some Ending) o l = refl
      no_frames (Some Gone) o l = refl

  module _ (before after : ReaderView) (a : Server) (now : S) where
    abbrev Becomes : Option ℕ → Server → Type 0
    Becomes to d = KeepsOne b c (Some c) to (view_by before route param) (view_by after route param) a now d now

    -- nothing was told
    pub keep_more : has_frames (phase_at a.hub c) ≡ true → IsRead before [] after → Becomes None a
    keep_more frames reads = record {
      kept = λ views is. keep_there b a now views (with_view c (view_by after route param) views) (Some c) None (λ replies ns h. record {
        kept = stepped_kept (meaning_of b replies) b.config b.table ns c a now views (with_view c (view_by after route param) views) h.kept frames (same_but c route param before after views is) (view_read c route param before after views is [] reads);
        sound = h.sound;
        whole = h.whole;
        told = h.told;
        ticked = h.ticked;
      });
    }

    -- a message, a ping or a pong was passed over
    pub keep_passed : (e : Event) → phase_at a.hub c ≡ Some Leaving → is_frame_heard (read e) ≡ true → IsRead before (e ∷ []) after → Becomes (Some c) a
    keep_passed e at frame reads = record {
      kept = λ views is. keep_there b a now views (with_view c (view_by after route param) views) (Some c) (Some c) (λ replies ns h. record {
        kept = passed_kept (meaning_of b replies) b.config b.table ns c e a now views (with_view c (view_by after route param) views) h.kept at (same_but c route param before after views is)
            (view_read c route param before after views is (e ∷ []) reads) frame;
        sound = h.sound;
        whole = h.whole;
        told = h.told;
        ticked = h.ticked;
      });
    }

    -- it was noted, and what it sends was put
    keep_sent : (n : NoteValue) (f : ℕ → List Item) (d : Server) (x : Sends c (n ∷ []) f a d) → is_inner n ≡ true → ((k : ℕ) → is_opened k n ≡ false) → is_turn n ≡ false → is_telling n ≡ false → is_uncounted n ≡ true → is_ticking n ≡ false
        → ((replies : ℕ → List ℕ) (ns ms : List NoteValue) (views : ℕ → IntakeView) → views c ≡ view_by before route param → d.told ≡ Some ms → Holds b replies ns a now views (Some c)
        → (ms ≡ ns ++ n ∷ x.proceeds.sending) × Kept (meaning_of b replies) b.config b.table ms d now (with_view c (view_by after route param) views) (Some c))
        → Becomes (Some c) d
    keep_sent n f d x inner unopened turnless silent rest still step = record {
      kept = λ views is. keep_on b a d now now views (with_view c (view_by after route param) views) (Some c) (Some c) (grows_proceeds (n ∷ []) [] a d x.proceeds) (opens_sent n a d x.proceeds unopened)
          (λ replies ns ms was tells told agree few h.
          let k = step replies ns ms views is told h in
          record {
            kept = k.1;
            sound = sound_sends (meaning_of b replies) b.config ns ms n a d x.proceeds h.kept.agrees inner k.0 h.sound;
            whole = x.table;
            told = sent_told (meaning_of b replies) ns ms n a d x.proceeds turnless silent k.0 h.told;
            ticked = sent_ticked (meaning_of b replies) ns ms n a d x.proceeds rest still x.appends.lines.config k.0 h.ticked;
          });
    }

    pub keep_ping : (body : List ℕ) (d : Server) → phase_at a.hub c ≡ Some Open → IsRead before (wire.ping body ∷ []) after → Sends c (note.ping_got c body ∷ []) (only c (whole Pong body)) a d → Becomes (Some c) d
    keep_ping body d at reads x = keep_sent (note.ping_got c body) (only c (whole Pong body)) d x refl (λ k. refl) refl refl refl refl (λ replies ns ms views is told h.
        ping_kept (meaning_of b replies) b.config b.table ns ms c body a d now views (with_view c (view_by after route param) views) x.proceeds h.kept h.whole x.table at
        (same_but c route param before after views is) (view_read c route param before after views is (wire.ping body ∷ []) reads) x.appends told)

    pub keep_pong : (body : List ℕ) (d : Server) → phase_at a.hub c ≡ Some Open → IsRead before (wire.pong body ∷ []) after → Notes c (note.pong_got c body ∷ []) a d → Becomes (Some c) d
    keep_pong body d at reads x = record {
      kept = λ views is.
          let later = with_view c (view_by after route param) views in
          keep_notes b (note.pong_got c body ∷ []) a d now now views later (Some c) (Some c) (grows_makes (note.pong_got c body ∷ []) a d x.makes) x.makes.advances.told (λ k. refl) x.table refl refl x.makes.advances.tells
          (counts_beside (note.pong_got c body ∷ []) a d refl refl x.makes.advances.counts)
          (λ replies ns ms tells told h.
          let r = meaning_of b replies in
          let k = pong_kept r b.config b.table ns ms c body a d now views later h.kept h.whole x.table at
          (same_but c route param before after views is) (view_read c route param before after views is (wire.pong body ∷ []) reads) x.makes x.appends told in (
            subst (λ (z : List NoteValue). Kept r b.config b.table z d now later (Some c)) k.0 k.1,
            (sound_call r b.config (note.pong_got c body ∷ []) ns a d (shows_sound r b.config ns a h.sound h.kept.agrees) x.makes.advances refl h.sound).0,
          ));
    }

    -- the connection is then ending
    pub keep_close : (code : ℕ) (reason : List ℕ) (d : Server) → has_frames (phase_at a.hub c) ≡ true → IsRead before (wire.closed code reason ∷ []) after
        → Sends c (note.peer_close c code reason ∷ []) (served (is_open (phase_at a.hub c)) (only c (close_item code))) a d → Becomes (Some c) d
    keep_close code reason d frames reads x = keep_sent (note.peer_close c code reason) (served (is_open (phase_at a.hub c)) (only c (close_item code))) d x refl (λ k. refl) refl refl refl refl (λ replies ns ms views is told h.
        let k = close_kept (meaning_of b replies) b.config b.table ns ms c code reason a d now views (with_view c (view_by after route param) views) x.proceeds h.kept h.whole x.table frames
        (same_but c route param before after views is) (view_read c route param before after views is (wire.closed code reason ∷ []) reads) x.appends told in
        (k.0, kept_done c k.1))

    pub keep_failed : (code : ℕ) (d : Server) → has_frames (phase_at a.hub c) ≡ true → IsRead before (wire.failed code ∷ []) after
        → Sends c (note.failed c code ∷ []) (served (is_open (phase_at a.hub c)) (only c (close_item code))) a d → Becomes (Some c) d
    keep_failed code d frames reads x = keep_sent (note.failed c code) (served (is_open (phase_at a.hub c)) (only c (close_item code))) d x refl (λ k. refl) refl refl refl refl (λ replies ns ms views is told h.
        let k = failure_kept (meaning_of b replies) b.config b.table ns ms c code a d now views (with_view c (view_by after route param) views) x.proceeds h.kept h.whole x.table frames
        (same_but c route param before after views is) (view_read c route param before after views is (wire.failed code ∷ []) reads) x.appends told in
        (k.0, kept_done c k.1))

    -- a message was given, and its orders were served
    pub keep_message : (kind : Kind) (body : List ℕ) (next : S) (d : Server) (t : Option (List NoteValue)) (given : EventValue) → given ≡ record { conn = c; route = route; param = param; what = event.message kind body }
        → phase_at a.hub c ≡ Some Open → IsRead before (wire.message kind body ∷ []) after → IsNoted a.told (note.message c kind body) t → next ≡ b.after now given
        → ServesOrders b.admits c (b.said next given) (server a.hub a.net t) d → IsTable (table_of d.hub)
        → KeepsOne b c (Some c) (Some c) (view_by before route param) (view_by after route param) a now d next
    keep_message kind body next d t given event_is at reads noted state serves table = record {
      kept = λ views is.
          let n = note.message c kind body in
          let mid = server a.hub a.net t in
          let later = with_view c (view_by after route param) views in
          keep_on b a d now next views later (Some c) (Some c) (grows_then a mid d (grows_noted n a.hub a.hub a.net a.told t noted) (grows_served b.admits c (b.said next given) mid d serves))
          (opens_then a mid d (grows_served b.admits c (b.said next given) mid d serves) (opens_none (n ∷ []) a mid (told_one a.told t n noted) (λ k. refl)) (opens_served b.admits c (b.said next given) mid d serves))
          (λ replies ns ms was tells told agree few h.
          let r = meaning_of b replies in
          let k = message_given r b.config b.table ns ms c kind body given a mid d now next views later h.kept (agrees_told_phase (world r ns) ns a h.kept.agrees c Open refl at)
          (view_read c route param before after views is (wire.message kind body ∷ []) reads) (same_but c route param before after views is) refl refl (told_one a.told t n noted)
          (event_is ∙ ap (λ (z : IntakeView). event_for c z (event.message kind body)) (sym is)) state serves told h.whole table in
          let noted_m = (grows_served b.admits c (b.said next given) mid d serves).told ms told in
          let told_m : t ≡ Some (ns ++ n ∷ []) = told_is ns (n ∷ []) noted_m.0 a.told t (told_one a.told t n noted) was noted_m.2 in
          record {
            kept = k.1;
            sound = sound_message r b.config b.admits ns ms c kind body a d t (b.said next given) h.kept.agrees at noted serves was told h.sound;
            whole = table;
            told = served_told b replies (ns ++ n ∷ []) ms c (b.said next given) mid d serves told_m told (told_call r ns (n ∷ []) a.hub a.hub refl refl (λ _ k. refl) h.told);
            ticked = served_ticked b replies (ns ++ n ∷ []) ms c (b.said next given) mid d serves told_m told (ticked_call r ns (n ∷ []) a.hub a.hub refl refl (λ _ k there. (there, refl)) refl h.ticked);
          });
    }
