-- What a server keeps where a connection is read and what came of it is told.
use Rattle.run_kept.proofs.Below.{◌≡◌, ◌≢◌, inr, ℕ, List, [], ◌∷◌, ◌++◌, Option, Some, None, Bool, true, false, cond, take, map, refl, sym, ap, ◌∙◌, subst, append-nil, list_all, Left, PeerEnd, LinkFailed, Phase, Head, Open, Leaving, Ending, Gone, ConfigValue, NoteValue, Pong, Event, Item, reply, whole, close_item, NetState, Reads, NetRead, RouteTable, Judged, refuse, undecided, refusal_text, gather, World, moved, is_open, noted, noted_all, phase, world, Heard, heard, last_frame, is_frame_heard, Follows, marks_by, is_reading, taken_of, Server, server, has_entry, phase_at, nothing, only, served, unless_gone, Advances, Proceeds, Appends, FailsAfter, clash, IsTable, table_of, Makes, has_frames, Agrees, is_closed, wordless_line, agrees_net, agrees_phase, agrees_quiet, agrees_note, items_head, items_ping, items_close, items_failed, agrees_open, agrees_told_phase, ReaderView, IsFed, IsRead, is_over, HearsFrames, HearsAll, HearsFront, to_come, note_of_event, head_fed, head_refused, frames_fed, frames_read, frames_end, come_none, hears_more, hears_same, heard_unheard, heard_then_head, heard_then_event, FollowsBut, is_unread, same_or_not, but_none, none_but, proceeds_follows, octets_read, end_read, fault_read, later_read, IntakeView, HearsAt, RestsAt, IsRouted, SameButReader, Kept}
use Rattle.ws_kinds.specs.NoteValue as note
use Rattle.wire_meaning.specs.Event as wire
use Rattle.link_trait.specs.declared.net.NetRead.TheVariants as read
use Rattle.run_meaning.specs.Server as run
use Rattle.run_meaning.specs.Life as life
use Rattle.run_kept.proofs.IntakeLemmas.{hears_on, rests_judged}
use Rattle.run_kept.proofs.PassingLemmas.{none_reads, same_told}
use Rattle.run_kept.proofs.ReadLemmas.{reading_shown}
use Rattle.run_kept.proofs.ReadingCalls.{IsOwn, own_note, entries_stay, seen_own, seen_sent, kept_call}
use Rattle.run_kept.proofs.GivingLemmas.{not_read as some_other}

-- ---- phases

frames_shown : (p : Option Phase) → has_frames (unless_gone p) ≡ has_frames p
frames_shown None = refl
frames_shown (Some Head) = refl
frames_shown (Some Open) = refl
frames_shown (Some Leaving) = refl
frames_shown (Some Ending) = refl
frames_shown (Some Gone) = refl

reading_by : {S : Type 0} (w : World S) (ns : List NoteValue) (s : Server) → Agrees w ns s → (c : ℕ) → is_reading (phase_at s.hub c) ≡ true → is_reading (w.line c).phase ≡ true
reading_by w ns s x c e =
    sym (reading_shown (w.line c).phase) ∙ sym (ap (λ (z : Option Phase). is_reading z) (agrees_phase w ns s x c)) ∙ reading_shown (phase_at s.hub c) ∙ e

frames_by : {S : Type 0} (w : World S) (ns : List NoteValue) (s : Server) → Agrees w ns s → (c : ℕ) → has_frames (phase_at s.hub c) ≡ true → has_frames (w.line c).phase ≡ true
frames_by w ns s x c e =
    sym (frames_shown (w.line c).phase) ∙ sym (ap (λ (z : Option Phase). has_frames z) (agrees_phase w ns s x c)) ∙ frames_shown (phase_at s.hub c) ∙ e

reading_is : (p : Option Phase) → is_reading p ≡ true → p ≢ None
reading_is p e none = clash (is_reading p) (ap (λ (z : Option Phase). is_reading z) none) e

gone_by : (p : Option Phase) (c : ℕ) (left : Left) → is_reading p ≡ true → moved p (note.gone c left) ≡ Some Gone
gone_by None c left e = clash false refl e
gone_by (Some Head) c left e = refl
gone_by (Some Open) c left e = refl
gone_by (Some Leaving) c left e = refl
gone_by (Some Ending) c left e = clash false refl e
gone_by (Some Gone) c left e = clash false refl e

close_by : (p : Option Phase) (c code : ℕ) (reason : List ℕ) → has_frames p ≡ true → moved p (note.peer_close c code reason) ≡ Some Ending
close_by None c code reason e = clash false refl e
close_by (Some Head) c code reason e = clash false refl e
close_by (Some Open) c code reason e = refl
close_by (Some Leaving) c code reason e = refl
close_by (Some Ending) c code reason e = clash false refl e
close_by (Some Gone) c code reason e = clash false refl e

fail_by : (p : Option Phase) (c code : ℕ) → has_frames p ≡ true → moved p (note.failed c code) ≡ Some Ending
fail_by None c code e = clash false refl e
fail_by (Some Head) c code e = clash false refl e
fail_by (Some Open) c code e = refl
fail_by (Some Leaving) c code e = refl
fail_by (Some Ending) c code e = clash false refl e
fail_by (Some Gone) c code e = clash false refl e

-- ---- what a reader tells

module _ (table : RouteTable) (max : ℕ) (last : Option ℕ) where
  frames_at : (p : Option Phase) (hs : List Heard) (os : List ℕ) (rd : ReaderView) → has_frames p ≡ true → HearsAt table max p last hs os rd → HearsFrames table max last hs os rd
  frames_at None hs os rd e h = clash false refl e
  frames_at (Some Head) hs os rd e h = clash false refl e
  frames_at (Some Open) hs os rd e h = subst (λ (z : Option ℕ). HearsFrames table max z hs os rd) (sym h.0) h.1
  frames_at (Some Leaving) hs os rd e h = subst (λ (z : Option ℕ). HearsFrames table max z hs os rd) (sym h.1) h.2
  frames_at (Some Ending) hs os rd e h = clash false refl e
  frames_at (Some Gone) hs os rd e h = clash false refl e

  -- in the phase that it is in
  at_frames : (p : Option Phase) (hs ks : List Heard) (os later : List ℕ) (old new : ReaderView) → has_frames p ≡ true → HearsAt table max p last hs os old → HearsFrames table max last ks later new → HearsAt table max p last ks later new
  at_frames None hs ks os later old new e h x = clash false refl e
  at_frames (Some Head) hs ks os later old new e h x = clash false refl e
  at_frames (Some Open) hs ks os later old new e h x = (h.0, subst (λ (z : Option ℕ). HearsFrames table max z ks later new) h.0 x)
  at_frames (Some Leaving) hs ks os later old new e h x = (h.0, h.1, subst (λ (z : Option ℕ). HearsFrames table max z ks later new) h.1 x)
  at_frames (Some Ending) hs ks os later old new e h x = clash false refl e
  at_frames (Some Gone) hs ks os later old new e h x = clash false refl e

  -- octets are fed
  fed_at : (p : Option Phase) (c k : ℕ) (hs : List Heard) (os came : List ℕ) (old new : ReaderView) → is_reading p ≡ true → IsFed came old new → HearsAt table max p last hs os old
      → HearsAt table max (moved p (note.given c k)) last hs (os ++ came) new
  fed_at None c k hs os came old new e fed h = clash false refl e
  fed_at (Some Head) c k hs os came old new e fed h = (h.0, head_fed max hs os came old new h.1 fed)
  fed_at (Some Open) c k hs os came old new e fed h = (h.0, frames_fed table max None hs os came old new h.1 fed)
  fed_at (Some Leaving) c k hs os came old new e fed h = (h.0, h.1, frames_fed table max (Some h.0) hs os came old new h.2 fed)
  fed_at (Some Ending) c k hs os came old new e fed h = clash false refl e
  fed_at (Some Gone) c k hs os came old new e fed h = clash false refl e

  -- nothing is told, or what is passed over
  same_at : (p : Option Phase) (hs : List Heard) (os : List ℕ) (events : List Event) (old new : ReaderView) → has_frames p ≡ true → IsRead old events new → hs ++ to_come last (map life.read events) ≡ hs
      → HearsAt table max p last hs os old → HearsAt table max p last hs os new
  same_at p hs os events old new e told none h =
      at_frames p hs hs os os old new e h (subst (λ (z : List Heard). HearsFrames table max last z os new) none (frames_read table max last hs os events old new (frames_at p hs os old e h) told))

rests_at : (table : RouteTable) (p : Option Phase) (os : List ℕ) (rd : ReaderView) → has_frames p ≡ true → rd.ahead [] ≡ [] → RestsAt table p os rd
rests_at table None os rd e none = clash false refl e
rests_at table (Some Head) os rd e none = clash false refl e
rests_at table (Some Open) os rd e none = none
rests_at table (Some Leaving) os rd e none = none
rests_at table (Some Ending) os rd e none = tt {0}
rests_at table (Some Gone) os rd e none = tt {0}

-- all stays but what the reader of one connection has
same_intakes : (c : ℕ) (intakes : ℕ → IntakeView) → SameButReader c intakes intakes
same_intakes c intakes = record { route = refl; param = refl; others = λ d ne. refl }

-- ---- reads

taken_read : (c : ℕ) (space : List ℕ) (result : NetRead) (a b : NetState) → a.tells ≡ true → Reads c space result a b → (d : ℕ) → taken_of b d ≡ taken_of a d
taken_read c space result a b tells rd d =
    ap (λ (z : Bool). cond z (Some (b.taken d)) None) rd.net.tells
    ∙ ap (λ (z : List ℕ). cond a.tells (Some z) None) (same_or_not c d
    (λ e. subst (λ (z : ℕ). b.taken z ≡ a.taken z) (sym e) (rd.told tells).taken)
    (λ ne. (rd.told tells).elsewhere.taken d ne))

agrees_read : {S : Type 0} (w : World S) (ns : List NoteValue) (s : Server) (c : ℕ) (space : List ℕ) (result : NetRead) (net : NetState) → Agrees w ns s → Reads c space result s.net net → Agrees w ns (server s.hub net s.told)
agrees_read w ns s c space result net x rd = agrees_net w ns s (server s.hub net s.told) x refl refl (rd.net.tells ∙ x.tells) (taken_read c space result s.net net x.tells rd)

module _ {S : Type 0} (r : run.Server S) (config : ConfigValue) (table : RouteTable) where
  pub later_kept : (ns : List NoteValue) (c : ℕ) (space : List ℕ) (s : Server) (net : NetState) (now : S) (intakes : ℕ → IntakeView) → Kept r config table ns s now intakes None → Reads c space read.Later s.net net
      → Kept r config table ns (server s.hub net s.told) now intakes None
  later_kept ns c space s net now intakes k rd = record {
    agrees = agrees_read (world r ns) ns s c space read.Later net k.agrees rd;
    follows = later_read c space ns s.net net k.agrees.tells k.follows rd;
    ordered = k.ordered;
    state = k.state;
    unlike = k.unlike;
    configured = k.configured;
    hears = λ d. subst (λ (z : List ℕ). HearsAt table config.max_message (phase r ns d) (last_frame r ns d) (heard d ns) z (intakes d).reader) (sym (given d)) (k.hears d);
    rests = λ d free. subst (λ (z : List ℕ). RestsAt table (phase r ns d) z (intakes d).reader) (sym (given d)) (k.rests d free);
    routed = k.routed;
  }
    where
      given : (d : ℕ) → net.given d ≡ s.net.given d
      given d = same_or_not c d (λ e. subst (λ (z : ℕ). net.given z ≡ s.net.given z) (sym e) (rd.told k.agrees.tells).given) (λ ne. (rd.told k.agrees.tells).elsewhere.given d ne)

  pub given_kept : (ns after : List NoteValue) (conn count : ℕ) (space : List ℕ) (s b : Server) (net : NetState) (now : S) (intakes fed : ℕ → IntakeView)
      → Kept r config table ns s now intakes None → Reads conn space (read.Octets count) s.net net → IsTable (table_of s.hub) → IsTable (table_of b.hub) → is_reading (phase_at s.hub conn) ≡ true
      → Makes (note.given conn count ∷ []) (server s.hub net s.told) b → Appends nothing (server s.hub net s.told) b → b.told ≡ Some after
      → SameButReader conn intakes fed → IsFed (take count space) (intakes conn).reader (fed conn).reader
      → Kept r config table (ns ++ note.given conn count ∷ []) b now fed (Some conn)
  given_kept ns after conn count space s b net now intakes fed k rd before later is makes app told same came =
      kept_call r config table conn ns n own [] refl s b now intakes fed None (Some conn) k (λ c ne. none_reads c)
      (agrees_quiet r (world r ns) ns after (n ∷ []) between b (agrees_read (world r ns) ns s conn space (read.Octets count) net k.agrees rd) makes.advances app told refl)
      (octets_read conn space s.net net b.net k.agrees.tells ns k.follows count rd makes.advances.net makes.fails)
      app.lines.config entries same
      (λ c ne. after_read c ∙ (rd.told k.agrees.tells).elsewhere.given c ne)
      (seen_own r config table conn ns n own (b.net.given conn) (fed conn) (Some conn ≢ Some conn) (has_entry b.hub.entries conn ≡ true)
      (subst (λ (z : List Heard). HearsAt table config.max_message (moved (phase r ns conn) n) (last_frame r ns conn) z (b.net.given conn) (fed conn).reader) (sym (heard_unheard conn ns (n ∷ []) refl))
      (subst (λ (z : List ℕ). HearsAt table config.max_message (moved (phase r ns conn) n) (last_frame r ns conn) (heard conn ns) z (fed conn).reader) (sym (after_read conn ∙ (rd.told k.agrees.tells).given))
      (fed_at table config.max_message (last_frame r ns conn) (phase r ns conn) conn count (heard conn ns) (s.net.given conn) (take count space) (intakes conn).reader (fed conn).reader
      (reading_by (world r ns) ns s k.agrees conn is) came (k.hears conn))))
      (λ ne. absurd (ne refl)) (λ has. let y = k.routed conn (entries conn has) in (same.route ∙ y.0, same.param ∙ y.1)))
    where
      n : NoteValue
      n = note.given conn count

      between : Server
      between = server s.hub net s.told

      own : IsOwn conn n
      own = own_note conn n refl refl refl (λ c. refl)

      after_read : (c : ℕ) → b.net.given c ≡ net.given c
      after_read c = (makes.advances.net.told (rd.net.tells ∙ k.agrees.tells)).given c

      entries : (c : ℕ) → has_entry b.hub.entries c ≡ true → has_entry s.hub.entries c ≡ true
      entries = entries_stay n [] between b refl refl makes.advances before later

  gone_kept : (ns after : List NoteValue) (conn : ℕ) (left : Left) (space : List ℕ) (result : NetRead) (s b : Server) (net : NetState) (now : S) (intakes : ℕ → IntakeView)
      → Kept r config table ns s now intakes None → Reads conn space result s.net net → net.given conn ≡ s.net.given conn → IsTable (table_of s.hub) → IsTable (table_of b.hub) → is_reading (phase_at s.hub conn) ≡ true
      → Advances (note.gone conn left ∷ []) (server s.hub net s.told) b → Appends nothing (server s.hub net s.told) b → b.told ≡ Some after
      → Follows (ns ++ note.gone conn left ∷ []) b.net → Kept r config table (ns ++ note.gone conn left ∷ []) b now intakes None
  gone_kept ns after conn left space result s b net now intakes k rd still before later is adv app told follows =
      kept_call r config table conn ns n own [] refl s b now intakes intakes None None k (λ c ne. none_reads c)
      (agrees_quiet r (world r ns) ns after (n ∷ []) between b (agrees_read (world r ns) ns s conn space result net k.agrees rd) adv app told refl)
      follows app.lines.config entries (same_intakes conn intakes)
      (λ c ne. after_read c ∙ (rd.told k.agrees.tells).elsewhere.given c ne)
      (seen_own r config table conn ns n own (b.net.given conn) (intakes conn) (None ≢ Some conn) (has_entry b.hub.entries conn ≡ true)
      (subst (λ (z : Option Phase). HearsAt table config.max_message z (last_frame r ns conn) (heard conn (ns ++ n ∷ [])) (b.net.given conn) (intakes conn).reader) (sym moves)
      (subst (λ (z : List Heard). HearsFront table config.max_message (last_frame r ns conn) z (b.net.given conn)) (sym (heard_unheard conn ns (n ∷ []) refl))
      (subst (λ (z : List ℕ). HearsFront table config.max_message (last_frame r ns conn) (heard conn ns) z) (sym (after_read conn ∙ still))
      (hears_on table config.max_message (heard conn ns) (s.net.given conn) (intakes conn).reader (phase r ns conn) (Some Gone) (last_frame r ns conn) (k.hears conn)
      (rests_judged table (phase r ns conn) (s.net.given conn) (intakes conn).reader (k.rests conn (none_reads conn)))
      (inr (refl, reading_is (phase r ns conn) was))))))
      (λ free. subst (λ (z : Option Phase). RestsAt table z (b.net.given conn) (intakes conn).reader) (sym moves) (tt {0})) (λ has. k.routed conn (entries conn has)))
    where
      n : NoteValue
      n = note.gone conn left

      between : Server
      between = server s.hub net s.told

      own : IsOwn conn n
      own = own_note conn n refl refl refl (λ c. refl)

      was : is_reading (phase r ns conn) ≡ true
      was = reading_by (world r ns) ns s k.agrees conn is

      moves : moved (phase r ns conn) n ≡ Some Gone
      moves = gone_by (phase r ns conn) conn left was

      entries : (c : ℕ) → has_entry b.hub.entries c ≡ true → has_entry s.hub.entries c ≡ true
      entries = entries_stay n [] between b refl refl adv before later

      after_read : (c : ℕ) → b.net.given c ≡ net.given c
      after_read c = (adv.net.told (rd.net.tells ∙ k.agrees.tells)).given c

  pub ended_kept : (ns after : List NoteValue) (conn : ℕ) (space : List ℕ) (s b : Server) (net : NetState) (now : S) (intakes : ℕ → IntakeView)
      → Kept r config table ns s now intakes None → Reads conn space read.End s.net net → IsTable (table_of s.hub) → IsTable (table_of b.hub) → is_reading (phase_at s.hub conn) ≡ true
      → Makes (note.gone conn PeerEnd ∷ []) (server s.hub net s.told) b → Appends nothing (server s.hub net s.told) b → b.told ≡ Some after
      → Kept r config table (ns ++ note.gone conn PeerEnd ∷ []) b now intakes None
  ended_kept ns after conn space s b net now intakes k rd before later is makes app told =
      gone_kept ns after conn PeerEnd space read.End s b net now intakes k rd (rd.told k.agrees.tells).given before later is makes.advances app told
      (end_read conn space s.net net b.net k.agrees.tells ns k.follows rd makes.advances.net makes.fails)

  pub failed_kept : (ns after : List NoteValue) (conn : ℕ) (space : List ℕ) (s b : Server) (net : NetState) (now : S) (intakes : ℕ → IntakeView)
      → Kept r config table ns s now intakes None → Reads conn space read.Failed s.net net → IsTable (table_of s.hub) → IsTable (table_of b.hub) → is_reading (phase_at s.hub conn) ≡ true
      → Advances (note.gone conn LinkFailed ∷ []) (server s.hub net s.told) b → FailsAfter [] net b.net → Appends nothing (server s.hub net s.told) b → b.told ≡ Some after
      → Kept r config table (ns ++ note.gone conn LinkFailed ∷ []) b now intakes None
  failed_kept ns after conn space s b net now intakes k rd before later is adv fails app told =
      gone_kept ns after conn LinkFailed space read.Failed s b net now intakes k rd (rd.told k.agrees.tells).given before later is adv app told
      (fault_read conn space s.net net b.net k.agrees.tells ns k.follows rd adv.net fails)

  -- ---- no more can be told

  -- the reader of one connection told nothing that is heard of it
  stays_kept : (ns : List NoteValue) (conn : ℕ) (s : Server) (now : S) (intakes news : ℕ → IntakeView) (later : Option ℕ) → Kept r config table ns s now intakes (Some conn) → SameButReader conn intakes news
      → HearsAt table config.max_message (phase r ns conn) (last_frame r ns conn) (heard conn ns) (s.net.given conn) (news conn).reader → (later ≢ Some conn → RestsAt table (phase r ns conn) (s.net.given conn) (news conn).reader)
      → Kept r config table ns s now news later
  stays_kept ns conn s now intakes news later k same hears rests = record {
    agrees = k.agrees;
    follows = k.follows;
    ordered = k.ordered;
    state = k.state;
    unlike = k.unlike;
    configured = k.configured;
    hears = λ d. same_or_not conn d
        (λ e. subst (λ (z : ℕ). HearsAt table config.max_message (phase r ns z) (last_frame r ns z) (heard z ns) (s.net.given z) (news z).reader) (sym e) hears)
        (λ ne. subst (λ (z : IntakeView). HearsAt table config.max_message (phase r ns d) (last_frame r ns d) (heard d ns) (s.net.given d) z.reader) (sym (same.others d ne)) (k.hears d));
    rests = λ d free. same_or_not conn d
        (λ e. subst (λ (z : ℕ). later ≢ Some z → RestsAt table (phase r ns z) (s.net.given z) (news z).reader) (sym e) rests free)
        (λ ne. subst (λ (z : IntakeView). RestsAt table (phase r ns d) (s.net.given d) z.reader) (sym (same.others d ne)) (k.rests d (some_other conn d ne)));
    routed = λ d there. same_or_not conn d
        (λ e. subst (λ (z : ℕ). IsRouted (intakes z) ((world r ns).line z) → IsRouted (news z) ((world r ns).line z)) (sym e) (λ y. (same.route ∙ y.0, same.param ∙ y.1)) (k.routed d there))
        (λ ne. subst (λ (z : IntakeView). IsRouted z ((world r ns).line d)) (sym (same.others d ne)) (k.routed d there));
  }

  pub waits_kept : (ns : List NoteValue) (conn : ℕ) (s : Server) (now : S) (intakes : ℕ → IntakeView) → Kept r config table ns s now intakes (Some conn) → phase_at s.hub conn ≡ Some Head
      → Judged table (s.net.given conn) undecided → Kept r config table ns s now intakes None
  waits_kept ns conn s now intakes k is judged =
      stays_kept ns conn s now intakes intakes None k (same_intakes conn intakes) (k.hears conn)
      (λ free. subst (λ (z : Option Phase). RestsAt table z (s.net.given conn) (intakes conn).reader) (sym (agrees_told_phase (world r ns) ns s k.agrees conn Head refl is)) judged)

  -- it has no further event
  pub stepped_kept : (ns : List NoteValue) (conn : ℕ) (s : Server) (now : S) (intakes news : ℕ → IntakeView) → Kept r config table ns s now intakes (Some conn) → has_frames (phase_at s.hub conn) ≡ true
      → SameButReader conn intakes news → IsRead (intakes conn).reader [] (news conn).reader → Kept r config table ns s now news None
  stepped_kept ns conn s now intakes news k is same told =
      let was = frames_by (world r ns) ns s k.agrees conn is in
      let last = last_frame r ns conn in
      stays_kept ns conn s now intakes news None k same
      (same_at table config.max_message last (phase r ns conn) (heard conn ns) (s.net.given conn) [] (intakes conn).reader (news conn).reader was told
      (ap (λ (z : List Heard). heard conn ns ++ z) (come_none last) ∙ append-nil (heard conn ns)) (k.hears conn))
      (λ free. rests_at table (phase r ns conn) (s.net.given conn) (news conn).reader was (told.none refl))

  -- a message, a ping or a pong is passed over in phase Leaving
  pub passed_kept : (ns : List NoteValue) (conn : ℕ) (event : Event) (s : Server) (now : S) (intakes news : ℕ → IntakeView) → Kept r config table ns s now intakes (Some conn) → phase_at s.hub conn ≡ Some Leaving
      → SameButReader conn intakes news → IsRead (intakes conn).reader (event ∷ []) (news conn).reader → is_frame_heard (life.read event) ≡ true → Kept r config table ns s now news (Some conn)
  passed_kept ns conn event s now intakes news k is same told frame =
      let at : phase r ns conn ≡ Some Leaving = agrees_told_phase (world r ns) ns s k.agrees conn Leaving refl is in
      let last = last_frame r ns conn in
      let count = subst (λ (z : Option Phase). HearsAt table config.max_message z last (heard conn ns) (s.net.given conn) (intakes conn).reader) at (k.hears conn) in
      stays_kept ns conn s now intakes news (Some conn) k same
      (same_at table config.max_message last (phase r ns conn) (heard conn ns) (s.net.given conn) (event ∷ []) (intakes conn).reader (news conn).reader (ap has_frames at) told
      (ap (λ (z : Option ℕ). heard conn ns ++ to_come z (map life.read (event ∷ []))) count.1 ∙ hears_same count.0 (heard conn ns) event frame) (k.hears conn))
      (λ free. absurd (free refl))

  -- ---- what came is told

  sends_kept : (conn : ℕ) (ns after : List NoteValue) (n : NoteValue) (f : ℕ → List Item) (a b : Server) (now : S) (intakes news : ℕ → IntakeView) (later : Option ℕ) (p : Option Phase) (x : Proceeds (n ∷ []) [] a b)
      → Kept r config table ns a now intakes (Some conn) → IsTable (table_of a.hub) → IsTable (table_of b.hub) → IsOwn conn n → list_all is_unread (n ∷ []) ≡ true → gather marks_by (n ∷ []) ≡ []
      → is_closed n ≡ false → ((c : ℕ) → ((noted r n (world r ns)).line c).items ≡ ((world r ns).line c).items ++ f c) → Appends f a b → b.told ≡ Some after
      → SameButReader conn intakes news → moved (phase r ns conn) n ≡ p → p ≢ Some Head
      → HearsAt table config.max_message p (last_frame r ns conn) (heard conn (ns ++ n ∷ [])) (a.net.given conn) (news conn).reader
      → (later ≢ Some conn → RestsAt table p (a.net.given conn) (news conn).reader)
      → (after ≡ ns ++ n ∷ x.sending) × Kept r config table after b now news later
  sends_kept conn ns after n f a b now intakes news later p x k before after_is own unread unmarked none items app told same moves ne hears rests =
      (after_all, subst (λ (z : List NoteValue). Kept r config table z b now news later) (sym after_all) all)
    where
      given : (c : ℕ) → b.net.given c ≡ a.net.given c
      given c = (x.advances.net.told k.agrees.tells).given c

      agrees : Agrees (noted_all r x.sending (noted r n (world r ns))) (ns ++ n ∷ x.sending) b
      agrees = agrees_note r (world r ns) ns after n f a b x k.agrees app told own.accepts none items

      after_all : after ≡ ns ++ n ∷ x.sending
      after_all = same_told after (ns ++ n ∷ x.sending) b.told told agrees.told

      entries : (c : ℕ) → has_entry b.hub.entries c ≡ true → has_entry a.hub.entries c ≡ true
      entries = entries_stay n x.sending a b own.accepts x.outgoing (subst (λ (z : List NoteValue). Advances (n ∷ z) a b) (append-nil x.sending) x.advances) before after_is

      all : Kept r config table (ns ++ n ∷ x.sending) b now news later
      all = kept_call r config table conn ns n own x.sending x.outgoing a b now intakes news (Some conn) later k (λ c other. some_other conn c other) agrees
          (none_but (ns ++ n ∷ x.sending) b.net (subst (λ (z : List NoteValue). FollowsBut [] (ns ++ n ∷ z) b.net) (append-nil x.sending)
          (proceeds_follows ns (n ∷ []) [] [] [] [] a b k.agrees.tells unread unmarked refl x (but_none ns a.net k.follows))))
          app.lines.config
          entries same (λ c other. given c)
          (seen_sent r config table conn ns n own x.sending x.outgoing (b.net.given conn) (news conn) (later ≢ Some conn) (has_entry b.hub.entries conn ≡ true) (λ e. ne (sym moves ∙ e))
          (seen_own r config table conn ns n own (b.net.given conn) (news conn) (later ≢ Some conn) (has_entry b.hub.entries conn ≡ true)
          (subst (λ (z : Option Phase). HearsAt table config.max_message z (last_frame r ns conn) (heard conn (ns ++ n ∷ [])) (b.net.given conn) (news conn).reader) (sym moves)
          (subst (λ (z : List ℕ). HearsAt table config.max_message p (last_frame r ns conn) (heard conn (ns ++ n ∷ [])) z (news conn).reader) (sym (given conn)) hears))
          (λ free. subst (λ (z : Option Phase). RestsAt table z (b.net.given conn) (news conn).reader) (sym moves)
          (subst (λ (z : List ℕ). RestsAt table p z (news conn).reader) (sym (given conn)) (rests free)))
          (λ has. let y = k.routed conn (entries conn has) in (same.route ∙ y.0, same.param ∙ y.1))))

  open_of : (ns : List NoteValue) (s : Server) (conn : ℕ) → Agrees (world r ns) ns s → phase_at s.hub conn ≡ Some Open → phase r ns conn ≡ Some Open
  open_of ns s conn x is = agrees_told_phase (world r ns) ns s x conn Open refl is

  -- what is heard where the reader told an event: of an open connection
  read_open : (conn : ℕ) (ns : List NoteValue) (event : Event) (os : List ℕ) (old new : ReaderView) → phase r ns conn ≡ Some Open → IsRead old (event ∷ []) new
      → HearsAt table config.max_message (phase r ns conn) (last_frame r ns conn) (heard conn ns) os old → HearsAt table config.max_message (Some Open) (last_frame r ns conn) (heard conn (ns ++ note_of_event conn event ∷ [])) os new
  read_open conn ns event os old new is told h =
      let x : HearsAt table config.max_message (Some Open) (last_frame r ns conn) (heard conn ns) os old = subst (λ (z : Option Phase). HearsAt table config.max_message z (last_frame r ns conn) (heard conn ns) os old) is h in
      (x.0, subst (λ (z : List Heard). HearsFrames table config.max_message None z os new) (sym (heard_then_event conn event ns)) (frames_read table config.max_message None (heard conn ns) os (event ∷ []) old new x.1 told))

  -- and where it told a close or a failure
  read_last : (conn : ℕ) (ns : List NoteValue) (event : Event) (os : List ℕ) (old new : ReaderView) → has_frames (phase r ns conn) ≡ true → is_over event ≡ true → is_frame_heard (life.read event) ≡ false → IsRead old (event ∷ []) new
      → HearsAt table config.max_message (phase r ns conn) (last_frame r ns conn) (heard conn ns) os old → HearsAll table config.max_message (last_frame r ns conn) (heard conn (ns ++ note_of_event conn event ∷ [])) os
  read_last conn ns event os old new has over other told h =
      let last = last_frame r ns conn in
      let all = heard conn ns ++ to_come last (map life.read (event ∷ [])) in
      subst (λ (z : List Heard). HearsAll table config.max_message last z os) (hears_more last (heard conn ns) event other ∙ sym (heard_then_event conn event ns))
      (frames_end table config.max_message last all os new
      (frames_read table config.max_message last (heard conn ns) os (event ∷ []) old new (frames_at table config.max_message last (phase r ns conn) (heard conn ns) os old has h) told) (told.none over))

  pub refused_kept : (ns after : List NoteValue) (conn status : ℕ) (a b : Server) (now : S) (intakes : ℕ → IntakeView) (x : Proceeds (note.head conn status ∷ []) [] a b)
      → Kept r config table ns a now intakes (Some conn) → IsTable (table_of a.hub) → IsTable (table_of b.hub) → phase_at a.hub conn ≡ Some Head → Judged table (a.net.given conn) (refuse status)
      → Appends (only conn (reply (refusal_text status))) a b → b.told ≡ Some after
      → (after ≡ ns ++ note.head conn status ∷ x.sending) × Kept r config table after b now intakes None
  refused_kept ns after conn status a b now intakes x k before later is judged app told =
      sends_kept conn ns after (note.head conn status) (only conn (reply (refusal_text status))) a b now intakes intakes None (Some Ending) x k before later
      (own_note conn (note.head conn status) refl refl refl (λ c. refl)) refl refl refl (λ c. items_head r (world r ns) conn c status (refusal_text status) refl) app told
      (same_intakes conn intakes) (ap (λ (z : Option Phase). moved z (note.head conn status)) was) (λ e. cc)
      (subst (λ (z : List Heard). HearsAll table config.max_message (last_frame r ns conn) z (a.net.given conn)) (sym (heard_then_head conn status ns))
      (subst (λ (z : Option ℕ). HearsAll table config.max_message z (heard conn ns ++ life.refused status ∷ []) (a.net.given conn)) (sym head.0)
      (head_refused table config.max_message (heard conn ns) (a.net.given conn) (intakes conn).reader status head.1 judged)))
      (λ free. tt {0})
    where
      was : phase r ns conn ≡ Some Head
      was = agrees_told_phase (world r ns) ns a k.agrees conn Head refl is

      head : HearsAt table config.max_message (Some Head) (last_frame r ns conn) (heard conn ns) (a.net.given conn) (intakes conn).reader
      head = subst (λ (z : Option Phase). HearsAt table config.max_message z (last_frame r ns conn) (heard conn ns) (a.net.given conn) (intakes conn).reader) was (k.hears conn)

  pub ping_kept : (ns after : List NoteValue) (conn : ℕ) (body : List ℕ) (a b : Server) (now : S) (intakes news : ℕ → IntakeView) (x : Proceeds (note.ping_got conn body ∷ []) [] a b)
      → Kept r config table ns a now intakes (Some conn) → IsTable (table_of a.hub) → IsTable (table_of b.hub) → phase_at a.hub conn ≡ Some Open
      → SameButReader conn intakes news → IsRead (intakes conn).reader (wire.ping body ∷ []) (news conn).reader
      → Appends (only conn (whole Pong body)) a b → b.told ≡ Some after
      → (after ≡ ns ++ note.ping_got conn body ∷ x.sending) × Kept r config table after b now news (Some conn)
  ping_kept ns after conn body a b now intakes news x k before later is same read_it app told =
      sends_kept conn ns after (note.ping_got conn body) (only conn (whole Pong body)) a b now intakes news (Some conn) (Some Open) x k before later
      (own_note conn (note.ping_got conn body) refl refl refl (λ c. refl)) refl refl refl (λ c. items_ping r (world r ns) conn c body) app told
      same (ap (λ (z : Option Phase). moved z (note.ping_got conn body)) was) (λ q. cc)
      (read_open conn ns (wire.ping body) (a.net.given conn) (intakes conn).reader (news conn).reader was read_it (k.hears conn))
      (λ free. absurd (free refl))
    where
      was : phase r ns conn ≡ Some Open
      was = open_of ns a conn k.agrees is

  pub pong_kept : (ns after : List NoteValue) (conn : ℕ) (body : List ℕ) (a b : Server) (now : S) (intakes news : ℕ → IntakeView)
      → Kept r config table ns a now intakes (Some conn) → IsTable (table_of a.hub) → IsTable (table_of b.hub) → phase_at a.hub conn ≡ Some Open
      → SameButReader conn intakes news → IsRead (intakes conn).reader (wire.pong body ∷ []) (news conn).reader
      → Makes (note.pong_got conn body ∷ []) a b → Appends nothing a b → b.told ≡ Some after
      → (after ≡ ns ++ note.pong_got conn body ∷ []) × Kept r config table after b now news (Some conn)
  pong_kept ns after conn body a b now intakes news k before later is same read_it makes app told =
      sends_kept conn ns after (note.pong_got conn body) nothing a b now intakes news (Some conn) (Some Open)
      (record { sending = []; outgoing = refl; advances = makes.advances; fails = makes.fails }) k before later
      (own_note conn (note.pong_got conn body) refl refl refl (λ c. refl)) refl refl refl
      (λ c. wordless_line r c (note.pong_got conn body) ((world r ns).line c) refl ∙ sym (append-nil ((world r ns).line c).items)) app told
      same (ap (λ (z : Option Phase). moved z (note.pong_got conn body)) was) (λ q. cc)
      (read_open conn ns (wire.pong body) (a.net.given conn) (intakes conn).reader (news conn).reader was read_it (k.hears conn))
      (λ free. absurd (free refl))
    where
      was : phase r ns conn ≡ Some Open
      was = open_of ns a conn k.agrees is

  -- a close frame goes out where the hub has the connection open, which is where its notes do
  served_by : (ns : List NoteValue) (a : Server) (conn c : ℕ) (item : Item) → Agrees (world r ns) ns a
      → ((world r ns).line c).items ++ served (is_open (phase r ns conn)) (only conn item) c ≡ ((world r ns).line c).items ++ served (is_open (phase_at a.hub conn)) (only conn item) c
  served_by ns a conn c item x = ap (λ (z : Bool). ((world r ns).line c).items ++ served z (only conn item) c) (sym (agrees_open (world r ns) ns a x conn))

  pub close_kept : (ns after : List NoteValue) (conn code : ℕ) (reason : List ℕ) (a b : Server) (now : S) (intakes news : ℕ → IntakeView) (x : Proceeds (note.peer_close conn code reason ∷ []) [] a b)
      → Kept r config table ns a now intakes (Some conn) → IsTable (table_of a.hub) → IsTable (table_of b.hub) → has_frames (phase_at a.hub conn) ≡ true
      → SameButReader conn intakes news → IsRead (intakes conn).reader (wire.closed code reason ∷ []) (news conn).reader
      → Appends (served (is_open (phase_at a.hub conn)) (only conn (close_item code))) a b → b.told ≡ Some after
      → (after ≡ ns ++ note.peer_close conn code reason ∷ x.sending) × Kept r config table after b now news None
  close_kept ns after conn code reason a b now intakes news x k before later is same read_it app told =
      sends_kept conn ns after (note.peer_close conn code reason) (served (is_open (phase_at a.hub conn)) (only conn (close_item code))) a b now intakes news None (Some Ending) x k before later
      (own_note conn (note.peer_close conn code reason) refl refl refl (λ c. refl)) refl refl refl
      (λ c. items_close r (world r ns) conn c code reason ∙ served_by ns a conn c (close_item code) k.agrees) app told
      same (close_by (phase r ns conn) conn code reason was) (λ q. cc)
      (read_last conn ns (wire.closed code reason) (a.net.given conn) (intakes conn).reader (news conn).reader was refl refl read_it (k.hears conn))
      (λ free. tt {0})
    where
      was : has_frames (phase r ns conn) ≡ true
      was = frames_by (world r ns) ns a k.agrees conn is

  pub failure_kept : (ns after : List NoteValue) (conn code : ℕ) (a b : Server) (now : S) (intakes news : ℕ → IntakeView) (x : Proceeds (note.failed conn code ∷ []) [] a b)
      → Kept r config table ns a now intakes (Some conn) → IsTable (table_of a.hub) → IsTable (table_of b.hub) → has_frames (phase_at a.hub conn) ≡ true
      → SameButReader conn intakes news → IsRead (intakes conn).reader (wire.failed code ∷ []) (news conn).reader
      → Appends (served (is_open (phase_at a.hub conn)) (only conn (close_item code))) a b → b.told ≡ Some after
      → (after ≡ ns ++ note.failed conn code ∷ x.sending) × Kept r config table after b now news None
  failure_kept ns after conn code a b now intakes news x k before later is same read_it app told =
      sends_kept conn ns after (note.failed conn code) (served (is_open (phase_at a.hub conn)) (only conn (close_item code))) a b now intakes news None (Some Ending) x k before later
      (own_note conn (note.failed conn code) refl refl refl (λ c. refl)) refl refl refl
      (λ c. items_failed r (world r ns) conn c code ∙ served_by ns a conn c (close_item code) k.agrees) app told
      same (fail_by (phase r ns conn) conn code was) (λ q. cc)
      (read_last conn ns (wire.failed code) (a.net.given conn) (intakes conn).reader (news conn).reader was refl refl read_it (k.hears conn))
      (λ free. tt {0})
    where
      was : has_frames (phase r ns conn) ≡ true
      was = frames_by (world r ns) ns a k.agrees conn is
