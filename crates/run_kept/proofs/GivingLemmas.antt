-- An event is noted, the handler is given it, and its orders are served.
use Rattle.run_kept.proofs.Below.{◌≡◌, ◌≢◌, ◌+◌, ⊎_elim, is_some, ℕ, suc, List, [], ◌∷◌, ◌++◌, Option, Some, None, Bool, true, false, not, cond, ◌&&◌, ◌||◌, refl, sym, ap, ◌∙◌, subst, append-nil, append_assoc, arith, cases_eq, list_all, list_any, or-true, Kind, Phase, Head, Open, ConfigValue, NoteValue, EventValue, WhatValue, OrderValue, AreNoted, reply, NetState, RouteTable, is_of, is_acceptance, gather, accepted_by, Line, World, moved, is_frame, route_after, param_after, after_own, noted, noted_all, orders_of, world, phase, Ordered, event_at, Heard, opened, read, heard, last_frame, is_frame_heard, frames_in, Follows, is_outgoing, Step, notes_of, world_frames, noted_line, own_line, all_follow, all_then, HubState, PartingValue, Server, Entry, has_entry, is_present, nothing, only, progress_at, Advances, Proceeds, Appends, Makes, Does, ServesAll, IsTable, TakesDue, table_of, by_cases, clash, itself, is_other, unaccepted, outgoing_unaccepted, Agrees, AreUnlike, is_of_orders, IsRead, HearsFrames, but_none, none_but, gathers_none, told_is, agrees_aside, agrees_closed, frames_read, agrees_note, agrees_quiet, items_opened, agrees_hub_phase, due_taken, heard_then_opened, heard_then_event, orders_follow, proceeds_follows, outgoing_of_orders, orders_unaccepting, served_notes, agrees_orders, ordered_orders, orders_keep, aside_follows, IntakeView, HearsAt, SameButReader, Kept, event_for, OrdersServed}
use Rattle.ws_kinds.specs.NoteValue as note
use Rattle.ws_kinds.specs.EventValue as event
use Rattle.wire_meaning.specs.Event as wire
use Rattle.run_meaning.specs.Server as run
use Rattle.run_kept.proofs.EntryLemmas.{IsAway, entry_none, entry_through, away_after, phase_has_entry}
use Rattle.run_kept.proofs.IntakeLemmas.{Taken, is_beside, other_beside, orders_idle, outgoing_beside, orders_beside, heard_beside, taken_note, taken_lines, taken_put, taken_order}
use Rattle.run_kept.proofs.PassingLemmas.{none_reads, same_told, taken_as, taken_of, same_numbers}

-- ---- a watch that tells afterwards told before

noted_before : (old new : Option (List NoteValue)) (ms after : List NoteValue) → AreNoted old ms new → new ≡ Some after → (earlier : List NoteValue) × (old ≡ Some earlier)
noted_before (Some xs) new ms after noted told = (xs, refl)
noted_before None (Some ys) ms after noted told = absurd noted
noted_before None None ms after noted told = absurd (let z : None ≡ Some after = told in cc)

pub told_before : {f : ConfigValue} {admits : List ℕ → Bool} {from i : ℕ} {os : List OrderValue} (after : List NoteValue) (a b : Server) → ServesAll f admits from i os a b → b.told ≡ Some after → (earlier : List NoteValue) × (a.told ≡ Some earlier)
told_before after a b served told = noted_before a.told b.told (notes_of served.steps) after (served.does (λ _. [])).told told

-- ---- what was heard so far, counted

frames_one : (xs : List Heard) (x : Heard) → frames_in (xs ++ x ∷ []) ≡ cond (is_frame_heard x) (frames_in xs + 1) (frames_in xs)
frames_one [] x = one (is_frame_heard x)
  where
    one : (b : Bool) → cond b (suc 0) 0 ≡ cond b (0 + 1) 0
    one true = refl
    one false = refl
frames_one (y ∷ ys) x = two (is_frame_heard y) (is_frame_heard x) (frames_in ys) (frames_in (ys ++ x ∷ [])) (frames_one ys x)
  where
    next : (k n : ℕ) → n ≡ k + 1 → suc n ≡ suc k + 1
    next k n e = omega arith

    two : (a b : Bool) (k n : ℕ) → n ≡ cond b (k + 1) k → cond a (suc n) n ≡ cond b (cond a (suc k) k + 1) (cond a (suc k) k)
    two true true k n e = next k n e
    two true false k n e = ap suc e
    two false true k n e = e
    two false false k n e = e

-- ---- an event is given, and its orders are served

module _ {S : Type 0} (r : run.Server S) (f : ConfigValue) (ns : List NoteValue) (n : NoteValue) (e : EventValue) (sending after : List NoteValue) (a b : Server) (now next : S)
    (at : event_at n (noted r n (world r ns)) ≡ Some e) (ordered : Ordered r f ns) (state : now ≡ (world r ns).state) (config : a.hub.config ≡ f) (out : list_all is_outgoing sending ≡ true)
    (agrees : Agrees (noted_all r sending (noted r n (world r ns))) (ns ++ n ∷ sending) a) (given_now : next ≡ r.after now e) (serves : ServesAll a.hub.config r.admits e.conn 0 (r.said next e) a b) (told : b.told ≡ Some after) where
  given_is : next ≡ r.after (world r ns).state e
  given_is = given_now ∙ ap (λ (z : S). r.after z e) state

  in_turn : ServesAll f r.admits e.conn 0 (orders_of r e (noted r n (world r ns))) a b
  in_turn = subst (λ (z : S). ServesAll f r.admits e.conn 0 (r.said z e) a b) given_is (subst (λ (z : ConfigValue). ServesAll z r.admits e.conn 0 (r.said next e) a b) config serves)

  abbrev made : List NoteValue
  made = notes_of in_turn.steps

  made_by : list_all is_of_orders (notes_of in_turn.steps) ≡ true
  made_by = served_notes r f ns n e sending a b at out agrees in_turn

  within : list_all is_of_orders (sending ++ notes_of in_turn.steps) ≡ true
  within = all_then is_of_orders sending made (all_follow is_outgoing is_of_orders outgoing_of_orders sending out) made_by

  agrees_now : Agrees (world r (ns ++ n ∷ (sending ++ notes_of in_turn.steps))) (ns ++ n ∷ (sending ++ notes_of in_turn.steps)) b
  agrees_now = agrees_orders r f ns n e sending a b at out agrees in_turn after told

  all : after ≡ ns ++ n ∷ (sending ++ notes_of in_turn.steps)
  all = same_told after (ns ++ n ∷ (sending ++ made)) b.told told agrees_now.told

  orders_given : OrdersServed r f ns n sending after a b next
  orders_given =
      let both = ordered_orders r f ns n e sending a b at out agrees in_turn ordered in
      record {
        steps = in_turn.steps;
        all = all;
        within = within;
        does = in_turn.does;
        configured = (in_turn.does (λ _. [])).appends.lines.config;
        agrees = subst (λ (z : List NoteValue). Agrees (world r z) z b) (sym all) agrees_now;
        ordered = subst (λ (z : List NoteValue). Ordered r f z) (sym all) both.0;
        state = given_is ∙ sym both.1 ∙ ap (λ (z : List NoteValue). (world r z).state) (sym all);
      }

  -- all is kept, where it is known what is kept of each connection once the event's note is made
  kept_given : (table : RouteTable) (entries : List Entry) (intakes : ℕ → IntakeView) (reading : Option ℕ) → accepted_by n ≡ [] → AreUnlike (gather accepted_by ns) → Follows (ns ++ n ∷ sending) a.net
      → ((c : ℕ) → Taken table f.max_message (heard c (ns ++ n ∷ [])) (a.net.given c) (intakes c) (reading ≢ Some c) (has_entry entries c ≡ true) ((noted r n (world r ns)).line c))
      → ((does : (texts : ℕ → List ℕ) → Does texts in_turn.steps a b) → list_any is_acceptance (notes_of in_turn.steps) ≡ false → (c : ℕ) → has_entry b.hub.entries c ≡ true → has_entry entries c ≡ true)
      → OrdersServed r f ns n sending after a b next × Kept r f table after b next intakes reading
  kept_given table entries intakes reading unaccepting unlike follows taken was = (
    orders_given,
    record {
      agrees = orders_given.agrees;
      follows = subst (λ (z : List NoteValue). Follows z b.net) (append_assoc ns (n ∷ sending) made ∙ sym all) (orders_follow (ns ++ n ∷ sending) made a.net b.net agrees.tells made_by does.net does.fails follows);
      ordered = orders_given.ordered;
      state = orders_given.state;
      unlike = subst (λ (z : List NoteValue). AreUnlike (gather accepted_by z)) (sym all)
          (same_numbers ns (n ∷ (sending ++ made)) (ap (λ (z : List ℕ). z ++ gather accepted_by (sending ++ made)) unaccepting ∙ gathers_none is_of_orders accepted_by orders_accept (sending ++ made) within) unlike);
      configured = orders_given.configured ∙ config;
      hears = λ c. (now_taken c).seen.hears;
      rests = λ c. (now_taken c).seen.rests;
      routed = λ c. (now_taken c).seen.routed;
    },
  )
    where
      does : Does (λ _. []) in_turn.steps a b
      does = in_turn.does (λ _. [])

      orders_accept : (m : NoteValue) → is_of_orders m ≡ true → accepted_by m ≡ []
      orders_accept (note.accepted c) h = clash false refl h
      orders_accept _ h = refl

      now_taken : (c : ℕ) → Taken table f.max_message (heard c after) (b.net.given c) (intakes c) (reading ≢ Some c) (has_entry b.hub.entries c ≡ true) ((world r after).line c)
      now_taken c =
          let hs = heard c (ns ++ n ∷ []) in
          let os = a.net.given c in
          let i = intakes c in
          let done = reading ≢ Some c in
          let here = has_entry entries c ≡ true in
          let l = (noted r n (world r ns)).line c in
          let sent = taken_lines r c table f.max_message hs os i done here sending l (outgoing_beside c sending out) (taken c) in
          let served_all = orders_keep r f ns n e sending a b at out agrees in_turn c (λ (z : Line). Taken table f.max_message hs os i done here z)
          (λ m z h x. taken_note r c table f.max_message hs os i done here m z (ap (λ (q : Bool). q || not (is_of c m)) (orders_idle m h)) x)
          (λ from o z may x. taken_order r c table f.max_message hs os i done here from o z may x) (λ items z x. taken_put r c table f.max_message hs os i done here items z x)
          (subst (λ (z : Line). Taken table f.max_message hs os i done here z) (sym (noted_line r c sending (noted r n (world r ns)))) sent) in
          taken_as (ap (heard c) (all ∙ sym (append_assoc ns (n ∷ []) (sending ++ made))) ∙ heard_beside c (ns ++ n ∷ []) (sending ++ made) (orders_beside c (sending ++ made) within))
          ((does.net.told agrees.tells).given c) refl (λ d. d) (was in_turn.does (orders_unaccepting made made_by) c) (ap (λ (z : List NoteValue). (world r z).line c) all) served_all

-- ---- the connection of a note

pub not_read : (conn c : ℕ) → c ≢ conn → Some conn ≢ Some c
not_read conn c ne z = ne (let q : c ≡ conn = cc in q)

-- the event of a note is the one that is given, where the line has this route and this parameter
abbrev event_with : ℕ → WhatValue → ℕ → List ℕ → EventValue
event_with conn what route param = record { conn = conn; route = route; param = param; what = what }

event_alike : (conn : ℕ) (what : WhatValue) (k l : ℕ) (ks ls : List ℕ) → l ≡ k → ls ≡ ks → Some (event_with conn what l ls) ≡ Some (event_with conn what k ks)
event_alike conn what k l ks ls e h = ap Some (ap (λ (z : ℕ). event_with conn what z ls) e ∙ ap (event_with conn what k) h)

-- who is an entry after the orders was one before the event
entries_before : (a b d : Server) (xs : List Step) → IsTable (table_of a.hub) → IsTable (table_of d.hub) → ((c : ℕ) → IsAway (progress_at a.hub c) → IsAway (progress_at b.hub c)) → ((texts : ℕ → List ℕ) → Does texts xs b d)
    → list_any is_acceptance (notes_of xs) ≡ false → (c : ℕ) → has_entry d.hub.entries c ≡ true → has_entry a.hub.entries c ≡ true
entries_before a b d xs was is away does none c has = by_cases (has_entry a.hub.entries c) (λ here. here)
    (λ absent. clash (has_entry d.hub.entries c) (entry_through c (λ _. []) xs b d (does (λ _. [])) (unaccepted (notes_of xs) c none) is (away c (entry_none a.hub c was absent))) has)

module _ {S : Type 0} (r : run.Server S) (f : ConfigValue) (table : RouteTable) (ns after : List NoteValue) where
  -- a connection that a note does not name, or of which nothing is heard by it
  beside_note : (a b : Server) (now : S) (intakes later : ℕ → IntakeView) (reading : Option ℕ) (n : NoteValue) → Kept r f table ns a now intakes reading → (c : ℕ) → (reading ≡ Some c → phase r ns c ≢ Some Head) → is_beside c n ≡ true
      → b.net.given c ≡ a.net.given c → later c ≡ intakes c
      → Taken table f.max_message (heard c (ns ++ n ∷ [])) (b.net.given c) (later c) (reading ≢ Some c) (has_entry a.hub.entries c ≡ true) ((noted r n (world r ns)).line c)
  beside_note a b now intakes later reading n k c calm beside given same =
      taken_as (heard_beside c ns (n ∷ []) (ap (λ (z : Bool). z && true) beside)) given same (λ d. d) (λ h. h) refl
      (taken_note r c table f.max_message (heard c ns) (a.net.given c) (intakes c) (reading ≢ Some c) (has_entry a.hub.entries c ≡ true) n ((world r ns).line c) beside (taken_of r f table ns a now intakes reading k c calm))

  -- the connection of a note that is heard, in phase Open after it
  heard_note : (conn : ℕ) (n : NoteValue) (what : Heard) (octets : List ℕ) (intake : IntakeView) (here : Type 0) → is_of conn n ≡ true → heard conn (ns ++ n ∷ []) ≡ heard conn ns ++ what ∷ [] → is_frame n ≡ is_frame_heard what
      → moved (phase r ns conn) n ≡ Some Open → last_frame r ns conn ≡ None → HearsFrames table f.max_message None (heard conn ns ++ what ∷ []) octets intake.reader
      → (here → (intake.route ≡ route_after n ((world r ns).line conn).route) × (intake.param ≡ param_after n ((world r ns).line conn).param))
      → Taken table f.max_message (heard conn (ns ++ n ∷ [])) octets intake (Some conn ≢ Some conn) here ((noted r n (world r ns)).line conn)
  heard_note conn n what octets intake here own more frame now last frames routed =
      let l : Line = (world r ns).line conn in
      subst (λ (z : Line). Taken table f.max_message (heard conn (ns ++ n ∷ [])) octets intake (Some conn ≢ Some conn) here z) (sym (own_line r conn n l own))
      (subst (λ (z : List Heard). Taken table f.max_message z octets intake (Some conn ≢ Some conn) here (after_own r n l)) (sym more) (record {
        seen = record {
          hears = subst (λ (z : Option Phase). HearsAt table f.max_message z l.last_frame (heard conn ns ++ what ∷ []) octets intake.reader) (sym now) (last, frames);
          rests = λ ne. absurd (ne refl);
          routed = routed;
        };
        counted = ap (λ (z : Bool). cond z (l.frames + 1) l.frames) frame ∙ ap (λ (z : ℕ). cond (is_frame_heard what) (z + 1) z) (world_frames r ns conn) ∙ sym (frames_one (heard conn ns) what);
        calm = λ h. absurd (let z : Some Open ≡ Some Head = sym now ∙ h in cc);
      }))

  -- what was heard of the connection that is being read, in its phase
  hears_in : (a : Server) (now : S) (intakes : ℕ → IntakeView) (reading : Option ℕ) (conn : ℕ) (p : Option Phase) → Kept r f table ns a now intakes reading → phase r ns conn ≡ p
      → HearsAt table f.max_message p (last_frame r ns conn) (heard conn ns) (a.net.given conn) (intakes conn).reader
  hears_in a now intakes reading conn p k is = subst (λ (z : Option Phase). HearsAt table f.max_message z (last_frame r ns conn) (heard conn ns) (a.net.given conn) (intakes conn).reader) is (k.hears conn)

  -- ---- a message is given

  pub message_given : (conn : ℕ) (kind : Kind) (body : List ℕ) (e : EventValue) (a b d : Server) (now next : S) (intakes later : ℕ → IntakeView) → Kept r f table ns a now intakes (Some conn) → phase r ns conn ≡ Some Open
      → IsRead (intakes conn).reader (wire.message kind body ∷ []) (later conn).reader → SameButReader conn intakes later
      → b.hub ≡ a.hub → b.net ≡ a.net → AreNoted a.told (note.message conn kind body ∷ []) b.told
      → e ≡ event_for conn (intakes conn) (event.message kind body) → next ≡ r.after now e → ServesAll b.hub.config r.admits conn 0 (r.said next e) b d → d.told ≡ Some after
      → IsTable (table_of a.hub) → IsTable (table_of d.hub)
      → OrdersServed r f ns (note.message conn kind body) [] after b d next × Kept r f table after d next later (Some conn)
  message_given conn kind body e a b d now next intakes later k is_open told_it same hub net noted_b event_is given_now served told was is =
      let n = note.message conn kind body in
      let w : World S = world r ns in
      let own : is_of conn n ≡ true = itself conn in
      let earlier = told_before after b d served told in
      let told_b = told_is ns (n ∷ []) earlier.0 a.told b.told noted_b k.agrees.told earlier.1 in
      let x : Agrees (noted r n w) (ns ++ n ∷ []) b = agrees_aside r w ns n a b k.agrees refl hub net told_b in
      let given_e = event_for conn (intakes conn) (event.message kind body) in
      let routed = k.routed conn (phase_has_entry a.hub conn Open (agrees_hub_phase w ns a k.agrees conn Open refl is_open)) in
      let line = own_line r conn n (w.line conn) own in
      let at : event_at n (noted r n w) ≡ Some given_e = event_alike conn (event.message kind body) (intakes conn).route ((noted r n w).line conn).route (intakes conn).param ((noted r n w).line conn).param
      (ap (λ (z : Line). z.route) line ∙ sym routed.0) (ap (λ (z : Line). z.param) line ∙ sym routed.1) in
      let frames = hears_in a now intakes (Some conn) conn (Some Open) k is_open in
      kept_given r f ns n given_e [] after b d now next at k.ordered k.state (ap (λ (z : HubState). z.config) hub ∙ k.configured) refl x (given_now ∙ ap (r.after now) event_is)
      (subst (λ (z : EventValue). ServesAll b.hub.config r.admits conn 0 (r.said next z) b d) event_is served) told
      table a.hub.entries later (Some conn) refl k.unlike (subst (λ (z : NetState). Follows (ns ++ n ∷ []) z) (sym net) (aside_follows ns n a.net refl refl k.follows))
      (λ c. ⊎_elim
      (λ (q : c ≡ conn). subst (λ (z : ℕ). Taken table f.max_message (heard z (ns ++ n ∷ [])) (b.net.given z) (later z) (Some conn ≢ Some z) (has_entry a.hub.entries z ≡ true) ((noted r n w).line z)) (sym q)
      (heard_note conn n (read (wire.message kind body)) (b.net.given conn) (later conn) (has_entry a.hub.entries conn ≡ true) own (heard_then_event conn (wire.message kind body) ns) refl (ap (λ (z : Option Phase). moved z n) is_open) frames.0
      (subst (λ (z : NetState). HearsFrames table f.max_message None (heard conn ns ++ read (wire.message kind body) ∷ []) (z.given conn) (later conn).reader) (sym net)
      (frames_read table f.max_message None (heard conn ns) (a.net.given conn) (wire.message kind body ∷ []) (intakes conn).reader (later conn).reader frames.1 told_it))
      (λ h. (same.route ∙ routed.0, same.param ∙ routed.1))))
      (λ (ne : c ≢ conn). beside_note a b now intakes later (Some conn) n k c (λ z. absurd (not_read conn c ne z)) (other_beside c n (is_other conn c (λ (z : conn ≡ c). ne (sym z)))) (ap (λ (z : NetState). z.given c) net) (same.others c ne))
      (cases_eq c conn))
      (λ does none. entries_before a b d _ was is (λ c away. subst (λ (z : HubState). IsAway (progress_at z c)) (sym hub) away) does none)

  -- ---- a Closed event is given

  pub closed_given : (parting : PartingValue) (e : EventValue) (a m b d : Server) (now next : S) (intakes : ℕ → IntakeView) → Kept r f table ns a now intakes None
      → TakesDue (Some parting) (table_of a.hub) (table_of m.hub) → m.hub.pairs ≡ a.hub.pairs → Appends nothing a m → m.net ≡ a.net → m.told ≡ a.told
      → b.hub ≡ m.hub → b.net ≡ m.net → AreNoted m.told (note.closed parting.conn parting.code parting.reason ∷ []) b.told
      → e ≡ event_for parting.conn (intakes parting.conn) (event.closed parting.code parting.reason) → next ≡ r.after now e → ServesAll b.hub.config r.admits parting.conn 0 (r.said next e) b d → d.told ≡ Some after
      → IsTable (table_of a.hub) → IsTable (table_of d.hub)
      → OrdersServed r f ns (note.closed parting.conn parting.code parting.reason) [] after b d next × Kept r f table after d next intakes None
  closed_given parting e a m b d now next intakes k taken pairs app net_m told_m hub net noted_b event_is given_now served told was is =
      let conn = parting.conn in
      let n = note.closed conn parting.code parting.reason in
      let w : World S = world r ns in
      let due = due_taken a.hub m.hub parting taken pairs in
      let earlier = told_before after b d served told in
      let told_b = told_is ns (n ∷ []) earlier.0 m.told b.told noted_b (told_m ∙ k.agrees.told) earlier.1 in
      let x : Agrees (noted r n w) (ns ++ n ∷ []) b = agrees_closed r w conn parting.code parting.reason ns a m b k.agrees due.0 app due.1 due.2 net_m told_m hub net told_b in
      let given_e = event_for conn (intakes conn) (event.closed parting.code parting.reason) in
      let has : has_entry a.hub.entries conn ≡ true = was.kept conn ∙ ap (λ (z : Option (ℕ × List ℕ)). is_present a.hub conn || is_some z) due.0 ∙ or-true (is_present a.hub conn) in
      let routed = k.routed conn has in
      let line = own_line r conn n (w.line conn) (itself conn) in
      let at : event_at n (noted r n w) ≡ Some given_e = event_alike conn (event.closed parting.code parting.reason) (intakes conn).route ((noted r n w).line conn).route (intakes conn).param ((noted r n w).line conn).param
      (ap (λ (z : Line). z.route) line ∙ sym routed.0) (ap (λ (z : Line). z.param) line ∙ sym routed.1) in
      let same_net : b.net ≡ a.net = net ∙ net_m in
      kept_given r f ns n given_e [] after b d now next at k.ordered k.state (ap (λ (z : HubState). z.config) hub ∙ app.lines.config ∙ k.configured) refl x (given_now ∙ ap (r.after now) event_is)
      (subst (λ (z : EventValue). ServesAll b.hub.config r.admits conn 0 (r.said next z) b d) event_is served) told
      table a.hub.entries intakes None refl k.unlike (subst (λ (z : NetState). Follows (ns ++ n ∷ []) z) (sym same_net) (aside_follows ns n a.net refl refl k.follows))
      (λ c. beside_note a b now intakes intakes None n k c (λ z. absurd (none_reads c z)) refl (ap (λ (z : NetState). z.given c) same_net) refl)
      (λ does none. entries_before a b d _ was is (λ c away. subst (λ (z : HubState). IsAway (progress_at z c)) (sym hub) (away_taken c due.1 due.2 away)) does none)
    where
      away_taken : (c : ℕ) → progress_at m.hub parting.conn ≡ record (progress_at a.hub parting.conn) { due = None } → ((c : ℕ) → c ≢ parting.conn → progress_at m.hub c ≡ progress_at a.hub c) → IsAway (progress_at a.hub c) → IsAway (progress_at m.hub c)
      away_taken c here others away = ⊎_elim
          (λ (q : c ≡ parting.conn). subst (λ (z : ℕ). IsAway (progress_at m.hub z)) (sym q)
          (subst IsAway (sym here) (record { phase = ap (λ (z : ℕ). (progress_at a.hub z).phase) (sym q) ∙ away.phase; due = refl })))
          (λ (ne : c ≢ parting.conn). subst IsAway (sym (others c ne)) away)
          (cases_eq c parting.conn)

  -- ---- a Told event is given

  pub told_given : (conn dropped : ℕ) (drained : Bool) (e : EventValue) (a b d : Server) (now next : S) (intakes : ℕ → IntakeView) → Kept r f table ns a now intakes None → phase r ns conn ≡ Some Open
      → Makes (note.told conn dropped drained ∷ []) a b → Appends nothing a b
      → e ≡ event_for conn (intakes conn) (event.told dropped drained) → next ≡ r.after now e → ServesAll b.hub.config r.admits conn 0 (r.said next e) b d → d.told ≡ Some after
      → IsTable (table_of a.hub) → IsTable (table_of d.hub)
      → OrdersServed r f ns (note.told conn dropped drained) [] after b d next × Kept r f table after d next intakes None
  told_given conn dropped drained e a b d now next intakes k is_open makes app event_is given_now served told was is =
      let n = note.told conn dropped drained in
      let w : World S = world r ns in
      let earlier = told_before after b d served told in
      let x : Agrees (noted r n w) (ns ++ n ∷ []) b = agrees_quiet r w ns earlier.0 (n ∷ []) a b k.agrees makes.advances app earlier.1 refl in
      let given_e = event_for conn (intakes conn) (event.told dropped drained) in
      let routed = k.routed conn (phase_has_entry a.hub conn Open (agrees_hub_phase w ns a k.agrees conn Open refl is_open)) in
      let line = own_line r conn n (w.line conn) (itself conn) in
      let at : event_at n (noted r n w) ≡ Some given_e = event_alike conn (event.told dropped drained) (intakes conn).route ((noted r n w).line conn).route (intakes conn).param ((noted r n w).line conn).param
      (ap (λ (z : Line). z.route) line ∙ sym routed.0) (ap (λ (z : Line). z.param) line ∙ sym routed.1) in
      let steps : Proceeds (n ∷ []) [] a b = record { sending = []; outgoing = refl; advances = makes.advances; fails = makes.fails } in
      let follows : Follows (ns ++ n ∷ []) b.net = none_but (ns ++ n ∷ []) b.net (proceeds_follows ns (n ∷ []) [] [] [] [] a b k.agrees.tells refl refl refl steps (but_none ns a.net k.follows)) in
      kept_given r f ns n given_e [] after b d now next at k.ordered k.state (app.lines.config ∙ k.configured) refl x (given_now ∙ ap (r.after now) event_is)
      (subst (λ (z : EventValue). ServesAll b.hub.config r.admits conn 0 (r.said next z) b d) event_is served) told
      table a.hub.entries intakes None refl k.unlike follows
      (λ c. beside_note a b now intakes intakes None n k c (λ z. absurd (none_reads c z)) refl ((makes.advances.net.told k.agrees.tells).given c) refl)
      (λ does none. entries_before a b d _ was is (λ c away. away_after c (n ∷ []) a b makes.advances (unaccepted (n ∷ []) c refl) away) does none)

  -- ---- an Opened event is given

  pub opened_given : (conn route : ℕ) (param text : List ℕ) (e : EventValue) (a b d : Server) (now next : S) (intakes later : ℕ → IntakeView) → Kept r f table ns a now intakes (Some conn) → phase r ns conn ≡ Some Head
      → (steps : Proceeds (note.opened conn route param ∷ []) [] a b) → Appends (only conn (reply text)) a b → r.reply conn ≡ text
      → HearsFrames table f.max_message None (heard conn ns ++ opened route param ∷ []) (a.net.given conn) (later conn).reader
      → (later conn).route ≡ route → (later conn).param ≡ param → ((other : ℕ) → other ≢ conn → later other ≡ intakes other)
      → e ≡ event_for conn (later conn) event.opened → next ≡ r.after now e → ServesAll b.hub.config r.admits conn 0 (r.said next e) b d → d.told ≡ Some after
      → IsTable (table_of a.hub) → IsTable (table_of d.hub)
      → OrdersServed r f ns (note.opened conn route param) steps.sending after b d next × Kept r f table after d next later (Some conn)
  opened_given conn route param text e a b d now next intakes later k is_head steps app replied frames route_is param_is others event_is given_now served told was is =
      let n = note.opened conn route param in
      let w : World S = world r ns in
      let sending : List NoteValue = steps.sending in
      let own : is_of conn n ≡ true = itself conn in
      let earlier = told_before after b d served told in
      let x : Agrees (noted_all r sending (noted r n w)) (ns ++ n ∷ sending) b =
      agrees_note r w ns earlier.0 n (only conn (reply (r.reply conn))) a b steps k.agrees (subst (λ (z : List ℕ). Appends (only conn (reply z)) a b) (sym replied) app) earlier.1 refl refl
      (λ c. items_opened r w conn c route param) in
      let given_e = event_for conn (later conn) event.opened in
      let line = own_line r conn n (w.line conn) own in
      let at : event_at n (noted r n w) ≡ Some given_e = event_alike conn event.opened (later conn).route ((noted r n w).line conn).route (later conn).param ((noted r n w).line conn).param
      (ap (λ (z : Line). z.route) line ∙ sym route_is) (ap (λ (z : Line). z.param) line ∙ sym param_is) in
      let same_given : (c : ℕ) → b.net.given c ≡ a.net.given c = (steps.advances.net.told k.agrees.tells).given in
      let follows : Follows (ns ++ n ∷ sending) b.net = subst (λ (z : List NoteValue). Follows (ns ++ n ∷ z) b.net) (append-nil sending)
      (none_but (ns ++ n ∷ (sending ++ [])) b.net (proceeds_follows ns (n ∷ []) [] [] [] [] a b k.agrees.tells refl refl refl steps (but_none ns a.net k.follows))) in
      let advances : Advances (n ∷ sending) a b = subst (λ (z : List NoteValue). Advances (n ∷ z) a b) (append-nil sending) steps.advances in
      kept_given r f ns n given_e sending after b d now next at k.ordered k.state (app.lines.config ∙ k.configured) steps.outgoing x (given_now ∙ ap (r.after now) event_is)
      (subst (λ (z : EventValue). ServesAll b.hub.config r.admits conn 0 (r.said next z) b d) event_is served) told
      table a.hub.entries later (Some conn) refl k.unlike follows
      (λ c. ⊎_elim
      (λ (q : c ≡ conn). subst (λ (z : ℕ). Taken table f.max_message (heard z (ns ++ n ∷ [])) (b.net.given z) (later z) (Some conn ≢ Some z) (has_entry a.hub.entries z ≡ true) ((noted r n w).line z)) (sym q)
      (heard_note conn n (opened route param) (b.net.given conn) (later conn) (has_entry a.hub.entries conn ≡ true) own (heard_then_opened conn route param ns) refl (ap (λ (z : Option Phase). moved z n) is_head)
      (hears_in a now intakes (Some conn) conn (Some Head) k is_head).0
      (subst (λ (z : List ℕ). HearsFrames table f.max_message None (heard conn ns ++ opened route param ∷ []) z (later conn).reader) (sym (same_given conn)) frames)
      (λ h. (route_is, param_is))))
      (λ (ne : c ≢ conn). beside_note a b now intakes later (Some conn) n k c (λ z. absurd (not_read conn c ne z)) (other_beside c n (is_other conn c (λ (z : conn ≡ c). ne (sym z)))) (same_given c) (others c ne))
      (cases_eq c conn))
      (λ does none. entries_before a b d _ was is (λ c away. away_after c (n ∷ sending) a b advances (unaccepted (n ∷ sending) c (outgoing_unaccepted sending steps.outgoing)) away) does none)
