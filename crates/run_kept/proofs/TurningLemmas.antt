-- What a server keeps while it starts, while connections are turned away, and while time goes by and turns end.
use Rattle.run_kept.proofs.Below.{◌≡◌, ◌<◌, ◌^◌, ◌-◌, ℕ, List, [], ◌∷◌, ◌++◌, Some, None, Bool, true, false, cond, ◌&&◌, length, refl, sym, ap, ◌∙◌, subst, list_all, Conn, ConfigValue, NoteValue, NetState, Nexts, Shuts, SameTraffic, is_rest, NetEvent, RouteTable, gather, has_number, accepted_by, is_accepted, world, phase, heard, last_frame, Follows, Mark, marks_by, marks_of, arrival, tick, turn, ordered_none, HubState, Server, Entry, server, has_entry, taken_of, nothing, AreNoted, is_outgoing, Appends, clash, Advances, Ticks, unread_accepts, unread_ended, unread_given, IsTable, table_of, Arrives, Makes, Busy, Memory, EndsTurn, finishes, Agrees, is_quiet, agrees_net, agrees_aside, told_is, agrees_quiet, agrees_last, agrees_first, FollowsBut, is_unread, follows_none, none_but, gathers_none, call_marked, next_but, next_unmarked, shut_follows, aside_but, busy_follows, no_room_follows, all_follow, proceeds_follows, IntakeView, HearsAt, RestsAt, Kept, is_passing, Proceeds, append-nil, gather-append, Offers, but_none, all_then}
use Rattle.ws_kinds.specs.NoteValue as note
use Rattle.link_trait.specs.declared.net.NetEvent.TheVariants as event
use Rattle.run_meaning.specs.Server as run
use Rattle.run_kept.proofs.EntryLemmas.{entry_before}
use Rattle.run_kept.proofs.PassingLemmas.{none_reads, same_numbers, same_told, passing_accepts, seen_beside, kept_plain, kept_passing}
use Rattle.run_kept.proofs.TickLemmas.{agrees_tick, tick_accepts, tick_advances, tick_beside, tick_event, tick_unmarked, tick_unread, tick_unserved}

-- ---- at first

no_entries : (es : List Entry) (c : ℕ) → es ≡ [] → has_entry es c ≡ false
no_entries es c e = ap (λ (z : List Entry). has_entry z c) e

pub kept_first : {S : Type 0} (r : run.Server S) (f : ConfigValue) (t : RouteTable) (s : Server) (now : S) (is : ℕ → IntakeView) → s.hub.entries ≡ [] → s.hub.pairs ≡ [] → s.hub.partings ≡ [] → s.net.tells ≡ true → s.told ≡ Some []
    → s.net.passed ≡ [] → now ≡ r.start → s.hub.config ≡ f → Kept r f t [] s now is None
kept_first r f t s now is entries pairs partings tells told passed start config = record {
  agrees = agrees_first r s tells told entries pairs partings;
  follows = follows_none s.net passed;
  ordered = ordered_none r f;
  state = start;
  unlike = tt {0};
  configured = config;
  hears = λ c. refl;
  rests = λ c free. tt {0};
  routed = λ c there. clash (has_entry s.hub.entries c) (no_entries s.hub.entries c entries) there;
}

-- ---- the net alone

pub taken_same : (m n : NetState) (c : ℕ) → m.tells ≡ true → n.tells ≡ true → n.taken c ≡ m.taken c → taken_of n c ≡ taken_of m c
taken_same m n c tm tn e =
    ap (λ (z : Bool). cond z (Some (n.taken c)) None) tn ∙ ap Some e ∙ sym (ap (λ (z : Bool). cond z (Some (m.taken c)) None) tm)

-- ---- notes at the end of a call

outgoing_passes : (n : NoteValue) → is_outgoing n ≡ true → is_passing n ≡ true
outgoing_passes (note.took c offered took) e = refl
outgoing_passes (note.dropped c index held) e = refl
outgoing_passes (note.gone c left) e = refl
outgoing_passes _ e = clash false refl e

-- the last notes of a call, by which nothing is heard, read or sent, with the marks of the net that they answer
record AreLast (last : List NoteValue) (marks : List Mark) : Type 0 where
  passes : list_all is_passing last ≡ true
  quiet : list_all is_quiet last ≡ true
  unread : list_all is_unread last ≡ true
  marked : gather marks_by last ≡ marks

finishes_last : (cs : List ℕ) → AreLast (finishes cs) []
finishes_last [] = record { passes = refl; quiet = refl; unread = refl; marked = refl }
finishes_last (c ∷ cs) = let x = finishes_last cs in record { passes = x.passes; quiet = x.quiet; unread = x.unread; marked = x.marked }

turn_last : (last : List NoteValue) → AreLast last [] → AreLast (last ++ note.turn ∷ []) (turn ∷ [])
turn_last last x = record {
  passes = all_then is_passing last (note.turn ∷ []) x.passes refl;
  quiet = all_then is_quiet last (note.turn ∷ []) x.quiet refl;
  unread = all_then is_unread last (note.turn ∷ []) x.unread refl;
  marked = gather-append marks_by last (note.turn ∷ []) ∙ ap (λ (z : List Mark). z ++ turn ∷ []) x.marked;
}

module _ {S : Type 0} (r : run.Server S) (f : ConfigValue) (t : RouteTable) (ns : List NoteValue) (a : Server) (now : S) (is : ℕ → IntakeView) (k : Kept r f t ns a now is None) where
  -- the net is another one, through which nothing passed
  pub agrees_now : (n : NetState) → n.tells ≡ true → SameTraffic a.net n → Agrees (world r ns) ns (server a.hub n a.told)
  agrees_now n tells same = agrees_net (world r ns) ns a (server a.hub n a.told) k.agrees refl refl tells (λ c. taken_same a.net n c k.agrees.tells tells (same.taken c))

  pub kept_net : (n : NetState) → n.tells ≡ true → SameTraffic a.net n → Follows ns n → Kept r f t ns (server a.hub n a.told) now is None
  kept_net n tells same follows = record {
    agrees = agrees_now n tells same;
    follows = follows;
    ordered = k.ordered;
    state = k.state;
    unlike = k.unlike;
    configured = k.configured;
    hears = λ c. subst (λ (z : List ℕ). HearsAt t f.max_message (phase r ns c) (last_frame r ns c) (heard c ns) z (is c).reader) (sym (same.given c)) (k.hears c);
    rests = λ c free. subst (λ (z : List ℕ). RestsAt t (phase r ns c) z (is c).reader) (sym (same.given c)) (k.rests c free);
    routed = k.routed;
  }

  -- a connection can be read, or takes octets
  pub kept_readable : (conn : Conn) (n : NetState) → Nexts (event.Readable conn) a.net n → Kept r f t ns (server a.hub n a.told) now is None
  kept_readable conn n next =
      kept_net n (next.net.tells ∙ k.agrees.tells) (next.told k.agrees.tells).traffic (next_unmarked (event.Readable conn) ns a.net n refl k.agrees.tells next k.follows)

  pub kept_writable : (conn : Conn) (n : NetState) → Nexts (event.Writable conn) a.net n → Kept r f t ns (server a.hub n a.told) now is None
  kept_writable conn n next =
      kept_net n (next.net.tells ∙ k.agrees.tells) (next.told k.agrees.tells).traffic (next_unmarked (event.Writable conn) ns a.net n refl k.agrees.tells next k.follows)

  -- a link is shut
  pub kept_shut : (c : ℕ) (n : NetState) → Shuts c a.net n → Kept r f t ns (server a.hub n a.told) now is None
  kept_shut c n shut =
      kept_net n (shut.net.tells ∙ k.agrees.tells) (shut.told k.agrees.tells).traffic (shut_follows c ns a.net n k.agrees.tells shut k.follows)

  -- ---- one note by which nothing is heard and nobody comes

  unaccepted : (ms : List NoteValue) → list_all is_passing ms ≡ true → (c : ℕ) → is_accepted c ms ≡ false
  unaccepted ms e c = ap (has_number c) (gathers_none is_passing accepted_by passing_accepts ms e)

  -- after a call of the net through which nothing passed, a call of the hub
  kept_one : (n : NoteValue) (net : NetState) (b : Server) (after : List NoteValue) → net.tells ≡ true → SameTraffic a.net net → Makes (n ∷ []) (server a.hub net a.told) b → Appends nothing (server a.hub net a.told) b → b.told ≡ Some after
      → is_passing n ≡ true → is_quiet n ≡ true → Follows (ns ++ n ∷ []) b.net → ((c : ℕ) → has_entry b.hub.entries c ≡ true → has_entry a.hub.entries c ≡ true) → Kept r f t (ns ++ n ∷ []) b now is None
  kept_one n net b after tells same makes app told passes quiet follows entries =
      kept_passing r f t ns (n ∷ []) a b now is k (ap (λ (z : Bool). z && true) passes)
      (agrees_quiet r (world r ns) ns after (n ∷ []) (server a.hub net a.told) b (agrees_now net tells same) makes.advances app told (ap (λ (z : Bool). z && true) quiet))
      follows app.lines.config (λ c. (makes.advances.net.told tells).given c ∙ same.given c) entries

  -- time went by
  pub kept_tick : (net : NetState) (b : Server) (after : List NoteValue) (x : Ticks (server a.hub net a.told) b) → length a.net.passed < 2 ^ 64 - 1 → Nexts event.Tick a.net net → b.told ≡ Some after → IsTable (table_of a.hub) → IsTable (table_of b.hub)
      → (after ≡ ns ++ note.tick ∷ x.rest) × Kept r f t after b now is None
  kept_tick net b after x few next told was table =
      let tells : net.tells ≡ true = next.net.tells ∙ k.agrees.tells in
      let traffic = (next.told k.agrees.tells).traffic in
      let adv : Advances (note.tick ∷ x.rest) (server a.hub net a.told) b = tick_advances (server a.hub net a.told) b x in
      let app = (x.does r.reply).appends in
      let unread : list_all is_unread (note.tick ∷ x.rest) ≡ true = tick_unread x.rest x.of_tick in
      let given : (c : ℕ) → b.net.given c ≡ a.net.given c = λ c. (adv.net.told tells).given c ∙ traffic.given c in
      let marks : gather marks_by (note.tick ∷ x.rest) ≡ tick ∷ [] = ap (λ (z : List Mark). tick ∷ z) (tick_unmarked x.rest x.of_tick) in
      let kept : Kept r f t (ns ++ note.tick ∷ x.rest) b now is None =
      kept_plain r f t ns (note.tick ∷ x.rest) a b now is is None None k (tick_event x.rest x.of_tick) (tick_unserved x.rest x.of_tick)
      (agrees_tick (server a.hub net a.told) b x r ns after (agrees_now net tells traffic) told)
      (none_but (ns ++ note.tick ∷ x.rest) b.net
      (call_marked ns (note.tick ∷ x.rest) (tick ∷ []) (tick ∷ []) [] net b.net tells marks refl
      (λ c. unread_accepts c (note.tick ∷ x.rest) unread) (λ c. unread_given c (note.tick ∷ x.rest) unread) (λ c. unread_ended c (note.tick ∷ x.rest) unread) adv.net x.fails
      (next_but event.Tick ns a.net net k.agrees.tells few next k.follows)))
      (same_numbers ns (note.tick ∷ x.rest) (tick_accepts x.rest x.of_tick) k.unlike) app.lines.config
      (λ c. seen_beside r f t ns (note.tick ∷ x.rest) a b now is is None None k c (λ z. absurd (none_reads c z)) (tick_beside c x.rest x.of_tick) (given c) refl (λ free. free)
      (λ there. entry_before c (note.tick ∷ x.rest) (server a.hub net a.told) b adv (unread_accepts c (note.tick ∷ x.rest) unread) was table there)) in
      let is_after : after ≡ ns ++ note.tick ∷ x.rest = same_told after (ns ++ note.tick ∷ x.rest) b.told told kept.agrees.told in
      (is_after, subst (λ (z : List NoteValue). Kept r f t z b now is None) (sym is_after) kept)

  -- a connection came, and there are as many as there may be, or there was too little memory for it in the hub
  pub kept_busy : (conn : Conn) (net : NetState) (b : Server) (after : List NoteValue) → length a.net.passed < 2 ^ 64 - 1 → Nexts (event.Accept conn) a.net net → Arrives Busy conn.0 (server a.hub net a.told) b
      → Appends nothing (server a.hub net a.told) b → b.told ≡ Some after → Kept r f t (ns ++ note.busy conn.0 ∷ []) b now is None
  kept_busy conn net b after few next busy app told =
      let tells : net.tells ≡ true = next.net.tells ∙ k.agrees.tells in
      let makes : Makes (note.busy conn.0 ∷ []) (server a.hub net a.told) b = busy.2 in
      kept_one (note.busy conn.0) net b after tells (next.told k.agrees.tells).traffic makes app told refl refl
      (busy_follows conn.0 ns net b.net tells makes.advances.net makes.fails (next_but (event.Accept conn) ns a.net net k.agrees.tells few next k.follows))
      (λ c there. ap (λ (z : HubState). has_entry z.entries c) (sym busy.1) ∙ there)

  pub kept_memory : (conn : Conn) (net : NetState) (b : Server) (after : List NoteValue) → length a.net.passed < 2 ^ 64 - 1 → Nexts (event.Accept conn) a.net net → Arrives Memory conn.0 (server a.hub net a.told) b
      → Appends nothing (server a.hub net a.told) b → b.told ≡ Some after → Kept r f t (ns ++ note.no_room conn.0 ∷ []) b now is None
  kept_memory conn net b after few next full app told =
      let tells : net.tells ≡ true = next.net.tells ∙ k.agrees.tells in
      let makes : Makes (note.no_room conn.0 ∷ []) (server a.hub net a.told) b = full.2 in
      kept_one (note.no_room conn.0) net b after tells (next.told k.agrees.tells).traffic makes app told refl refl
      (no_room_follows conn.0 ns net b.net tells makes.advances.net makes.fails (next_but (event.Accept conn) ns a.net net k.agrees.tells few next k.follows))
      (λ c there. ap (λ (z : HubState). has_entry z.entries c) (sym full.1) ∙ there)

  -- or in the loop, which notes that itself
  pub kept_no_room : (conn : Conn) (net : NetState) (b : Server) (after : List NoteValue) → length a.net.passed < 2 ^ 64 - 1 → Nexts (event.Accept conn) a.net net → b.hub ≡ a.hub → b.net ≡ net
      → AreNoted a.told (note.no_room conn.0 ∷ []) b.told → b.told ≡ Some after → Kept r f t (ns ++ note.no_room conn.0 ∷ []) b now is None
  kept_no_room conn net b after few next hub same noted told =
      let tells : net.tells ≡ true = next.net.tells ∙ k.agrees.tells in
      let traffic = (next.told k.agrees.tells).traffic in
      let n = note.no_room conn.0 in
      kept_passing r f t ns (n ∷ []) a b now is k refl
      (agrees_aside r (world r ns) ns n (server a.hub net a.told) b (agrees_now net tells traffic) refl hub same (told_is ns (n ∷ []) after a.told b.told noted k.agrees.told told))
      (subst (λ (z : NetState). Follows (ns ++ n ∷ []) z) (sym same)
      (none_but (ns ++ n ∷ []) net (aside_but ns n (arrival conn.0 ∷ []) [] net refl refl (next_but (event.Accept conn) ns a.net net k.agrees.tells few next k.follows))))
      (ap (λ (z : HubState). z.config) hub) (λ c. ap (λ (z : NetState). z.given c) same ∙ traffic.given c)
      (λ c there. ap (λ (z : HubState). has_entry z.entries c) (sym hub) ∙ there)

  -- ---- a turn ends, or what is held is offered

  -- the hub sends what it holds, and then makes these last notes, after a call of the net through which nothing passed
  kept_last : (last : List NoteValue) (marks : List Mark) (net : NetState) (b : Server) (after : List NoteValue) (x : Proceeds [] last (server a.hub net a.told) b) → AreLast last marks
      → net.tells ≡ true → SameTraffic a.net net → FollowsBut marks ns net → Appends nothing (server a.hub net a.told) b → b.told ≡ Some after → IsTable (table_of a.hub) → IsTable (table_of b.hub)
      → (after ≡ ns ++ (x.sending ++ last)) × Kept r f t after b now is None
  kept_last last marks net b after x are tells same follows app told was table =
      let made = x.sending ++ last in
      let passes : list_all is_passing made ≡ true = all_then is_passing x.sending last (all_follow is_outgoing is_passing outgoing_passes x.sending x.outgoing) are.passes in
      let kept : Kept r f t (ns ++ made) b now is None =
      kept_passing r f t ns made a b now is k passes
      (agrees_last r (world r ns) ns after last (server a.hub net a.told) b x (agrees_now net tells same) app told are.quiet)
      (none_but (ns ++ made) b.net (proceeds_follows ns [] last marks marks [] (server a.hub net a.told) b tells are.unread are.marked (sym (append-nil marks)) x follows))
      app.lines.config (λ c. (x.advances.net.told tells).given c ∙ same.given c)
      (λ c there. entry_before c made (server a.hub net a.told) b x.advances (unaccepted made passes c) was table there) in
      let is_after : after ≡ ns ++ made = same_told after (ns ++ made) b.told told kept.agrees.told in
      (is_after, subst (λ (z : List NoteValue). Kept r f t z b now is None) (sym is_after) kept)

  pub kept_turned : (answer : NetEvent) (net : NetState) (b : Server) (after : List NoteValue) (ends : EndsTurn (server a.hub net a.told) b) → is_rest answer ≡ true → length a.net.passed < 2 ^ 64 - 1 → Nexts answer a.net net
      → Appends nothing (server a.hub net a.told) b → b.told ≡ Some after → IsTable (table_of a.hub) → IsTable (table_of b.hub)
      → (after ≡ ns ++ (ends.proceeds.sending ++ (finishes ends.finished ++ note.turn ∷ []))) × Kept r f t after b now is None
  kept_turned answer net b after ends rest few next app told was table =
      let last = finishes ends.finished in
      kept_last (last ++ note.turn ∷ []) (turn ∷ []) net b after ends.proceeds (turn_last last (finishes_last ends.finished)) (next.net.tells ∙ k.agrees.tells) (next.told k.agrees.tells).traffic
      (subst (λ (z : List Mark). FollowsBut z ns net) (rest_marks answer rest) (next_but answer ns a.net net k.agrees.tells few next k.follows)) app told was table
    where
      rest_marks : (answer : NetEvent) → is_rest answer ≡ true → marks_of answer ≡ turn ∷ []
      rest_marks event.Turn e = refl
      rest_marks event.Stop e = refl
      rest_marks event.Failed e = refl
      rest_marks event.Tick e = clash false refl e
      rest_marks (event.Accept conn) e = clash false refl e
      rest_marks (event.Readable conn) e = clash false refl e
      rest_marks (event.Writable conn) e = clash false refl e

  -- the net answered Writable, and what is held is offered
  pub kept_offered : (conn : Conn) (net : NetState) (b : Server) (after : List NoteValue) (offers : Offers conn.0 (server a.hub net a.told) b) → Nexts (event.Writable conn) a.net net → b.told ≡ Some after → IsTable (table_of a.hub)
      → (after ≡ ns ++ (offers.proceeds.sending ++ finishes offers.finished)) × Kept r f t after b now is None
  kept_offered conn net b after offers next told was =
      let writable = kept_writable conn net next in
      kept_last (finishes offers.finished) [] net b after offers.proceeds (finishes_last offers.finished) writable.agrees.tells (next.told k.agrees.tells).traffic
      (but_none ns net writable.follows) offers.appends told was offers.table
