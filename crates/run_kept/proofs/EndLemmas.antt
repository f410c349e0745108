-- Who left Open as a turn ended, and which links are live.
use Rattle.run_kept.proofs.Below.{◌≡◌, ◌≢◌, ◌<◌, ℕ, List, [], ◌∷◌, ◌++◌, Option, Some, None, is_some, Bool, true, false, cond, not, nat_eq, ◌&&◌, refl, sym, ap, ◌∙◌, append-nil, append_assoc, ⊎_elim, arith, cases_eq, not-true, list_all, itself, is_same, by_cases, clash, and_left, and_right, or_left, or_right, Conn, Left, PeerEnd, LinkFailed, Idle, Finished, Phase, Head, Open, Leaving, Ending, Gone, NoteValue, NetState, Same, Nexts, Shuts, is_of, is_event, is_unserved, is_gone, is_gone_in, OrderValue, Step, by_note, by_order, notes_of, Line, World, moved, closing, leaves_open, cause_of, is_open, line_after, world, phase, LeftAtEnd, is_sudden, is_last_note, list_all-append, world_plain, HubState, Server, has_entry, is_present, entry_at, is_outgoing, Progress, due_at, progress_at, progress_by, progress_after, progress_after_all, progress_obeys, progress_by_steps, unless_gone, Advances, Does, progress_then, phase_of_away, IsTable, table_of, EndsTurn, finishes, Agrees, own_line, other_line, all_follow, moves_shown, open_shown, rests_of, is_late, AreThere}
use Rattle.ws_kinds.specs.NoteValue as note
use Rattle.link_trait.specs.declared.net.NetEvent.TheVariants as event
use Rattle.run_meaning.specs.Server as run
use Rattle.hub_lines.specs.State as hub
use Rattle.run_kept.proofs.EntryLemmas.{order_phase}

-- ---- a note at the end of a turn

late_event : (n : NoteValue) → is_late n ≡ true → is_event n ≡ false
late_event (note.opened c route param) e = clash false refl e
late_event (note.message c kind body) e = clash false refl e
late_event (note.told c dropped drained) e = clash false refl e
late_event (note.closed c code reason) e = clash false refl e
late_event _ e = refl

late_unserved : (n : NoteValue) → is_late n ≡ true → is_unserved n ≡ false
late_unserved (note.unserved c order reason) e = clash false refl e
late_unserved _ e = refl

late_none : (n : NoteValue) → is_late n ≡ true → moved None n ≡ None
late_none (note.accepted c) e = clash false refl e
late_none _ e = refl

late_last : (n : NoteValue) → is_late n ≡ true → is_last_note n ≡ true
late_last (note.took c offered took) e = refl
late_last (note.dropped c index held) e = refl
late_last (note.gone c left) e = refl
late_last _ e = clash false refl e

outgoing_late : (n : NoteValue) → is_outgoing n ≡ true → is_late n ≡ true
outgoing_late (note.took c offered took) e = refl
outgoing_late (note.dropped c index held) e = refl
outgoing_late (note.gone c PeerEnd) e = e
outgoing_late (note.gone c LinkFailed) e = refl
outgoing_late (note.gone c Idle) e = e
outgoing_late (note.gone c Finished) e = refl
outgoing_late _ e = clash false refl e

finishes_late : (cs : List ℕ) → list_all is_late (finishes cs) ≡ true
finishes_late [] = refl
finishes_late (c ∷ cs) = finishes_late cs

-- a connection leaves Open by such a note where it is gone by it
record LeavesBy (c : ℕ) (n : NoteValue) : Type 0 where
  left : Left
  is : n ≡ note.gone c left
  sudden : is_sudden left ≡ true

open_before : (p q : Option Phase) → leaves_open p q ≡ true → is_open p ≡ true
open_before None q e = clash false refl e
open_before (Some Head) q e = clash false refl e
open_before (Some Open) q e = refl
open_before (Some Leaving) q e = clash false refl e
open_before (Some Ending) q e = clash false refl e
open_before (Some Gone) q e = clash false refl e

leaves_by : (c : ℕ) (p : Option Phase) (n : NoteValue) → is_late n ≡ true → is_of c n ≡ true → leaves_open p (moved p n) ≡ true → LeavesBy c n
leaves_by c p (note.gone d left) late own e = record { left = left; is = ap (λ (z : ℕ). note.gone z left) (is_same d c own); sudden = late }
leaves_by c None n late own e = clash false refl e
leaves_by c (Some Head) n late own e = clash false refl e
leaves_by c (Some Leaving) n late own e = clash false refl e
leaves_by c (Some Ending) n late own e = clash false refl e
leaves_by c (Some Gone) n late own e = clash false refl e
leaves_by c (Some Open) (note.took d offered took) late own e = clash false refl e
leaves_by c (Some Open) (note.dropped d index held) late own e = clash false refl e
leaves_by c (Some Open) _ late own e = clash false refl late

-- ---- the notes at the end of a turn

abbrev phase_in : Progress → Option Phase
phase_in p = p.phase

abbrev due_in : Progress → Option (ℕ × List ℕ)
due_in p = p.due

module _ {S : Type 0} (r : run.Server S) (c : ℕ) where
  -- where the connection left Open among these notes
  record Leaves (ns ms : List NoteValue) : Type 0 where
    first : List NoteValue
    last : List NoteValue
    left : Left
    split : ms ≡ first ++ note.gone c left ∷ last
    from_open : is_open (phase r (ns ++ first) c) ≡ true
    sudden : is_sudden left ≡ true
    late : list_all is_last_note last ≡ true

  phase_one : (ns : List NoteValue) (n : NoteValue) (p : Progress) → is_late n ≡ true → p.phase ≡ unless_gone (phase r ns c) → (progress_after c n p).phase ≡ unless_gone (phase r (ns ++ n ∷ []) c)
  phase_one ns n p late e =
      let l = (world r ns).line c in
      let line : (world r (ns ++ n ∷ [])).line c ≡ line_after r c n l = ap (λ (z : World S). z.line c) (world_plain r ns n (late_event n late) (late_unserved n late)) in
      by_cases (is_of c n)
      (λ own.
      ap (λ (z : Bool). (cond z (progress_by n p) p).phase) own ∙ ap (λ (z : Option Phase). unless_gone (moved z n)) e ∙ moves_shown l.phase n (late_none n late)
      ∙ sym (ap (λ (z : Line). unless_gone z.phase) (line ∙ own_line r c n l own)))
      (λ other. ap (λ (z : Bool). (cond z (progress_by n p) p).phase) other ∙ e ∙ sym (ap (λ (z : Line). unless_gone z.phase) (line ∙ other_line r c n l other)))

  due_one : (n : NoteValue) (p : Progress) → p.due ≡ None → (is_of c n && leaves_open p.phase (moved p.phase n)) ≡ false → (progress_after c n p).due ≡ None
  due_one n p none e = one (is_of c n) (leaves_open p.phase (moved p.phase n)) e refl
    where
      one : (own leaves : Bool) → (own && leaves) ≡ false → leaves_open p.phase (moved p.phase n) ≡ leaves → (cond own (progress_by n p) p).due ≡ None
      one false leaves e h = none
      one true true e h = clash true e refl
      one true false e h = ap (λ (z : Bool). cond z (Some (cause_of n)) p.due) h ∙ none

  find : (ns ms : List NoteValue) (p : Progress) (cause : ℕ × List ℕ) → list_all is_late ms ≡ true → p.phase ≡ unless_gone (phase r ns c) → p.due ≡ None → (progress_after_all c ms p).due ≡ Some cause → Leaves ns ms
  find ns [] p cause late shown none e = absurd (let z : None ≡ Some cause = sym none ∙ e in cc)
  find ns (n ∷ ms) p cause late shown none e =
      let this = and_left (is_late n) (list_all is_late ms) late in
      let others = and_right (is_late n) (list_all is_late ms) late in
      by_cases (is_of c n && leaves_open p.phase (moved p.phase n))
      (λ here.
      let leaves = and_right (is_of c n) (leaves_open p.phase (moved p.phase n)) here in
      let by = leaves_by c p.phase n this (and_left (is_of c n) (leaves_open p.phase (moved p.phase n)) here) leaves in
      record {
        first = [];
        last = ms;
        left = by.left;
        split = ap (λ (z : NoteValue). z ∷ ms) by.is;
        from_open = ap (λ (z : List NoteValue). is_open (phase r z c)) (append-nil ns) ∙ sym (open_shown (phase r ns c)) ∙ ap is_open (sym shown) ∙ open_before p.phase (moved p.phase n) leaves;
        sudden = by.sudden;
        late = all_follow is_late is_last_note late_last ms others;
      })
      (λ not_here.
      let x = find (ns ++ n ∷ []) ms (progress_after c n p) cause others (phase_one ns n p this shown) (due_one n p none not_here) e in
      record {
        first = n ∷ x.first;
        last = x.last;
        left = x.left;
        split = ap (λ (z : List NoteValue). n ∷ z) x.split;
        from_open = ap (λ (z : List NoteValue). is_open (phase r z c)) (sym (append_assoc ns (n ∷ []) x.first)) ∙ x.from_open;
        sudden = x.sudden;
        late = x.late;
      })

-- the turn's note changes nothing of what is due
due_before : (c : ℕ) (ms made : List NoteValue) (p q : Progress) → made ≡ ms ++ note.turn ∷ [] → q ≡ progress_after_all c made p → (progress_after_all c ms p).due ≡ q.due
due_before c ms made p q e h = ap due_in (sym (progress_then c ms (note.turn ∷ []) p)) ∙ ap (λ (z : List NoteValue). (progress_after_all c z p).due) (sym e) ∙ sym (ap due_in h)

-- the turn's note comes last
left_by : {S : Type 0} (r : run.Server S) (c : ℕ) (ns ms made : List NoteValue) → made ≡ ms ++ note.turn ∷ [] → Leaves r c ns ms → LeftAtEnd r c (ns ++ made)
left_by r c ns ms made shape x = record {
  before = ns ++ x.first;
  between = x.last;
  left = x.left;
  split = ap (λ (z : List NoteValue). ns ++ z) (shape ∙ ap (λ (z : List NoteValue). z ++ note.turn ∷ []) x.split ∙ append_assoc x.first (note.gone c x.left ∷ x.last) (note.turn ∷ []))
      ∙ sym (append_assoc ns x.first (note.gone c x.left ∷ (x.last ++ note.turn ∷ [])));
  from_open = x.from_open;
  sudden = x.sudden;
  last = x.late;
}

-- where no Closed event was due as the turn ended, a connection whose Closed event is due then left Open as it ended
pub left_at_end : {S : Type 0} (r : run.Server S) (ns : List NoteValue) (a b : Server) (net : NetState) (ends : EndsTurn (hub.server a.hub net a.told) b) → Agrees (world r ns) ns a → ((c : ℕ) → due_at a.hub c ≡ None)
    → (c : ℕ) (cause : ℕ × List ℕ) → due_at b.hub c ≡ Some cause → LeftAtEnd r c (ns ++ (ends.proceeds.sending ++ (finishes ends.finished ++ note.turn ∷ [])))
left_at_end r ns a b net ends agrees none c cause e =
    let sent = ends.proceeds.sending in
    let ms = sent ++ finishes ends.finished in
    let p = progress_at a.hub c in
    let shape : sent ++ (finishes ends.finished ++ note.turn ∷ []) ≡ ms ++ note.turn ∷ [] = sym (append_assoc sent (finishes ends.finished) (note.turn ∷ [])) in
    let late : list_all is_late ms ≡ true =
    list_all-append is_late sent (finishes ends.finished) ∙ ap (λ (z : Bool). z && list_all is_late (finishes ends.finished)) (all_follow is_outgoing is_late outgoing_late sent ends.proceeds.outgoing) ∙ finishes_late ends.finished in
    let due : (progress_after_all c ms p).due ≡ Some cause = due_before c ms (sent ++ (finishes ends.finished ++ note.turn ∷ [])) p (progress_at b.hub c) shape (ends.proceeds.advances.progress c) ∙ e in
    left_by r c ns ms (sent ++ (finishes ends.finished ++ note.turn ∷ [])) shape (find r c ns ms p cause late (rests_of c ((world r ns).line c) ns a (agrees.lines c)).shown (none c) due)

-- ---- who is live is there

abbrev is_some_phase : Option Phase → Bool
is_some_phase None = false
is_some_phase (Some p) = true

some_stays : (c : ℕ) (p : Option Phase) (n : NoteValue) → is_of c n ≡ true → is_gone c n ≡ false → is_some_phase (unless_gone p) ≡ true → is_some_phase (unless_gone (moved p n)) ≡ true
some_stays c p (note.gone d left) own stays e = clash (nat_eq d c) stays own
some_stays c None n own stays e = clash false refl e
some_stays c (Some Head) (note.opened d route param) own stays e = refl
some_stays c (Some Head) (note.head d status) own stays e = refl
some_stays c (Some Head) _ own stays e = refl
some_stays c (Some Open) (note.peer_close d code reason) own stays e = refl
some_stays c (Some Open) (note.failed d code) own stays e = refl
some_stays c (Some Open) _ own stays e = refl
some_stays c (Some Leaving) (note.peer_close d code reason) own stays e = refl
some_stays c (Some Leaving) (note.failed d code) own stays e = refl
some_stays c (Some Leaving) _ own stays e = refl
some_stays c (Some Ending) _ own stays e = refl
some_stays c (Some Gone) n own stays e = clash false refl e

shown_twice : (p : Option Phase) → unless_gone (unless_gone p) ≡ unless_gone p
shown_twice None = refl
shown_twice (Some Head) = refl
shown_twice (Some Open) = refl
shown_twice (Some Leaving) = refl
shown_twice (Some Ending) = refl
shown_twice (Some Gone) = refl

one_stays : (c : ℕ) (n : NoteValue) (p : Progress) → is_gone c n ≡ false → is_some_phase (unless_gone p.phase) ≡ true → is_some_phase (unless_gone (progress_after c n p).phase) ≡ true
one_stays c n p stays e = by_cases (is_of c n)
    (λ own.
    ap (λ (z : Bool). is_some_phase (unless_gone (cond z (progress_by n p) p).phase)) own ∙ ap is_some_phase (shown_twice (moved p.phase n)) ∙ some_stays c p.phase n own stays e)
    (λ other. ap (λ (z : Bool). is_some_phase (unless_gone (cond z (progress_by n p) p).phase)) other ∙ e)

all_stay : (c : ℕ) (ns : List NoteValue) (p : Progress) → is_gone_in c ns ≡ false → is_some_phase (unless_gone p.phase) ≡ true → is_some_phase (unless_gone (progress_after_all c ns p).phase) ≡ true
all_stay c [] p stays e = e
all_stay c (n ∷ ns) p stays e =
    all_stay c ns (progress_after c n p) (or_right (is_gone c n) (is_gone_in c ns) stays) (one_stays c n p (or_left (is_gone c n) (is_gone_in c ns) stays) e)

phase_there : (q : Phase) → not (hub.is_gone q) ≡ true → is_some_phase (unless_gone (unless_gone (Some q))) ≡ true
phase_there Head e = refl
phase_there Open e = refl
phase_there Leaving e = refl
phase_there Ending e = refl
phase_there Gone e = e

-- one connection, after a call of a hub by which it stays, unless it is gone
there_by : (a b : Server) (c : ℕ) (gone : Bool) → b.net.live c ≡ (a.net.live c && not gone)
    → (gone ≡ false → is_some_phase (unless_gone (progress_at a.hub c).phase) ≡ true → is_some_phase (unless_gone (progress_at b.hub c).phase) ≡ true) → (a.net.live c ≡ true → is_present a.hub c ≡ true)
    → b.net.live c ≡ true → is_present b.hub c ≡ true
there_by a b c gone links stays there live =
    let both : (a.net.live c && not gone) ≡ true = sym links ∙ live in
    let shown = stays (not-true gone (and_right (a.net.live c) (not gone) both)) (phase_there (entry_at a.hub c).phase (there (and_left (a.net.live c) (not gone) both))) in
    by_cases (is_present b.hub c) (λ now. now)
    (λ away. clash false refl (sym (ap (λ (z : Option Phase). is_some_phase (unless_gone z)) (phase_of_away b.hub c away)) ∙ shown))

there_then : (ns : List NoteValue) (a b : Server) (c : ℕ) → Advances ns a b → (a.net.live c ≡ true → is_present a.hub c ≡ true) → b.net.live c ≡ true → is_present b.hub c ≡ true
there_then ns a b c x there live =
    there_by a b c (is_gone_in c ns) (x.net.live c) (λ stays shown. ap (λ (z : Progress). is_some_phase (unless_gone z.phase)) (x.progress c) ∙ all_stay c ns (progress_at a.hub c) stays shown) there live

-- orders that are served make nobody gone
order_stays : (from c : ℕ) (o : OrderValue) (p : Progress) → is_some_phase (unless_gone p.phase) ≡ true → is_some_phase (unless_gone (progress_obeys from c o p).phase) ≡ true
order_stays from c o p e = ⊎_elim
    (λ same. ap (λ (z : Option Phase). is_some_phase (unless_gone z)) same ∙ e)
    (λ closed. ap (λ (z : Option Phase). is_some_phase (unless_gone z)) closed ∙ closes p.phase ∙ e)
    (order_phase from c o p)
  where
    closes : (q : Option Phase) → is_some_phase (unless_gone (closing q)) ≡ is_some_phase (unless_gone q)
    closes None = refl
    closes (Some Head) = refl
    closes (Some Open) = refl
    closes (Some Leaving) = refl
    closes (Some Ending) = refl
    closes (Some Gone) = refl

steps_stay : (c : ℕ) (xs : List Step) (p : Progress) → is_gone_in c (notes_of xs) ≡ false → is_some_phase (unless_gone p.phase) ≡ true → is_some_phase (unless_gone (progress_by_steps c xs p).phase) ≡ true
steps_stay c [] p stays e = e
steps_stay c (by_note n ∷ xs) p stays e =
    steps_stay c xs (progress_after c n p) (or_right (is_gone c n) (is_gone_in c (notes_of xs)) stays) (one_stays c n p (or_left (is_gone c n) (is_gone_in c (notes_of xs)) stays) e)
steps_stay c (by_order from o ∷ xs) p stays e = steps_stay c xs (progress_obeys from c o p) stays (order_stays from c o p e)

pub there_does : (texts : ℕ → List ℕ) (xs : List Step) (a b : Server) → Does texts xs a b → AreThere a → AreThere b
there_does texts xs a b x there c live =
    there_by a b c (is_gone_in c (notes_of xs)) (x.net.live c) (λ stays shown. ap (λ (z : Progress). is_some_phase (unless_gone z.phase)) (x.progress c) ∙ steps_stay c xs (progress_at a.hub c) stays shown) (there c) live

-- no link is live
pub there_first : (s : Server) → ((c : ℕ) → s.net.live c ≡ false) → AreThere s
there_first s none c live = clash (s.net.live c) (none c) live

pub there_after : (ns : List NoteValue) (a b : Server) → Advances ns a b → AreThere a → AreThere b
there_after ns a b x there c live = there_then ns a b c x (there c) live

-- after a call of the net that leaves the links
pub there_same : (s : Server) (net : NetState) → Same s.net.live net.live → AreThere s → AreThere (hub.server s.hub net s.told)
there_same s net same there c live = there c (sym (same c) ∙ live)

-- after a connection came, the others are
there_else : (conn : Conn) (ns : List NoteValue) (a b : Server) (net : NetState) → Nexts (event.Accept conn) a.net net → Advances ns (hub.server a.hub net a.told) b → AreThere a
    → (c : ℕ) → c ≢ conn.0 → b.net.live c ≡ true → is_present b.hub c ≡ true
there_else conn ns a b net next x there c ne live = there_then ns (hub.server a.hub net a.told) b c x (λ t. there c (sym (next.event.live_elsewhere c ne) ∙ t)) live

-- a number above all that were accepted is that of no entry
pub new_away : (h : HubState) (c : ℕ) → IsTable (table_of h) → h.named < c → is_present h c ≡ false
new_away h c table above = by_cases (has_entry h.entries c)
    (λ has. absurd (let low = table.named c has in omega arith))
    (λ none. or_left (is_present h c) (is_some (due_at h c)) (sym (table.kept c) ∙ none))

-- it was accepted
pub there_arrived : (conn : Conn) (a b : Server) (net : NetState) → Nexts (event.Accept conn) a.net net → Advances (note.accepted conn.0 ∷ []) (hub.server a.hub net a.told) b → IsTable (table_of a.hub)
    → a.hub.named < conn.0 → AreThere a → AreThere b
there_arrived conn a b net next x table above there c live = ⊎_elim
    (λ (q : c ≡ conn.0). ap (is_present b.hub) q ∙ present_now)
    (λ (ne : c ≢ conn.0). there_else conn (note.accepted conn.0 ∷ []) a b net next x there c ne live)
    (cases_eq c conn.0)
  where
    shown : (progress_at b.hub conn.0).phase ≡ Some Head
    shown =
        ap phase_in (x.progress conn.0)
        ∙ ap (λ (z : Bool). (cond z (progress_by (note.accepted conn.0) (progress_at a.hub conn.0)) (progress_at a.hub conn.0)).phase) (itself conn.0)
        ∙ ap (λ (z : Option Phase). unless_gone (moved z (note.accepted conn.0))) (phase_of_away a.hub conn.0 (new_away a.hub conn.0 table above))

    present_now : is_present b.hub conn.0 ≡ true
    present_now = by_cases (is_present b.hub conn.0) (λ t. t)
        (λ away. absurd (let z : Some Head ≡ None = sym shown ∙ phase_of_away b.hub conn.0 away in cc))

-- it was turned away, and its link shut
pub there_shut : (conn : Conn) (ns : List NoteValue) (a b : Server) (net later : NetState) → Nexts (event.Accept conn) a.net net → Advances ns (hub.server a.hub net a.told) b → Shuts conn.0 b.net later
    → AreThere a → AreThere (hub.server b.hub later b.told)
there_shut conn ns a b net later next x shut there c live = ⊎_elim
    (λ (q : c ≡ conn.0). clash (later.live c) (ap later.live q ∙ shut.live) live)
    (λ (ne : c ≢ conn.0). there_else conn ns a b net next x there c ne (sym (shut.live_elsewhere c ne) ∙ live))
    (cases_eq c conn.0)
