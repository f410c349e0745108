-- What calls of a hub do, put together from what they do to the hub's state, to the watch and to the net.
use Rattle.hub_core.proofs.Below.{◌≡◌, ◌≢◌, ◌<◌, ◌≤◌, inl, inr, ℕ, List, [], ◌∷◌, ◌++◌, Option, Some, None, Bool, true, false, cond, not, is_some, IsTrue, nat_eq, length, refl, sym, ap, ◌∙◌, subst, arith, nat_tests, Kind, Text, Binary, Why, Phase, Head, Open, Leaving, Ending, Gone, NoteValue, IsNoted, NetState, Opcode, Begins, opcode_number, Item, is_sent_opcode, is_of, is_open, topics_left, Tell, marked, nothing_told, tell_by, QuietCount, new_count, one_heard, is_reading, is_silent, ShortWhereHeld, HubState, Entry, PartingValue, Server, server, entry_at, no_entry, new_entry, is_gone, has_entry, entry_of, is_present, phase_at, cork_at, pending_at, ring_at, Held, held_at, KeepsLine, Starts, nothing, only, served, Ties, entry_added, entry_new, line_gone, line_still, starts_of, lines_elsewhere_then, Progress, due_of, due_at, topics_at, progress_at, progress_by, may_come, tell_at, CountsBy, counts_at, leaves_at, unless_gone, KeepsFront, drops_still, Appends, by_cases, clash, or_left, or_right, of_here, of_other, same_counts, proceeds_then, proceeds_first, appends_same, appends_as, appends_after_nothing, TableState, ChangesOne, IsTable, is_kept, TakesDue, table_of, Taken, Arrives, Makes, has_frames, IsSent, Puttable, Kept, ChangesHub, Ends, Notes, Sends, Puts, hub_of, falsely, truly, topics_of, IsHub, none_of, tell_of, TellingsState, nothing_of, may_hold}
use Rattle.ws_kinds.specs.NoteValue as note
use Rattle.hub_core.proofs.HubSteps.{Enters}
use Rattle.hub_core.proofs.StateLemmas.{progress_of, table_change, change_named, entry_changed}
use Rattle.hub_core.proofs.NoteLemmas.{is_inner, NotesOne, Notices, notices_none, notices_entered, advances_noted, fails_noted, appends_noted, notes_none, notes_entered, Still, StillOrNew, still_of, still_same, items_still}
use Rattle.hub_core.proofs.StateLemmas.{same_or_not}

-- ---- numbers that notes name

-- ---- phases

known : (has : Bool) (at phase : Phase) → cond has (Some at) None ≡ Some phase → (has ≡ true) × (at ≡ phase)
known true at phase e = (refl, let h : at ≡ phase = cc in h)
known false at phase e = cc

pub phase_known : (hub : HubState) (c : ℕ) (phase : Phase) → phase_at hub c ≡ Some phase → (entry_at hub c).phase ≡ phase
phase_known hub c phase e = (known (has_entry hub.entries c) (entry_at hub c).phase phase e).1

-- ---- octets that were read, and a pong

may_be_given : (c n : ℕ) (has : Bool) (at : Phase) → is_reading (cond has (Some at) None) ≡ true → may_come (unless_gone (Some at)) (note.given c n) ≡ true
may_be_given c n true Head e = refl
may_be_given c n true Open e = refl
may_be_given c n true Leaving e = refl
may_be_given c n true Ending e = clash false refl e
may_be_given c n true Gone e = clash false refl e
may_be_given c n false at e = clash false refl e

given_moves_none : (c n : ℕ) (at : Phase) (topics : List (List ℕ)) (due : Option (ℕ × List ℕ)) → progress_by (note.given c n) (progress_of at topics due) ≡ progress_of at topics due
given_moves_none c n Head topics due = refl
given_moves_none c n Open topics due = refl
given_moves_none c n Leaving topics due = refl
given_moves_none c n Ending topics due = refl
given_moves_none c n Gone topics due = refl

pub notes_given : (hub : HubState) (c n : ℕ) → is_reading (phase_at hub c) ≡ true → NotesOne c (note.given c n) hub hub
notes_given hub c n e = notes_none c (note.given c n) hub (λ d ne. of_other c d ne)
    (λ own. may_be_given c n (has_entry hub.entries c) (entry_at hub c).phase e)
    (given_moves_none c n (entry_at hub c).phase (topics_at hub c) (due_at hub c)) (λ d t. refl)

-- a note of an open connection that leaves it open
pub notes_open : (hub : HubState) (c : ℕ) (n : NoteValue) → ((d : ℕ) → d ≢ c → is_of d n ≡ false) → phase_at hub c ≡ Some Open → may_come (Some Open) n ≡ true
    → ((topics : List (List ℕ)) (due : Option (ℕ × List ℕ)) → progress_by n (progress_of Open topics due) ≡ progress_of Open topics due) → ((d : ℕ) (t : Tell) → tell_by d n t ≡ t) → NotesOne c n hub hub
notes_open hub c n others e may same untold =
    let at : progress_at hub c ≡ progress_of Open (topics_at hub c) (due_at hub c) =
    ap (λ (z : Phase). progress_of z (topics_at hub c) (due_at hub c)) (phase_known hub c Open e) in
    notes_none c n hub others (λ own. ap (λ (z : Progress). may_come z.phase n) at ∙ may)
    (ap (progress_by n) at ∙ same (topics_at hub c) (due_at hub c) ∙ sym at) untold

-- a note that names no connection
pub notes_nobody : (hub : HubState) (n : NoteValue) → ((d : ℕ) → is_of d n ≡ false) → ((d : ℕ) (t : Tell) → tell_by d n t ≡ t) → NotesOne 0 n hub hub
notes_nobody hub n others untold = record {
  others = λ d ne. others d;
  may = λ own. clash (is_of 0 n) (others 0) own;
  here = sym (ap (λ (z : Bool). cond z (progress_by n (progress_at hub 0)) (progress_at hub 0)) (others 0));
  elsewhere = λ d ne. refl;
  tells = λ e d. sym (untold d (tell_at hub d));
  counts = λ e. same_counts hub;
}

-- an order that is refused
unserved_moves_none : (c n : ℕ) (why : Why) (at : Phase) (topics : List (List ℕ)) (due : Option (ℕ × List ℕ)) → progress_by (note.unserved c n why) (progress_of at topics due) ≡ progress_of at topics due
unserved_moves_none c n why Head topics due = refl
unserved_moves_none c n why Open topics due = refl
unserved_moves_none c n why Leaving topics due = refl
unserved_moves_none c n why Ending topics due = refl
unserved_moves_none c n why Gone topics due = refl

may_be_unserved : (c n : ℕ) (why : Why) (phase : Option Phase) → may_come phase (note.unserved c n why) ≡ true
may_be_unserved c n why None = refl
may_be_unserved c n why (Some Head) = refl
may_be_unserved c n why (Some Open) = refl
may_be_unserved c n why (Some Leaving) = refl
may_be_unserved c n why (Some Ending) = refl
may_be_unserved c n why (Some Gone) = refl

pub notes_unserved : (hub : HubState) (c n : ℕ) (why : Why) → NotesOne c (note.unserved c n why) hub hub
notes_unserved hub c n why = notes_none c (note.unserved c n why) hub (λ d ne. of_other c d ne)
    (λ own. may_be_unserved c n why (progress_at hub c).phase)
    (unserved_moves_none c n why (entry_at hub c).phase (topics_at hub c) (due_at hub c)) (λ d t. refl)

-- ---- a note, and then what is put

pub sends_noted : {c : ℕ} {n : NoteValue} {f : ℕ → List Item} {a m b : Server} → Notices c n a m → Sends c [] f m b → Sends c (n ∷ []) f a b
sends_noted {c} {n} {f} {a} {m} {b} x y = record {
  ties = y.ties;
  proceeds = proceeds_then (n ∷ []) [] a m b (proceeds_first (n ∷ []) a m x.advances x.fails) y.proceeds;
  appends = appends_after_nothing f a m b x.appends y.appends;
  elsewhere = lines_elsewhere_then c a m b x.lines y.elsewhere;
  named = y.named ∙ x.named;
  table = y.table;
}

-- a note alone
pub sends_nothing : {c : ℕ} {n : NoteValue} {a b : Server} → Notices c n a b → Ties a → IsTable (table_of b.hub) → Sends c (n ∷ []) nothing a b
sends_nothing {c} {n} {a} {b} x ties table = record {
  ties = x.ties ties;
  proceeds = proceeds_first (n ∷ []) a b x.advances x.fails;
  appends = x.appends;
  elsewhere = x.lines;
  named = x.named;
  table = table;
}

-- an item that is put
pub sends_put : {c : ℕ} {item : Puttable} {kept : Kept} {a b : Server} (x : Item) → Puts c item kept a b → IsSent item x → Sends c [] (only c x) a b
sends_put x p s = record { ties = p.ties; proceeds = p.proceeds; appends = p.appends x s; elsewhere = p.elsewhere; named = p.named; table = p.table }

pub sends_as : {c : ℕ} {first : List NoteValue} {f g : ℕ → List Item} {a b : Server} → Sends c first f a b → ((d : ℕ) → f d ≡ g d) → Sends c first g a b
sends_as {c} {first} {f} {g} {a} {b} x e = record { ties = x.ties; proceeds = x.proceeds; appends = appends_as f g a b x.appends e; elsewhere = x.elsewhere; named = x.named; table = x.table }

-- what is served where the test is true, or false
pub sends_served : {c : ℕ} {first : List NoteValue} {f : ℕ → List Item} {a b : Server} (test : Bool) → test ≡ true → Sends c first f a b → Sends c first (served test f) a b
sends_served {c} {first} {f} test e x = sends_as x (λ d. sym (ap (λ (z : Bool). cond z (f d) []) e))

pub sends_unserved : {c : ℕ} {first : List NoteValue} {a b : Server} (f : ℕ → List Item) (test : Bool) → test ≡ false → Sends c first nothing a b → Sends c first (served test f) a b
sends_unserved f test e x = sends_as x (λ d. sym (ap (λ (z : Bool). cond z (f d) []) e))

-- a note beside a hub that stays as it is
pub notes_alone : (c : ℕ) (n : NoteValue) (hub : HubState) (net : NetState) (t t' : Option (List NoteValue)) → IsNoted t n t' → is_inner n ≡ true → ((d : ℕ) → is_silent d n ≡ true) → NotesOne c n hub hub
    → Ties (server hub net t) → IsTable (table_of hub) → Notes c (n ∷ []) (server hub net t) (server hub net t')
notes_alone c n hub net t t' told inner silent one ties table =
    let x = notices_none c n hub net t t' told inner silent one in
    record {
      ties = ties;
      makes = record { advances = x.advances; fails = x.fails };
      appends = x.appends;
      elsewhere = record { phase = λ d ne. refl; pairs = λ d ne topic. refl; ring = λ d ne. refl; cork = λ d ne. refl; pending = λ d ne. refl };
      named = refl;
      table = table;
    }

-- ---- octets that were read

-- ---- a connection that goes on to another phase

-- as long as nothing is corked or pending
pub plain_enters : (c : ℕ) (n : NoteValue) (phase : Phase) (a b : TableState) (p : List (ℕ × List ℕ)) (r : TellingsState) → ChangesOne c a b → entry_of b.entries c ≡ record (entry_of a.entries c) { phase = phase }
    → progress_at (hub_of b p r) c ≡ progress_by n (progress_at (hub_of a p r) c) → tell_by c n (tell_of r.rows c) ≡ tell_of r.rows c → Enters c n phase (hub_of a p r) (hub_of b p r)
plain_enters c n phase a b p r change entry progress untold = record { entry = entry; cork = refl; pending = refl; progress = progress; tells = sym untold; change = table_change p r change }

-- a request that is admitted or refused
pub head_progress : (c : ℕ) (n : NoteValue) (phase : Phase) (a b : TableState) (p : List (ℕ × List ℕ)) (r : TellingsState) → (entry_of a.entries c).phase ≡ Head → topics_of p c ≡ [] → entry_of b.entries c ≡ record (entry_of a.entries c) { phase = phase }
    → due_of b.partings c ≡ due_of a.partings c → ((due : Option (ℕ × List ℕ)) → progress_of phase [] due ≡ progress_by n (progress_of Head [] due)) → progress_at (hub_of b p r) c ≡ progress_by n (progress_at (hub_of a p r) c)
head_progress c n phase a b p r was none entry due step =
    ap (λ (z : Entry). progress_of z.phase (topics_of p c) (due_of b.partings c)) entry ∙ ap (λ (z : List (List ℕ)). progress_of phase z (due_of b.partings c)) none ∙ ap (progress_of phase []) due
    ∙ step (due_of a.partings c) ∙ ap (λ (z : Phase). progress_by n (progress_of z [] (due_of a.partings c))) (sym was)
    ∙ ap (λ (z : List (List ℕ)). progress_by n (progress_of (entry_of a.entries c).phase z (due_of a.partings c))) (sym none)

marked_none : (b : Bool) → cond b (marked nothing_told) nothing_told ≡ nothing_told
marked_none true = refl
marked_none false = refl

pub opened_untold : (c route : ℕ) (param : List ℕ) → tell_by c (note.opened c route param) nothing_told ≡ nothing_told
opened_untold c route param = marked_none (nat_eq c c)

pub opened_elsewhere : (c route : ℕ) (param : List ℕ) (d : ℕ) → d ≢ c → (t : Tell) → tell_by d (note.opened c route param) t ≡ t
opened_elsewhere c route param d ne t = ap (λ (z : Bool). cond z (marked t) t) (of_other c d ne)

-- the note of a request's answer
pub head_notices : (c : ℕ) (n : NoteValue) (phase : Phase) (a b : TableState) (p : List (ℕ × List ℕ)) (r : TellingsState) (net : NetState) (t t' : Option (List NoteValue)) → IsHub a p r → phase_at (hub_of a p r) c ≡ Some Head
    → entry_of b.entries c ≡ record (entry_of a.entries c) { phase = phase }
    → due_of b.partings c ≡ due_of a.partings c → ChangesOne c a b → IsNoted t n t' → is_gone phase ≡ false → ((due : Option (ℕ × List ℕ)) → progress_of phase [] due ≡ progress_by n (progress_of Head [] due)) → may_come (Some Head) n ≡ true
    → is_inner n ≡ true → ((d : ℕ) → is_silent d n ≡ true) → is_of c n ≡ true → ((d : ℕ) → d ≢ c → is_of d n ≡ false) → tell_by c n nothing_told ≡ nothing_told → ((d : ℕ) → d ≢ c → (u : Tell) → tell_by d n u ≡ u)
    → Notices c n (server (hub_of a p r) net t) (server (hub_of b p r) net t')
head_notices c n phase a b p r net t t' whole head entry due change told there step may inner silent own others untold elsewhere =
    let was : (entry_of a.entries c).phase ≡ Head = phase_known (hub_of a p r) c Head head in
    let quiet : tell_of r.rows c ≡ nothing_told = nothing_of r.rows c (whole.rows c (ap may_hold was)) in
    let none : topics_of p c ≡ [] = whole.topics c (ap (λ (z : Phase). is_open (Some z)) was) in
    let e : Enters c n phase (hub_of a p r) (hub_of b p r) = plain_enters c n phase a b p r change entry (head_progress c n phase a b p r was none entry due step) (ap (tell_by c n) quiet ∙ untold ∙ sym quiet) in
    let gone : is_gone phase ≡ is_gone (entry_of a.entries c).phase = there ∙ sym (ap is_gone was) in
    notices_entered e net t t' told inner silent (notes_entered e others own (ap (λ (z : Phase). may_come (unless_gone (Some z)) n) was ∙ may) elsewhere gone) gone

-- ---- a connection in phase Open or Leaving that is ending

frames_not_gone : (has : Bool) (at : Phase) → has_frames (cond has (Some at) None) ≡ true → is_gone at ≡ false
frames_not_gone true Open e = refl
frames_not_gone true Leaving e = refl
frames_not_gone true Head e = clash false refl e
frames_not_gone true Ending e = clash false refl e
frames_not_gone true Gone e = clash false refl e
frames_not_gone false at e = clash false refl e

-- a note with which a connection ends
pub record IsEnd (code : ℕ) (reason : List ℕ) (n : NoteValue) : Type 0 where
  pub from_open : (topics : List (List ℕ)) (due : Option (ℕ × List ℕ)) → progress_by n (progress_of Open topics due) ≡ progress_of Ending [] (Some (code, reason))
  pub from_leaving : (topics : List (List ℕ)) (due : Option (ℕ × List ℕ)) → progress_by n (progress_of Leaving topics due) ≡ progress_of Ending topics due
  pub may_open : may_come (Some Open) n ≡ true
  pub may_leaving : may_come (Some Leaving) n ≡ true

pub end_close : (c code : ℕ) (reason : List ℕ) → IsEnd code reason (note.peer_close c code reason)
end_close c code reason = record { from_open = λ topics due. refl; from_leaving = λ topics due. refl; may_open = refl; may_leaving = refl }

pub end_failed : (c code : ℕ) → IsEnd code [] (note.failed c code)
end_failed c code = record { from_open = λ topics due. refl; from_leaving = λ topics due. refl; may_open = refl; may_leaving = refl }

end_moves : (code : ℕ) (reason : List ℕ) (n : NoteValue) (has : Bool) (at : Phase) (topics : List (List ℕ)) (due : Option (ℕ × List ℕ)) → IsEnd code reason n → has_frames (cond has (Some at) None) ≡ true
    → progress_of Ending (topics_left (Some at) (Some Ending) topics) (cond (is_open (cond has (Some at) None)) (Some (code, reason)) due) ≡ progress_by n (progress_of at topics due)
end_moves code reason n true Open topics due x e = sym (x.from_open topics due)
end_moves code reason n true Leaving topics due x e = sym (x.from_leaving topics due)
end_moves code reason n true Head topics due x e = clash false refl e
end_moves code reason n true Ending topics due x e = clash false refl e
end_moves code reason n true Gone topics due x e = clash false refl e
end_moves code reason n false at topics due x e = clash false refl e

end_may : (code : ℕ) (reason : List ℕ) (n : NoteValue) (has : Bool) (at : Phase) → IsEnd code reason n → has_frames (cond has (Some at) None) ≡ true → may_come (unless_gone (Some at)) n ≡ true
end_may code reason n true Open x e = x.may_open
end_may code reason n true Leaving x e = x.may_leaving
end_may code reason n true Head x e = clash false refl e
end_may code reason n true Ending x e = clash false refl e
end_may code reason n true Gone x e = clash false refl e
end_may code reason n false at x e = clash false refl e

module _ {c code : ℕ} {reason : List ℕ} {was : Bool} {a b : HubState} (x : Ends c code reason was a b) (framed : has_frames (phase_at a c) ≡ true) (n : NoteValue) (is : IsEnd code reason n) where
  ends_enters : tell_by c n (tell_at a c) ≡ tell_at a c → Enters c n Ending a b
  ends_enters untold = record {
    entry = x.entry;
    cork = x.cork;
    pending = x.pending;
    progress =
        ap (λ (z : Entry). progress_of z.phase (topics_at b c) (due_at b c)) x.entry
        ∙ ap (λ (z : List (List ℕ)). progress_of Ending z (due_at b c)) x.topics
        ∙ ap (λ (z : Option (ℕ × List ℕ)). progress_of Ending (topics_left (Some (entry_at a c).phase) (Some Ending) (topics_at a c)) z) x.due
        ∙ end_moves code reason n (has_entry a.entries c) (entry_at a c).phase (topics_at a c) (due_at a c) is framed;
    tells = x.tells ∙ sym untold;
    change = x.change;
  }

  ends_gone : is_gone Ending ≡ is_gone (entry_at a c).phase
  ends_gone = sym (frames_not_gone (has_entry a.entries c) (entry_at a c).phase framed)

  pub notices_ends : (net : NetState) (t t' : Option (List NoteValue)) → IsNoted t n t' → is_inner n ≡ true → ((d : ℕ) → is_silent d n ≡ true) → ((d : ℕ) → d ≢ c → is_of d n ≡ false) → is_of c n ≡ true
      → ((d : ℕ) (u : Tell) → tell_by d n u ≡ u) → Notices c n (server a net t) (server b net t')
  notices_ends net t t' told inner silent others own untold =
      let e = ends_enters (untold c (tell_at a c)) in
      notices_entered e net t t' told inner silent
      (notes_entered e others own (end_may code reason n (has_entry a.entries c) (entry_at a c).phase is framed) (λ d ne u. untold d u) ends_gone) ends_gone

-- ---- a connection that is accepted

abbrev pub with_accepted : HubState → ℕ → HubState
with_accepted a c = record a { named = c; entries = a.entries ++ new_entry a.config c ∷ [] }

pub gone_phase : (phase : Phase) → is_gone phase ≡ true → unless_gone (Some phase) ≡ None
gone_phase Gone e = refl
gone_phase Head e = clash false refl e
gone_phase Open e = clash false refl e
gone_phase Leaving e = clash false refl e
gone_phase Ending e = clash false refl e

none_due : (due : Option (ℕ × List ℕ)) → is_some due ≡ false → due ≡ None
none_due None e = refl
none_due (Some x) e = clash true e refl

-- a number above all that were accepted
unnamed : (a : TableState) (c : ℕ) → IsTable a → a.named < c → has_entry a.entries c ≡ false
unnamed a c table above = by_cases (has_entry a.entries c) (λ has. absurd (let h = table.named c has in omega arith)) (λ e. e)

-- a connection with a greater number than all before comes; nothing is kept for its number
pub record IsNext (a : HubState) (c : ℕ) : Type 0 where
  pub table : IsTable (table_of a)
  pub above : a.named < c
  pub topics : topics_at a c ≡ []
  pub cork : cork_at a c ≡ []
  pub pending : pending_at a c ≡ []

module _ {a : HubState} {c : ℕ} (x : IsNext a c) where
  absent : has_entry a.entries c ≡ false
  absent = unnamed (table_of a) c x.table x.above

  -- where there is no entry, the connection has no phase, no topics and no Closed event
  absent_progress : progress_at a c ≡ record { phase = None; topics = []; due = None }
  absent_progress =
      let kept : is_kept a.entries a.partings c ≡ false = sym (x.table.kept c) ∙ absent in
      let gone : is_gone (entry_at a c).phase ≡ true = truly (is_gone (entry_at a c).phase) (or_left (not (is_gone (entry_at a c).phase)) (is_some (due_at a c)) kept) in
      let phase = gone_phase (entry_at a c).phase gone in
      let due = none_due (due_at a c) (or_right (not (is_gone (entry_at a c).phase)) (is_some (due_at a c)) kept) in
      let topics = x.topics in
      cc

  here : entry_at (with_accepted a c) c ≡ new_entry a.config c
  here = entry_new a.entries (new_entry a.config c) absent

  elsewhere : (d : ℕ) → d ≢ c → entry_at (with_accepted a c) d ≡ entry_at a d
  elsewhere d ne = entry_added a.entries (new_entry a.config c) d ne

  notes_accepted : NotesOne c (note.accepted c) a (with_accepted a c)
  notes_accepted =
      let before = absent_progress in
      record {
        others = λ d ne. of_other c d ne;
        may = λ own. ap (λ (z : Progress). may_come z.phase (note.accepted c)) before;
        here = ap (λ (z : Entry). progress_of z.phase (topics_at a c) (due_at a c)) here
            ∙ ap (λ (z : Progress). record { phase = Some Head; topics = z.topics; due = z.due }) before
            ∙ sym (ap (λ (z : Bool). cond z (progress_by (note.accepted c) (progress_at a c)) (progress_at a c)) (of_here c) ∙ ap (progress_by (note.accepted c)) before);
        elsewhere = λ d ne. ap (λ (z : Entry). progress_of z.phase (topics_at a d) (due_at a d)) (elsewhere d ne);
        tells = λ e d. refl;
        counts = λ e. clash false refl e;
      }

  still_accepted : (d : ℕ) → StillOrNew a (with_accepted a c) d
  still_accepted d = same_or_not c d
      (λ e. subst (λ (z : ℕ). StillOrNew a (with_accepted a c) z) (sym e) (inr (x.above, ap (λ (z : Entry). z.ring) here)))
      (λ ne. inl (record {
        held = ap (λ (z : Entry). record { numbered = z.numbered; ring = z.ring; cork = cork_at a d; pending = pending_at a d }) (elsewhere d ne);
        gone = ap (λ (z : Entry). is_gone z.phase) (elsewhere d ne);
      }))

  below : (n m : ℕ) → n < m → n ≤ m
  below n m e = omega arith

  pub appends_accepted : (net : NetState) (t t' : Option (List NoteValue)) → IsNoted t (note.accepted c) t' → Appends nothing (server a net t) (server (with_accepted a c) net t')
  appends_accepted net t t' told = appends_noted a (with_accepted a c) net t t' (note.accepted c) refl (below a.named c x.above) told (λ d. refl) still_accepted

  starts_accepted : (net : NetState) (t : Option (List NoteValue)) → Starts c (server (with_accepted a c) net t)
  starts_accepted net t = starts_of c a.config (server (with_accepted a c) net t) here x.cork x.pending

  pub ties_accepted : (net : NetState) (t t' : Option (List NoteValue)) → net.live c ≡ true → Ties (server a net t) → Ties (server (with_accepted a c) net t')
  ties_accepted net t t' live ties d there = same_or_not c d
      (λ e. subst (λ (z : ℕ). net.live z ≡ true) (sym e) live)
      (λ ne. ties d (ap (λ (z : Entry). not (is_gone z.phase)) (sym (elsewhere d ne)) ∙ there))

  room_left : (n m : ℕ) → false ≡ nat_eq n m → n ≤ m → n < m
  room_left n m e few = grind (arith, nat_tests)

  pub arrives_taken : (net : NetState) (t t' : Option (List NoteValue)) → false ≡ nat_eq (length a.entries) a.config.max_conns → IsNoted t (note.accepted c) t' → Arrives Taken c (server a net t) (server (with_accepted a c) net t')
  arrives_taken net t t' full told = (
    room_left (length a.entries) a.config.max_conns full x.table.few,
    refl,
    starts_accepted net t',
    record {
      advances = advances_noted c (note.accepted c) a (with_accepted a c) net t t' told refl notes_accepted;
      fails = fails_noted (note.accepted c) net refl;
    },
  )

  -- its count begins
  pub counts_accepted : CountsBy (note.accepted c) a (with_accepted a c)
  counts_accepted d there = same_or_not c d
      (λ e. (
        inr (ap note.accepted (sym e)),
        subst (λ (z : ℕ). counts_at (with_accepted a c) z ≡ cond (nat_eq c z) new_count (counts_at a z)) (sym e)
            (ap (λ (z : Entry). record { ticks = z.quiet.ticks; leaving = z.quiet.leaving }) here ∙ sym (ap (λ (z : Bool). cond z new_count (counts_at a c)) (of_here c))),
      ))
      (λ ne. (
        inl (ap (λ (z : Entry). not (is_gone z.phase)) (sym (elsewhere d ne)) ∙ there),
        ap (λ (z : Entry). record { ticks = z.quiet.ticks; leaving = z.quiet.leaving }) (elsewhere d ne) ∙ sym (ap (λ (z : Bool). cond z new_count (counts_at a d)) (of_other c d ne)),
      ))

-- a note beside a hub that stays as it is
pub appends_quiet : (h : HubState) (net : NetState) (t t' : Option (List NoteValue)) (n : NoteValue) → IsNoted t n t' → ((d : ℕ) → is_silent d n ≡ true) → Appends nothing (server h net t) (server h net t')
appends_quiet h net t t' n told silent = appends_noted h h net t t' n refl (omega arith) told silent (λ d. inl (still_same h d))

-- a connection that came is not accepted
pub makes_none : {a : HubState} {c : ℕ} (x : IsNext a c) (n : NoteValue) (net : NetState) (t t' : Option (List NoteValue)) → ((d : ℕ) → d ≢ c → is_of d n ≡ false) → may_come None n ≡ true
    → progress_by n (record { phase = None; topics = []; due = None }) ≡ record { phase = None; topics = []; due = None } → ((d : ℕ) (u : Tell) → tell_by d n u ≡ u) → is_inner n ≡ true → IsNoted t n t' → Makes (n ∷ []) (server a net t) (server a net t')
makes_none {a} {c} x n net t t' others may still untold inner told =
    let at = absent_progress x in
    record {
      advances = advances_noted c n a a net t t' told inner (notes_none c n a others (λ own. ap (λ (z : Progress). may_come z.phase n) at ∙ may) (ap (progress_by n) at ∙ still ∙ sym at) untold);
      fails = fails_noted n net inner;
    }

-- as long as nothing is corked or pending
pub plain_next : (a : TableState) (p : List (ℕ × List ℕ)) (r : TellingsState) (c : ℕ) → IsHub a p r → a.named < c → IsNext (hub_of a p r) c
plain_next a p r c whole above = record {
  table = whole.table;
  above = above;
  topics = whole.topics c (ap (λ (z : Entry). is_open (Some z.phase)) (none_of a.entries c (unnamed a c whole.table above)));
  cork = refl;
  pending = refl;
}

-- who was accepted has no topics and no row yet
pub hub_accepted : (a b : TableState) (p : List (ℕ × List ℕ)) (r : TellingsState) (c : ℕ) → IsHub a p r → a.named < c → b ≡ record a { named = c; entries = a.entries ++ new_entry a.config c ∷ [] } → IsTable b → IsHub b p r
hub_accepted a b p r c was above same table =
    let none : has_entry a.entries c ≡ false = unnamed a c was.table above in
    let is : entry_of b.entries c ≡ new_entry a.config c = ap (λ (z : TableState). entry_of z.entries c) same ∙ entry_new a.entries (new_entry a.config c) none in
    entry_changed was table (ap (λ z. z.config) same) (λ x ne. ap (λ (z : TableState). entry_of z.entries x) same ∙ entry_added a.entries (new_entry a.config c) x ne)
    (λ off. (plain_next a p r c was above).topics)
    (λ off. was.rows c (ap (λ (z : Entry). may_hold z.phase) (none_of a.entries c none)))
    (λ some. absurd (some (ap (λ (z : Entry). z.ring) is)))

-- ---- a hub in which who is not gone stays

-- who is not gone stands as it stood
pub record Stays (a b : HubState) : Type 0 where
  pub config : b.config ≡ a.config
  pub named : a.named ≤ b.named
  pub gone : (d : ℕ) → is_gone (entry_at b d).phase ≡ is_gone (entry_at a d).phase
  pub still : (d : ℕ) → is_gone (entry_at a d).phase ≡ false → Still a b d

-- ---- a Closed event that is handed out

-- the connection's entry is as it was, or it was gone and is no entry any more
pub record Forgets (c : ℕ) (a b : HubState) : Type 0 where
  pub entry : entry_at b c ≡ cond (is_gone (entry_at a c).phase) no_entry (entry_at a c)
  pub cork : cork_at b c ≡ cork_at a c
  pub pending : pending_at b c ≡ pending_at a c
  pub change : ChangesHub c a b

module _ {c : ℕ} {a b : HubState} (f : Forgets c a b) where
  gone_both : is_gone (entry_at b c).phase ≡ is_gone (entry_at a c).phase
  gone_both = by_cases (is_gone (entry_at a c).phase)
      (λ e. ap (λ (z : Entry). is_gone z.phase) (f.entry ∙ ap (λ (z : Bool). cond z no_entry (entry_at a c)) e) ∙ sym e)
      (λ e. ap (λ (z : Entry). is_gone z.phase) (f.entry ∙ ap (λ (z : Bool). cond z no_entry (entry_at a c)) e))

  gone_as : (d : ℕ) → is_gone (entry_at b d).phase ≡ is_gone (entry_at a d).phase
  gone_as d = same_or_not c d
      (λ e. subst (λ (z : ℕ). is_gone (entry_at b z).phase ≡ is_gone (entry_at a z).phase) (sym e) gone_both)
      (λ ne. ap (λ (z : Entry). is_gone z.phase) (f.change.table.entries d ne))

  held_here : is_gone (entry_at a c).phase ≡ false → held_at b c ≡ held_at a c
  held_here e =
      let entry : entry_at b c ≡ entry_at a c = f.entry ∙ ap (λ (z : Bool). cond z no_entry (entry_at a c)) e in
      let cork = f.cork in
      let pending = f.pending in
      cc

  -- who is not gone stays as it was
  still_as : (d : ℕ) → is_gone (entry_at a d).phase ≡ false → Still a b d
  still_as d e = same_or_not c d
      (λ q. subst (λ (z : ℕ). Still a b z) (sym q) (record { held = held_here (subst (λ (z : ℕ). is_gone (entry_at a z).phase ≡ false) q e); gone = gone_both }))
      (λ ne. still_of c a b f.change d ne)

  pub stays_forgotten : Stays a b
  stays_forgotten = record { config = f.change.table.config; named = let h = change_named f.change in omega arith; gone = gone_as; still = still_as }

module _ {a b : HubState} (f : Stays a b) where
  pub ties_stay : (net : NetState) (t : Option (List NoteValue)) → Ties (server a net t) → Ties (server b net t)
  ties_stay net t ties d there = ties d (ap not (sym (f.gone d)) ∙ there)

  line_stays : (d : ℕ) (net : NetState) (t : Option (List NoteValue)) → KeepsLine d [] (server a net t) (server b net t)
  line_stays d net t = by_cases (is_gone (entry_at b d).phase)
      (λ e. line_gone d [] (server a net t) (server b net t) (ap not e))
      (λ e. let was : is_gone (entry_at a d).phase ≡ false = sym (f.gone d) ∙ e in
      line_still d (server a net t) (server b net t) (λ there. ap not was) (f.still d was).held (ap (λ z. z.limit) f.config) (λ items s. s) (λ items s. s))

  was_there : (d : ℕ) → is_present b d ≡ true → is_gone (entry_at a d).phase ≡ false
  was_there d there = sym (f.gone d) ∙ falsely (is_gone (entry_at b d).phase) there

  front_stays : (d : ℕ) (net : NetState) (t : Option (List NoteValue)) → KeepsFront d [] (server a net t) (server b net t)
  front_stays d net t = record {
    tells = refl;
    told = λ notes e. (notes, e);
    count = λ there few. items_still a b d (f.still d (was_there d there));
    front = λ there away few items stands. clash (is_gone (entry_at b d).phase) (f.gone d ∙ falsely (is_gone (entry_at a d).phase) there) (truly (is_gone (entry_at b d).phase) away);
    taken = λ away. refl;
    drops = λ away. drops_still d t;
    fair = λ there away few items stands fair. clash (is_gone (entry_at b d).phase) (f.gone d ∙ falsely (is_gone (entry_at a d).phase) there) (truly (is_gone (entry_at b d).phase) away);
    stays = λ away limit items fair. fair;
  }

  ring_as : (d : ℕ) → is_present b d ≡ true → ring_at b d ≡ ring_at a d
  ring_as d there = ap (λ (z : Held). z.ring) (f.still d (was_there d there)).held

  pub appends_stay : (net : NetState) (t : Option (List NoteValue)) → Appends nothing (server a net t) (server b net t)
  appends_stay net t = record {
    lines = record { config = f.config; named = f.named; lines = λ d few. line_stays d net t };
    fronts = λ d few. front_stays d net t;
    short = λ s d there. subst (λ (z : List ℕ). ShortWhereHeld d z t) (sym (ring_as d there)) (s d (ap not (was_there d there)));
    waits = λ w d there some. w d (ap not (was_there d there)) (λ none. some (ring_as d there ∙ none));
  }

-- as long as nothing is corked or pending
plain_forgets : (c : ℕ) (a b : TableState) (p : List (ℕ × List ℕ)) (r : TellingsState) → entry_of b.entries c ≡ cond (is_gone (entry_of a.entries c).phase) no_entry (entry_of a.entries c) → ChangesOne c a b → Forgets c (hub_of a p r) (hub_of b p r)
plain_forgets c a b p r entry change = record { entry = entry; cork = refl; pending = refl; change = table_change p r change }

pub appends_taken : (o : Option PartingValue) (a b : TableState) (p : List (ℕ × List ℕ)) (r : TellingsState) (net : NetState) (t : Option (List NoteValue)) → TakesDue o a b → Appends nothing (server (hub_of a p r) net t) (server (hub_of b p r) net t)
appends_taken None a b p r net t takes = subst (λ (z : TableState). Appends nothing (server (hub_of a p r) net t) (server (hub_of z p r) net t)) (sym takes.0) (appends_same (server (hub_of a p r) net t))
appends_taken (Some parting) a b p r net t takes = appends_stay (stays_forgotten (plain_forgets parting.conn a b p r takes.3 takes.4)) net t

pub ties_taken : (o : Option PartingValue) (a b : TableState) (p : List (ℕ × List ℕ)) (r : TellingsState) (net : NetState) (t : Option (List NoteValue)) → TakesDue o a b → Ties (server (hub_of a p r) net t) → Ties (server (hub_of b p r) net t)
ties_taken None a b p r net t takes ties = subst (λ (z : TableState). Ties (server (hub_of z p r) net t)) (sym takes.0) ties
ties_taken (Some parting) a b p r net t takes ties = ties_stay (stays_forgotten (plain_forgets parting.conn a b p r takes.3 takes.4)) net t ties

-- a Closed event leaves who is not gone
pub hub_taken : (o : Option PartingValue) (a b : TableState) (p : List (ℕ × List ℕ)) (r : TellingsState) → TakesDue o a b → IsTable b → IsHub a p r → IsHub b p r
hub_taken None a b p r takes table was = subst (λ (z : TableState). IsHub z p r) (sym takes.0) was
hub_taken (Some parting) a b p r takes table was = by_cases (is_gone (entry_of a.entries parting.conn).phase)
    (λ e. let is : entry_of b.entries parting.conn ≡ no_entry = takes.3 ∙ ap (λ (z : Bool). cond z no_entry (entry_of a.entries parting.conn)) e in
    let none = gone_shut (entry_of a.entries parting.conn).phase e in
    entry_changed was table takes.4.config takes.4.entries (λ off. was.topics parting.conn none.0) (λ off. was.rows parting.conn none.1) (λ some. absurd (some (ap (λ (z : Entry). z.ring) is))))
    (λ e. let is : entry_of b.entries parting.conn ≡ entry_of a.entries parting.conn = takes.3 ∙ ap (λ (z : Bool). cond z no_entry (entry_of a.entries parting.conn)) e in
    entry_changed was table takes.4.config takes.4.entries
    (λ off. was.topics parting.conn (ap (λ (z : Entry). is_open (Some z.phase)) (sym is) ∙ off)) (λ off. was.rows parting.conn (ap (λ (z : Entry). may_hold z.phase) (sym is) ∙ off))
    (λ some. was.held parting.conn (λ none. some (ap (λ (z : Entry). z.ring) is ∙ none))))
  where
    gone_shut : (phase : Phase) → is_gone phase ≡ true → (is_open (Some phase) ≡ false) × (may_hold phase ≡ false)
    gone_shut Gone e = (refl, refl)
    gone_shut Head e = clash false refl e
    gone_shut Open e = clash false refl e
    gone_shut Leaving e = clash false refl e
    gone_shut Ending e = clash false refl e

-- ---- frames that are put

pub number_is_sent : (opcode : Opcode) (number : ℕ) → IsTrue (is_sent_opcode (opcode_number opcode)) → number ≡ opcode_number opcode → IsTrue (is_sent_opcode number)
number_is_sent opcode number sent e = subst (λ (z : ℕ). IsTrue (is_sent_opcode z)) (sym e) sent

pub message_is_sent : (kind : Kind) (number : ℕ) → number ≡ opcode_number (Begins kind) → IsTrue (is_sent_opcode number)
message_is_sent Text number e = number_is_sent (Begins Text) number refl e
message_is_sent Binary number e = number_is_sent (Begins Binary) number refl e
