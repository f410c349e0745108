-- A note that says nothing of what was sent, beside a hub in which it changes one connection or none.
use Rattle.hub_core.proofs.Below.{◌≡◌, ◌≢◌, ◌<◌, ◌≤◌, ◌+◌, ◌⊎◌, inl, inr, ℕ, List, [], ◌∷◌, ◌++◌, Option, Bool, true, false, cond, not, ◌&&◌, ◌||◌, length, refl, sym, ap, ◌∙◌, subst, append-nil, arith, LinkFailed, Phase, NoteValue, IsNoted, NetState, is_of, writes, taken, number_of, is_gone_in, is_gone_by_in, Tell, tell_by, is_silent, taken_of, ShortWhereHeld, HubState, Entry, Server, server, is_gone, entry_at, is_present, ring_at, cork_at, pending_at, Held, held_at, KeepsLine, SameLinesElsewhere, Ties, nothing, stands_silent, fair_silent, silent_drops, line_still, held_same, short_silent, split_told, is_link_failure, Progress, progress_at, progress_by, progress_after, may_come, may_all_come, TellsBy, tell_at, CountsBeside, SameCounts, counts_at, count_of, NetAfter, FailsAfter, RoseBy, KeepsFront, SameDrops, fairly_later, items_at, Advances, Appends, by_cases, clash, and_true, or_false, zero_more, plus_none, told_one, same_counts, ChangesHub, after_own, after_other, falsely, truly}
use Rattle.ws_kinds.specs.NoteValue as note
use Rattle.hub_core.proofs.HubSteps.{Enters}
use Rattle.hub_core.proofs.StateLemmas.{same_or_not, change_present, change_progress, change_named, lines_elsewhere}

-- ---- what such a note leaves of the net

-- the note says neither that a link took octets nor that a connection is gone
abbrev pub is_inner : NoteValue → Bool
is_inner (note.took c offered took) = false
is_inner (note.gone c left) = false
is_inner _ = true

no_writes : (c : ℕ) (n : NoteValue) → is_inner n ≡ true → writes c (n ∷ []) ≡ []
no_writes c (note.took d o t) e = clash false refl e
no_writes c _ e = refl

no_octets : (c : ℕ) (n : NoteValue) → is_inner n ≡ true → taken c (n ∷ []) ≡ 0
no_octets c (note.took d o t) e = clash false refl e
no_octets c _ e = refl

none_gone : (c : ℕ) (n : NoteValue) → is_inner n ≡ true → is_gone_in c (n ∷ []) ≡ false
none_gone c (note.gone d left) e = clash false refl e
none_gone c _ e = refl

none_gone_by : (c : ℕ) (n : NoteValue) → is_inner n ≡ true → is_gone_by_in c LinkFailed (n ∷ []) ≡ false
none_gone_by c (note.gone d left) e = clash false refl e
none_gone_by c _ e = refl

none_failed : (n : NoteValue) → is_inner n ≡ true → number_of is_link_failure (n ∷ []) ≡ 0
none_failed (note.gone d left) e = clash false refl e
none_failed _ e = refl

pub net_noted : (n : NoteValue) (net : NetState) → is_inner n ≡ true → NetAfter (n ∷ []) net net
net_noted n net e = record {
  net = record { tells = refl; schedule = refl };
  told = λ t. record {
    wrote = λ c. sym (append-nil (net.wrote c)) ∙ ap (λ (z : List (ℕ × ℕ)). net.wrote c ++ z) (sym (no_writes c n e));
    taken = λ c. plus_none (length (net.taken c)) (taken c (n ∷ [])) (no_octets c n e);
    given = λ c. refl;
    ended = λ c. refl;
    passed = refl;
    rested = refl;
  };
  live = λ c. and_true (net.live c) ∙ ap (λ (z : Bool). net.live c && not z) (sym (none_gone c n e));
  due = λ c g. refl;
  named = refl;
  port = refl;
  room = omega arith;
}

rose_none : (n m : ℕ) → m ≡ 0 → RoseBy m n n
rose_none n m e = record { least = omega arith; each = inl (omega arith) }

pub fails_noted : (n : NoteValue) (net : NetState) → is_inner n ≡ true → FailsAfter (n ∷ []) net net
fails_noted n net e = record {
  broken = λ t c. or_false (net.broken c) ∙ ap (λ (z : Bool). net.broken c || z) (sym (none_gone_by c n e));
  faults = rose_none net.faults (number_of is_link_failure (n ∷ [])) (none_failed n e);
}

-- ---- what it makes of the connections

may_own : (c : ℕ) (n : NoteValue) (p : Progress) → (is_of c n ≡ true → may_come p.phase n ≡ true) → may_all_come c (n ∷ []) p ≡ true
may_own c n p h = by_cases (is_of c n)
    (λ own. ap (λ (z : Bool). cond z (may_come p.phase n) true && true) own ∙ ap (λ (z : Bool). z && true) (h own))
    (λ other. ap (λ (z : Bool). cond z (may_come p.phase n) true && true) other)

-- the note is of this connection alone, or of none
pub record NotesOne (c : ℕ) (n : NoteValue) (old new : HubState) : Type 0 where
  pub others : (d : ℕ) → d ≢ c → is_of d n ≡ false
  pub may : is_of c n ≡ true → may_come (progress_at old c).phase n ≡ true
  pub here : progress_at new c ≡ progress_after c n (progress_at old c)
  pub elsewhere : (d : ℕ) → d ≢ c → progress_at new d ≡ progress_at old d
  pub tells : TellsBy (n ∷ []) old new
  pub counts : CountsBeside (n ∷ []) old new

pub advances_noted : (c : ℕ) (n : NoteValue) (old new : HubState) (net : NetState) (t t' : Option (List NoteValue)) → IsNoted t n t' → is_inner n ≡ true → NotesOne c n old new
    → Advances (n ∷ []) (server old net t) (server new net t')
advances_noted c n old new net t t' told inner one = record {
  told = told_one t t' n told;
  may_come = λ d. same_or_not c d
      (λ e. subst (λ (z : ℕ). may_all_come z (n ∷ []) (progress_at old z) ≡ true) (sym e) (may_own c n (progress_at old c) one.may))
      (λ ne. may_own d n (progress_at old d) (λ own. clash (is_of d n) (one.others d ne) own));
  progress = λ d. same_or_not c d
      (λ e. subst (λ (z : ℕ). progress_at new z ≡ progress_after z n (progress_at old z)) (sym e) one.here)
      (λ ne. one.elsewhere d ne ∙ sym (after_other d n (progress_at old d) (one.others d ne)));
  tells = one.tells;
  counts = one.counts;
  net = net_noted n net inner;
}

-- a note that changes no progress, and nothing of what is to be told
pub notes_none : (c : ℕ) (n : NoteValue) (hub : HubState) → ((d : ℕ) → d ≢ c → is_of d n ≡ false) → (is_of c n ≡ true → may_come (progress_at hub c).phase n ≡ true)
    → progress_by n (progress_at hub c) ≡ progress_at hub c → ((d : ℕ) (t : Tell) → tell_by d n t ≡ t) → NotesOne c n hub hub
notes_none c n hub others may same untold = record {
  others = others;
  may = may;
  here = by_cases (is_of c n) (λ own. sym (after_own c n (progress_at hub c) own ∙ same)) (λ other. sym (after_other c n (progress_at hub c) other));
  elsewhere = λ d ne. refl;
  tells = λ e d. sym (untold d (tell_at hub d));
  counts = λ e. same_counts hub;
}

-- ---- a connection that goes on to another phase

pub enters_held : {c : ℕ} {n : NoteValue} {phase : Phase} {a b : HubState} → Enters c n phase a b → held_at b c ≡ held_at a c
enters_held {c} {n} {phase} {a} {b} e =
    ap (λ (z : Entry). record { numbered = z.numbered; ring = z.ring; cork = cork_at b c; pending = pending_at b c }) e.entry
    ∙ ap (λ (z : List ℕ). record { numbered = (entry_at a c).numbered; ring = (entry_at a c).ring; cork = z; pending = pending_at b c }) e.cork
    ∙ ap (λ (z : List (List ℕ)). record { numbered = (entry_at a c).numbered; ring = (entry_at a c).ring; cork = cork_at a c; pending = z }) e.pending

-- who is there was there, with the same counts
pub counts_changed : (c : ℕ) (a b : HubState) → ChangesHub c a b → (is_present b c ≡ true → (is_present a c ≡ true) × (counts_at b c ≡ counts_at a c)) → SameCounts a b
counts_changed c a b change here d there = same_or_not c d
    (λ e. subst (λ (z : ℕ). (is_present a z ≡ true) × (counts_at b z ≡ counts_at a z)) (sym e) (here (subst (λ (z : ℕ). is_present b z ≡ true) e there)))
    (λ ne. (sym (change_present change d ne) ∙ there, ap (λ (z : Entry). count_of z.quiet) (change.table.entries d ne)))

enters_counts : {c : ℕ} {n : NoteValue} {phase : Phase} {a b : HubState} → Enters c n phase a b → is_gone phase ≡ is_gone (entry_at a c).phase → SameCounts a b
enters_counts {c} {n} {phase} {a} {b} e gone = counts_changed c a b e.change
    (λ there. (ap not (sym gone) ∙ ap (λ (z : Entry). not (is_gone z.phase)) (sym e.entry) ∙ there, ap (λ (z : Entry). count_of z.quiet) e.entry))

pub notes_entered : {c : ℕ} {n : NoteValue} {phase : Phase} {a b : HubState} → Enters c n phase a b → ((d : ℕ) → d ≢ c → is_of d n ≡ false) → is_of c n ≡ true → may_come (progress_at a c).phase n ≡ true
    → ((d : ℕ) → d ≢ c → (t : Tell) → tell_by d n t ≡ t) → is_gone phase ≡ is_gone (entry_at a c).phase → NotesOne c n a b
notes_entered {c} {n} {phase} {a} {b} e others own may untold gone = record {
  others = others;
  may = λ _. may;
  here = e.progress ∙ sym (after_own c n (progress_at a c) own);
  elsewhere = λ d ne. change_progress e.change d ne;
  tells = λ _ d. same_or_not c d
      (λ q. subst (λ (z : ℕ). tell_at b z ≡ tell_by z n (tell_at a z)) (sym q) e.tells)
      (λ ne. e.change.tells d ne ∙ sym (untold d ne (tell_at a d)));
  counts = λ _. enters_counts e gone;
}

-- ---- what it appends: nothing

-- what lines stand on is as it was for this connection
pub record Still (a b : HubState) (d : ℕ) : Type 0 where
  pub held : held_at b d ≡ held_at a d
  pub gone : is_gone (entry_at b d).phase ≡ is_gone (entry_at a d).phase

pub still_same : (a : HubState) (d : ℕ) → Still a a d
still_same a d = record { held = refl; gone = refl }

pub still_of : (c : ℕ) (a b : HubState) → ChangesHub c a b → (d : ℕ) → d ≢ c → Still a b d
still_of c a b change d ne = record { held = held_same a b d (change.table.entries d ne) (change.cork d ne) (change.pending d ne); gone = ap (λ (z : Entry). is_gone z.phase) (change.table.entries d ne) }

pub drops_silent : (c : ℕ) (t t' : Option (List NoteValue)) (n : NoteValue) → IsNoted t n t' → is_silent c n ≡ true → SameDrops c t t'
drops_silent c t t' n told silent notes e =
    let q = split_told t t' n notes told e in (q.0, n ∷ [], q.1, q.2, λ i. ap (λ (z : Bool). z || false) (silent_drops c i n silent))

pub line_noted : (a b : HubState) (net : NetState) (t t' : Option (List NoteValue)) (n : NoteValue) (d : ℕ) → b.config ≡ a.config → IsNoted t n t' → is_silent d n ≡ true → Still a b d
    → KeepsLine d [] (server a net t) (server b net t')
line_noted a b net t t' n d config told silent still = line_still d (server a net t) (server b net t')
    (λ there. ap not (sym still.gone) ∙ there) still.held (ap (λ z. z.limit) config)
    (λ items s. stands_silent d (held_at a d) (taken_of net d) (taken_of net d) t t' n items refl told silent s)
    (λ items f. fair_silent d a.config.limit (held_at a d) (taken_of net d) (taken_of net d) t t' n items refl told silent f)

pub items_still : (a b : HubState) (d : ℕ) → Still a b d → items_at b d ≡ items_at a d + 0
items_still a b d still = ap (λ (z : Held). z.numbered + length z.pending) still.held ∙ zero_more (items_at a d)

pub front_noted : (a b : HubState) (net : NetState) (t t' : Option (List NoteValue)) (n : NoteValue) (d : ℕ) → IsNoted t n t' → is_silent d n ≡ true → Still a b d
    → KeepsFront d [] (server a net t) (server b net t')
front_noted a b net t t' n d told silent still = record {
  tells = refl;
  told = λ notes e. let q = split_told t t' n notes told e in (q.0, q.1);
  count = λ there few. items_still a b d still;
  front = λ there away few items stands. clash (is_gone (entry_at b d).phase) (still.gone ∙ falsely (is_gone (entry_at a d).phase) there) (truly (is_gone (entry_at b d).phase) away);
  taken = λ away. refl;
  drops = λ away. drops_silent d t t' n told silent;
  fair = λ there away few items stands fair. clash (is_gone (entry_at b d).phase) (still.gone ∙ falsely (is_gone (entry_at a d).phase) there) (truly (is_gone (entry_at b d).phase) away);
  stays = λ away limit items. fairly_later d limit items net net t t' refl (drops_silent d t t' n told silent);
}

-- what it may leave of a connection: what lines stand on, or a new connection with nothing in its ring
abbrev pub StillOrNew : HubState → HubState → ℕ → Type 0
StillOrNew a b d = Still a b d ⊎ ((a.named < d) × (ring_at b d ≡ []))

old_still : (a b : HubState) (d : ℕ) → d ≤ a.named → StillOrNew a b d → Still a b d
old_still a b d below (inl s) = s
old_still a b d below (inr new) = absurd (let h = new.0 in omega arith)

ring_still : (a b : HubState) (d : ℕ) → Still a b d → ring_at b d ≡ ring_at a d
ring_still a b d still = ap (λ (z : Held). z.ring) still.held

short_at : (a b : HubState) (net : NetState) (t t' : Option (List NoteValue)) (n : NoteValue) (d : ℕ) → IsNoted t n t' → is_silent d n ≡ true
    → (is_present a d ≡ true → ShortWhereHeld d (ring_at a d) t) → is_present b d ≡ true → StillOrNew a b d → ShortWhereHeld d (ring_at b d) t'
short_at a b net t t' n d told silent s there (inl still) =
    subst (λ (z : List ℕ). ShortWhereHeld d z t') (sym (ring_still a b d still)) (short_silent d (ring_at a d) t t' n told silent (s (ap not (sym still.gone) ∙ there)))
short_at a b net t t' n d told silent s there (inr new) = λ some notes e. absurd (some new.1)

waits_at : (a b : HubState) (net : NetState) (d : ℕ) → (is_present a d ≡ true → ring_at a d ≢ [] → net.writable d ≡ false) → is_present b d ≡ true
    → StillOrNew a b d → ring_at b d ≢ [] → net.writable d ≡ false
waits_at a b net d w there (inl still) some = w (ap not (sym still.gone) ∙ there) (λ none. some (ring_still a b d still ∙ none))
waits_at a b net d w there (inr new) some = absurd (some new.1)

pub appends_noted : (a b : HubState) (net : NetState) (t t' : Option (List NoteValue)) (n : NoteValue) → b.config ≡ a.config → a.named ≤ b.named → IsNoted t n t' → ((d : ℕ) → is_silent d n ≡ true)
    → ((d : ℕ) → StillOrNew a b d) → Appends nothing (server a net t) (server b net t')
appends_noted a b net t t' n config named told silent still = record {
  lines = record {
    config = config;
    named = named;
    lines = λ d below. line_noted a b net t t' n d config told (silent d) (old_still a b d below (still d));
  };
  fronts = λ d below. front_noted a b net t t' n d told (silent d) (old_still a b d below (still d));
  short = λ s d there. short_at a b net t t' n d told (silent d) (s d) there (still d);
  waits = λ w d there. waits_at a b net d (w d) there (still d);
}

-- one connection goes on to another phase and is not gone
pub still_entered : {c : ℕ} {n : NoteValue} {phase : Phase} {a b : HubState} → Enters c n phase a b → is_gone phase ≡ is_gone (entry_at a c).phase → (d : ℕ) → Still a b d
still_entered {c} {n} {phase} {a} {b} e gone d = same_or_not c d
    (λ q. subst (λ (z : ℕ). Still a b z) (sym q) (record { held = enters_held e; gone = ap (λ (z : Entry). is_gone z.phase) e.entry ∙ gone }))
    (λ ne. still_of c a b e.change d ne)

-- ---- a step that is a note of one connection

-- the note is made, and nothing is appended
pub record Notices (c : ℕ) (n : NoteValue) (a b : Server) : Type 0 where
  pub advances : Advances (n ∷ []) a b
  pub fails : FailsAfter (n ∷ []) a.net b.net
  pub appends : Appends nothing a b
  pub lines : SameLinesElsewhere c a b
  pub ties : Ties a → Ties b
  pub named : b.hub.named ≡ a.hub.named

ties_still : (a b : HubState) (net : NetState) (t t' : Option (List NoteValue)) → ((d : ℕ) → Still a b d) → Ties (server a net t) → Ties (server b net t')
ties_still a b net t t' still ties d there = ties d (ap not (sym (still d).gone) ∙ there)

-- a hub that stays as it is
pub notices_none : (c : ℕ) (n : NoteValue) (hub : HubState) (net : NetState) (t t' : Option (List NoteValue)) → IsNoted t n t' → is_inner n ≡ true → ((d : ℕ) → is_silent d n ≡ true) → NotesOne c n hub hub
    → Notices c n (server hub net t) (server hub net t')
notices_none c n hub net t t' told inner silent one = record {
  advances = advances_noted c n hub hub net t t' told inner one;
  fails = fails_noted n net inner;
  appends = appends_noted hub hub net t t' n refl (omega arith) told silent (λ d. inl (still_same hub d));
  lines = record { tells = refl; present = λ d ne there. there; phase = λ d ne there. refl; pairs = λ d ne there topic. refl; pending = λ d ne there. refl; octets = λ d ne there tells. refl };
  ties = λ ties. ties;
  named = refl;
}

-- one in which the connection goes on to another phase
pub notices_entered : {c : ℕ} {n : NoteValue} {phase : Phase} {a b : HubState} → Enters c n phase a b → (net : NetState) (t t' : Option (List NoteValue)) → IsNoted t n t' → is_inner n ≡ true → ((d : ℕ) → is_silent d n ≡ true)
    → NotesOne c n a b → is_gone phase ≡ is_gone (entry_at a c).phase → Notices c n (server a net t) (server b net t')
notices_entered {c} {n} {phase} {a} {b} e net t t' told inner silent one gone = record {
  advances = advances_noted c n a b net t t' told inner one;
  fails = fails_noted n net inner;
  appends = appends_noted a b net t t' n e.change.table.config (let h = change_named e.change in omega arith) told silent (λ d. inl (still_entered e gone d));
  lines = lines_elsewhere c (server a net t) (server b net t') e.change refl (λ d ne tells. refl);
  ties = ties_still a b net t t' (still_entered e gone);
  named = e.change.table.named;
}
