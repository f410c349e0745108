-- Hubs of which one connection changes, with what the net and the watch tell of the others.
use Rattle.hub_core.proofs.Below.{◌≡◌, ◌≢◌, ◌≤◌, ◌+◌, ℕ, List, [], ◌++◌, Option, Some, None, Bool, true, false, cond, nat_eq, not, is_some, ◌||◌, length, refl, sym, ap, ◌∙◌, arith, list_all, Phase, Head, Open, Leaving, Ending, Gone, NoteValue, NetState, taken_of, is_dropped, is_silent, HubState, Entry, Server, entry_at, entry_of, has_entry, is_gone, is_present, phase_at, ring_at, cork_at, pending_at, Others, Beside, SameElsewhere, SameLinesElsewhere, present_entry, beside_of, AreNoted, SameDrops, fairly_later, silent_undropped, KeepsFront, items_at, Progress, progress_at, due_of, due_at, topics_at, unless_gone, TableState, IsTable, ChangesOne, clash, no_more, ChangesHub, hub_of, same_told, has_topic, is_pair, topics_of, subst, nat_tests, by_cases, ChangesTopics, is_open, same, of_other, IsHub, tell_of, AreRisingRows, TellingsState, has_row, may_hold}
use Rattle.hub_core.proofs.SentLemmas.{split_notes}

-- ---- phases

pub phase_there : (phase : Phase) → is_gone phase ≡ false → unless_gone (Some phase) ≡ Some phase
phase_there Head e = refl
phase_there Open e = refl
phase_there Leaving e = refl
phase_there Ending e = refl
phase_there Gone e = clash true e refl

pub phase_twice : (phase : Phase) → unless_gone (unless_gone (Some phase)) ≡ unless_gone (Some phase)
phase_twice Head = refl
phase_twice Open = refl
phase_twice Leaving = refl
phase_twice Ending = refl
phase_twice Gone = refl

pub is_away : (b : Bool) → b ≡ true → not b ≡ false
is_away b e = ap (λ (z : Bool). not z) e

pub is_there : (b : Bool) → b ≡ false → not b ≡ true
is_there b e = ap (λ (z : Bool). not z) e

abbrev pub progress_of : Phase → List (List ℕ) → Option (ℕ × List ℕ) → Progress
progress_of phase topics due = record { phase = unless_gone (Some phase); topics = topics; due = due }

pub progress_same : (a b : HubState) (x : ℕ) → (entry_at b x).phase ≡ (entry_at a x).phase → topics_at b x ≡ topics_at a x → due_at b x ≡ due_at a x → progress_at b x ≡ progress_at a x
progress_same a b x phase topics due =
    ap (λ (z : Phase). progress_of z (topics_at b x) (due_at b x)) phase ∙ ap (λ (z : List (List ℕ)). progress_of (entry_at a x).phase z (due_at b x)) topics
    ∙ ap (λ (z : Option (ℕ × List ℕ)). progress_of (entry_at a x).phase (topics_at a x) z) due

-- ---- entries

pub present_same : (a b : HubState) (x : ℕ) → (entry_at b x).phase ≡ (entry_at a x).phase → is_present b x ≡ is_present a x
present_same a b x phase = ap (λ (z : Phase). not (is_gone z)) phase

abbrev phase_by : Bool → Phase → Option Phase
phase_by has phase = cond has (Some phase) None

pub phase_same : (a b : HubState) (x : ℕ) → has_entry b.entries x ≡ has_entry a.entries x → entry_at b x ≡ entry_at a x → phase_at b x ≡ phase_at a x
phase_same a b x has entry = ap (λ (z : Bool). phase_by z (entry_at b x).phase) has ∙ ap (λ (z : Entry). phase_by (has_entry a.entries x) z.phase) entry

-- an entry is there, or is not, as the table says
pub entry_kept : (c : ℕ) (a b : TableState) → ChangesOne c a b → IsTable a → IsTable b → (x : ℕ) → x ≢ c → has_entry b.entries x ≡ has_entry a.entries x
entry_kept c a b change was is x ne =
    is.kept x
    ∙ ap (λ (z : Entry). is_kept_by z.phase (due_of b.partings x)) (change.entries x ne)
    ∙ ap (λ (z : Option (ℕ × List ℕ)). is_kept_by (entry_of a.entries x).phase z) (change.due x ne)
    ∙ sym (was.kept x)
  where
    is_kept_by : Phase → Option (ℕ × List ℕ) → Bool
    is_kept_by phase due = not (is_gone phase) || is_some due

-- ---- topics

-- who subscribed to what, by each one's topics
pub pairs_same : (a b : HubState) (x : ℕ) → topics_at b x ≡ topics_at a x → (topic : List ℕ) → is_pair b.pairs topic x ≡ is_pair a.pairs topic x
pairs_same a b x same topic = ap (has_topic topic) same

-- ---- what is beside the connection that changes

pub same_or_not : {A : Type 0} (c d : ℕ) → (d ≡ c → A) → (d ≢ c → A) → A
same_or_not c d yes_ no_ = by_cases (nat_eq d c) (λ e. yes_ (grind (arith, nat_tests))) (λ e. no_ (λ same. clash (nat_eq d c) e (grind (arith, nat_tests))))

-- as long as nothing is corked or pending
pub plain_change : {c : ℕ} {a b : TableState} (p q : List (ℕ × List ℕ)) (r s : TellingsState) → ChangesOne c a b → ((x : ℕ) → x ≢ c → topics_of q x ≡ topics_of p x) → ((x : ℕ) → x ≢ c → tell_of s.rows x ≡ tell_of r.rows x) → ChangesHub c (hub_of a p r) (hub_of b q s)
plain_change p q r s change topics tells = record { table = change; cork = λ x ne. refl; pending = λ x ne. refl; topics = topics; tells = tells }

pub table_change : {c : ℕ} {a b : TableState} (p : List (ℕ × List ℕ)) (r : TellingsState) → ChangesOne c a b → ChangesHub c (hub_of a p r) (hub_of b p r)
table_change p r change = plain_change p p r r change (λ x ne. refl) (λ x ne. refl)

-- one connection's topics change
pub topics_here : (c : ℕ) (f : List (List ℕ) → List (List ℕ)) (p q : List (ℕ × List ℕ)) → ChangesTopics c f p q → topics_of q c ≡ f (topics_of p c)
topics_here c f p q changes = changes c ∙ ap (λ (z : Bool). cond z (f (topics_of p c)) (topics_of p c)) (same c)

pub topics_elsewhere : (c : ℕ) (f : List (List ℕ) → List (List ℕ)) (p q : List (ℕ × List ℕ)) → ChangesTopics c f p q → (x : ℕ) → x ≢ c → topics_of q x ≡ topics_of p x
topics_elsewhere c f p q changes x ne = changes x ∙ ap (λ (z : Bool). cond z (f (topics_of p x)) (topics_of p x)) (of_other c x ne)

-- what a step of one connection leaves of the topics and rows of all others
pub record SameRows (c : ℕ) (p q : List (ℕ × List ℕ)) (r s : TellingsState) : Type 0 where
  pub topics : (x : ℕ) → x ≢ c → topics_of q x ≡ topics_of p x
  pub rows : (x : ℕ) → x ≢ c → has_row s.rows x ≡ has_row r.rows x
  pub room : s.room ≡ r.room
  pub rising : AreRisingRows s.rows

-- what holds of a hub holds after a step of one connection, where it holds of this one
pub hub_changed : {c : ℕ} {a b : TableState} {p q : List (ℕ × List ℕ)} {r s : TellingsState} → IsHub a p r → IsTable b → b.config ≡ a.config → ((x : ℕ) → x ≢ c → entry_of b.entries x ≡ entry_of a.entries x) → SameRows c p q r s
    → (is_open (Some (entry_of b.entries c).phase) ≡ false → topics_of q c ≡ []) → (may_hold (entry_of b.entries c).phase ≡ false → has_row s.rows c ≡ false) → ((entry_of b.entries c).ring ≢ [] → has_row s.rows c ≡ true) → IsHub b q s
hub_changed {c} {a} {b} {p} {q} {r} {s} was table config entries same topics rows held = record {
  table = table;
  topics = λ x off. same_or_not c x
      (λ e. subst (λ (z : ℕ). topics_of q z ≡ []) (sym e) (topics (subst (λ (z : ℕ). is_open (Some (entry_of b.entries z).phase) ≡ false) e off)))
      (λ ne. same.topics x ne ∙ was.topics x (ap (λ (z : Entry). is_open (Some z.phase)) (sym (entries x ne)) ∙ off));
  rising = same.rising;
  room = same.room ∙ was.room ∙ sym (ap (λ z. z.max_conns) config);
  rows = λ x off. same_or_not c x
      (λ e. subst (λ (z : ℕ). has_row s.rows z ≡ false) (sym e) (rows (subst (λ (z : ℕ). may_hold (entry_of b.entries z).phase ≡ false) e off)))
      (λ ne. same.rows x ne ∙ was.rows x (ap (λ (z : Entry). may_hold z.phase) (sym (entries x ne)) ∙ off));
  held = λ x some. same_or_not c x
      (λ e. subst (λ (z : ℕ). has_row s.rows z ≡ true) (sym e) (held (subst (λ (z : ℕ). (entry_of b.entries z).ring ≢ []) e some)))
      (λ ne. same.rows x ne ∙ was.held x (λ none. some (ap (λ (z : Entry). z.ring) (entries x ne) ∙ none)));
}

-- after one in which no topic and no row changes
pub entry_changed : {c : ℕ} {a b : TableState} {p : List (ℕ × List ℕ)} {r : TellingsState} → IsHub a p r → IsTable b → b.config ≡ a.config → ((x : ℕ) → x ≢ c → entry_of b.entries x ≡ entry_of a.entries x)
    → (is_open (Some (entry_of b.entries c).phase) ≡ false → topics_of p c ≡ []) → (may_hold (entry_of b.entries c).phase ≡ false → has_row r.rows c ≡ false) → ((entry_of b.entries c).ring ≢ [] → has_row r.rows c ≡ true) → IsHub b p r
entry_changed was table config entries topics rows held = hub_changed was table config entries (record { topics = λ x ne. refl; rows = λ x ne. refl; room = refl; rising = was.rising }) topics rows held

module _ {c : ℕ} {a b : HubState} (change : ChangesHub c a b) where
  pub change_phase : (x : ℕ) → x ≢ c → (entry_at b x).phase ≡ (entry_at a x).phase
  change_phase x ne = ap (λ (z : Entry). z.phase) (change.table.entries x ne)

  pub change_present : (x : ℕ) → x ≢ c → is_present b x ≡ is_present a x
  change_present x ne = present_same a b x (change_phase x ne)

  pub change_progress : (x : ℕ) → x ≢ c → progress_at b x ≡ progress_at a x
  change_progress x ne = progress_same a b x (change_phase x ne) (change.topics x ne) (change.table.due x ne)

  pub change_named : a.named ≡ b.named
  change_named = sym change.table.named

  pub change_octets : (x : ℕ) → x ≢ c → ring_at b x ++ cork_at b x ≡ ring_at a x ++ cork_at a x
  change_octets x ne = ap (λ (z : Entry). z.ring ++ cork_at b x) (change.table.entries x ne) ∙ ap (λ (z : List ℕ). ring_at a x ++ z) (change.cork x ne)

  pub change_elsewhere : ((x : ℕ) → x ≢ c → has_entry b.entries x ≡ has_entry a.entries x) → SameElsewhere c a b
  change_elsewhere has = record {
    phase = λ x ne. phase_same a b x (has x ne) (change.table.entries x ne);
    pairs = λ x ne. pairs_same a b x (change.topics x ne);
    ring = λ x ne. ap (λ (z : Entry). z.ring) (change.table.entries x ne);
    cork = change.cork;
    pending = change.pending;
  }

has_both : (b c : Bool) → b ≡ true → c ≡ true → c ≡ b
has_both b c e h = h ∙ sym e

up_to : (n m : ℕ) → n ≡ m → n ≤ m
up_to n m e = omega arith

pub beside_change : (c : ℕ) (a b : Server) → ChangesHub c a.hub b.hub → Others c a.net b.net a.told b.told → Beside c a b
beside_change c a b change others =
    beside_of c a b change.table.config (up_to a.hub.named b.hub.named (change_named change)) change.table.entries change.cork change.pending others

pub lines_elsewhere : (c : ℕ) (a b : Server) → ChangesHub c a.hub b.hub → b.net.tells ≡ a.net.tells → ((x : ℕ) → x ≢ c → a.net.tells ≡ true → b.net.taken x ≡ a.net.taken x) → SameLinesElsewhere c a b
lines_elsewhere c a b change tells taken = record {
  tells = tells;
  present = λ x ne there. sym (change_present change x ne) ∙ there;
  phase = λ x ne there.
      let was : is_present a.hub x ≡ true = sym (change_present change x ne) ∙ there in
      phase_same a.hub b.hub x (has_both (has_entry a.hub.entries x) (has_entry b.hub.entries x) (present_entry a.hub.entries x was) (present_entry b.hub.entries x there)) (change.table.entries x ne);
  pairs = λ x ne there. pairs_same a.hub b.hub x (change.topics x ne);
  pending = λ x ne there. change.pending x ne;
  octets = λ x ne there told.
      ap (λ (z : List ℕ). z ++ (ring_at b.hub x ++ cork_at b.hub x)) (taken x ne told) ∙ ap (λ (z : List ℕ). a.net.taken x ++ z) (change_octets change x ne);
}

-- ---- fronts

pub taken_same : (x : ℕ) (n0 n1 : NetState) → n1.tells ≡ n0.tells → (n0.tells ≡ true → n1.taken x ≡ n0.taken x) → taken_of n1 x ≡ taken_of n0 x
taken_same x n0 n1 tells taken = same_told n0.tells n1.tells (n0.taken x) (n1.taken x) tells taken

pub told_before : (t0 t1 : Option (List NoteValue)) (ns : List NoteValue) → AreNoted t0 ns t1 → (notes : List NoteValue) → t1 ≡ Some notes → (earlier : List NoteValue) × (t0 ≡ Some earlier)
told_before t0 t1 ns told notes e = let q = split_notes t0 t1 ns notes told e in (q.0, q.1)

pub drops_none : (x : ℕ) (t0 t1 : Option (List NoteValue)) (ns : List NoteValue) → AreNoted t0 ns t1 → ((i : ℕ) → is_dropped x ns i ≡ false) → SameDrops x t0 t1
drops_none x t0 t1 ns told none notes e = let q = split_notes t0 t1 ns notes told e in (q.0, ns, q.1, q.2, none)

pub drops_same : (x : ℕ) (t0 t1 : Option (List NoteValue)) (ns : List NoteValue) → AreNoted t0 ns t1 → list_all (is_silent x) ns ≡ true → SameDrops x t0 t1
drops_same x t0 t1 ns told silent = drops_none x t0 t1 ns told (silent_undropped x ns silent)

-- a connection that does not change, and of which nothing is told
pub front_still : (c x : ℕ) (a b : Server) (ns : List NoteValue) → x ≢ c → ChangesHub c a.hub b.hub → b.net.tells ≡ a.net.tells → (a.net.tells ≡ true → b.net.taken x ≡ a.net.taken x) → AreNoted a.told ns b.told
    → list_all (is_silent x) ns ≡ true → KeepsFront x [] a b
front_still c x a b ns ne change tells taken told silent = record {
  tells = tells;
  told = told_before a.told b.told ns told;
  count = λ there few. ap (λ (z : Entry). z.numbered + length (pending_at b.hub x)) (change.table.entries x ne) ∙ ap (λ (z : List (List ℕ)). (entry_at a.hub x).numbered + length z) (change.pending x ne) ∙ no_more (items_at a.hub x);
  front = λ there gone few items stands. clash (is_present b.hub x) gone (change_present change x ne ∙ there);
  taken = λ gone. taken_same x a.net b.net tells taken;
  drops = λ gone. drops_same x a.told b.told ns told silent;
  fair = λ there gone few items stands fair. clash (is_present b.hub x) gone (change_present change x ne ∙ there);
  stays = λ gone limit items. fairly_later x limit items a.net b.net a.told b.told tells (drops_same x a.told b.told ns told silent);
}
