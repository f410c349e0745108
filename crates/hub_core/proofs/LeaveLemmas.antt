-- What it leaves of a hub that a connection becomes gone.
use Rattle.hub_core.proofs.Below.{◌≤◌, ◌≡◌, ◌≢◌, ◌<◌, ◌+◌, ◌^◌, ◌-◌, inl, ℕ, List, [], ◌∷◌, ◌++◌, Option, Some, None, Bool, true, false, cond, nat_eq, not, ◌&&◌, ◌||◌, length, refl, sym, ap, ◌∙◌, subst, append-nil, arith, ⊎_elim, cases_eq, Left, PeerEnd, LinkFailed, Idle, Finished, Phase, Head, Open, Leaving, Ending, Gone, NoteValue, NetState, Item, is_gone_in, is_left, taken_of, is_dropped, ShortWhereHeld, Entry, Server, entry_at, numbered_at, ring_at, pending_at, is_gone, is_present, Held, held_at, held_octets, Stands, StandsFor, IsCounted, Others, Beside, Ties, SameElsewhere, SameLinesElsewhere, ShortRings, nothing, kept_same, taken_shut, others_shut, keeps_of, line_gone, ties_shut, AreNoted, TrafficAfter, NetAfter, RoseBy, FailsAfter, TakesFront, TakesAll, SameDrops, drops_as, fairly_later, fairly_longer, fairly_now, front_later, KeepsFront, KeepsFronts, RingsWait, items_at, unless_gone, progress_at, progress_by, progress_after_all, may_come, may_all_come, may_leave_by, due_at, topics_at, Advances, Appends, clash, or_false, same_number, other_number, told_one, IsTable, table_of, due_when_gone, tell_at, SameCounts, nothing_told, tell_by_all, topics_left, Leaves, Goes, Notes, LosesLink, is_open, Waits}
use Rattle.ws_kinds.specs.NoteValue as note
use Rattle.hub_core.proofs.SentLemmas.{progress_with, short_still}
use Rattle.hub_core.proofs.StateLemmas.{progress_of, is_away, is_there, change_present, change_progress, change_elsewhere, entry_kept, beside_change, lines_elsewhere, told_before, drops_same, front_still}
use Rattle.hub_core.proofs.NoteLemmas.{counts_changed}
use Rattle.hub_core.proofs.CallLemmas.{gone_phase as phase_away}

-- ---- the note

may_gone : (c : ℕ) (left : Left) (phase : Phase) → is_gone phase ≡ false → may_leave_by (Some phase) left ≡ true → may_come (unless_gone (Some phase)) (note.gone c left) ≡ true
may_gone c left Head e may = may
may_gone c left Open e may = may
may_gone c left Leaving e may = may
may_gone c left Ending e may = may
may_gone c left Gone e may = clash true e refl

-- every cause but one may come in every phase
pub may_leave : (phase : Phase) (left : Left) → is_left Finished left ≡ false → may_leave_by (Some phase) left ≡ true
may_leave Head PeerEnd e = refl
may_leave Head LinkFailed e = refl
may_leave Head Idle e = refl
may_leave Open PeerEnd e = refl
may_leave Open LinkFailed e = refl
may_leave Open Idle e = refl
may_leave Leaving PeerEnd e = refl
may_leave Leaving LinkFailed e = refl
may_leave Leaving Idle e = refl
may_leave Gone PeerEnd e = refl
may_leave Gone LinkFailed e = refl
may_leave Gone Idle e = refl
may_leave Ending left e = refl
may_leave phase Finished e = clash true e refl

gone_progress : (c : ℕ) (left : Left) (phase : Phase) (topics : List (List ℕ)) (due : Option (ℕ × List ℕ)) → is_gone phase ≡ false
    → progress_by (note.gone c left) (progress_of phase topics due) ≡ progress_with None (topics_left (Some phase) (Some Gone) topics) (due_when_gone phase due)
gone_progress c left Head topics due e = refl
gone_progress c left Open topics due e = refl
gone_progress c left Leaving topics due e = refl
gone_progress c left Ending topics due e = refl
gone_progress c left Gone topics due e = clash true e refl

if_here : {A : Type 0} (b : Bool) (x y : A) → b ≡ true → cond b x y ≡ x
if_here b x y e = ap (λ (z : Bool). cond z x y) e

if_else : {A : Type 0} (b : Bool) (x y : A) → b ≡ false → cond b x y ≡ y
if_else b x y e = ap (λ (z : Bool). cond z x y) e

-- ---- what a link took stays what it is

pub all_later : (x : ℕ) (items : List Item) (n0 n1 : NetState) (t0 t1 : Option (List NoteValue)) → taken_of n1 x ≡ taken_of n0 x → SameDrops x t0 t1 → TakesAll x items n0 t0 → TakesAll x items n1 t1
all_later x items n0 n1 t0 t1 taken drops all = record {
  where_told = λ octets eo notes en.
      let q = drops notes en in
      kept_same (is_dropped x q.0) (is_dropped x notes) 0 items (λ j low high. drops_as x q.0 q.1 notes q.3 q.4 j) ∙ all.where_told octets (sym taken ∙ eo) q.0 q.2;
}

pub front_at_once : (x : ℕ) (items : List Item) (held : Held) (n0 : NetState) (t0 : Option (List NoteValue)) → IsCounted held.numbered → Stands x held (taken_of n0 x) t0 items → TakesFront x items n0 t0
front_at_once x items held n0 t0 few stands = record { where_told = λ octets eo notes en. (held_octets held, (stands.where_told octets eo notes en few).spelling) }

pub all_at_once : (x : ℕ) (items : List Item) (held : Held) (n0 : NetState) (t0 : Option (List NoteValue)) → IsCounted held.numbered → held_octets held ≡ [] → Stands x held (taken_of n0 x) t0 items → TakesAll x items n0 t0
all_at_once x items held n0 t0 few none stands = record {
  where_told = λ octets eo notes en. (stands.where_told octets eo notes en few).spelling ∙ ap (λ (z : List ℕ). octets ++ z) none ∙ append-nil octets;
}

counted : (m k last : ℕ) → (m + k) + 0 < last → m < last
counted m k last few = omega arith

counted_at : (m k last : ℕ) → m + k < last → m < last
counted_at m k last few = omega arith

module _ {c : ℕ} {left : Left} {a b : Server} (l : Leaves c left a b) where
  leave_told : AreNoted a.told (note.gone c left ∷ []) b.told
  leave_told = told_one a.told b.told (note.gone c left) l.noted

  -- ---- the net

  leave_traffic : a.net.tells ≡ true → TrafficAfter (note.gone c left ∷ []) a.net b.net
  leave_traffic t = let told = l.shuts.told t in record {
    wrote = λ x. told.traffic.wrote x ∙ sym (append-nil (a.net.wrote x));
    taken = λ x. ap (λ (z : List ℕ). length z) (told.traffic.taken x) ∙ no_more (length (a.net.taken x));
    given = told.traffic.given;
    ended = told.traffic.ended;
    passed = told.passed;
    rested = told.rested;
  }
    where
      no_more : (m : ℕ) → m ≡ m + 0
      no_more m = omega arith

  gone_here : is_gone_in c (note.gone c left ∷ []) ≡ true
  gone_here = ap (λ (z : Bool). z || false) (same_number c)

  gone_other : (x : ℕ) → x ≢ c → is_gone_in x (note.gone c left ∷ []) ≡ false
  gone_other x ne = ap (λ (z : Bool). z || false) (other_number c x ne)

  dies : (live : Bool) (g : Bool) → g ≡ true → false ≡ (live && not g)
  dies true g e = ap (λ (z : Bool). not z) (sym e)
  dies false g e = refl

  stays : (live : Bool) (g : Bool) → g ≡ false → live ≡ (live && not g)
  stays true g e = ap (λ (z : Bool). not z) (sym e)
  stays false g e = refl

  pub leave_net : NetAfter (note.gone c left ∷ []) a.net b.net
  leave_net = record {
    net = l.shuts.net;
    told = leave_traffic;
    live = λ x. ⊎_elim
        (λ (q : x ≡ c). subst (λ (z : ℕ). b.net.live z ≡ (a.net.live z && not (is_gone_in z (note.gone c left ∷ [])))) (sym q)
        (l.shuts.live ∙ dies (a.net.live c) (is_gone_in c (note.gone c left ∷ [])) gone_here))
        (λ (ne : x ≢ c). l.shuts.live_elsewhere x ne ∙ stays (a.net.live x) (is_gone_in x (note.gone c left ∷ [])) (gone_other x ne))
        (cases_eq x c);
    due = λ x none. l.shuts.due_elsewhere x (λ q. clash (is_gone_in x (note.gone c left ∷ [])) none (ap (λ (z : ℕ). is_gone_in z (note.gone c left ∷ [])) q ∙ gone_here));
    named = l.shuts.named;
    port = l.shuts.port;
    room = l.shuts.room;
  }

  -- ---- no write failed

  same_count : (old new : ℕ) → old ≤ new → RoseBy 0 old new
  same_count old new least = record { least = least; each = inl (omega arith) }

  pub leave_fails_none : FailsAfter [] a.net b.net
  leave_fails_none = record {
    broken = λ t x. (l.shuts.told t).traffic.broken x ∙ or_false (a.net.broken x);
    faults = same_count a.net.faults b.net.faults l.shuts.faults;
  }

  none_by : (b : Bool) (g : Bool) → g ≡ false → ((b && g) || false) ≡ false
  none_by true g e = ap (λ (z : Bool). z || false) e
  none_by false g e = refl

  -- unless the note says so
  pub leave_fails : is_left LinkFailed left ≡ false → FailsAfter (note.gone c left ∷ []) a.net b.net
  leave_fails other = record {
    broken = λ t x. (l.shuts.told t).traffic.broken x ∙ or_false (a.net.broken x)
        ∙ ap (λ (z : Bool). a.net.broken x || z) (sym (none_by (nat_eq c x) (is_left LinkFailed left) other));
    faults = subst (λ (z : ℕ). RoseBy z a.net.faults b.net.faults) (sym (if_else (is_left LinkFailed left) 1 0 other)) (same_count a.net.faults b.net.faults l.shuts.faults);
  }

  -- ---- how far connections are

  leave_may : is_gone (entry_at a.hub c).phase ≡ false → may_leave_by (Some (entry_at a.hub c).phase) left ≡ true → (x : ℕ) → may_all_come x (note.gone c left ∷ []) (progress_at a.hub x) ≡ true
  leave_may there may x = ap (λ (z : Bool). z && true) (⊎_elim
      (λ (q : x ≡ c). subst (λ (z : ℕ). cond (nat_eq c z) (may_come (progress_at a.hub z).phase (note.gone c left)) true ≡ true) (sym q)
      (if_here (nat_eq c c) (may_come (progress_at a.hub c).phase (note.gone c left)) true (same_number c) ∙ may_gone c left (entry_at a.hub c).phase there may))
      (λ (ne : x ≢ c). if_else (nat_eq c x) (may_come (progress_at a.hub x).phase (note.gone c left)) true (other_number c x ne))
      (cases_eq x c))

  leave_progress : is_gone (entry_at a.hub c).phase ≡ false → (x : ℕ) → progress_at b.hub x ≡ progress_after_all x (note.gone c left ∷ []) (progress_at a.hub x)
  leave_progress there x = ⊎_elim
      (λ (q : x ≡ c). subst (λ (z : ℕ). progress_at b.hub z ≡ progress_after_all z (note.gone c left ∷ []) (progress_at a.hub z)) (sym q)
      (ap (λ (z : Option Phase). progress_with z (topics_at b.hub c) (due_at b.hub c)) (phase_away (entry_at b.hub c).phase l.gone)
      ∙ ap (λ (z : List (List ℕ)). progress_with None z (due_at b.hub c)) l.topics
      ∙ ap (λ (z : Option (ℕ × List ℕ)). progress_with None (topics_left (Some (entry_at a.hub c).phase) (Some Gone) (topics_at a.hub c)) z) l.due
      ∙ sym (gone_progress c left (entry_at a.hub c).phase (topics_at a.hub c) (due_at a.hub c) there)
      ∙ sym (if_here (nat_eq c c) (progress_by (note.gone c left) (progress_at a.hub c)) (progress_at a.hub c) (same_number c))))
      (λ (ne : x ≢ c). change_progress l.change x ne
      ∙ sym (if_else (nat_eq c x) (progress_by (note.gone c left) (progress_at a.hub x)) (progress_at a.hub x) (other_number c x ne)))
      (cases_eq x c)

  leave_tells : (x : ℕ) → tell_at b.hub x ≡ tell_by_all x (note.gone c left ∷ []) (tell_at a.hub x)
  leave_tells x = ⊎_elim
      (λ (q : x ≡ c). subst (λ (z : ℕ). tell_at b.hub z ≡ tell_by_all z (note.gone c left ∷ []) (tell_at a.hub z)) (sym q)
      (l.tells ∙ sym (if_here (nat_eq c c) nothing_told (tell_at a.hub c) (same_number c))))
      (λ (ne : x ≢ c). l.change.tells x ne ∙ sym (if_else (nat_eq c x) nothing_told (tell_at a.hub x) (other_number c x ne)))
      (cases_eq x c)

  leave_counts : SameCounts a.hub b.hub
  leave_counts = counts_changed c a.hub b.hub l.change (λ there. clash (is_present b.hub c) (is_away (is_gone (entry_at b.hub c).phase) l.gone) there)

  pub leave_advances : is_gone (entry_at a.hub c).phase ≡ false → may_leave_by (Some (entry_at a.hub c).phase) left ≡ true
      → Advances (note.gone c left ∷ []) a b
  leave_advances there may = record { told = leave_told; may_come = leave_may there may; progress = leave_progress there; tells = λ _. leave_tells; counts = λ _. leave_counts; net = leave_net }

  -- ---- lines

  pub leave_gone : is_present b.hub c ≡ false
  leave_gone = is_away (is_gone (entry_at b.hub c).phase) l.gone

  leave_present : (x : ℕ) → x ≢ c → is_present b.hub x ≡ is_present a.hub x
  leave_present x ne = change_present l.change x ne

  pub leave_others : Others c a.net b.net a.told b.told
  leave_others = others_shut c (note.gone c left) a.net b.net a.told b.told l.shuts l.noted (λ x. refl)

  pub leave_beside : Beside c a b
  leave_beside = beside_change c a b l.change leave_others

  pub leave_lines : SameLinesElsewhere c a b
  leave_lines = lines_elsewhere c a b l.change l.shuts.net.tells (λ x ne t. (l.shuts.told t).traffic.taken x)

  pub leave_elsewhere : IsTable (table_of a.hub) → IsTable (table_of b.hub) → SameElsewhere c a.hub b.hub
  leave_elsewhere was is = change_elsewhere l.change (entry_kept c (table_of a.hub) (table_of b.hub) l.change.table was is)

  pub leave_ties : Ties a → Ties b
  leave_ties ties = ties_shut c a b ties l.shuts leave_gone (λ x ne there. sym (leave_present x ne) ∙ there)

  -- ---- fronts

  pub leave_taken : (x : ℕ) → taken_of b.net x ≡ taken_of a.net x
  leave_taken x = taken_shut c x a.net b.net l.shuts

  pub leave_before : (notes : List NoteValue) → b.told ≡ Some notes → (earlier : List NoteValue) × (a.told ≡ Some earlier)
  leave_before = told_before a.told b.told (note.gone c left ∷ []) leave_told

  pub leave_drops : (x : ℕ) → SameDrops x a.told b.told
  leave_drops x = drops_same x a.told b.told (note.gone c left ∷ []) leave_told refl

  pub leave_front_other : (x : ℕ) → x ≢ c → KeepsFront x [] a b
  leave_front_other x ne = front_still c x a b (note.gone c left ∷ []) ne l.change l.shuts.net.tells (λ t. (l.shuts.told t).traffic.taken x) leave_told refl

  leave_front : is_gone (entry_at a.hub c).phase ≡ false → KeepsFront c [] a b
  leave_front there =
      let was : is_present a.hub c ≡ true = is_there (is_gone (entry_at a.hub c).phase) there in
      record {
        tells = l.shuts.net.tells;
        told = leave_before;
        count = λ is few. clash (is_present b.hub c) leave_gone is;
        front = λ was gone few items stands.
            front_later c items [] a.net b.net a.told b.told (leave_taken c) (leave_drops c)
            (front_at_once c items (held_at a.hub c) a.net a.told (counted (numbered_at a.hub c) (length (pending_at a.hub c)) (2 ^ 64 - 1) few) stands);
        taken = λ gone. clash (is_present a.hub c) gone was;
        drops = λ gone. clash (is_present a.hub c) gone was;
        fair = λ was gone few items stands fair.
            fairly_longer c a.hub.config.limit items [] b.net b.told (fairly_later c a.hub.config.limit items a.net b.net a.told b.told l.shuts.net.tells (leave_drops c)
            (fairly_now c a items (counted (numbered_at a.hub c) (length (pending_at a.hub c)) (2 ^ 64 - 1) few) fair));
        stays = λ gone. clash (is_present a.hub c) gone was;
      }

  leave_fronts : is_gone (entry_at a.hub c).phase ≡ false → KeepsFronts nothing a b
  leave_fronts there x below = ⊎_elim
      (λ (q : x ≡ c). subst (λ (z : ℕ). KeepsFront z [] a b) (sym q) (leave_front there))
      (λ (ne : x ≢ c). leave_front_other x ne)
      (cases_eq x c)

  pub leave_short_other : (x : ℕ) → x ≢ c → ShortWhereHeld x (entry_at a.hub x).ring a.told → ShortWhereHeld x (entry_at b.hub x).ring b.told
  leave_short_other x ne s = subst (λ (z : Entry). ShortWhereHeld x z.ring b.told) (sym (l.change.table.entries x ne))
      (short_still x (entry_at a.hub x).ring a.told b.told (note.gone c left ∷ []) leave_told refl s)

  leave_short : ShortRings a → ShortRings b
  leave_short short x there = ⊎_elim
      (λ (q : x ≡ c). clash (is_present b.hub x) (ap (λ (z : ℕ). is_present b.hub z) q ∙ leave_gone) there)
      (λ (ne : x ≢ c). leave_short_other x ne (short x (sym (leave_present x ne) ∙ there)))
      (cases_eq x c)

  -- whatever is in the connection's own ring
  pub leave_waits : ((x : ℕ) → x ≢ c → Waits x a) → RingsWait b
  leave_waits waits x there some = ⊎_elim
      (λ (q : x ≡ c). clash (is_present b.hub x) (ap (λ (z : ℕ). is_present b.hub z) q ∙ leave_gone) there)
      (λ (ne : x ≢ c). l.shuts.writable_elsewhere x ne
      ∙ waits x ne (sym (leave_present x ne) ∙ there) (λ none. some (ap (λ (z : Entry). z.ring) (l.change.table.entries x ne) ∙ none)))
      (cases_eq x c)

  -- nothing is appended
  pub leave_appends : is_gone (entry_at a.hub c).phase ≡ false → Appends nothing a b
  leave_appends there = record {
    lines = keeps_of c nothing a b leave_beside (λ x ne. refl) (line_gone c [] a b leave_gone);
    fronts = leave_fronts there;
    short = leave_short;
    waits = λ waits. leave_waits (λ x ne. waits x);
  }

  -- the link took all items of a connection for which nothing was held
  pub leave_takes_all : held_octets (held_at a.hub c) ≡ [] → items_at a.hub c < 2 ^ 64 - 1 → (items : List Item) → StandsFor c a items → TakesAll c items b.net b.told
  leave_takes_all none few items stands =
      all_later c items a.net b.net a.told b.told (leave_taken c) (leave_drops c)
      (all_at_once c items (held_at a.hub c) a.net a.told (counted_at (numbered_at a.hub c) (length (pending_at a.hub c)) (2 ^ 64 - 1) few) none stands)

  -- all of it
  pub goes : is_gone (entry_at a.hub c).phase ≡ false → (ring_at a.hub c ≡ [] → held_octets (held_at a.hub c) ≡ []) → IsTable (table_of a.hub) → IsTable (table_of b.hub) → Goes c left a b
  goes there whole was is = record {
    leaves = l;
    advances = leave_advances there;
    quiet = leave_fails_none;
    fails = leave_fails;
    appends = leave_appends there;
    elsewhere = leave_elsewhere was is;
    ties = leave_ties;
    whole = λ none. leave_takes_all (whole none);
    away = leave_gone;
    named = l.change.table.named;
    table = is;
  }

-- a connection that is not open has no topics, and one that becomes gone has none afterwards
pub topics_end : (phase : Phase) (topics : List (List ℕ)) → (is_open (Some phase) ≡ false → topics ≡ []) → [] ≡ topics_left (Some phase) (Some Gone) topics
topics_end Open topics none = refl
topics_end Head topics none = sym (none refl)
topics_end Leaving topics none = sym (none refl)
topics_end Ending topics none = sym (none refl)
topics_end Gone topics none = sym (none refl)

pub goes_notes : {c : ℕ} {left : Left} {a b : Server} → Goes c left a b → is_left Finished left ≡ false → is_left LinkFailed left ≡ false → Ties a → Notes c (note.gone c left ∷ []) a b
goes_notes {c} {left} {a} g other quiet ties = record {
  ties = g.ties ties;
  makes = record { advances = g.advances (may_leave (entry_at a.hub c).phase left other); fails = g.fails quiet };
  appends = g.appends;
  elsewhere = g.elsewhere;
  named = g.named;
  table = g.table;
}

pub goes_loses : {c : ℕ} {a b : Server} → Goes c LinkFailed a b → Ties a → LosesLink c a b
goes_loses {c} {a} g ties = record {
  ties = g.ties ties;
  advances = g.advances (may_leave (entry_at a.hub c).phase LinkFailed refl);
  fails = g.quiet;
  appends = g.appends;
  elsewhere = g.elsewhere;
  named = g.named;
  table = g.table;
}
