-- The rows of what is to be told, beside the entries of a hub.
use Rattle.hub_core.proofs.Below.{◌≡◌, ◌≢◌, ◌<◌, ◌≤◌, ℕ, List, [], ◌∷◌, Option, Some, Bool, true, false, cond, not, nat_lt, length, refl, sym, ap, ◌∙◌, subst, arith, nat_tests, NetState, NoteValue, server, Phase, Head, Open, Leaving, Ending, Gone, at_turn, nothing_told, Entry, entry_of, has_entry, is_gone, present_entry, clash, by_cases, TableState, IsTable, ChangesOne, is_open, tell_of, held_in, TellsRing, Kept, Clear, Backlog, Dropped, Failed, IsHub, hub_of, tell_after, PassesOctets, due_of, Passes, AreRisingRows, ChangesRow, IsNextRow, TellingsState, has_row, fewer_rows_without, nothing_of, KeepsRows, Settles, SettlesRows, SettlesUpTo, may_hold}
use Rattle.hub_core.proofs.StateLemmas.{hub_changed, plain_change, same_or_not}
use Rattle.hub_core.proofs.TurnLemmas.{at_any, empty_or_not}

-- ---- who has a row

pub may_hold_past : (phase : Phase) → phase ≢ Head → is_gone phase ≡ false → may_hold phase ≡ true
may_hold_past Head past there = absurd (past refl)
may_hold_past Open past there = refl
may_hold_past Leaving past there = refl
may_hold_past Ending past there = refl
may_hold_past Gone past there = clash true there refl

held_there : (phase : Phase) → may_hold phase ≡ true → not (is_gone phase) ≡ true
held_there Open e = refl
held_there Leaving e = refl
held_there Ending e = refl
held_there Head e = clash false refl e
held_there Gone e = clash false refl e

module _ {a : TableState} {p : List (ℕ × List ℕ)} {r : TellingsState} (whole : IsHub a p r) where
  row_holds : (c : ℕ) → has_row r.rows c ≡ true → may_hold (entry_of a.entries c).phase ≡ true
  row_holds c has = by_cases (may_hold (entry_of a.entries c).phase) (λ e. e) (λ off. clash (has_row r.rows c) (whole.rows c off) has)

  row_entry : (c : ℕ) → has_row r.rows c ≡ true → has_entry a.entries c ≡ true
  row_entry c has = present_entry a.entries c (held_there (entry_of a.entries c).phase (row_holds c has))

  -- there is memory for one more, of a connection that is there
  pub row_room : (c : ℕ) → not (is_gone (entry_of a.entries c).phase) ≡ true → has_row r.rows c ≡ false → length r.rows < r.room
  row_room c there none =
      let less = fewer_rows_without r.rows a.entries c whole.rising whole.table.rising row_entry none (present_entry a.entries c there) in
      let few = whole.table.few in let room = whole.room in omega arith

  -- octets are held only past Head
  pub holds_past : (c : ℕ) → (entry_of a.entries c).ring ≢ [] → may_hold (entry_of a.entries c).phase ≡ true
  holds_past c some = row_holds c (whole.held c some)

  -- there is no connection 0
  pub no_row_zero : has_row r.rows 0 ≡ false
  no_row_zero = by_cases (has_row r.rows 0) (λ has. absurd (let one = whole.table.first 0 (row_entry 0 has) in omega arith)) (λ e. e)

  unclear : (limit : ℕ) (kept : Kept) (ring : List ℕ) → TellsRing limit kept ring → ring ≢ [] → kept ≢ Clear
  unclear limit Clear ring none some e = some none
  unclear limit (Backlog held) ring t some e = cc
  unclear limit (Dropped held) ring t some e = cc
  unclear limit Failed ring t some e = cc

  -- an item was put, or what is held was offered
  pub hub_passed : {b : TableState} {s : TellingsState} (c : ℕ) (kept : Kept) (limit : ℕ) → IsTable b → ChangesOne c a b → (entry_of b.entries c).phase ≡ (entry_of a.entries c).phase → may_hold (entry_of a.entries c).phase ≡ true
      → TellsRing limit kept (entry_of b.entries c).ring → ChangesRow c (tell_after kept (tell_of r.rows c)) r s → (kept ≢ Clear → has_row s.rows c ≡ true) → IsHub b p s
  hub_passed c kept limit table change phase may ring row has = hub_changed whole table change.config change.entries (record { topics = λ x ne. refl; rows = row.has_others; room = row.room_is; rising = row.rising })
      (λ off. whole.topics c (ap (λ (z : Phase). is_open (Some z)) (sym phase) ∙ off))
      (λ off. clash (may_hold (entry_of a.entries c).phase) (ap may_hold (sym phase) ∙ off) may)
      (λ some. has (unclear limit kept _ ring some))

-- what a socket did, and its row, make of the hub
pub passes_of : {c : ℕ} {may_drop : Bool} {popped : List (List ℕ)} {kept : Kept} {a b : TableState} {n0 n1 : NetState} {t0 t1 : Option (List NoteValue)} {r s : TellingsState} (p : List (ℕ × List ℕ))
    → PassesOctets c a.config.limit may_drop popped kept (entry_of a.entries c) (entry_of b.entries c) n0 n1 t0 t1 → due_of b.partings c ≡ due_of a.partings c → ChangesOne c a b → IsTable b
    → ChangesRow c (tell_after kept (tell_of r.rows c)) r s → Passes c may_drop popped kept (server (hub_of a p r) n0 t0) (server (hub_of b p s) n1 t1)
passes_of {r = r} {s = s} p passes due change table row = record {
  moves = passes.moves;
  others = passes.others;
  offers = passes.offers;
  front = passes.front;
  short = passes.short;
  kept_is = passes.kept;
  failed = passes.failed;
  net = passes.net;
  numbered = passes.numbered;
  waits = passes.waits;
  phase = passes.phase;
  quiet = passes.quiet;
  due = due;
  topics = refl;
  tells = row.tell_is;
  before = refl;
  after = refl;
  elsewhere = plain_change p p r s change (λ x ne. refl) row.others;
  table = table;
}

-- ---- a turn ends

-- of who holds nothing and has no row nothing is to be told
untold : (n : ℕ) → n ≡ 0 → nothing_told ≡ at_turn n nothing_told
untold n e = ap (λ (z : ℕ). at_turn z nothing_told) (sym e)

module _ {entries : List Entry} {old now : TellingsState} (k : KeepsRows entries old now) where
  rowless : (c : ℕ) → has_row now.rows c ≡ false → tell_of now.rows c ≡ tell_of old.rows c → tell_of now.rows c ≡ at_turn (length (entry_of entries c).ring) (tell_of old.rows c)
  rowless c none same =
      let quiet : tell_of now.rows c ≡ nothing_told = nothing_of now.rows c none in
      let empty : length (entry_of entries c).ring ≡ 0 = empty_or_not (entry_of entries c).ring (λ e. ap length e) (λ some. clash (has_row now.rows c) none (k.held c some)) in
      quiet ∙ untold (length (entry_of entries c).ring) empty ∙ ap (at_turn (length (entry_of entries c).ring)) (sym quiet ∙ same)

pub settling_starts : (entries : List Entry) (r : TellingsState) → AreRisingRows r.rows → has_row r.rows 0 ≡ false → ((c : ℕ) → (entry_of entries c).ring ≢ [] → has_row r.rows c ≡ true) → SettlesUpTo 0 entries r r
settling_starts entries r up none held =
    let k : KeepsRows entries r r = record { held = held; none = λ c e. e; room_is = refl; rising = up } in
    record {
      told = λ c few. subst (λ (z : ℕ). tell_of r.rows z ≡ at_turn (length (entry_of entries z).ring) (tell_of r.rows z)) (zero_is c few) (rowless k 0 none refl);
      rest = λ c above. refl;
      keeps = k;
    }
  where
    zero_is : (c : ℕ) → c ≤ 0 → 0 ≡ c
    zero_is c few = omega arith

pub settling_next : (after conn held : ℕ) (entries : List Entry) (old now new : TellingsState) → SettlesUpTo after entries old now → IsNextRow now.rows after (Some conn) → held ≡ length (entry_of entries conn).ring
    → ChangesRow conn (at_turn held (tell_of now.rows conn)) now new → (0 < held → has_row new.rows conn ≡ true) → SettlesUpTo conn entries old new
settling_next after conn held entries old now new x next is row has = record {
  told = λ c few. same_or_not conn c
      (λ e. subst (λ (z : ℕ). tell_of new.rows z ≡ at_turn (length (entry_of entries z).ring) (tell_of old.rows z)) (sym e)
      (row.tell_is ∙ ap (λ (z : ℕ). at_turn z (tell_of now.rows conn)) is ∙ ap (at_turn (length (entry_of entries conn).ring)) (x.rest conn next.0)))
      (λ ne. row.others c ne ∙ at_any after c (x.told c) (λ low. rowless x.keeps c (next.2 c low (less c few ne)) (x.rest c low)));
  rest = λ c above. row.others c (other c above) ∙ x.rest c (let low = next.0 in omega arith);
  keeps = record {
    held = λ c some. same_or_not conn c
        (λ e. subst (λ (z : ℕ). has_row new.rows z ≡ true) (sym e) (has (some_held (entry_of entries conn).ring is (subst (λ (z : ℕ). (entry_of entries z).ring ≢ []) e some))))
        (λ ne. row.has_others c ne ∙ x.keeps.held c some);
    none = λ c none. same_or_not conn c
        (λ e. clash (has_row now.rows conn) (x.keeps.none conn (subst (λ (z : ℕ). has_row old.rows z ≡ false) e none)) next.1)
        (λ ne. row.has_others c ne ∙ x.keeps.none c none);
    room_is = row.room_is ∙ x.keeps.room_is;
    rising = row.rising;
  };
}
  where
    less : (c : ℕ) → c ≤ conn → c ≢ conn → c < conn
    less c few ne = by_cases (nat_lt c conn) (λ e. grind (arith, nat_tests)) (λ e. absurd (ne (grind (arith, nat_tests))))

    other : (c : ℕ) → conn < c → c ≢ conn
    other c above e = absurd (omega arith)

    some_held : (ring : List ℕ) → held ≡ length ring → ring ≢ [] → 0 < held
    some_held [] e some = absurd (some refl)
    some_held (x ∷ ring) e some = omega arith

pub settling_ends : (after : ℕ) (entries : List Entry) (old now : TellingsState) → SettlesUpTo after entries old now → ((c : ℕ) → after < c → has_row now.rows c ≡ false) → SettlesRows entries old now
settling_ends after entries old now x none = record { told = λ c. at_any after c (x.told c) (λ low. rowless x.keeps c (none c low) (x.rest c low)); keeps = x.keeps }

-- ---- and for a hub

module _ {a : TableState} {p : List (ℕ × List ℕ)} {r s : TellingsState} (whole : IsHub a p r) (x : SettlesRows a.entries r s) where
  pub hub_settled : IsHub a p s
  hub_settled = record {
    table = whole.table;
    topics = whole.topics;
    rising = x.keeps.rising;
    room = x.keeps.room_is ∙ whole.room;
    rows = λ c off. x.keeps.none c (whole.rows c off);
    held = x.keeps.held;
  }

  -- for one that is gone nothing is held
  held_is : (c : ℕ) → length (entry_of a.entries c).ring ≡ held_in (hub_of a p r) c
  held_is c = by_cases (is_gone (entry_of a.entries c).phase)
      (λ e. ap length (whole.table.gone c e) ∙ sym (ap (λ (z : Bool). cond (not z) (length (entry_of a.entries c).ring) 0) e))
      (λ e. sym (ap (λ (z : Bool). cond (not z) (length (entry_of a.entries c).ring) 0) e))

  pub settles : Settles (hub_of a p r) (hub_of a p s)
  settles = record { told = λ c. x.told c ∙ ap (λ (z : ℕ). at_turn z (tell_of r.rows c)) (held_is c); others = refl }
