-- What each change of one connection makes of the table.
use Rattle.hub_table.proofs.Below.{goes_on, ◌≤◌, ◌+◌, most_held, most_held_in, ◌≡◌, ◌≢◌, ◌<◌, ℕ, List, [], ◌∷◌, ◌++◌, Option, Some, None, Bool, true, false, if◌then◌else◌, not, length, refl, sym, ap, ◌∙◌, subst, length-append, arith, is_some, option_map, Phase, Head, Open, Leaving, Ending, Gone, ConfigValue, is_leaving, is_open, Quiet, QuietCount, counts_of, Entry, PartingValue, no_entry, new_entry, has_entry, entry_of, is_gone, present_entry, due_of, can_enter, Connection, Parting, parting_value, AreRising, ChangesOne, TakesDue, due_when_gone, no_connection, connection_of, replaced, without, entries_of, put_before, partings_of, cause, with_socket, entered, parted, told, IsOwn, IsConnection, AreKept, table_state, max, joined, TableState, length_one}
use Rattle.hub_table.proofs.ConnectionLemmas.{Becomes, becomes_replaced, becomes_without, entry_becomes, due_becomes, changes_one, each_of, each_added, rising_last, entries_added, length_entries, entry_is, due_is, own_number, there_replaced}
use Rattle.hub_table.proofs.IndexLemmas.{IsFirstDue}

-- ---- phases

pub gone_is : (p : Phase) → is_gone p ≡ true → p ≡ Gone
gone_is Head e = cc
gone_is Open e = cc
gone_is Leaving e = cc
gone_is Ending e = cc
gone_is Gone e = refl

pub not_gone : (p : Phase) → p ≢ Gone → is_gone p ≡ false
not_gone Head n = refl
not_gone Open n = refl
not_gone Leaving n = refl
not_gone Ending n = refl
not_gone Gone n = absurd (n refl)

-- no step leads back to Head
pub enters_no_head : (q p : Phase) → can_enter q p ≡ true → p ≢ Head
enters_no_head Head p e h = let z : false ≡ true = sym (ap (can_enter Head) h) ∙ e in cc
enters_no_head Open p e h = let z : false ≡ true = sym (ap (can_enter Open) h) ∙ e in cc
enters_no_head Leaving p e h = let z : false ≡ true = sym (ap (can_enter Leaving) h) ∙ e in cc
enters_no_head Ending p e h = let z : false ≡ true = sym (ap (can_enter Ending) h) ∙ e in cc
enters_no_head Gone p e h = let z : false ≡ true = sym (ap (can_enter Gone) h) ∙ e in cc

pub there_by_phase : (es : List Entry) (c : ℕ) → is_gone (entry_of es c).phase ≡ false → has_entry es c ≡ true
there_by_phase es c e = present_entry es c (ap not e)

-- ---- the changes

-- what may be held for a connection grows from phase to phase
most_grows : (g : ConfigValue) (q p : Phase) → can_enter q p ≡ true → is_gone p ≡ false → most_held_in g q ≤ most_held_in g p
most_grows g Head Head step there = absurd (let z : false ≡ true = step in cc)
most_grows g Head Open step there = omega arith
most_grows g Head Leaving step there = absurd (let z : false ≡ true = step in cc)
most_grows g Head Ending step there = omega arith
most_grows g Head Gone step there = absurd (let z : true ≡ false = there in cc)
most_grows g Open Head step there = absurd (let z : false ≡ true = step in cc)
most_grows g Open Open step there = absurd (let z : false ≡ true = step in cc)
most_grows g Open Leaving step there = omega arith
most_grows g Open Ending step there = omega arith
most_grows g Open Gone step there = absurd (let z : true ≡ false = there in cc)
most_grows g Leaving Head step there = absurd (let z : false ≡ true = step in cc)
most_grows g Leaving Open step there = absurd (let z : false ≡ true = step in cc)
most_grows g Leaving Leaving step there = absurd (let z : false ≡ true = step in cc)
most_grows g Leaving Ending step there = omega arith
most_grows g Leaving Gone step there = absurd (let z : true ≡ false = there in cc)
most_grows g Ending Head step there = absurd (let z : false ≡ true = step in cc)
most_grows g Ending Open step there = absurd (let z : false ≡ true = step in cc)
most_grows g Ending Leaving step there = absurd (let z : false ≡ true = step in cc)
most_grows g Ending Ending step there = absurd (let z : false ≡ true = step in cc)
most_grows g Ending Gone step there = absurd (let z : true ≡ false = there in cc)
most_grows g Gone Head step there = absurd (let z : false ≡ true = step in cc)
most_grows g Gone Open step there = absurd (let z : false ≡ true = step in cc)
most_grows g Gone Leaving step there = absurd (let z : false ≡ true = step in cc)
most_grows g Gone Ending step there = absurd (let z : false ≡ true = step in cc)
most_grows g Gone Gone step there = absurd (let z : true ≡ false = there in cc)

pub most_in : (g : ConfigValue) (p : Phase) → most_held_in g p ≤ most_held g
most_in g Head = omega arith
most_in g Open = omega arith
most_in g Leaving = omega arith
most_in g Ending = omega arith
most_in g Gone = omega arith

-- where nothing was held back, nothing is once the link was offered it
pub left_none : (ring left : List ℕ) → ring ≡ [] → length left ≤ length ring + 0 → left ≡ []
left_none ring [] none bound = refl
left_none ring (x ∷ left) none bound = absurd (let e = ap length none in omega arith)

-- for each connection so many may be held at least
least_in : (g : ConfigValue) (p : Phase) → g.limit + g.max_message + 256 ≤ most_held_in g p
least_in g Head = omega arith
least_in g Open = omega arith
least_in g Leaving = omega arith
least_in g Ending = omega arith
least_in g Gone = omega arith

-- what is held stays within its bound where an item is put: one that may be dropped over the limit has few octets, and each other fits
pub held_after : (g : ConfigValue) (p : Phase) (l : ℕ) (q : Bool) (octets ring left : List ℕ) → l ≡ g.limit → length octets ≤ g.max_message + 256 → length ring ≤ most_held_in g p → (q ≡ false → length ring + length octets ≤ most_held_in g p)
    → length left ≤ length ring + length (joined (octets ∷ [])) → (q ≡ true → length left ≤ max (length ring) (l + length (joined (octets ∷ [])))) → length left ≤ most_held_in g p
held_after g p l true octets ring left same few was fits bound limited = let a = limited refl in let b = least_in g p in let one = length_one octets in omega arith
held_after g p l false octets ring left same few was fits bound limited = let a = fits refl in let one = length_one octets in omega arith

-- the same condition of what contracts see of a table, and of its connections
pub fits_inside : (g : ConfigValue) (n : ℕ) (xs : List Connection) (t : TableState) (c o : ℕ) → table_state g n xs ≡ t → length (entry_of t.entries c).ring + o ≤ most_held_in t.config (entry_of t.entries c).phase
    → length (connection_of xs c).socket.ring + o ≤ most_held_in g (connection_of xs c).socket.phase
fits_inside g n xs t c o view fits = subst (λ (z : Entry). length z.ring + o ≤ most_held_in g z.phase) (entry_is xs c)
    (subst (λ (z : TableState). length (entry_of z.entries c).ring + o ≤ most_held_in z.config (entry_of z.entries c).phase) (sym view) fits)

entered_bound : (g : ConfigValue) (q p : Phase) (ring : List ℕ) (b : Bool) → b ≡ is_gone p → can_enter q p ≡ true → length ring ≤ most_held_in g q → length (if b then [] else ring) ≤ most_held_in g p
entered_bound g q p ring true e step bound = omega arith
entered_bound g q p ring false e step bound = let more = most_grows g q p step (sym e) in omega arith

entered_gone : (ring : List ℕ) (b : Bool) → b ≡ true → (if b then [] else ring) ≡ []
entered_gone ring true e = refl
entered_gone ring false e = absurd (cc)

entered_unused : (ring : List ℕ) (b : Bool) → ring ≡ [] → (if b then [] else ring) ≡ []
entered_unused ring true e = refl
entered_unused ring false e = e

-- who leaves Open does not go back, and is not gone
pub left_open : (p : Phase) → is_leaving (Some p) ≡ true → (can_enter Open p ≡ true) × (p ≢ Head) × (is_gone p ≡ false)
left_open Leaving e = (refl, λ h. let z : Leaving ≡ Head = h in cc, refl)
left_open Ending e = (refl, λ h. let z : Ending ≡ Head = h in cc, refl)
left_open Head e = cc
left_open Open e = cc
left_open Gone e = cc

becomes_by : (g : ConfigValue) (n c : ℕ) (xs ys : List Connection) (y : Connection) → AreKept g n xs → has_entry (entries_of xs) c ≡ true → y.socket.conn ≡ c → IsConnection g n y → ys ≡ replaced xs c y → Becomes g n c xs ys y
becomes_by g n c xs ys y k there own each e = subst (λ w. Becomes g n c xs w y) (sym e) (becomes_replaced g n c xs y k there own each)

pub becomes_entered : {g : ConfigValue} {n : ℕ} {xs ys : List Connection} (c : ℕ) (p : Phase) → AreKept g n xs → has_entry (entries_of xs) c ≡ true → can_enter (connection_of xs c).socket.phase p ≡ true → p ≢ Head → (is_gone p ≡ true → is_some (connection_of xs c).closed ≡ true)
    → ys ≡ replaced xs c (entered (connection_of xs c) p) → Becomes g n c xs ys (entered (connection_of xs c) p)
becomes_entered {g} {n} {xs} {ys} c p k there step head due e =
    let was = each_of g n xs c k.each there in
    becomes_by g n c xs ys (entered (connection_of xs c) p) k there (own_number xs c there)
    (record {
      first = was.first;
      among = was.among;
      config = was.config;
      head = λ h. absurd (head h);
      own = was.own;
      due = due;
      bound = entered_bound g (connection_of xs c).socket.phase p (connection_of xs c).socket.ring (is_gone p) refl step was.bound;
      gone = entered_gone (connection_of xs c).socket.ring (is_gone p);
      unused = λ none. entered_unused (connection_of xs c).socket.ring (is_gone p) (was.unused none);
    }) e

pub becomes_parted : {g : ConfigValue} {n : ℕ} {xs ys : List Connection} (c : ℕ) (p : Phase) (m : Parting) → AreKept g n xs → has_entry (entries_of xs) c ≡ true → can_enter (connection_of xs c).socket.phase p ≡ true → p ≢ Head → m.conn.0 ≡ c
    → ys ≡ replaced xs c (parted (connection_of xs c) p m) → Becomes g n c xs ys (parted (connection_of xs c) p m)
becomes_parted {g} {n} {xs} {ys} c p m k there step head own e =
    let was = each_of g n xs c k.each there in
    becomes_by g n c xs ys (parted (connection_of xs c) p m) k there (own_number xs c there)
    (record {
      first = was.first;
      among = was.among;
      config = was.config;
      head = λ h. absurd (head h);
      own = own ∙ sym (own_number xs c there);
      due = λ _. refl;
      bound = entered_bound g (connection_of xs c).socket.phase p (connection_of xs c).socket.ring (is_gone p) refl step was.bound;
      gone = entered_gone (connection_of xs c).socket.ring (is_gone p);
      unused = λ none. entered_unused (connection_of xs c).socket.ring (is_gone p) (was.unused none);
    }) e

pub becomes_put : {g : ConfigValue} {n : ℕ} {xs ys : List Connection} (c : ℕ) (s : Entry) → AreKept g n xs → has_entry (entries_of xs) c ≡ true
    → s.conn ≡ (connection_of xs c).socket.conn → s.config ≡ (connection_of xs c).socket.config → s.phase ≡ (connection_of xs c).socket.phase → (s.phase ≡ Head → s.numbered ≡ 0)
    → length s.ring ≤ most_held_in g s.phase → (is_gone s.phase ≡ true → s.ring ≡ []) → (s.numbered ≡ 0 → s.ring ≡ []) → ys ≡ replaced xs c (with_socket (connection_of xs c) s) → Becomes g n c xs ys (with_socket (connection_of xs c) s)
becomes_put {g} {n} {xs} {ys} c s k there conn config phase head bound gone unused e =
    let was = each_of g n xs c k.each there in
    becomes_by g n c xs ys (with_socket (connection_of xs c) s) k there (conn ∙ own_number xs c there)
    (record {
      first = let a = was.first in omega arith;
      among = let a = was.among in omega arith;
      config = config ∙ was.config;
      head = head;
      own = subst (λ z. IsOwn z (connection_of xs c).closed) (sym conn) was.own;
      due = λ h. was.due (ap is_gone (sym phase) ∙ h);
      bound = bound;
      gone = gone;
      unused = unused;
    }) e

-- what a tick makes due, read of a connection as of its entry
pub due_read : {g : ConfigValue} {n : ℕ} {xs : List Connection} {table : TableState} (c : ℕ) (due : ConfigValue → Option Phase → QuietCount → Bool) → AreKept g n xs → has_entry (entries_of xs) c ≡ true → table_state g n xs ≡ table
    → due (connection_of xs c).socket.config (Some (connection_of xs c).socket.phase) (counts_of (connection_of xs c).socket) ≡ due table.config (Some (entry_of table.entries c).phase) (counts_of (entry_of table.entries c))
due_read {g} {n} {xs} {table} c due k there view =
    let own = each_of g n xs c k.each there in
    ap (λ (z : ConfigValue). due z (Some (connection_of xs c).socket.phase) (counts_of (connection_of xs c).socket)) own.config
    ∙ ap (λ (z : Entry). due g (Some z.phase) (counts_of z)) (sym (entry_is xs c))
    ∙ ap (λ (z : TableState). due z.config (Some (entry_of z.entries c).phase) (counts_of (entry_of z.entries c))) view

-- its counts of ticks changed
pub becomes_counted : {g : ConfigValue} {n : ℕ} {xs ys : List Connection} (c : ℕ) (q : Quiet) → AreKept g n xs → has_entry (entries_of xs) c ≡ true
    → ys ≡ replaced xs c (with_socket (connection_of xs c) (record (connection_of xs c).socket { quiet = q })) → Becomes g n c xs ys (with_socket (connection_of xs c) (record (connection_of xs c).socket { quiet = q }))
becomes_counted {g} {n} {xs} {ys} c q k there e =
    let was = each_of g n xs c k.each there in
    becomes_put c (record (connection_of xs c).socket { quiet = q }) k there refl refl refl was.head was.bound was.gone was.unused e

pub becomes_told : {g : ConfigValue} {n : ℕ} {xs ys : List Connection} (c : ℕ) → AreKept g n xs → has_entry (entries_of xs) c ≡ true → is_gone (connection_of xs c).socket.phase ≡ false
    → ys ≡ replaced xs c (told (connection_of xs c)) → Becomes g n c xs ys (told (connection_of xs c))
becomes_told {g} {n} {xs} {ys} c k there here e =
    let was = each_of g n xs c k.each there in
    becomes_by g n c xs ys (told (connection_of xs c)) k there (own_number xs c there)
    (record { first = was.first; among = was.among; config = was.config; head = was.head; own = tt {0}; due = λ h. absurd (let z : false ≡ true = sym here ∙ h in cc); bound = was.bound; gone = was.gone; unused = was.unused }) e

pub becomes_forgotten : {g : ConfigValue} {n : ℕ} {xs ys : List Connection} (c : ℕ) → AreKept g n xs → ys ≡ without xs c → Becomes g n c xs ys no_connection
becomes_forgotten {g} {n} {xs} {ys} c k e = subst (λ w. Becomes g n c xs w no_connection) (sym e) (becomes_without g n c xs k)

-- ---- what stays of the connection

pub entry_enters : {g : ConfigValue} {n c : ℕ} {xs ys : List Connection} {p : Phase} {o : Option Parting} → is_gone p ≡ false → Becomes g n c xs ys (record { socket = goes_on p (connection_of xs c).socket; closed = o })
    → entry_of (entries_of ys) c ≡ record (entry_of (entries_of xs) c) { phase = p }
entry_enters {g} {n} {c} {xs} {ys} {p} {o} live b =
    entry_becomes b ∙ ap (goes_on p) (sym (entry_is xs c))
    ∙ ap (λ (z : Bool). record (entry_of (entries_of xs) c) { phase = p; ring = if z then [] else (entry_of (entries_of xs) c).ring }) live

pub due_stays : {g : ConfigValue} {n c : ℕ} {xs ys : List Connection} {s : Entry} → AreKept g n xs → Becomes g n c xs ys (with_socket (connection_of xs c) s) → due_of (partings_of ys) c ≡ due_of (partings_of xs) c
due_stays {g} {n} {c} {xs} {ys} {s} k b = due_becomes b ∙ sym (due_is g n xs c k.each k.rising)

-- a Closed event that was made of a code and a reason
pub cause_is : (m : Parting) (c code : ℕ) (reason : List ℕ) → parting_value m ≡ record { conn = c; code = code; reason = reason } → cause m ≡ (code, reason)
cause_is m c code reason e = ap (λ (z : PartingValue). (z.code, z.reason)) e

pub due_open : (p : Phase) (due : Option (ℕ × List ℕ)) → true ≡ is_open (Some p) → Some (1006, []) ≡ due_when_gone p due
due_open p due e = ap (λ (z : Bool). if z then Some (1006, []) else due) e

pub due_else : (p : Phase) (due : Option (ℕ × List ℕ)) → false ≡ is_open (Some p) → due ≡ due_when_gone p due
due_else p due e = ap (λ (z : Bool). if z then Some (1006, []) else due) e

-- ---- an entry more

-- each number that was accepted is smaller
pub above_all : (g : ConfigValue) (n c : ℕ) (xs : List Connection) → AreKept g n xs → n < c → (d : ℕ) → has_entry (entries_of xs) d ≡ true → d < c
above_all g n c xs k new d there = let was = each_of g n xs d k.each there in let a = was.among in let own = own_number xs d there in omega arith

-- an added connection was never there
pub becomes_added : {g : ConfigValue} {n : ℕ} {xs ys : List Connection} (c : ℕ) → AreKept g n xs → n < c → length (entries_of xs) < g.max_conns → ys ≡ xs ++ (record { socket = new_entry g c; closed = None }) ∷ [] → AreKept g c ys
becomes_added {g} {n} {xs} {ys} c k new room e =
    let y : Connection = record { socket = new_entry g c; closed = None } in
    let size = length_entries xs in
    subst (AreKept g c) (sym e) (record {
      rising = subst (λ z. AreRising z) (sym (entries_added xs y)) (rising_last xs y.socket k.rising (above_all g n c xs k new));
      each = each_added g n c xs y (omega arith) (record { first = omega arith; among = omega arith; config = refl; head = λ h. refl; own = tt {0}; due = λ h. absurd (let z : false ≡ true = h in cc); bound = omega arith; gone = λ _. refl; unused = λ _. refl }) k.each;
      few = let a = length-append xs (y ∷ []) in omega arith;
      numbers = k.numbers;
    })

partings_added : (xs : List Connection) (y : Connection) → y.closed ≡ None → partings_of (xs ++ y ∷ []) ≡ partings_of xs
partings_added [] y e = ap (λ z. put_before z []) e
partings_added (x ∷ xs) y e = ap (put_before x.closed) (partings_added xs y e)

pub state_added : (g : ConfigValue) (c : ℕ) (xs ys : List Connection) (s : Entry) → ys ≡ xs ++ (record { socket = s; closed = None }) ∷ [] → table_state g c ys ≡ record { config = g; named = c; entries = entries_of xs ++ s ∷ []; partings = partings_of xs }
state_added g c xs ys s e =
    let y : Connection = record { socket = s; closed = None } in
    ap (table_state g c) e
    ∙ ap (λ (z : List Entry). record { config = g; named = c; entries = z; partings = partings_of (xs ++ y ∷ []) }) (entries_added xs y)
    ∙ ap (λ (z : List PartingValue). record { config = g; named = c; entries = entries_of xs ++ s ∷ []; partings = z }) (partings_added xs y refl)

-- a test of the phase of a connection, as one of its entry
pub phase_read : (f : Phase → Bool) (xs : List Connection) (es : List Entry) (c : ℕ) (b : Bool) → entries_of xs ≡ es → b ≡ f (connection_of xs c).socket.phase → b ≡ f (entry_of es c).phase
phase_read f xs es c b view e = e ∙ ap (λ (z : Entry). f z.phase) (sym (entry_is xs c)) ∙ ap (λ (z : List Entry). f (entry_of z c).phase) view

pub none_due : (o : Option Parting) → false ≡ is_some o → option_map cause o ≡ None
none_due None e = refl
none_due (Some m) e = absurd (cc)

-- the numbers of the server stand at each connection
pub config_of : (g : ConfigValue) (n : ℕ) (xs : List Connection) (c : ℕ) → AreKept g n xs → has_entry (entries_of xs) c ≡ true → (connection_of xs c).socket.config ≡ g
config_of g n xs c k there = let own = each_of g n xs c k.each there in own.config

pub there_put : (xs ys : List Connection) (c : ℕ) (y : Connection) → has_entry (entries_of xs) c ≡ true → y.socket.conn ≡ c → ys ≡ replaced xs c y → has_entry (entries_of ys) c ≡ true
there_put xs ys c y there own e = ap (λ (z : List Connection). has_entry (entries_of z) c) e ∙ there_replaced xs c y there own

-- ---- the Closed event that is told next

-- the Closed event of the first connection is taken, and this is what became of it
pub takes : (g : ConfigValue) (n c : ℕ) (xs ys : List Connection) (m : Parting) (y : Connection) → AreKept g n xs → IsFirstDue xs c → (connection_of xs c).closed ≡ Some m
    → Becomes g n c xs ys y → y.closed ≡ None → y.socket ≡ (if is_gone (connection_of xs c).socket.phase then no_entry else (connection_of xs c).socket)
    → TakesDue (Some (parting_value m)) (table_state g n xs) (table_state g n ys)
takes g n c xs ys m y k first due b none left =
    let own : m.conn.0 ≡ c = subst (IsOwn (connection_of xs c).socket.conn) due (each_of g n xs c k.each first.there).own ∙ own_number xs c first.there in
    subst (λ (z : ℕ). (due_of (partings_of xs) z ≡ Some (cause m)) × ((other : ℕ) → other < z → due_of (partings_of xs) other ≡ None)
    × (due_of (partings_of ys) z ≡ None) × (entry_of (entries_of ys) z ≡ (if is_gone (entry_of (entries_of xs) z).phase then no_entry else entry_of (entries_of xs) z))
    × ChangesOne z (table_state g n xs) (table_state g n ys)) (sym own) (
      due_is g n xs c k.each k.rising ∙ ap (option_map cause) due,
      λ d less. due_is g n xs d k.each k.rising ∙ ap (option_map cause) (first.least d less),
      due_becomes b ∙ ap (option_map cause) none,
      entry_becomes b ∙ left ∙ ap (λ (z : Entry). if is_gone z.phase then no_entry else z) (sym (entry_is xs c)),
      changes_one k b,
    )

takes_kept : (g : ConfigValue) (n c : ℕ) (xs ys : List Connection) (o : Option Parting) (y : Connection) → AreKept g n xs → IsFirstDue xs c → o ≡ (connection_of xs c).closed
    → Becomes g n c xs ys y → y.closed ≡ None → y.socket ≡ (if is_gone (connection_of xs c).socket.phase then no_entry else (connection_of xs c).socket)
    → TakesDue (option_map parting_value o) (table_state g n xs) (table_state g n ys)
takes_kept g n c xs ys None y k first e b none left = absurd (let z : false ≡ true = ap is_some e ∙ first.due in cc)
takes_kept g n c xs ys (Some m) y k first e b none left = takes g n c xs ys m y k first (sym e) b none left

pub first_told : {g : ConfigValue} {n c : ℕ} {xs ys : List Connection} {o : Option Parting} → AreKept g n xs → IsFirstDue xs c → o ≡ (connection_of xs c).closed → false ≡ is_gone (connection_of xs c).socket.phase
    → ys ≡ replaced xs c (told (connection_of xs c)) → AreKept g n ys × TakesDue (option_map parting_value o) (table_state g n xs) (table_state g n ys)
first_told {g} {n} {c} {xs} {ys} {o} k first e here is =
    let b = becomes_told c k first.there (sym here) is in
    (b.kept, takes_kept g n c xs ys o (told (connection_of xs c)) k first e b refl (ap (λ (z : Bool). if z then no_entry else (connection_of xs c).socket) here))

pub first_forgotten : {g : ConfigValue} {n c : ℕ} {xs ys : List Connection} {o : Option Parting} → AreKept g n xs → IsFirstDue xs c → o ≡ (connection_of xs c).closed → true ≡ is_gone (connection_of xs c).socket.phase
    → ys ≡ without xs c → AreKept g n ys × TakesDue (option_map parting_value o) (table_state g n xs) (table_state g n ys)
first_forgotten {g} {n} {c} {xs} {ys} {o} k first e gone is =
    let b = becomes_forgotten c k is in
    (b.kept, takes_kept g n c xs ys o no_connection k first e b refl (ap (λ (z : Bool). if z then no_entry else (connection_of xs c).socket) gone))
