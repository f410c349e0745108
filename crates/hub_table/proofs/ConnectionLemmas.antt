-- The connections of a hub in the order of their numbers: one changed, added or forgotten.
use Rattle.hub_table.proofs.Below.{most_held_in, ◌≡◌, ◌≢◌, ◌<◌, ◌≤◌, ℕ, List, [], ◌∷◌, ◌++◌, Option, Some, None, Bool, true, false, cond, nat_eq, not, length, refl, sym, ap, ◌∙◌, subst, arith, suc, ◌||◌, is_some, option_map, Head, Gone, ConfigValue, Entry, PartingValue, no_entry, has_entry, entry_of, is_gone, none_of, present_entry, by_cases, equal_is, is_equal, is_unequal, unequal_is, due_of, Connection, Parting, AreAbove, AreRising, IsTable, ChangesOne, is_kept, no_connection, connection_of, replaced, without, entries_of, put_before, partings_of, cause, IsOwn, IsConnection, AreConnections, AreKept, table_state}

-- ---- one connection replaced, or left out

pub replaced_cases : (P : List Connection → Type 0) (x : Connection) (xs : List Connection) (c : ℕ) (y : Connection) → (x.socket.conn ≡ c → P (y ∷ xs)) → (x.socket.conn ≢ c → P (x ∷ replaced xs c y)) → P (replaced (x ∷ xs) c y)
replaced_cases P x xs c y here else = by_cases (nat_eq x.socket.conn c)
    (λ t. subst (λ (z : Bool). P (cond z (y ∷ xs) (x ∷ replaced xs c y))) (sym t) (here (equal_is x.socket.conn c t)))
    (λ t. subst (λ (z : Bool). P (cond z (y ∷ xs) (x ∷ replaced xs c y))) (sym t) (else (unequal_is x.socket.conn c t)))

pub without_cases : (P : List Connection → Type 0) (x : Connection) (xs : List Connection) (c : ℕ) → (x.socket.conn ≡ c → P xs) → (x.socket.conn ≢ c → P (x ∷ without xs c)) → P (without (x ∷ xs) c)
without_cases P x xs c here else = by_cases (nat_eq x.socket.conn c)
    (λ t. subst (λ (z : Bool). P (cond z xs (x ∷ without xs c))) (sym t) (here (equal_is x.socket.conn c t)))
    (λ t. subst (λ (z : Bool). P (cond z xs (x ∷ without xs c))) (sym t) (else (unequal_is x.socket.conn c t)))

pub connection_first : (x : Connection) (xs : List Connection) (c : ℕ) → x.socket.conn ≡ c → connection_of (x ∷ xs) c ≡ x
connection_first x xs c e = ap (λ (z : Bool). cond z x (connection_of xs c)) (is_equal x.socket.conn c e)

pub connection_later : (x : Connection) (xs : List Connection) (c : ℕ) → x.socket.conn ≢ c → connection_of (x ∷ xs) c ≡ connection_of xs c
connection_later x xs c e = ap (λ (z : Bool). cond z x (connection_of xs c)) (is_unequal x.socket.conn c e)

-- who is in the list is its first, or one of the others
pub later_has : (x : Connection) (xs : List Connection) (c : ℕ) → x.socket.conn ≢ c → has_entry (entries_of (x ∷ xs)) c ≡ has_entry (entries_of xs) c
later_has x xs c ne = ap (λ (z : Bool). z || has_entry (entries_of xs) c) (is_unequal x.socket.conn c ne)

pub later_in : (x : Connection) (xs : List Connection) (n : ℕ) → has_entry (entries_of xs) n ≡ true → has_entry (entries_of (x ∷ xs)) n ≡ true
later_in x xs n there = by_cases (nat_eq x.socket.conn n) (λ t. ap (λ (z : Bool). z || has_entry (entries_of xs) n) t) (λ t. ap (λ (z : Bool). z || has_entry (entries_of xs) n) t ∙ there)

-- ---- connections and entries

pub length_entries : (xs : List Connection) → length (entries_of xs) ≡ length xs
length_entries [] = refl
length_entries (x ∷ xs) = ap suc (length_entries xs)

pub entries_added : (xs : List Connection) (y : Connection) → entries_of (xs ++ y ∷ []) ≡ entries_of xs ++ y.socket ∷ []
entries_added [] y = refl
entries_added (x ∷ xs) y = ap (λ (z : List Entry). x.socket ∷ z) (entries_added xs y)

-- the entry of a number is that of its connection
pub entry_is : (xs : List Connection) (c : ℕ) → entry_of (entries_of xs) c ≡ (connection_of xs c).socket
entry_is [] c = refl
entry_is (x ∷ xs) c = by_cases (nat_eq x.socket.conn c)
    (λ t. ap (λ (z : Bool). cond z x.socket (entry_of (entries_of xs) c)) t ∙ sym (ap (λ (z : Bool). (cond z x (connection_of xs c)).socket) t))
    (λ t. ap (λ (z : Bool). cond z x.socket (entry_of (entries_of xs) c)) t ∙ entry_is xs c ∙ sym (ap (λ (z : Bool). (cond z x (connection_of xs c)).socket) t))

pub nothing_of : (xs : List Connection) (c : ℕ) → has_entry (entries_of xs) c ≡ false → connection_of xs c ≡ no_connection
nothing_of [] c none = refl
nothing_of (x ∷ xs) c none = by_cases (nat_eq x.socket.conn c)
    (λ t. absurd (let z : true ≡ false = sym (ap (λ (z : Bool). z || has_entry (entries_of xs) c) t) ∙ none in cc))
    (λ t. ap (λ (z : Bool). cond z x (connection_of xs c)) t ∙ nothing_of xs c (sym (ap (λ (z : Bool). z || has_entry (entries_of xs) c) t) ∙ none))

pub entry_conn : (es : List Entry) (c : ℕ) → has_entry es c ≡ true → (entry_of es c).conn ≡ c
entry_conn [] c t = absurd (let z : false ≡ true = t in cc)
entry_conn (e ∷ es) c t = by_cases (nat_eq e.conn c)
    (λ q. ap (λ (z : Bool). (cond z e (entry_of es c)).conn) q ∙ equal_is e.conn c q)
    (λ q. ap (λ (z : Bool). (cond z e (entry_of es c)).conn) q ∙ entry_conn es c (sym (ap (λ (z : Bool). z || has_entry es c) q) ∙ t))

-- ---- the order of the numbers

pub above_less : (a b : ℕ) (es : List Entry) → b ≤ a → AreAbove a es → AreAbove b es
above_less a b [] l h = tt {0}
above_less a b (e ∷ es) l h = (let k = h.0 in omega arith, above_less a b es l h.1)

-- a number up to one that all are above is no entry's
pub none_below : (es : List Entry) (a c : ℕ) → AreAbove a es → c ≤ a → has_entry es c ≡ false
none_below [] a c h l = refl
none_below (e ∷ es) a c h l =
    let k = h.0 in
    ap (λ (z : Bool). z || has_entry es c) (is_unequal e.conn c (λ q. absurd (omega arith))) ∙ none_below es a c h.1 l

above_replaced : (a : ℕ) (xs : List Connection) (c : ℕ) (y : Connection) → y.socket.conn ≡ c → AreAbove a (entries_of xs) → AreAbove a (entries_of (replaced xs c y))
above_replaced a [] c y own h = h
above_replaced a (x ∷ xs) c y own h = replaced_cases (λ ys. AreAbove a (entries_of ys)) x xs c y
    (λ same. (let k = h.0 in omega arith, h.1))
    (λ _. (h.0, above_replaced a xs c y own h.1))

pub rising_replaced : (xs : List Connection) (c : ℕ) (y : Connection) → y.socket.conn ≡ c → AreRising (entries_of xs) → AreRising (entries_of (replaced xs c y))
rising_replaced [] c y own h = h
rising_replaced (x ∷ xs) c y own h = replaced_cases (λ ys. AreRising (entries_of ys)) x xs c y
    (λ same. (above_less x.socket.conn y.socket.conn (entries_of xs) (omega arith) h.0, h.1))
    (λ _. (above_replaced x.socket.conn xs c y own h.0, rising_replaced xs c y own h.1))

above_without : (a : ℕ) (xs : List Connection) (c : ℕ) → AreAbove a (entries_of xs) → AreAbove a (entries_of (without xs c))
above_without a [] c h = h
above_without a (x ∷ xs) c h = without_cases (λ ys. AreAbove a (entries_of ys)) x xs c (λ _. h.1) (λ _. (h.0, above_without a xs c h.1))

pub rising_without : (xs : List Connection) (c : ℕ) → AreRising (entries_of xs) → AreRising (entries_of (without xs c))
rising_without [] c h = h
rising_without (x ∷ xs) c h = without_cases (λ ys. AreRising (entries_of ys)) x xs c (λ _. h.1) (λ _. (above_without x.socket.conn xs c h.0, rising_without xs c h.1))

above_added : (a : ℕ) (es : List Entry) (e : Entry) → a < e.conn → AreAbove a es → AreAbove a (es ++ e ∷ [])
above_added a [] e l h = (l, tt {0})
above_added a (f ∷ es) e l h = (h.0, above_added a es e l h.1)

-- an entry more, whose number is greater than all
pub rising_last : (xs : List Connection) (e : Entry) → AreRising (entries_of xs) → ((n : ℕ) → has_entry (entries_of xs) n ≡ true → n < e.conn) → AreRising (entries_of xs ++ e ∷ [])
rising_last [] e h above = (tt {0}, tt {0})
rising_last (x ∷ xs) e h above =
    (above_added x.socket.conn (entries_of xs) e (above x.socket.conn (ap (λ (z : Bool). z || has_entry (entries_of xs) x.socket.conn) (is_equal x.socket.conn x.socket.conn refl))) h.0, rising_last xs e h.1 (λ n there. above n (later_in x xs n there)))

-- ---- each connection by itself

pub each_replaced : (g : ConfigValue) (n : ℕ) (xs : List Connection) (c : ℕ) (y : Connection) → IsConnection g n y → AreConnections g n xs → AreConnections g n (replaced xs c y)
each_replaced g n [] c y own all = all
each_replaced g n (x ∷ xs) c y own all = replaced_cases (AreConnections g n) x xs c y (λ _. (own, all.1)) (λ _. (all.0, each_replaced g n xs c y own all.1))

pub each_without : (g : ConfigValue) (n : ℕ) (xs : List Connection) (c : ℕ) → AreConnections g n xs → AreConnections g n (without xs c)
each_without g n [] c all = all
each_without g n (x ∷ xs) c all = without_cases (AreConnections g n) x xs c (λ _. all.1) (λ _. (all.0, each_without g n xs c all.1))

pub each_added : (g : ConfigValue) (n m : ℕ) (xs : List Connection) (y : Connection) → n ≤ m → IsConnection g m y → AreConnections g n xs → AreConnections g m (xs ++ y ∷ [])
each_added g n m [] y l own all = (own, tt {0})
each_added g n m (x ∷ xs) y l own all =
    let a = all.0 in let k = a.among in
    (record { first = a.first; among = omega arith; config = a.config; head = a.head; own = a.own; due = a.due; bound = a.bound; gone = a.gone; unused = a.unused }, each_added g n m xs y l own all.1)

pub each_of : (g : ConfigValue) (n : ℕ) (xs : List Connection) (c : ℕ) → AreConnections g n xs → has_entry (entries_of xs) c ≡ true → IsConnection g n (connection_of xs c)
each_of g n [] c all t = absurd (let z : false ≡ true = t in cc)
each_of g n (x ∷ xs) c all t = by_cases (nat_eq x.socket.conn c)
    (λ e. subst (λ (z : Bool). IsConnection g n (cond z x (connection_of xs c))) (sym e) all.0)
    (λ e. subst (λ (z : Bool). IsConnection g n (cond z x (connection_of xs c))) (sym e) (each_of g n xs c all.1 (sym (ap (λ (z : Bool). z || has_entry (entries_of xs) c) e) ∙ t)))

-- ---- the Closed events that are due

-- the Closed event of another connection in front
due_front : (k : ℕ) (o : Option Parting) (rest : List PartingValue) (c : ℕ) → IsOwn k o → k ≢ c → due_of (put_before o rest) c ≡ due_of rest c
due_front k None rest c own ne = refl
due_front k (Some p) rest c own ne = ap (λ (z : Bool). cond z (Some (cause p)) (due_of rest c)) (is_unequal p.conn.0 c (λ q. ne (sym own ∙ q)))

-- its own in front
due_own : (k : ℕ) (o : Option Parting) (rest : List PartingValue) (c : ℕ) → IsOwn k o → k ≡ c → due_of rest c ≡ None → due_of (put_before o rest) c ≡ option_map cause o
due_own k None rest c own e none = none
due_own k (Some p) rest c own e none = ap (λ (z : Bool). cond z (Some (cause p)) (due_of rest c)) (is_equal p.conn.0 c (own ∙ e))

-- none is due for who is no entry
pub due_none : (g : ConfigValue) (n : ℕ) (xs : List Connection) (c : ℕ) → AreConnections g n xs → has_entry (entries_of xs) c ≡ false → due_of (partings_of xs) c ≡ None
due_none g n [] c all none = refl
due_none g n (x ∷ xs) c all none = by_cases (nat_eq x.socket.conn c)
    (λ t. absurd (let z : true ≡ false = sym (ap (λ (z : Bool). z || has_entry (entries_of xs) c) t) ∙ none in cc))
    (λ t. due_front x.socket.conn x.closed (partings_of xs) c all.0.own (unequal_is x.socket.conn c t) ∙ due_none g n xs c all.1 (sym (ap (λ (z : Bool). z || has_entry (entries_of xs) c) t) ∙ none))

-- the Closed event that is due for a number is that of its connection
pub due_is : (g : ConfigValue) (n : ℕ) (xs : List Connection) (c : ℕ) → AreConnections g n xs → AreRising (entries_of xs) → due_of (partings_of xs) c ≡ option_map cause (connection_of xs c).closed
due_is g n [] c all up = refl
due_is g n (x ∷ xs) c all up = by_cases (nat_eq x.socket.conn c)
    (λ t. let same : x.socket.conn ≡ c = equal_is x.socket.conn c t in
    due_own x.socket.conn x.closed (partings_of xs) c all.0.own same (due_none g n xs c all.1 (none_below (entries_of xs) x.socket.conn c up.0 (omega arith)))
    ∙ sym (ap (λ (z : Bool). option_map cause (cond z x (connection_of xs c)).closed) t))
    (λ t. due_front x.socket.conn x.closed (partings_of xs) c all.0.own (unequal_is x.socket.conn c t) ∙ due_is g n xs c all.1 up.1
    ∙ sym (ap (λ (z : Bool). option_map cause (cond z x (connection_of xs c)).closed) t))

-- ---- what holds of a table

is_due_some : (o : Option Parting) → is_some (option_map cause o) ≡ is_some o
is_due_some None = refl
is_due_some (Some p) = refl

kept_by : (gone due : Bool) → (gone ≡ true → due ≡ true) → not gone || due ≡ true
kept_by true due h = h refl
kept_by false due h = refl

kept_gone : (e : Entry) → e ≡ no_entry → is_gone e.phase ≡ true
kept_gone e q = ap (λ (z : Entry). is_gone z.phase) q

not_head : (e : Entry) → e ≡ no_entry → e.phase ≡ Head → ⊥
not_head e q h = let z : Gone ≡ Head = sym (ap (λ (z : Entry). z.phase) q) ∙ h in cc

is_there : (g : ConfigValue) (n : ℕ) (xs : List Connection) (c : ℕ) → AreKept g n xs → has_entry (entries_of xs) c ≡ true → is_kept (entries_of xs) (partings_of xs) c ≡ true
is_there g n xs c k t =
    let own = each_of g n xs c k.each t in
    kept_by (is_gone (entry_of (entries_of xs) c).phase) (is_some (due_of (partings_of xs) c))
    (λ h. ap is_some (due_is g n xs c k.each k.rising) ∙ is_due_some (connection_of xs c).closed ∙ own.due (sym (ap (λ (z : Entry). is_gone z.phase) (entry_is xs c)) ∙ h))

is_away : (g : ConfigValue) (n : ℕ) (xs : List Connection) (c : ℕ) → AreKept g n xs → has_entry (entries_of xs) c ≡ false → is_kept (entries_of xs) (partings_of xs) c ≡ false
is_away g n xs c k t =
    ap (λ (z : Bool). not z || is_some (due_of (partings_of xs) c)) (kept_gone (entry_of (entries_of xs) c) (none_of (entries_of xs) c t))
    ∙ ap is_some (due_none g n xs c k.each t)

pub is_table : {g : ConfigValue} {n : ℕ} {xs : List Connection} → AreKept g n xs → IsTable (table_state g n xs)
is_table {g} {n} {xs} k = record {
  numbers = k.numbers;
  rising = k.rising;
  first = λ c t. let own = each_of g n xs c k.each t in let a = own.first in
      let same : (connection_of xs c).socket.conn ≡ c = sym (ap (λ (z : Entry). z.conn) (entry_is xs c)) ∙ entry_conn (entries_of xs) c t in omega arith;
  named = λ c t. let own = each_of g n xs c k.each t in let a = own.among in
      let same : (connection_of xs c).socket.conn ≡ c = sym (ap (λ (z : Entry). z.conn) (entry_is xs c)) ∙ entry_conn (entries_of xs) c t in omega arith;
  few = let a = k.few in let b = length_entries xs in omega arith;
  kept = λ c. by_cases (has_entry (entries_of xs) c) (λ t. t ∙ sym (is_there g n xs c k t)) (λ t. t ∙ sym (is_away g n xs c k t));
  config = λ c t. let own = each_of g n xs c k.each t in ap (λ (z : Entry). z.config) (entry_is xs c) ∙ own.config;
  gone = λ c away. by_cases (has_entry (entries_of xs) c)
      (λ t. let own = each_of g n xs c k.each t in ap (λ (z : Entry). z.ring) (entry_is xs c) ∙ own.gone (sym (ap (λ (z : Entry). is_gone z.phase) (entry_is xs c)) ∙ away))
      (λ t. ap (λ (z : Entry). z.ring) (none_of (entries_of xs) c t));
  bound = λ c. by_cases (has_entry (entries_of xs) c)
      (λ t. subst (λ (z : Entry). length z.ring ≤ most_held_in g z.phase) (sym (entry_is xs c)) (each_of g n xs c k.each t).bound)
      (λ t. subst (λ (z : Entry). length z.ring ≤ most_held_in g z.phase) (sym (none_of (entries_of xs) c t)) (omega arith));
  unused = λ c none. by_cases (has_entry (entries_of xs) c)
      (λ t. let own = each_of g n xs c k.each t in ap (λ (z : Entry). z.ring) (entry_is xs c) ∙ own.unused (sym (ap (λ (z : Entry). z.numbered) (entry_is xs c)) ∙ none))
      (λ t. ap (λ (z : Entry). z.ring) (none_of (entries_of xs) c t));
  heads = λ c h. by_cases (has_entry (entries_of xs) c)
      (λ t. let own = each_of g n xs c k.each t in ap (λ (z : Entry). z.numbered) (entry_is xs c) ∙ own.head (sym (ap (λ (z : Entry). z.phase) (entry_is xs c)) ∙ h))
      (λ t. absurd (not_head (entry_of (entries_of xs) c) (none_of (entries_of xs) c t) h));
}

-- ---- what becomes of the connections, by their numbers

pub replaced_here : (xs : List Connection) (c : ℕ) (y : Connection) → has_entry (entries_of xs) c ≡ true → y.socket.conn ≡ c → connection_of (replaced xs c y) c ≡ y
replaced_here [] c y there own = absurd (let z : false ≡ true = there in cc)
replaced_here (x ∷ xs) c y there own = replaced_cases (λ ys. connection_of ys c ≡ y) x xs c y (λ _. connection_first y xs c own)
    (λ ne. connection_later x (replaced xs c y) c ne ∙ replaced_here xs c y (sym (later_has x xs c ne) ∙ there) own)

pub there_replaced : (xs : List Connection) (c : ℕ) (y : Connection) → has_entry (entries_of xs) c ≡ true → y.socket.conn ≡ c → has_entry (entries_of (replaced xs c y)) c ≡ true
there_replaced [] c y there own = there
there_replaced (x ∷ xs) c y there own = replaced_cases (λ ys. has_entry (entries_of ys) c ≡ true) x xs c y
    (λ _. ap (λ (z : Bool). z || has_entry (entries_of xs) c) (is_equal y.socket.conn c own))
    (λ ne. later_in x (replaced xs c y) c (there_replaced xs c y (sym (later_has x xs c ne) ∙ there) own))

pub replaced_elsewhere : (xs : List Connection) (c d : ℕ) (y : Connection) → d ≢ c → y.socket.conn ≡ c → connection_of (replaced xs c y) d ≡ connection_of xs d
replaced_elsewhere [] c d y ne own = refl
replaced_elsewhere (x ∷ xs) c d y ne own = replaced_cases (λ ys. connection_of ys d ≡ connection_of (x ∷ xs) d) x xs c y
    (λ same. connection_later y xs d (λ q. ne (sym q ∙ own)) ∙ sym (connection_later x xs d (λ q. ne (sym q ∙ same))))
    (λ _. ap (λ (z : Connection). cond (nat_eq x.socket.conn d) x z) (replaced_elsewhere xs c d y ne own))

pub without_here : (xs : List Connection) (c : ℕ) → AreRising (entries_of xs) → has_entry (entries_of (without xs c)) c ≡ false
without_here [] c up = refl
without_here (x ∷ xs) c up = without_cases (λ ys. has_entry (entries_of ys) c ≡ false) x xs c
    (λ same. none_below (entries_of xs) x.socket.conn c up.0 (omega arith))
    (λ ne. later_has x (without xs c) c ne ∙ without_here xs c up.1)

pub without_elsewhere : (xs : List Connection) (c d : ℕ) → d ≢ c → connection_of (without xs c) d ≡ connection_of xs d
without_elsewhere [] c d ne = refl
without_elsewhere (x ∷ xs) c d ne = without_cases (λ ys. connection_of ys d ≡ connection_of (x ∷ xs) d) x xs c
    (λ same. sym (connection_later x xs d (λ q. ne (sym q ∙ same))))
    (λ _. ap (λ (z : Connection). cond (nat_eq x.socket.conn d) x z) (without_elsewhere xs c d ne))

pub length_replaced : (xs : List Connection) (c : ℕ) (y : Connection) → length (replaced xs c y) ≡ length xs
length_replaced [] c y = refl
length_replaced (x ∷ xs) c y = replaced_cases (λ ys. length ys ≡ length (x ∷ xs)) x xs c y (λ _. refl) (λ _. ap suc (length_replaced xs c y))

pub length_without : (xs : List Connection) (c : ℕ) → length (without xs c) ≤ length xs
length_without [] c = omega arith
length_without (x ∷ xs) c = without_cases (λ ys. length ys ≤ length (x ∷ xs)) x xs c (λ _. omega arith) (λ _. let h = length_without xs c in omega arith)

pub own_number : (xs : List Connection) (c : ℕ) → has_entry (entries_of xs) c ≡ true → (connection_of xs c).socket.conn ≡ c
own_number xs c there = sym (ap (λ (z : Entry). z.conn) (entry_is xs c)) ∙ entry_conn (entries_of xs) c there

-- the connection c became this one, and no other changed
pub record Becomes (g : ConfigValue) (n c : ℕ) (xs ys : List Connection) (y : Connection) : Type 0 where
  pub kept : AreKept g n ys
  pub here : connection_of ys c ≡ y
  pub elsewhere : (d : ℕ) → d ≢ c → connection_of ys d ≡ connection_of xs d

pub becomes_replaced : (g : ConfigValue) (n c : ℕ) (xs : List Connection) (y : Connection) → AreKept g n xs → has_entry (entries_of xs) c ≡ true → y.socket.conn ≡ c → IsConnection g n y → Becomes g n c xs (replaced xs c y) y
becomes_replaced g n c xs y k there own each = record {
  kept = record {
    rising = rising_replaced xs c y own k.rising;
    each = each_replaced g n xs c y each k.each;
    few = let a = k.few in let b = length_replaced xs c y in omega arith;
    numbers = k.numbers;
  };
  here = replaced_here xs c y there own;
  elsewhere = λ d ne. replaced_elsewhere xs c d y ne own;
}

pub becomes_without : (g : ConfigValue) (n c : ℕ) (xs : List Connection) → AreKept g n xs → Becomes g n c xs (without xs c) no_connection
becomes_without g n c xs k = record {
  kept = record {
    rising = rising_without xs c k.rising;
    each = each_without g n xs c k.each;
    few = let a = k.few in let b = length_without xs c in omega arith;
    numbers = k.numbers;
  };
  here = nothing_of (without xs c) c (without_here xs c k.rising);
  elsewhere = λ d ne. without_elsewhere xs c d ne;
}

-- ---- what a change makes of the entry, and of the Closed event that is due

pub changes_one : {g : ConfigValue} {n c : ℕ} {xs ys : List Connection} {y : Connection} → AreKept g n xs → Becomes g n c xs ys y → ChangesOne c (table_state g n xs) (table_state g n ys)
changes_one {g} {n} {c} {xs} {ys} {y} k b = record {
  config = refl;
  named = refl;
  entries = λ d ne. entry_is ys d ∙ ap (λ (z : Connection). z.socket) (b.elsewhere d ne) ∙ sym (entry_is xs d);
  due = λ d ne. due_is g n ys d b.kept.each b.kept.rising ∙ ap (λ (z : Connection). option_map cause z.closed) (b.elsewhere d ne) ∙ sym (due_is g n xs d k.each k.rising);
}

pub entry_becomes : {g : ConfigValue} {n c : ℕ} {xs ys : List Connection} {y : Connection} → Becomes g n c xs ys y → entry_of (entries_of ys) c ≡ y.socket
entry_becomes {g} {n} {c} {xs} {ys} {y} b = entry_is ys c ∙ ap (λ (z : Connection). z.socket) b.here

pub due_becomes : {g : ConfigValue} {n c : ℕ} {xs ys : List Connection} {y : Connection} → Becomes g n c xs ys y → due_of (partings_of ys) c ≡ option_map cause y.closed
due_becomes {g} {n} {c} {xs} {ys} {y} b = due_is g n ys c b.kept.each b.kept.rising ∙ ap (λ (z : Connection). option_map cause z.closed) b.here

-- an entry that is not gone, or whose Closed event is due, is there
pub there_becomes : {g : ConfigValue} {n c : ℕ} {xs ys : List Connection} {y : Connection} → Becomes g n c xs ys y → is_gone y.socket.phase ≡ false → has_entry (entries_of ys) c ≡ true
there_becomes {g} {n} {c} {xs} {ys} {y} b here =
    present_entry (entries_of ys) c (ap (λ (z : Entry). not (is_gone z.phase)) (entry_becomes b) ∙ ap not here)
