-- What is read of a connection, as of its entry.
use Rattle.hub_table.proofs.Below.{◌≡◌, ℕ, List, [], Option, Some, None, Bool, true, false, length, if◌then◌else◌, sym, ap, ◌∙◌, ConfigValue, Entry, has_entry, entry_of, none_of, by_cases, Connection, connection_of, connection_in, entries_of, AreKept}
use Rattle.hub_table.proofs.ConnectionLemmas.{each_of, entry_is}

-- a connection that is found is an entry, and one that is not found is none
found_cases : {A : Type 0} (xs : List Connection) (c : ℕ) (o : Option Connection) → o ≡ connection_in xs c → (o ≡ Some (connection_of xs c) → has_entry (entries_of xs) c ≡ true → A) → (o ≡ None → has_entry (entries_of xs) c ≡ false → A) → A
found_cases {A} xs c o q f g = by_cases (has_entry (entries_of xs) c)
    (λ t. f (q ∙ ap (λ (z : Bool). if z then Some (connection_of xs c) else None) t) t)
    (λ t. g (q ∙ ap (λ (z : Bool). if z then Some (connection_of xs c) else None) t) t)

-- the connection that is found is that of the number
pub found_is : (xs : List Connection) (c : ℕ) (x : Connection) → Some x ≡ connection_in xs c → (x ≡ connection_of xs c) × (has_entry (entries_of xs) c ≡ true)
found_is xs c x q = found_cases xs c (Some x) q (λ e there. (let same : x ≡ connection_of xs c = cc in same, there)) (λ e away. absurd (cc))

-- where none is found, there is none
pub missed_is : (xs : List Connection) (c : ℕ) → None ≡ connection_in xs c → has_entry (entries_of xs) c ≡ false
missed_is xs c q = found_cases xs c None q (λ e there. absurd (cc)) (λ e away. away)

-- the phase that was read of a connection
pub read_phase : (xs : List Connection) (c : ℕ) (x : Connection) → Some x ≡ connection_in xs c → Some x.socket.phase ≡ (if has_entry (entries_of xs) c then Some (entry_of (entries_of xs) c).phase else None)
read_phase xs c x q =
    let found = found_is xs c x q in
    ap (λ (z : Connection). Some z.socket.phase) found.0 ∙ sym (ap (λ (z : Entry). Some z.phase) (entry_is xs c)) ∙ sym (ap (λ (z : Bool). if z then Some (entry_of (entries_of xs) c).phase else None) found.1)

pub no_phase : (xs : List Connection) (c : ℕ) → None ≡ connection_in xs c → None ≡ (if has_entry (entries_of xs) c then Some (entry_of (entries_of xs) c).phase else None)
no_phase xs c q = sym (ap (λ (z : Bool). if z then Some (entry_of (entries_of xs) c).phase else None) (missed_is xs c q))

-- the octets that were held for a connection
pub read_held : (xs : List Connection) (c : ℕ) (x : Connection) → Some x ≡ connection_in xs c → length x.socket.ring ≡ length (entry_of (entries_of xs) c).ring
read_held xs c x q = ap (λ (z : Connection). length z.socket.ring) (found_is xs c x q).0 ∙ sym (ap (λ (z : Entry). length z.ring) (entry_is xs c))

pub none_held : (xs : List Connection) (c : ℕ) → None ≡ connection_in xs c → 0 ≡ length (entry_of (entries_of xs) c).ring
none_held xs c q = sym (ap (λ (z : Entry). length z.ring) (none_of (entries_of xs) c (missed_is xs c q)))

-- how many items were put for a connection
pub read_count : (xs : List Connection) (c : ℕ) (x : Connection) → Some x ≡ connection_in xs c → x.socket.numbered ≡ (entry_of (entries_of xs) c).numbered
read_count xs c x q = ap (λ (z : Connection). z.socket.numbered) (found_is xs c x q).0 ∙ sym (ap (λ (z : Entry). z.numbered) (entry_is xs c))

pub none_count : (xs : List Connection) (c : ℕ) → None ≡ connection_in xs c → 0 ≡ (entry_of (entries_of xs) c).numbered
none_count xs c q = sym (ap (λ (z : Entry). z.numbered) (none_of (entries_of xs) c (missed_is xs c q)))
