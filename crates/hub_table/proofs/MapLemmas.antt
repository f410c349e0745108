-- Connections in a slab under the keys that a map has for their numbers: one written, added or taken out.
use Rattle.hub_table.proofs.Below.{◌≡◌, ◌≢◌, ◌<◌, ◌≤◌, ℕ, ◌+◌, List, [], ◌∷◌, ◌++◌, Option, Some, None, Bool, true, false, cond, nat_eq, length, refl, sym, ap, ◌∙◌, subst, arith, suc, Greater, ◌||◌, is_some, if◌then◌else◌, length-append, IsSome, unwrap_or, nat_cmp, match_ordering, lookup, remove_entry, is_at, insert_entry, nat_tests, sum_by-set, Slab, get, slab_len, ContainsKey, with_value, Updates, ContainsKey-within, Updates-with_value, has_entry, Entry, AreRising, IsNextEntry, IsNextKey, is_ending, with_socket, by_cases, clash, equal_is, is_equal, is_unequal, unequal_is, Connection, NumberSetState, added, removed, marked, no_connection, connection_of, connection_in, replaced, without, entries_of, is_due, ends, numbers_where, stored_at, listed, AreStored, IsIndexed}
use Rattle.hub_table.proofs.ConnectionLemmas.{connection_first, connection_later, later_has, later_in, none_below, entries_added, rising_last, rising_replaced, rising_without, length_replaced, length_without, own_number}
use Rattle.hub_table.proofs.IndexLemmas.{length_where, where_added, where_replaced, where_without, where_same}

-- ---- the slab

stored_is : (s : Slab Connection) (k : ℕ) → ContainsKey s k → get s k ≡ Some (stored_at s k)
stored_is s k here = of_some (get s k) here
  where
    of_some : (o : Option Connection) → IsSome o → o ≡ Some (unwrap_or o no_connection)
    of_some None h = absurd (let z : false ≡ true = h in cc)
    of_some (Some x) h = refl

pub contains : (s : Slab Connection) (k : ℕ) (x : Connection) → get s k ≡ Some x → ContainsKey s k
contains s k x e = ap is_some e

pub stored_written : (s : Slab Connection) (k : ℕ) (y : Connection) → ContainsKey s k → stored_at (with_value s k y) k ≡ y
stored_written s k y here = let u = Updates-with_value s k y here in ap (λ o. unwrap_or o no_connection) u.changed

-- a value that is written over is not one more
pub len_written : (s : Slab Connection) (k : ℕ) (y : Connection) → ContainsKey s k → slab_len (with_value s k y) ≡ slab_len s
len_written s k y here =
    let h : slab_len (with_value s k y) + cond {A = ℕ} (is_some (get s k)) 1 0 ≡ slab_len s + 1 = sum_by-set (λ (o : Option Connection). cond {A = ℕ} (is_some o) 1 0) s.slots k (Some y) None (ContainsKey-within s k here) in
    let f : cond {A = ℕ} (is_some (get s k)) 1 0 ≡ 1 = ap (λ (o : Option Connection). cond {A = ℕ} (is_some o) 1 0) (stored_is s k here) in
    omega arith

-- ---- the keys of numbers

-- a query for c passes at c alone
at_number : (c n : ℕ) → is_at (nat_cmp c) n ≡ nat_eq n c
at_number c n = grind (arith, nat_tests)

here_at : (c n : ℕ) → n ≡ c → is_at (nat_cmp c) n ≡ true
here_at c n e = at_number c n ∙ is_equal n c e

else_at : (c n : ℕ) → n ≢ c → is_at (nat_cmp c) n ≡ false
else_at c n e = at_number c n ∙ is_unequal n c e

key_cases : {A : Type 0} (pair : ℕ × ℕ) (pairs : List (ℕ × ℕ)) (c : ℕ) → (pair.0 ≡ c → lookup (is_at (nat_cmp c)) (pair ∷ pairs) ≡ Some pair.1 → A) → (pair.0 ≢ c → lookup (is_at (nat_cmp c)) (pair ∷ pairs) ≡ lookup (is_at (nat_cmp c)) pairs → A) → A
key_cases {A} pair pairs c f g = by_cases (nat_eq pair.0 c)
    (λ t. let e = equal_is pair.0 c t in f e (ap (λ (z : Bool). cond z (Some pair.1) (lookup (is_at (nat_cmp c)) pairs)) (here_at c pair.0 e)))
    (λ t. let e = unequal_is pair.0 c t in g e (ap (λ (z : Bool). cond z (Some pair.1) (lookup (is_at (nat_cmp c)) pairs)) (else_at c pair.0 e)))

module _ (s : Slab Connection) where
  -- the map has a key for a number exactly where there is a connection of it
  pub key_has : (ps : List (ℕ × ℕ)) (c : ℕ) → AreStored s ps → is_some (lookup (is_at (nat_cmp c)) ps) ≡ has_entry (entries_of (listed s ps)) c
  key_has [] c all = refl
  key_has (p ∷ ps) c all = key_cases p ps c
      (λ e q. ap is_some q ∙ sym (ap (λ (z : Bool). z || has_entry (entries_of (listed s ps)) c) (is_equal (stored_at s p.1).socket.conn c (all.0.1 ∙ e))))
      (λ e q. ap is_some q ∙ key_has ps c all.1 ∙ sym (later_has (stored_at s p.1) (listed s ps) c (λ o. e (sym all.0.1 ∙ o))))

  -- under its key stands the connection of the number
  pub key_stored : (ps : List (ℕ × ℕ)) (c k : ℕ) → AreStored s ps → lookup (is_at (nat_cmp c)) ps ≡ Some k → (get s k ≡ Some (stored_at s k)) × ((stored_at s k).socket.conn ≡ c) × (stored_at s k ≡ connection_of (listed s ps) c)
  key_stored [] c k all e = cc
  key_stored (p ∷ ps) c k all e = key_cases p ps c
      (λ same q. let here : p.1 ≡ k = (let z : Some p.1 ≡ Some k = sym q ∙ e in cc) in
      let own = all.0.1 ∙ same in
      subst (λ (z : ℕ). (get s z ≡ Some (stored_at s z)) × ((stored_at s z).socket.conn ≡ c) × (stored_at s z ≡ connection_of (stored_at s p.1 ∷ listed s ps) c)) here
      (all.0.0, own, sym (connection_first (stored_at s p.1) (listed s ps) c own)))
      (λ ne q. let h = key_stored ps c k all.1 (sym q ∙ e) in
      (h.0, h.1, h.2 ∙ sym (connection_later (stored_at s p.1) (listed s ps) c (λ o. ne (sym all.0.1 ∙ o)))))

  pub length_listed : (ps : List (ℕ × ℕ)) → length (listed s ps) ≡ length ps
  length_listed [] = refl
  length_listed (p ∷ ps) = ap suc (length_listed ps)

-- the slot of k changed, which was empty, or had a connection of the number c
module _ (s t : Slab Connection) (c k : ℕ) (slot : Option Connection) (change : Updates s t k slot) (free : (x : Connection) → get s k ≡ Some x → x.socket.conn ≡ c) where
  -- who has another number stays
  stays : (p : ℕ × ℕ) → get s p.1 ≡ Some (stored_at s p.1) → (stored_at s p.1).socket.conn ≡ p.0 → p.0 ≢ c → get t p.1 ≡ get s p.1
  stays p at own ne = change.others p.1 (λ q. ne (sym own ∙ free (stored_at s p.1) (ap (get s) (sym q) ∙ at)))

  stays_stored : (p : ℕ × ℕ) → (get s p.1 ≡ Some (stored_at s p.1)) × ((stored_at s p.1).socket.conn ≡ p.0) → p.0 ≢ c → (get t p.1 ≡ Some (stored_at t p.1)) × ((stored_at t p.1).socket.conn ≡ p.0)
  stays_stored p h ne =
      let e = stays p h.0 h.1 ne in
      subst (λ (o : Option Connection). (o ≡ Some (unwrap_or o no_connection)) × ((unwrap_or o no_connection).socket.conn ≡ p.0)) (sym e) h

  stays_listed : (p : ℕ × ℕ) → (get s p.1 ≡ Some (stored_at s p.1)) × ((stored_at s p.1).socket.conn ≡ p.0) → p.0 ≢ c → stored_at t p.1 ≡ stored_at s p.1
  stays_listed p h ne = ap (λ o. unwrap_or o no_connection) (stays p h.0 h.1 ne)

  -- none of the connections has the number
  pub others : (ps : List (ℕ × ℕ)) → AreStored s ps → has_entry (entries_of (listed s ps)) c ≡ false → AreStored t ps × (listed t ps ≡ listed s ps)
  others [] all none = (tt {0}, refl)
  others (p ∷ ps) all none =
      let ne : p.0 ≢ c = λ q. clash (has_entry (entries_of (listed s (p ∷ ps))) c) none (ap (λ (z : Bool). z || has_entry (entries_of (listed s ps)) c) (is_equal (stored_at s p.1).socket.conn c (all.0.1 ∙ q))) in
      let more = others ps all.1 (sym (later_has (stored_at s p.1) (listed s ps) c (λ q. ne (sym all.0.1 ∙ q))) ∙ none) in
      ((stays_stored p all.0 ne, more.0), ap (λ (x : Connection). x ∷ listed t ps) (stays_listed p all.0 ne) ∙ ap (λ (xs : List Connection). stored_at s p.1 ∷ xs) more.1)

  behind : (p : ℕ × ℕ) (ps : List (ℕ × ℕ)) → AreStored s (p ∷ ps) → AreRising (entries_of (listed s (p ∷ ps))) → p.0 ≡ c → has_entry (entries_of (listed s ps)) c ≡ false
  behind p ps all up e = let own = all.0.1 in none_below (entries_of (listed s ps)) (stored_at s p.1).socket.conn c up.0 (omega arith)

  -- the connection of the number was written over
  pub written : (y : Connection) → slot ≡ Some y → y.socket.conn ≡ c → (ps : List (ℕ × ℕ)) → AreStored s ps → AreRising (entries_of (listed s ps)) → lookup (is_at (nat_cmp c)) ps ≡ Some k → AreStored t ps × (listed t ps ≡ replaced (listed s ps) c y)
  written y is own [] all up e = cc
  written y is own (p ∷ ps) all up e = key_cases p ps c
      (λ same q. let here : p.1 ≡ k = (let z : Some p.1 ≡ Some k = sym q ∙ e in cc) in
      let more = others ps all.1 (behind p ps all up same) in
      let now : get t p.1 ≡ Some y = ap (get t) here ∙ change.changed ∙ is in (
        (subst (λ (o : Option Connection). (o ≡ Some (unwrap_or o no_connection)) × ((unwrap_or o no_connection).socket.conn ≡ p.0)) (sym now) (refl, own ∙ sym same), more.0),
        ap (λ (x : Connection). x ∷ listed t ps) (ap (λ o. unwrap_or o no_connection) now) ∙ ap (λ (xs : List Connection). y ∷ xs) more.1
            ∙ sym (ap (λ (z : Bool). cond z (y ∷ listed s ps) (stored_at s p.1 ∷ replaced (listed s ps) c y)) (is_equal (stored_at s p.1).socket.conn c (all.0.1 ∙ same))),
      ))
      (λ ne q. let more = written y is own ps all.1 up.1 (sym q ∙ e) in (
        (stays_stored p all.0 ne, more.0),
        ap (λ (x : Connection). x ∷ listed t ps) (stays_listed p all.0 ne) ∙ ap (λ (xs : List Connection). stored_at s p.1 ∷ xs) more.1
            ∙ sym (ap (λ (z : Bool). cond z (y ∷ listed s ps) (stored_at s p.1 ∷ replaced (listed s ps) c y)) (is_unequal (stored_at s p.1).socket.conn c (λ o. ne (sym all.0.1 ∙ o)))),
      ))

  -- the connection of the number was taken out, of the slab and of the map
  pub taken_out : (ps : List (ℕ × ℕ)) → AreStored s ps → AreRising (entries_of (listed s ps)) → AreStored t (remove_entry (is_at (nat_cmp c)) ps) × (listed t (remove_entry (is_at (nat_cmp c)) ps) ≡ without (listed s ps) c)
  taken_out [] all up = (tt {0}, refl)
  taken_out (p ∷ ps) all up = by_cases (nat_eq p.0 c)
      (λ b. let same = equal_is p.0 c b in
      let more = others ps all.1 (behind p ps all up same) in
      subst (λ (qs : List (ℕ × ℕ)). AreStored t qs × (listed t qs ≡ without (listed s (p ∷ ps)) c)) (sym (ap (λ (z : Bool). cond z ps (p ∷ remove_entry (is_at (nat_cmp c)) ps)) (here_at c p.0 same)))
      (more.0, more.1 ∙ sym (ap (λ (z : Bool). cond z (listed s ps) (stored_at s p.1 ∷ without (listed s ps) c)) (is_equal (stored_at s p.1).socket.conn c (all.0.1 ∙ same)))))
      (λ b. let ne = unequal_is p.0 c b in
      let more = taken_out ps all.1 up.1 in
      subst (λ (qs : List (ℕ × ℕ)). AreStored t qs × (listed t qs ≡ without (listed s (p ∷ ps)) c)) (sym (ap (λ (z : Bool). cond z ps (p ∷ remove_entry (is_at (nat_cmp c)) ps)) (else_at c p.0 ne))) (
        (stays_stored p all.0 ne, more.0),
        ap (λ (x : Connection). x ∷ listed t (remove_entry (is_at (nat_cmp c)) ps)) (stays_listed p all.0 ne) ∙ ap (λ (xs : List Connection). stored_at s p.1 ∷ xs) more.1
            ∙ sym (ap (λ (z : Bool). cond z (listed s ps) (stored_at s p.1 ∷ without (listed s ps) c)) (is_unequal (stored_at s p.1).socket.conn c (λ o. ne (sym all.0.1 ∙ o)))),
      ))

-- ---- a connection more

greater_at : (c n : ℕ) → n < c → nat_cmp c n ≡ Greater
greater_at c n l = grind (arith, nat_tests)

-- a greater number goes to the end of the map
pub insert_last : (s : Slab Connection) (ps : List (ℕ × ℕ)) (c k : ℕ) → AreStored s ps → ((n : ℕ) → has_entry (entries_of (listed s ps)) n ≡ true → n < c) → insert_entry nat_cmp ps c k ≡ ps ++ (c, k) ∷ []
insert_last s [] c k all above = refl
insert_last s (p ∷ ps) c k all above =
    let less : p.0 < c = above p.0 (ap (λ (z : Bool). z || has_entry (entries_of (listed s ps)) p.0) (is_equal (stored_at s p.1).socket.conn p.0 all.0.1)) in
    ap (λ z. match_ordering z ((c, k) ∷ p ∷ ps) ((p.0, k) ∷ ps) (p ∷ insert_entry nat_cmp ps c k)) (greater_at c p.0 less)
    ∙ ap (λ (qs : List (ℕ × ℕ)). p ∷ qs) (insert_last s ps c k all.1 (λ n there. above n (later_in (stored_at s p.1) (listed s ps) n there)))

listed_last : (t : Slab Connection) (ps : List (ℕ × ℕ)) (c k : ℕ) → listed t (ps ++ (c, k) ∷ []) ≡ listed t ps ++ stored_at t k ∷ []
listed_last t [] c k = refl
listed_last t (p ∷ ps) c k = ap (λ (xs : List Connection). stored_at t p.1 ∷ xs) (listed_last t ps c k)

stored_last : (t : Slab Connection) (ps : List (ℕ × ℕ)) (c k : ℕ) → AreStored t ps → (get t k ≡ Some (stored_at t k)) × ((stored_at t k).socket.conn ≡ c) → AreStored t (ps ++ (c, k) ∷ [])
stored_last t [] c k all h = (h, tt {0})
stored_last t (p ∷ ps) c k all h = (all.0, stored_last t ps c k all.1 h)

-- ---- the table as a whole

-- there is room for each number of a connection that passes a test
pub marked_fits : (test : Connection → Bool) (xs : List Connection) (c : ℕ) (y : Connection) → AreRising (entries_of xs) → has_entry (entries_of xs) c ≡ true → y.socket.conn ≡ c → test y ≡ true → length (added (numbers_where test xs) c) ≤ length xs
marked_fits test xs c y up there own is =
    let a = length_where test (replaced xs c y) in let b = length_replaced xs c y in
    let e = ap length (where_replaced test xs c y true up there own is) in omega arith

module _ {s : Slab Connection} {ps : List (ℕ × ℕ)} {d e : NumberSetState} (i : IsIndexed s ps d e) where
  pub has_key : (c : ℕ) → has_entry (entries_of (listed s ps)) c ≡ true → is_some (lookup (is_at (nat_cmp c)) ps) ≡ true
  has_key c there = key_has s ps c i.stored ∙ there

  -- there is room for the number of each connection that passes the test of a set
  pub due_fits : (c : ℕ) (y : Connection) → has_entry (entries_of (listed s ps)) c ≡ true → y.socket.conn ≡ c → is_due y ≡ true → length (added d.numbers c) ≤ d.room
  due_fits c y there own is = let h = marked_fits is_due (listed s ps) c y i.rising there own is in let q = ap (λ ns. length (added ns c)) i.due in let a = i.few in omega arith

  pub ending_fits : (c : ℕ) (y : Connection) → has_entry (entries_of (listed s ps)) c ≡ true → y.socket.conn ≡ c → ends y ≡ true → length (added e.numbers c) ≤ e.room
  ending_fits c y there own is = let h = marked_fits ends (listed s ps) c y i.rising there own is in let q = ap (λ ns. length (added ns c)) i.ending in let a = i.few in let b = i.room in omega arith

  -- what is found by a number
  pub found_here : (c : ℕ) {k : ℕ} → lookup (is_at (nat_cmp c)) ps ≡ Some k → get s k ≡ connection_in (listed s ps) c
  found_here c {k} at =
      let h = key_stored s ps c k i.stored at in
      h.0 ∙ ap Some h.2 ∙ sym (ap (λ (z : Bool). if z then Some (connection_of (listed s ps) c) else None) (sym (key_has s ps c i.stored) ∙ ap is_some at))

  -- the next number is that of the next entry
  pub next_entry : (a : ℕ) (r : Option ℕ) → IsNextKey ps a r → IsNextEntry (entries_of (listed s ps)) a r
  next_entry a None none = λ c l. sym (key_has s ps c i.stored) ∙ ap is_some (none c l)
  next_entry a (Some n) next = (next.0, sym (key_has s ps n i.stored) ∙ next.1, λ c l m. sym (key_has s ps c i.stored) ∙ ap is_some (next.2 c l m))

  pub found_none : (c : ℕ) → lookup (is_at (nat_cmp c)) ps ≡ None → None ≡ connection_in (listed s ps) c
  found_none c none = sym (ap (λ (z : Bool). if z then Some (connection_of (listed s ps) c) else None) (sym (key_has s ps c i.stored) ∙ ap is_some none))

  module _ (c : ℕ) {k : ℕ} (at : lookup (is_at (nat_cmp c)) ps ≡ Some k) where
    pub under_key : ContainsKey s k
    under_key = contains s k (stored_at s k) (key_stored s ps c k i.stored at).0

    pub stored_of : stored_at s k ≡ connection_of (listed s ps) c
    stored_of = (key_stored s ps c k i.stored at).2

    free : (x : Connection) → get s k ≡ Some x → x.socket.conn ≡ c
    free x q = let h = key_stored s ps c k i.stored at in let same : Some (stored_at s k) ≡ Some x = sym h.0 ∙ q in ap (λ (o : Option Connection). (unwrap_or o no_connection).socket.conn) (sym same) ∙ h.1

    -- the connection was written over, and the sets have its number where it passes their tests
    pub index_written : {t : Slab Connection} {f g : NumberSetState} (y : Connection) → t ≡ with_value s k y → y.socket.conn ≡ c → has_entry (entries_of (listed s ps)) c ≡ true
        → f.numbers ≡ marked d.numbers c (is_due y) → f.room ≡ d.room → g.numbers ≡ marked e.numbers c (ends y) → g.room ≡ e.room → IsIndexed t ps f g × (listed t ps ≡ replaced (listed s ps) c y)
    index_written {t} {f} {g} y is own there due due_room ending ending_room =
        subst (λ z. IsIndexed z ps f g × (listed z ps ≡ replaced (listed s ps) c y)) (sym is)
        (let w = written s (with_value s k y) c k (Some y) (Updates-with_value s k y under_key) free y refl own ps i.stored i.rising at in (
          record {
            stored = w.0;
            count = len_written s k y under_key ∙ i.count;
            rising = subst (λ xs. AreRising (entries_of xs)) (sym w.1) (rising_replaced (listed s ps) c y own i.rising);
            due = due ∙ ap (λ ns. marked ns c (is_due y)) i.due ∙ sym (ap (numbers_where is_due) w.1 ∙ where_replaced is_due (listed s ps) c y (is_due y) i.rising there own refl);
            ending = ending ∙ ap (λ ns. marked ns c (ends y)) i.ending ∙ sym (ap (numbers_where ends) w.1 ∙ where_replaced ends (listed s ps) c y (ends y) i.rising there own refl);
            few = let a = i.few in let b = length_replaced (listed s ps) c y in let q = ap length w.1 in omega arith;
            slots = let a = i.slots in omega arith;
            room = ending_room ∙ i.room ∙ sym due_room;
          },
          w.1,
        ))

    -- a set whose test says the same of the connection as before has its number already, or has it not
    pub due_stays : (y : Connection) → has_entry (entries_of (listed s ps)) c ≡ true → y.socket.conn ≡ c → is_due y ≡ is_due (connection_of (listed s ps) c) → d.numbers ≡ marked d.numbers c (is_due y)
    due_stays y there own is = i.due ∙ sym (where_same is_due (listed s ps) c y own is) ∙ where_replaced is_due (listed s ps) c y (is_due y) i.rising there own refl ∙ sym (ap (λ ns. marked ns c (is_due y)) i.due)

    pub ending_stays : (y : Connection) → has_entry (entries_of (listed s ps)) c ≡ true → y.socket.conn ≡ c → ends y ≡ ends (connection_of (listed s ps) c) → e.numbers ≡ marked e.numbers c (ends y)
    ending_stays y there own is = i.ending ∙ sym (where_same ends (listed s ps) c y own is) ∙ where_replaced ends (listed s ps) c y (ends y) i.rising there own refl ∙ sym (ap (λ ns. marked ns c (ends y)) i.ending)

    -- its socket changed, but for its number and its phase
    pub socket_written : {t : Slab Connection} (f : Entry → Entry) → ((x : Entry) → (f x).conn ≡ x.conn) → ((x : Entry) → (f x).phase ≡ x.phase) → has_entry (entries_of (listed s ps)) c ≡ true
        → t ≡ with_value s k (with_socket (stored_at s k) (f (stored_at s k).socket)) → IsIndexed t ps d e × (listed t ps ≡ replaced (listed s ps) c (with_socket (connection_of (listed s ps) c) (f (connection_of (listed s ps) c).socket)))
    socket_written {t} f number phase there is =
        let x = connection_of (listed s ps) c in
        let y : Connection = with_socket x (f x.socket) in
        let own : y.socket.conn ≡ c = number x.socket ∙ own_number (listed s ps) c there in
        index_written y (is ∙ ap (λ (z : Connection). with_value s k (with_socket z (f z.socket))) stored_of) own there
        (due_stays y there own refl) refl (ending_stays y there own (ap is_ending (phase x.socket))) refl

    -- the connection was taken out
    pub index_removed : {t : Slab Connection} {qs : List (ℕ × ℕ)} {f g : NumberSetState} → Updates s t k None → slab_len t + 1 ≡ slab_len s → t.capacity ≡ s.capacity → qs ≡ remove_entry (is_at (nat_cmp c)) ps → length qs + 1 ≡ length ps
        → f.numbers ≡ removed d.numbers c → f.room ≡ d.room → g.numbers ≡ removed e.numbers c → g.room ≡ e.room → IsIndexed t qs f g × (listed t qs ≡ without (listed s ps) c)
    index_removed {t} {qs} {f} {g} change len capacity is fewer due due_room ending ending_room =
        let w : AreStored t qs × (listed t qs ≡ without (listed s ps) c) = subst (λ z. AreStored t z × (listed t z ≡ without (listed s ps) c)) (sym is) (taken_out s t c k None change free ps i.stored i.rising) in (
          record {
            stored = w.0;
            count = let a = i.count in omega arith;
            rising = subst (λ xs. AreRising (entries_of xs)) (sym w.1) (rising_without (listed s ps) c i.rising);
            due = due ∙ ap (λ ns. removed ns c) i.due ∙ sym (ap (numbers_where is_due) w.1 ∙ where_without is_due (listed s ps) c i.rising);
            ending = ending ∙ ap (λ ns. removed ns c) i.ending ∙ sym (ap (numbers_where ends) w.1 ∙ where_without ends (listed s ps) c i.rising);
            few = let a = i.few in let b = length_without (listed s ps) c in let q = ap length w.1 in omega arith;
            slots = let a = i.slots in omega arith;
            room = ending_room ∙ i.room ∙ sym due_room;
          },
          w.1,
        )

  -- a connection was added
  pub index_added : {t : Slab Connection} {qs : List (ℕ × ℕ)} (c k : ℕ) (y : Connection) → get s k ≡ None → Updates s t k (Some y) → slab_len t ≡ slab_len s + 1 → t.capacity ≡ s.capacity → qs ≡ insert_entry nat_cmp ps c k
      → ((n : ℕ) → has_entry (entries_of (listed s ps)) n ≡ true → n < c) → length (listed s ps) < d.room → y.socket.conn ≡ c → is_due y ≡ false → ends y ≡ false
      → IsIndexed t qs d e × (listed t qs ≡ listed s ps ++ y ∷ [])
  index_added {t} {qs} c k y vacant change len capacity is above room own no_due no_end =
      let none : has_entry (entries_of (listed s ps)) c ≡ false = by_cases (has_entry (entries_of (listed s ps)) c) (λ there. absurd (let l = above c there in omega arith)) (λ away. away) in
      let o = others s t c k (Some y) change (λ x q. absurd (let z : None ≡ Some x = sym vacant ∙ q in cc)) ps i.stored none in
      let now : stored_at t k ≡ y = ap (λ o. unwrap_or o no_connection) change.changed in
      let all : listed t (ps ++ (c, k) ∷ []) ≡ listed s ps ++ y ∷ [] = listed_last t ps c k ∙ ap (λ (xs : List Connection). xs ++ stored_at t k ∷ []) o.1 ∙ ap (λ (x : Connection). listed s ps ++ x ∷ []) now in
      let size = length-append ps ((c, k) ∷ []) in
      subst (λ z. IsIndexed t z d e × (listed t z ≡ listed s ps ++ y ∷ [])) (sym (is ∙ insert_last s ps c k i.stored above)) (
        record {
          stored = stored_last t ps c k o.0 (change.changed ∙ ap Some (sym now), ap (λ (x : Connection). x.socket.conn) now ∙ own);
          count = let a = i.count in omega arith;
          rising = subst (λ xs. AreRising (entries_of xs)) (sym all) (subst AreRising (sym (entries_added (listed s ps) y)) (rising_last (listed s ps) y.socket i.rising (λ n there. let l = above n there in omega arith)));
          due = i.due ∙ sym (ap (numbers_where is_due) all ∙ where_added is_due (listed s ps) y no_due);
          ending = i.ending ∙ sym (ap (numbers_where ends) all ∙ where_added ends (listed s ps) y no_end);
          few = let q = ap length all in let b = length-append (listed s ps) (y ∷ []) in omega arith;
          slots = let a = i.slots in omega arith;
          room = i.room;
        },
        all,
      )
