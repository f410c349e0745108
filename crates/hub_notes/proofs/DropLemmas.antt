-- What was dropped of a connection and what its link took, by the words of a hub's lines and by those of a run; and where nothing
-- more was dropped.
use Rattle.hub_notes.proofs.Below.{◌≡◌, ◌+◌, ◌++◌, ◌∷◌, ◌&&◌, ◌||◌, ℕ, List, [], Option, Some, None, Bool, true, false, cond, nat_eq, nat_lt, length, refl, sym, ap, ◌∙◌, subst, append-nil, append_assoc, arith, nat_tests, NoteValue, NetState, Item, list_all, has_number, has_number-append, taken-append, and_left, and_right, silent_drops, taken_of, is_dropped, Server, numbered_at, IsCounted, AreFairNotes, FairFor, DropsFairly, SameDrops, dropped_append, fairs_undropped, fairs_longer, or_false, taken_some, dropped_by, ends_short, only_if, total, drops, is_silent, short_after, short_from, took_by, took_sum}
use Rattle.ws_kinds.specs.NoteValue as note
use Rattle.run_meaning.specs.Counts as counts

-- ---- by the words of a run

turned : (c d : ℕ) → nat_eq c d ≡ nat_eq d c
turned c d = grind (arith, nat_tests)

names_if : (i j : ℕ) (b : Bool) → (b && nat_eq i j) ≡ has_number i (only_if b j)
names_if i j true = or_false (nat_eq i j)
names_if i j false = refl

names_one : (c i : ℕ) (n : NoteValue) → drops c i n ≡ has_number i (dropped_by c n)
names_one c i (note.dropped d j held) = ap (λ (z : Bool). z && nat_eq i j) (turned c d) ∙ names_if i j (nat_eq d c)
names_one c i _ = refl

-- an item was dropped where its index is among those that the notes name
pub dropped_named : (c i : ℕ) (ns : List NoteValue) → is_dropped c ns i ≡ has_number i (counts.drops c ns)
dropped_named c i [] = refl
dropped_named c i (n ∷ ns) =
    ap (λ (z : Bool). z || is_dropped c ns i) (names_one c i n) ∙ ap (λ (z : Bool). has_number i (dropped_by c n) || z) (dropped_named c i ns)
    ∙ sym (has_number-append i (dropped_by c n) (counts.drops c ns))

none_named : (i : ℕ) (ds : List ℕ) → length ds ≡ 0 → has_number i ds ≡ false
none_named i [] e = refl
none_named i (d ∷ ds) e = absurd (omega arith)

pub undropped : (c : ℕ) (ns : List NoteValue) → length (counts.drops c ns) ≡ 0 → (i : ℕ) → is_dropped c ns i ≡ false
undropped c ns none i = dropped_named c i ns ∙ none_named i (counts.drops c ns) none

-- the octets that its link took, by both
took_if : (b : Bool) (t : ℕ) → cond b t 0 ≡ total (only_if b t ++ [])
took_if true t = omega arith
took_if false t = refl

one_took : (c : ℕ) (n : NoteValue) → took_by c n ≡ counts.taken c (n ∷ [])
one_took c (note.took d o t) = ap (λ (z : Bool). cond z t 0) (turned c d) ∙ took_if (nat_eq d c) t
one_took c _ = refl

pub took_named : (c : ℕ) (ns : List NoteValue) → took_sum c ns ≡ counts.taken c ns
took_named c [] = refl
took_named c (n ∷ ns) = ap (λ (z : ℕ). z + took_sum c ns) (one_took c n) ∙ ap (λ (z : ℕ). counts.taken c (n ∷ []) + z) (took_named c ns) ∙ sym (taken-append c (n ∷ []) ns)

-- whether its last write took less than it was offered, by both
ends_then : (s : Bool) (xs ys : List (ℕ × ℕ)) → ends_short s (xs ++ ys) ≡ ends_short (ends_short s xs) ys
ends_then s [] ys = refl
ends_then s (w ∷ xs) ys = ends_then (nat_lt w.1 w.0) xs ys

short_if : (b s : Bool) (o t : ℕ) → cond b (nat_lt t o) s ≡ ends_short s (only_if b (o, t))
short_if true s o t = refl
short_if false s o t = refl

one_short : (c : ℕ) (s : Bool) (n : NoteValue) → short_after c s n ≡ ends_short s (counts.took_by c n)
one_short c s (note.took d o t) = ap (λ (z : Bool). cond z (nat_lt t o) s) (turned c d) ∙ short_if (nat_eq d c) s o t
one_short c s _ = refl

pub short_named : (c : ℕ) (s : Bool) (ns : List NoteValue) → short_from c s ns ≡ ends_short s (counts.writes c ns)
short_named c s [] = refl
short_named c s (n ∷ ns) =
    ap (λ (z : Bool). short_from c z ns) (one_short c s n) ∙ short_named c (ends_short s (counts.took_by c n)) ns ∙ sym (ends_then s (counts.took_by c n) (counts.writes c ns))

-- ---- no further drop

pub silent_undropped : (c : ℕ) (ns : List NoteValue) → list_all (is_silent c) ns ≡ true → (i : ℕ) → is_dropped c ns i ≡ false
silent_undropped c [] e i = refl
silent_undropped c (n ∷ ns) e i =
    ap (λ (z : Bool). z || is_dropped c ns i) (silent_drops c i n (and_left (is_silent c n) (list_all (is_silent c) ns) e))
    ∙ silent_undropped c ns (and_right (is_silent c n) (list_all (is_silent c) ns) e) i

pub drops_still : (c : ℕ) (t : Option (List NoteValue)) → SameDrops c t t
drops_still c t notes e = (notes, [], e, sym (append-nil notes), λ i. refl)

pub drops_then : (c : ℕ) (t0 t1 t2 : Option (List NoteValue)) → SameDrops c t0 t1 → SameDrops c t1 t2 → SameDrops c t0 t2
drops_then c t0 t1 t2 x y notes e =
    let q = y notes e in
    let p = x q.0 q.2 in (
      p.0,
      p.1 ++ q.1,
      p.2,
      q.3 ∙ ap (λ (z : List NoteValue). z ++ q.1) p.3 ∙ append_assoc p.0 p.1 q.1,
      λ i. dropped_append c i p.1 q.1 ∙ ap (λ (z : Bool). z || is_dropped c q.1 i) (p.4 i) ∙ q.4 i,
    )

-- what was dropped is what was dropped before
pub drops_as : (c : ℕ) (before made notes : List NoteValue) → notes ≡ before ++ made → ((i : ℕ) → is_dropped c made i ≡ false) → (i : ℕ) → is_dropped c notes i ≡ is_dropped c before i
drops_as c before made notes e none i =
    ap (λ (z : List NoteValue). is_dropped c z i) e ∙ dropped_append c i before made ∙ ap (λ (z : Bool). is_dropped c before i || z) (none i) ∙ sym (or_false (is_dropped c before i))

-- ---- what was dropped fairly

-- of a connection that is present
pub fairly_now : (c : ℕ) (s : Server) (items : List Item) → IsCounted (numbered_at s.hub c) → FairFor c s items → DropsFairly c s.hub.config.limit items s.net s.told
fairly_now c s items few fair = record { where_told = λ octets eo notes en. (fair.drops.where_told octets eo notes en few).drops }

-- it was so as long as none is dropped any more
pub fairly_later : (c l : ℕ) (items : List Item) (n n' : NetState) (t t' : Option (List NoteValue)) → n'.tells ≡ n.tells → SameDrops c t t' → DropsFairly c l items n t → DropsFairly c l items n' t'
fairly_later c l items n n' t t' tells drops x = record {
  where_told = λ octets eo notes en.
      let q = drops notes en in
      let says : taken_of n c ≡ Some (n.taken c) = ap (λ (z : Bool). cond z (Some (n.taken c)) None) (sym tells ∙ (taken_some n'.tells (n'.taken c) octets eo).0) in
      subst (λ (z : List NoteValue). AreFairNotes c l items [] z) (sym q.3)
      (fairs_undropped c l items q.0 q.1 q.4 (x.where_told (n.taken c) says q.0 q.2));
}

-- and with more items
pub fairly_longer : (c l : ℕ) (items more : List Item) (n : NetState) (t : Option (List NoteValue)) → DropsFairly c l items n t → DropsFairly c l (items ++ more) n t
fairly_longer c l items more n t x = record { where_told = λ octets eo notes en. fairs_longer c l items more [] notes (x.where_told octets eo notes en) }
