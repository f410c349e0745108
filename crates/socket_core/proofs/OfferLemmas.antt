-- What is noted of octets that are offered, and what a link took of a connection whose write failed.
use Rattle.socket_core.proofs.Below.{◌≡◌, ◌+◌, ℕ, List, [], ◌∷◌, ◌++◌, Option, Some, None, Bool, true, ◌&&◌, cond, nat_eq, length, take, refl, sym, ap, ◌∙◌, arith, nat_tests, length-append, length-take-le, list_all, NoteValue, IsNoted, AreNoted, NetState, Writes, Item, writes, taken, taken_of, Held, Stands, IsCounted, held_octets, taken_failed, is_sending, TakesFront, OffersNoted, Clear, same_number}
use Rattle.ws_kinds.specs.NoteValue as note
use Rattle.link_trait.specs.declared.net.NetWrote.TheVariants as wrote

pub one_noted : (t t' : Option (List NoteValue)) (n : NoteValue) → IsNoted t n t' → AreNoted t (n ∷ []) t'
one_noted (Some old) (Some new) n h = h
one_noted None (Some new) n h = absurd h
one_noted old None n h = tt {0}

pub own_took : (c o m : ℕ) → list_all (is_sending c) (note.took c o m ∷ []) ≡ true
own_took c o m = ap (λ (z : Bool). z && true) (same_number c)

pub writes_took : (c o m : ℕ) → writes c (note.took c o m ∷ []) ≡ (o, m) ∷ []
writes_took c o m = ap (λ (z : Bool). cond z ((o, m) ∷ []) [] ++ []) (same_number c)

pub taken_took : (c o m : ℕ) → taken c (note.took c o m ∷ []) ≡ m
taken_took c o m = grind (arith, nat_tests)

pub offers_took : (c m : ℕ) (octets : List ℕ) (on nn : NetState) (t t' : Option (List NoteValue)) → Writes c octets (wrote.Took m) on nn → IsNoted t (note.took c (length octets) m) t' → OffersNoted Clear c on nn t t'
offers_took c m octets on nn t t' w told = record {
  notes = note.took c (length octets) m ∷ [];
  own = own_took c (length octets) m;
  dropped = refl;
  told = one_noted t t' (note.took c (length octets) m) told;
  wrote = λ tells. (w.told tells).wrote ∙ ap (λ (z : List (ℕ × ℕ)). on.wrote c ++ z) (sym (writes_took c (length octets) m));
  taken = λ tells. ap length (w.told tells).taken ∙ length-append (on.taken c) (take m octets)
      ∙ ap (λ (z : ℕ). length (on.taken c) + z) (length-take-le m octets w.within ∙ sym (taken_took c (length octets) m));
}

-- the write failed, and what stood for the connection stands before it
pub front_failed : (c : ℕ) (octets : List ℕ) (held : Held) (on nn : NetState) (t : Option (List NoteValue)) (items : List Item) → Writes c octets wrote.Failed on nn → IsCounted held.numbered
    → Stands c held (taken_of on c) t items → TakesFront c items nn t
front_failed c octets held on nn t items w few s = record {
  where_told = λ xs ex ns en. (held_octets held, (s.where_told xs (sym (taken_failed c octets on nn w) ∙ ex) ns en few).spelling);
}
