-- What stands to be told is what is read from the last note back.
use Rattle.run_told.proofs.Below.{◌≡◌, ◌+◌, ◌-◌, ◌^◌, min, ℕ, List, [], ◌∷◌, ◌++◌, Bool, true, false, cond, not, ◌&&◌, ◌||◌, refl, sym, ap, ◌∙◌, nat_eq, nat_lt, arith, or-true, nat_tests, NoteValue, or_false, Server, Tell, nothing_told, marked, one_dropped, at_turn, held_after, tell_noted, tell_from, tell, Trace, traced, drops_back, is_empty_back, was_held_from, was_held_back, trace, trace_from, turn_with, drop, mark}
use Rattle.ws_kinds.specs.NoteValue as note

-- ---- the other two of the five

-- octets were held as the last turn ended
full_back : List Trace → Bool
full_back [] = false
full_back (turn_with held ∷ r) = nat_lt 0 held
full_back (first ∷ r) = full_back r

-- an item was dropped since
fresh_back : List Trace → Bool
fresh_back [] = false
fresh_back (turn_with held ∷ r) = false
fresh_back (drop ∷ r) = true
fresh_back (mark ∷ r) = fresh_back r

or_comm : (a b : Bool) → (a || b) ≡ (b || a)
or_comm true b = sym (or-true b)
or_comm false b = or_false b

-- behind the mark
held_behind : (r : List Trace) → was_held_back true r ≡ full_back r
unfolding full_back
held_behind [] = refl
held_behind (turn_with h ∷ r) = refl
held_behind (drop ∷ r) = held_behind r
held_behind (mark ∷ r) = held_behind r

from_behind : (r : List Trace) → was_held_from true r ≡ (full_back r || fresh_back r)
unfolding full_back fresh_back
from_behind [] = refl
from_behind (turn_with h ∷ r) = or_false (nat_lt 0 h)
from_behind (drop ∷ r) = sym (or-true (full_back r))
from_behind (mark ∷ r) = from_behind r

-- where a turn ends now
from_now : (r : List Trace) → was_held_from false r ≡ (was_held_back false r || fresh_back r)
unfolding fresh_back
from_now [] = refl
from_now (turn_with h ∷ r) = or_false (nat_lt 0 h || was_held_from false r)
from_now (drop ∷ r) = sym (or-true (was_held_back false r))
from_now (mark ∷ r) = from_behind r ∙ ap (λ (b : Bool). b || fresh_back r) (sym (held_behind r))

-- ---- one note

tell_of : List Trace → Tell
tell_of r = record { dropped = min (drops_back r) (2 ^ 64 - 1); drained = is_empty_back r && was_held_back false r; full = full_back r; dirty = was_held_back false r; fresh = fresh_back r }

some_or_none : (h : ℕ) → nat_lt 0 h ≡ not (nat_eq h 0)
some_or_none h = grind (arith, nat_tests)

-- it does not hold nothing and something
never_both : (r : List Trace) → (is_empty_back r && full_back r) ≡ false
unfolding full_back
never_both [] = refl
never_both (turn_with h ∷ r) = ap (λ (b : Bool). nat_eq h 0 && b) (some_or_none h) ∙ one (nat_eq h 0)
  where
    one : (b : Bool) → (b && not b) ≡ false
    one true = refl
    one false = refl
never_both (drop ∷ r) = never_both r
never_both (mark ∷ r) = never_both r

-- where nothing is held, what is held now does not count
drained_at : (h : ℕ) (d : Bool) → (nat_eq h 0 && d) ≡ (nat_eq h 0 && (nat_lt 0 h || d))
drained_at h d = one (nat_eq h 0) ∙ ap (λ (b : Bool). nat_eq h 0 && (b || d)) (sym (some_or_none h))
  where
    one : (b : Bool) → (b && d) ≡ (b && (not b || d))
    one true = refl
    one false = refl

turn_tell : (h : ℕ) (r : List Trace) → at_turn h (tell_of r) ≡ tell_of (turn_with h ∷ r)
unfolding tell_of full_back fresh_back
turn_tell h r =
    let d = was_held_from false r in
    ap (λ (b : Bool). record { dropped = min (drops_back r) (2 ^ 64 - 1); drained = nat_eq h 0 && b; full = nat_lt 0 h; dirty = b || nat_lt 0 h; fresh = false }) (sym (from_now r))
    ∙ ap (λ (b : Bool). record { dropped = min (drops_back r) (2 ^ 64 - 1); drained = b; full = nat_lt 0 h; dirty = d || nat_lt 0 h; fresh = false }) (drained_at h d)
    ∙ ap (λ (b : Bool). record { dropped = min (drops_back r) (2 ^ 64 - 1); drained = nat_eq h 0 && (nat_lt 0 h || d); full = nat_lt 0 h; dirty = b; fresh = false }) (or_comm d (nat_lt 0 h))

mark_tell : (r : List Trace) → marked (tell_of r) ≡ tell_of (mark ∷ r)
unfolding tell_of full_back fresh_back
mark_tell r =
    ap (λ (b : Bool). record { dropped = 0; drained = b; full = full_back r; dirty = full_back r; fresh = fresh_back r }) (sym (never_both r))
    ∙ ap (λ (b : Bool). record { dropped = 0; drained = is_empty_back r && b; full = full_back r; dirty = b; fresh = fresh_back r }) (sym (held_behind r))

least_more : (n last : ℕ) → min (min n last + 1) last ≡ min (n + 1) last
least_more n last = grind (arith, nat_tests)

drop_tell : (r : List Trace) → one_dropped (tell_of r) ≡ tell_of (drop ∷ r)
unfolding tell_of full_back fresh_back
drop_tell r = ap (λ (n : ℕ). record { dropped = n; drained = is_empty_back r && was_held_back false r; full = full_back r; dirty = was_held_back false r; fresh = true }) (least_more (drops_back r) (2 ^ 64 - 1))

none_tell : nothing_told ≡ tell_of []
unfolding tell_of full_back fresh_back
none_tell = refl

-- where it is of this connection
own_tell : (b : Bool) (t : Tell) (r q : List Trace) → t ≡ tell_of q → cond b t (tell_of r) ≡ tell_of (cond b q r)
own_tell true t r q e = e
own_tell false t r q e = refl

-- ---- all notes

module _ {S : Type 0} (s : Server S) where
  one_tell : (c : ℕ) (before : List NoteValue) (n : NoteValue) (r : List Trace) → tell_noted s c before n (tell_of r) ≡ tell_of (traced c (held_after s before c) n r)
  one_tell c before note.turn r = turn_tell (held_after s before c) r
  one_tell c before (note.opened d k p) r = own_tell (nat_eq d c) (marked (tell_of r)) r (mark ∷ r) (mark_tell r)
  one_tell c before (note.told d n b) r = own_tell (nat_eq d c) (marked (tell_of r)) r (mark ∷ r) (mark_tell r)
  one_tell c before (note.dropped d i h) r = own_tell (nat_eq d c) (one_dropped (tell_of r)) r (drop ∷ r) (drop_tell r)
  one_tell c before (note.gone d left) r = own_tell (nat_eq d c) nothing_told r [] none_tell
  one_tell c before _ r = refl

  from_trace : (c : ℕ) (before : List NoteValue) (r : List Trace) (ns : List NoteValue) → tell_from s c before (tell_of r) ns ≡ tell_of (trace_from s c before r ns)
  from_trace c before r [] = refl
  from_trace c before r (n ∷ ns) =
      ap (λ (t : Tell). tell_from s c (before ++ n ∷ []) t ns) (one_tell c before n r)
      ∙ from_trace c (before ++ n ∷ []) (traced c (held_after s before c) n r) ns

  all_trace : (ns : List NoteValue) (c : ℕ) → tell s ns c ≡ tell_of (trace s ns c)
  all_trace ns c = ap (λ (t : Tell). tell_from s c [] t ns) none_tell ∙ from_trace c [] [] ns

  pub read_dropped : (ns : List NoteValue) (c : ℕ) → (tell s ns c).dropped ≡ min (drops_back (trace s ns c)) (2 ^ 64 - 1)
  unfolding tell_of
  read_dropped ns c = ap (λ (t : Tell). t.dropped) (all_trace ns c)

  pub read_drained : (ns : List NoteValue) (c : ℕ) → (tell s ns c).drained ≡ (is_empty_back (trace s ns c) && was_held_back false (trace s ns c))
  unfolding tell_of
  read_drained ns c = ap (λ (t : Tell). t.drained) (all_trace ns c)
