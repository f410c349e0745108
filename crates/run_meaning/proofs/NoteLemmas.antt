-- Notes of what became of octets that were to be sent, and lists of them.
use Rattle.run_meaning.proofs.Below.{◌≡◌, ℕ, List, [], ◌∷◌, ◌++◌, Option, Some, None, Bool, true, false, cond, ◌&&◌, ◌||◌, nat_eq, refl, sym, ap, ◌∙◌, append-nil, arith, nat_tests, list_any, list_all, Why, NoteValue, is_event, is_unserved, is_naming, is_refused, named, named_by, Step, by_note, by_order, notes_of, of_notes, is_outgoing, clash, and_left, and_right, or_left, or_right}
use Rattle.ws_kinds.specs.NoteValue as note
use Rattle.run_meaning.proofs.Parts.{list_any-append, list_all-append}
use Rattle.run_meaning.proofs.Serving.{is_within}
use Rattle.run_meaning.proofs.Ordering.{named_by-not as one_unnamed}

-- ---- tests of notes

pub all_follow : (p q : NoteValue → Bool) → ((n : NoteValue) → p n ≡ true → q n ≡ true) → (ns : List NoteValue) → list_all p ns ≡ true → list_all q ns ≡ true
all_follow p q one [] e = refl
all_follow p q one (n ∷ ns) e =
    ap (λ (z : Bool). z && list_all q ns) (one n (and_left (p n) (list_all p ns) e)) ∙ all_follow p q one ns (and_right (p n) (list_all p ns) e)

pub none_follow : (p q : NoteValue → Bool) → ((n : NoteValue) → p n ≡ true → q n ≡ false) → (ns : List NoteValue) → list_all p ns ≡ true → list_any q ns ≡ false
none_follow p q one [] e = refl
none_follow p q one (n ∷ ns) e =
    ap (λ (z : Bool). z || list_any q ns) (one n (and_left (p n) (list_all p ns) e)) ∙ none_follow p q one ns (and_right (p n) (list_all p ns) e)

pub all_then : (p : NoteValue → Bool) (xs ys : List NoteValue) → list_all p xs ≡ true → list_all p ys ≡ true → list_all p (xs ++ ys) ≡ true
all_then p xs ys e h = list_all-append p xs ys ∙ ap (λ (z : Bool). z && list_all p ys) e ∙ h

pub none_then : (p : NoteValue → Bool) (xs ys : List NoteValue) → list_any p xs ≡ false → list_any p ys ≡ false → list_any p (xs ++ ys) ≡ false
none_then p xs ys e h = list_any-append p xs ys ∙ ap (λ (z : Bool). z || list_any p ys) e ∙ h

pub one_within : (n : NoteValue) → is_outgoing n ≡ true → is_within n ≡ true
one_within (note.took c o t) e = refl
one_within (note.dropped c i h) e = refl
one_within (note.gone c left) e = refl
one_within _ e = clash false refl e

one_no_event : (n : NoteValue) → is_within n ≡ true → is_event n ≡ false
one_no_event (note.opened c route param) e = clash false refl e
one_no_event (note.message c kind body) e = clash false refl e
one_no_event (note.told c dropped drained) e = clash false refl e
one_no_event (note.closed c code reason) e = clash false refl e
one_no_event _ e = refl

one_no_order : (n : NoteValue) → is_outgoing n ≡ true → is_unserved n ≡ false
one_no_order (note.unserved c i y) e = clash false refl e
one_no_order _ e = refl

one_no_name : (c i : ℕ) (n : NoteValue) → is_outgoing n ≡ true → is_naming c i n ≡ false
one_no_name c i (note.unserved d j y) e = clash false refl e
one_no_name c i _ e = refl

pub outgoing_within : (ns : List NoteValue) → list_all is_outgoing ns ≡ true → list_all is_within ns ≡ true
outgoing_within ns e = all_follow is_outgoing is_within one_within ns e

pub within_no_event : (ns : List NoteValue) → list_all is_within ns ≡ true → list_any is_event ns ≡ false
within_no_event ns e = none_follow is_within is_event one_no_event ns e

pub outgoing_no_order : (ns : List NoteValue) → list_all is_outgoing ns ≡ true → list_any is_unserved ns ≡ false
outgoing_no_order ns e = none_follow is_outgoing is_unserved one_no_order ns e

pub outgoing_no_name : (c i : ℕ) (ns : List NoteValue) → list_all is_outgoing ns ≡ true → is_refused ns c i ≡ false
outgoing_no_name c i ns e = none_follow is_outgoing (is_naming c i) (one_no_name c i) ns e

-- ---- the notes among steps

pub notes_of-append : (xs ys : List Step) → notes_of (xs ++ ys) ≡ notes_of xs ++ notes_of ys
notes_of-append [] ys = refl
notes_of-append (by_note n ∷ xs) ys = ap (λ (z : List NoteValue). n ∷ z) (notes_of-append xs ys)
notes_of-append (by_order c o ∷ xs) ys = notes_of-append xs ys

pub notes_of-notes : (ns : List NoteValue) → notes_of (of_notes ns) ≡ ns
notes_of-notes [] = refl
notes_of-notes (n ∷ ns) = ap (λ (z : List NoteValue). n ∷ z) (notes_of-notes ns)

-- ---- the reason that notes give

pub refused_then : (xs ys : List NoteValue) (c i : ℕ) → is_refused xs c i ≡ false → is_refused (xs ++ ys) c i ≡ is_refused ys c i
refused_then xs ys c i e = list_any-append (is_naming c i) xs ys ∙ ap (λ (z : Bool). z || is_refused ys c i) e

pub refused_before : (xs ys : List NoteValue) (c i : ℕ) → is_refused ys c i ≡ false → is_refused (xs ++ ys) c i ≡ is_refused xs c i
refused_before xs ys c i e = list_any-append (is_naming c i) xs ys ∙ ap (λ (z : Bool). is_refused xs c i || z) e ∙ or_false (is_refused xs c i)
  where
    or_false : (b : Bool) → (b || false) ≡ b
    or_false true = refl
    or_false false = refl

pub named_then : (xs ys : List NoteValue) (c i : ℕ) → is_refused xs c i ≡ false → named c i (xs ++ ys) ≡ named c i ys
named_then [] ys c i e = refl
named_then (x ∷ xs) ys c i e =
    ap (named_by c i x) (named_then xs ys c i (or_right (is_naming c i x) (is_refused xs c i) e))
    ∙ one_unnamed c i x (named c i ys) (or_left (is_naming c i x) (is_refused xs c i) e)

pub named_none : (ns : List NoteValue) (c i : ℕ) → is_refused ns c i ≡ false → named c i ns ≡ None
named_none ns c i e = ap (named c i) (sym (append-nil ns)) ∙ named_then ns [] c i e

pub names_itself : (c i : ℕ) (y : Why) (ns : List NoteValue) → named c i (note.unserved c i y ∷ ns) ≡ Some y
names_itself c i y ns = one (named c i ns)
  where
    one : (later : Option Why) → cond (nat_eq c c && nat_eq i i) (Some y) later ≡ Some y
    one later = grind (arith, nat_tests)

pub names_now : (c i : ℕ) (y : Why) (ns : List NoteValue) → is_refused (note.unserved c i y ∷ ns) c i ≡ true
names_now c i y ns = one (is_refused ns c i)
  where
    one : (b : Bool) → ((nat_eq c c && nat_eq i i) || b) ≡ true
    one b = grind (arith, nat_tests)
