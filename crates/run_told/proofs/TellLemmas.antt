-- What stands to be told after more notes.
use Rattle.run_told.proofs.Below.{◌≡◌, ℕ, List, [], ◌∷◌, ◌++◌, Bool, false, cond, refl, sym, ap, ◌∙◌, append-nil, append_assoc, list_any, NoteValue, or_left, or_right, is_turn, Server, Tell, nothing_told, at_turn, tell_by, tell_by_all, held_after, tell_noted, tell_from, tell}
use Rattle.ws_kinds.specs.NoteValue as note

module _ {S : Type 0} (r : Server S) where
  from_then : (c : ℕ) (before : List NoteValue) (t : Tell) (xs ys : List NoteValue) → tell_from r c before t (xs ++ ys) ≡ tell_from r c (before ++ xs) (tell_from r c before t xs) ys
  from_then c before t [] ys = ap (λ (z : List NoteValue). tell_from r c z t ys) (sym (append-nil before))
  from_then c before t (x ∷ xs) ys =
      from_then c (before ++ x ∷ []) (tell_noted r c before x t) xs ys
      ∙ ap (λ (z : List NoteValue). tell_from r c z (tell_from r c (before ++ x ∷ []) (tell_noted r c before x t) xs) ys) (append_assoc before (x ∷ []) xs)

  tell_more : (ns ms : List NoteValue) (c : ℕ) → tell r (ns ++ ms) c ≡ tell_from r c ns (tell r ns c) ms
  tell_more ns ms c = from_then c [] nothing_told ns ms

  from_within : (c : ℕ) (before : List NoteValue) (t : Tell) (ms : List NoteValue) → list_any is_turn ms ≡ false → tell_from r c before t ms ≡ tell_by_all c ms t
  from_within c before t [] e = refl
  from_within c before t (m ∷ ms) e =
      ap (λ (z : Bool). tell_from r c (before ++ m ∷ []) (cond z (at_turn (held_after r before c) t) (tell_by c m t)) ms) (or_left (is_turn m) (list_any is_turn ms) e)
      ∙ from_within c (before ++ m ∷ []) (tell_by c m t) ms (or_right (is_turn m) (list_any is_turn ms) e)

  pub tell_within : (ns ms : List NoteValue) (c : ℕ) → list_any is_turn ms ≡ false → tell r (ns ++ ms) c ≡ tell_by_all c ms (tell r ns c)
  tell_within ns ms c e = tell_more ns ms c ∙ from_within c ns (tell r ns c) ms e

  pub tell_turn : (ns : List NoteValue) (c : ℕ) → tell r (ns ++ note.turn ∷ []) c ≡ at_turn (held_after r ns c) (tell r ns c)
  tell_turn ns c = tell_more ns (note.turn ∷ []) c
