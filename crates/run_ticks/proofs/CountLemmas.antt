-- For how long a connection is quiet after more notes.
use Rattle.run_ticks.proofs.Below.{◌≡◌, ℕ, List, [], ◌∷◌, ◌++◌, Bool, true, refl, sym, ap, ◌∙◌, append-nil, append_assoc, list_all, NoteValue, phase, and_left, and_right, clash, QuietCount, new_count, count_by, count_from, quiet, is_leaving, is_uncounted}
use Rattle.ws_kinds.specs.NoteValue as note
use Rattle.run_meaning.specs.Server as run

uncounted : (c : ℕ) (n : NoteValue) (leaves : Bool) (q : QuietCount) → is_uncounted n ≡ true → count_by c n leaves q ≡ q
uncounted c note.tick leaves q e = clash (is_uncounted note.tick) refl e
uncounted c (note.accepted d) leaves q e = clash (is_uncounted (note.accepted d)) refl e
uncounted c (note.given d k) leaves q e = clash (is_uncounted (note.given d k)) refl e
uncounted c _ leaves q e = refl

module _ {S : Type 0} (r : run.Server S) where
  from_then : (c : ℕ) (before : List NoteValue) (q : QuietCount) (xs ys : List NoteValue) → count_from r c before q (xs ++ ys) ≡ count_from r c (before ++ xs) (count_from r c before q xs) ys
  from_then c before q [] ys = ap (λ (z : List NoteValue). count_from r c z q ys) (sym (append-nil before))
  from_then c before q (x ∷ xs) ys =
      from_then c (before ++ x ∷ []) (count_by c x (is_leaving (phase r before c)) q) xs ys
      ∙ ap (λ (z : List NoteValue). count_from r c z (count_from r c (before ++ x ∷ []) (count_by c x (is_leaving (phase r before c)) q) xs) ys) (append_assoc before (x ∷ []) xs)

  quiet_more : (ns ms : List NoteValue) (c : ℕ) → quiet r (ns ++ ms) c ≡ count_from r c ns (quiet r ns c) ms
  quiet_more ns ms c = from_then c [] new_count ns ms

  pub quiet_one : (ns : List NoteValue) (n : NoteValue) (c : ℕ) → quiet r (ns ++ n ∷ []) c ≡ count_by c n (is_leaving (phase r ns c)) (quiet r ns c)
  quiet_one ns n c = quiet_more ns (n ∷ []) c

  from_still : (c : ℕ) (before : List NoteValue) (q : QuietCount) (ms : List NoteValue) → list_all is_uncounted ms ≡ true → count_from r c before q ms ≡ q
  from_still c before q [] e = refl
  from_still c before q (m ∷ ms) e =
      ap (λ (z : QuietCount). count_from r c (before ++ m ∷ []) z ms) (uncounted c m (is_leaving (phase r before c)) q (and_left (is_uncounted m) (list_all is_uncounted ms) e))
      ∙ from_still c (before ++ m ∷ []) q ms (and_right (is_uncounted m) (list_all is_uncounted ms) e)

  pub quiet_still : (ns ms : List NoteValue) (c : ℕ) → list_all is_uncounted ms ≡ true → quiet r (ns ++ ms) c ≡ quiet r ns c
  quiet_still ns ms c e = quiet_more ns ms c ∙ from_still c ns (quiet r ns c) ms e
