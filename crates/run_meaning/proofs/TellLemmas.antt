-- What stands to be told after more notes.
use Rattle.run_meaning.proofs.Below.{◌≡◌, ℕ, List, [], ◌∷◌, ◌++◌, refl, NoteValue, Tell, tell_by, tell_by_all}

pub all_then : (c : ℕ) (xs ys : List NoteValue) (t : Tell) → tell_by_all c (xs ++ ys) t ≡ tell_by_all c ys (tell_by_all c xs t)
all_then c [] ys t = refl
all_then c (x ∷ xs) ys t = all_then c xs ys (tell_by c x t)
