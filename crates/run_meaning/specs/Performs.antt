-- The orders of an event, served or refused one after another.
use Rattle.std.specs.Prelude.{◌≡◌, ◌+◌, ℕ, List, [], ◌∷◌, ◌++◌, Option, Some, None, Bool, true, false}
use Rattle.std.specs.List.{list_all}
use Rattle.ws_kinds.specs.declared.note.Left.TheVariants.{LinkFailed}
use Rattle.ws_kinds.specs.declared.note.Why.{Why}
use Rattle.ws_kinds.specs.declared.note.Why.TheVariants.{Memory}
use Rattle.ws_kinds.specs.ConfigValue.{ConfigValue}
use Rattle.ws_kinds.specs.NoteValue as note
use Rattle.ws_kinds.specs.NoteValue.{NoteValue}
use Rattle.ws_kinds.specs.OrderValue.{OrderValue}
use Rattle.run_meaning.specs.Notes.{is_left}
use Rattle.run_meaning.specs.Orders.{Standing, why_at, needs_memory}
use Rattle.run_meaning.specs.Steps.{Step, by_note, by_order, of_notes, standings_after}

-- the note says that a connection is gone since its link failed
abbrev pub is_link_failure : NoteValue → Bool
is_link_failure (note.gone conn left) = is_left LinkFailed left
is_link_failure _ = false

-- the note says what became of octets that were to be sent: a link took some, an item was dropped, or a link failed
abbrev pub is_outgoing : NoteValue → Bool
is_outgoing (note.took conn offered took) = true
is_outgoing (note.dropped conn index held) = true
is_outgoing this = is_link_failure this

-- an order may be refused for this reason where the first reason against it is that; for want of memory, where there is
-- none and it needs memory
pub data MayRefuse (first : Option Why) (needs : Bool) (reason : Why) : Type 0 where
  for_reason : first ≡ Some reason → MayRefuse first needs reason
  for_memory : first ≡ None → needs ≡ true → reason ≡ Memory → MayRefuse first needs reason

-- What becomes of one order of connection `from`, where the connections stand so. It is served, and notes say what became
-- of what was sent; or nothing changes, and it is noted that it is not served.
pub data Answers (config : ConfigValue) (admits : List ℕ → Bool) (from number : ℕ) (standing : ℕ → Standing) (order : OrderValue) (steps : List Step) : Type 0 where
  serves : (sending : List NoteValue) → list_all is_outgoing sending ≡ true → why_at config admits from standing order ≡ None
      → steps ≡ by_order from order ∷ of_notes sending → Answers config admits from number standing order steps
  refuses : (reason : Why) → MayRefuse (why_at config admits from standing order) (needs_memory from standing order) reason
      → steps ≡ by_note (note.unserved from number reason) ∷ [] → Answers config admits from number standing order steps

-- These are the steps of orders of connection `from`, of which the first has this number. Each order is answered where the
-- connections stand as the steps before it left them.
abbrev pub Performs : ConfigValue → (List ℕ → Bool) → ℕ → ℕ → (ℕ → Standing) → List OrderValue → List Step → Type 0
Performs config admits from number standing [] steps = steps ≡ []
Performs config admits from number standing (order ∷ rest) steps = (first : List Step) × (more : List Step) × (steps ≡ first ++ more)
    × Answers config admits from number standing order first × Performs config admits from (number + 1) (standings_after first standing) rest more
