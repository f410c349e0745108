-- What a call of a hub leaves of the net, by the notes that it makes.
use Rattle.std.specs.Prelude.{◌≡◌, ◌≤◌, ◌⊎◌, ◌+◌, ◌^◌, ◌-◌, ℕ, List, ◌++◌, true, false, not, ◌&&◌, ◌||◌, length}
use Rattle.ws_kinds.specs.declared.note.Left.TheVariants.{LinkFailed}
use Rattle.ws_kinds.specs.NoteValue.{NoteValue}
use Rattle.link_trait.specs.Net.{Same, SameNet}
use Rattle.link_trait.specs.NetState.{NetState}
use Rattle.run_meaning.specs.Counts.{writes, taken, number_of, is_gone_in, is_gone_by_in}
use Rattle.run_meaning.specs.Performs.{is_link_failure}

-- where the net tells: the links took what the notes say, and nothing was read
pub record TrafficAfter (notes : List NoteValue) (old new : NetState) : Type 0 where
  pub wrote : (conn : ℕ) → new.wrote conn ≡ old.wrote conn ++ writes conn notes
  pub taken : (conn : ℕ) → length (new.taken conn) ≡ length (old.taken conn) + taken conn notes
  pub given : Same old.given new.given
  pub ended : Same old.ended new.ended
  pub passed : new.passed ≡ old.passed
  pub rested : new.rested ≡ old.rested

-- a link is live no more where its connection is gone; nothing was read, and `next` was not asked
pub record NetAfter (notes : List NoteValue) (old new : NetState) : Type 0 where
  pub net : SameNet old new
  pub told : old.tells ≡ true → TrafficAfter notes old new
  pub live : (conn : ℕ) → new.live conn ≡ (old.live conn && not (is_gone_in conn notes))
  pub due : (conn : ℕ) → is_gone_in conn notes ≡ false → new.due conn ≡ old.due conn
  pub named : new.named ≡ old.named
  pub port : new.port ≡ old.port
  pub room : new.room ≤ old.room

-- The count of faults did not fall, and it rose at least by so many, unless it stands at its end.
pub record RoseBy (count old new : ℕ) : Type 0 where
  pub least : old ≤ new
  pub each : (old + count ≤ new) ⊎ (2 ^ 64 - 1 ≤ new)

-- writes of links failed exactly as the notes say: a connection is gone since its link failed where a write of it did
pub record FailsAfter (notes : List NoteValue) (old new : NetState) : Type 0 where
  pub broken : old.tells ≡ true → (conn : ℕ) → new.broken conn ≡ (old.broken conn || is_gone_by_in conn LinkFailed notes)
  pub faults : RoseBy (number_of is_link_failure notes) old.faults new.faults
