-- The steps of a net in memory.
use Rattle.std.specs.Prelude.{◌≡◌, ◌≤◌, ◌+◌, ℕ, List, [], ◌∷◌, Option, Some, None, Bool, true, false, nat_lt, slice_get, length, ⊤}
use Rattle.std.specs.List.{list_all}
use Rattle.link_trait.specs.NetState.{NetState}
use Rattle.link_trait.specs.Net.{SameNet, SameTraffic, SameLinks, Nexts}
use Rattle.mem_net.specs.Acts.{arrivals}
use Rattle.mem_net.specs.MemNet.{MemNetState, net_state, AllTold, FollowsSchedule, IsEventAt, IsPassedOver}
use Rattle.link_trait.specs.declared.act.Act.{Act}
use Rattle.link_trait.specs.declared.act.Act.TheVariants as act
use Rattle.link_trait.specs.declared.net.NetEvent.{NetEvent}
use Rattle.link_trait.specs.declared.net.NetEvent.TheVariants as event
use Rattle.mem_net.specs.declared.mem_link.Change.{Change}
use Rattle.mem_net.specs.declared.mem_link.Change.TheVariants as change
use Rattle.mem_net.specs.declared.mem_link.Finish.{Finish}
use Rattle.mem_net.specs.declared.mem_link.Finish.TheVariants as finish

-- each number is below those after it
abbrev pub Rises : List ℕ → Type 0
Rises [] = ⊤
Rises (number ∷ numbers) = (list_all (nat_lt number) numbers ≡ true) × Rises numbers

-- this act sends count octets to conn
abbrev pub IsSending : ℕ → ℕ → Act → Type 0
IsSending conn count (act.Octets other octets) = (other.0 ≡ conn) × (length octets ≡ count)
IsSending conn count _ = ⊥

-- the act at a place does so
abbrev pub SendsAt : ℕ → ℕ → List Act → ℕ → Type 0
SendsAt conn count acts place = (act : Act) × (slice_get acts place ≡ Some act) × IsSending conn count act

-- this act ends the octets of conn so
abbrev pub IsFinishing : ℕ → Finish → Act → Type 0
IsFinishing conn end (act.End other) = (other.0 ≡ conn) × (end ≡ finish.End)
IsFinishing conn end (act.ReadFails other) = (other.0 ≡ conn) × (end ≡ finish.Failed)
IsFinishing conn end _ = ⊥

-- the act at a place does so
abbrev pub FinishesAt : ℕ → Finish → List Act → ℕ → Type 0
FinishesAt conn end acts place = (act : Act) × (slice_get acts place ≡ Some act) × IsFinishing conn end act

-- this act changes what the link of conn takes so
abbrev pub IsChanging : ℕ → Change → Act → Type 0
IsChanging conn what (act.Room other more) = (other.0 ≡ conn) × (what ≡ change.Gains more)
IsChanging conn what (act.WriteFails other) = (other.0 ≡ conn) × (what ≡ change.Fails)
IsChanging conn what _ = ⊥

-- the act at a place does so
abbrev pub ChangesAt : ℕ → Change → List Act → ℕ → Type 0
ChangesAt conn what acts place = (act : Act) × (slice_get acts place ≡ Some act) × IsChanging conn what act

-- acts that are passed over leave the net as it was, but for the acts that are left
pub record Skips (old new : NetState) : Type 0 where
  pub net : SameNet old new
  pub traffic : SameTraffic old new
  pub passed : new.passed ≡ old.passed
  pub links : SameLinks old new
  pub room : new.room ≤ old.room
  pub port : new.port ≡ old.port
  pub faults : new.faults ≡ old.faults

-- an act was done: it told this event, or none
abbrev pub DoesEvent : Option NetEvent → NetState → NetState → Type 0
DoesEvent None old new = Skips old new
DoesEvent (Some event) old new = Nexts event old new

-- the act that comes next is told by this event, or passed over where it told none
abbrev pub TellsAct : Option NetEvent → MemNetState → Type 0
TellsAct None net = IsPassedOver net net.done
TellsAct (Some event) net = IsEventAt event net.acts net.done

-- nothing comes after these answers
abbrev pub is_last : NetEvent → Bool
is_last event.Stop = true
is_last event.Failed = true
is_last _ = false

abbrev pub GoesOn : Option NetEvent → Type 0
GoesOn None = ⊤
GoesOn (Some event) = is_last event ≡ false

pub record Does (result : Option NetEvent) (old new : MemNetState) : Type 0 where
  pub event : DoesEvent result (net_state old) (net_state new)
  pub goes_on : GoesOn result
  pub tells : TellsAct result old
  pub acts : new.acts ≡ old.acts
  pub one_more : new.done ≡ old.done + 1
  pub whole : new.whole ≡ old.whole
  pub told : AllTold new

-- Readable was told again, and no act was done
pub record Repeats (event : NetEvent) (old new : MemNetState) : Type 0 where
  pub next : Nexts event (net_state old) (net_state new)
  pub goes_on : is_last event ≡ false
  pub acts : new.acts ≡ old.acts
  pub done : new.done ≡ old.done
  pub whole : new.whole ≡ old.whole

-- what it keeps beside its state: the numbers of the links, and whether a read may have left something that is not told
pub record Keeps (numbers : List ℕ) (unread : Bool) (net : MemNetState) : Type 0 where
  pub follows : FollowsSchedule net
  pub numbers_are : numbers ≡ arrivals net.acts
  pub read : unread ≡ false → AllTold net
