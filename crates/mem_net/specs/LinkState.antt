-- What a connection of a net in memory holds.
use Rattle.std.specs.Prelude.{◌≡◌, ◌<◌, ◌+◌, ◌-◌, ◌^◌, ◌++◌, ◌&&◌, ◌||◌, not, ℕ, List, [], ◌∷◌, Option, Some, None, Bool, true, false, nat_lt, nat_le, length, take, drop, min}
use Rattle.std.specs.Option.{option_map}
use Rattle.mem_net.specs.declared.mem_link.Finish.{Finish}
use Rattle.mem_net.specs.declared.mem_link.Finish.TheVariants as finish
use Rattle.mem_net.specs.declared.mem_link.Change.{Change}
use Rattle.mem_net.specs.declared.mem_link.Change.TheVariants as change
use Rattle.link_trait.specs.declared.net.NetRead.{NetRead}
use Rattle.link_trait.specs.declared.net.NetRead.TheVariants as read
use Rattle.link_trait.specs.declared.net.NetWrote.{NetWrote}
use Rattle.link_trait.specs.declared.net.NetWrote.TheVariants as wrote

pub record LinkState : Type 0 where
  -- the octets that reads gave
  pub given : List ℕ
  -- the octets that came and that no read gave yet
  pub waiting : List ℕ
  -- the octets that come later
  pub coming : List ℕ
  -- what a read answers once nothing waits
  pub finish : Finish
  -- a read answered so, and this was the end or a fault
  pub answered : Bool
  -- Accept was told of it, and it was not shut
  pub live : Bool
  -- Readable was told of it, and it was not read since
  pub due : Bool
  -- a read answered End
  pub ended : Bool
  -- a read or a write answered Failed
  pub broken : Bool
  -- how many octets it takes in all, any number where there is none; the count stands still at 2 ^ 64 - 1
  pub credit : Option ℕ
  -- its writes fail by an act
  pub failing : Bool
  -- no write took fewer octets than it was offered, since Accept or Writable was told of it last
  pub writable : Bool
  -- the octets that writes took
  pub taken : List ℕ
  -- for each write that took, the octets offered and the octets taken
  pub writes : List (ℕ × ℕ)

-- a connection that has not come yet, and whose peer sends these octets
abbrev pub new_link : List ℕ → LinkState
new_link octets = record {
  given = [];
  waiting = [];
  coming = octets;
  finish = finish.Later;
  answered = false;
  live = false;
  due = false;
  ended = false;
  broken = false;
  credit = Some 0;
  failing = false;
  writable = true;
  taken = [];
  writes = [];
}

-- a number of octets as a link counts it, which stands still at 2 ^ 64 - 1
abbrev pub counted : Option ℕ → Option ℕ
counted credit = option_map (λ octets. min octets (2 ^ 64 - 1)) credit

-- a credit to which more is added
abbrev pub gained : ℕ → Option ℕ → Option ℕ
gained more credit = option_map (λ octets. min (octets + more) (2 ^ 64 - 1)) credit

-- how many of len octets a link takes that took some before
abbrev pub room_for : ℕ → Option ℕ → ℕ → ℕ
room_for len None taken = len
room_for len (Some credit) taken = min len (credit - taken)

-- the link once its connection arrived
abbrev pub arrives : Option ℕ → LinkState → LinkState
arrives credit link = record link { live = true; credit = counted credit }

-- the link once so many of the octets that are coming have come: Readable is told where it is live
abbrev pub comes : ℕ → LinkState → LinkState
comes count link = record link { waiting = link.waiting ++ take count link.coming; coming = drop count link.coming; due = link.due || link.live }

-- the link once its octets finish so: Readable is told where it is live
abbrev pub finishes : Finish → LinkState → LinkState
finishes finish link = record link { finish = finish; due = link.due || link.live }

abbrev pub is_finish : Finish → Bool
is_finish finish.Later = false
is_finish finish.End = true
is_finish finish.Failed = true

-- octets wait, or the end or a fault that no read has answered yet
abbrev pub is_ready : LinkState → Bool
is_ready link = nat_lt 0 (length link.waiting) || (not link.answered && is_finish link.finish)

-- the credit and the failing of a link once an act changed what it takes
abbrev pub credit_changed : Change → Option ℕ → Option ℕ
credit_changed (change.Gains more) credit = gained more credit
credit_changed change.Fails credit = credit

abbrev pub failing_changed : Change → Bool → Bool
failing_changed (change.Gains more) failing = failing
failing_changed change.Fails failing = true

-- the link once an act changed what it takes: Writable is told where it is live
abbrev pub changes : Change → LinkState → LinkState
changes what link = record link { credit = credit_changed what link.credit; failing = failing_changed what link.failing; writable = link.writable || link.live }

-- the link once it is shut
abbrev pub shuts : LinkState → LinkState
shuts link = record link { live = false }

-- the link once Readable is told of it
abbrev pub tells : LinkState → LinkState
tells link = record link { due = true }

-- Readable is to be told of it
abbrev pub is_untold : LinkState → Bool
is_untold link = link.live && is_ready link && not link.due

-- octets that wait are given first, then what it finishes with is answered
abbrev pub LinkReads : List ℕ → NetRead → LinkState → LinkState → Type 0
LinkReads room (read.Octets n) old new = (0 < length old.waiting) × (n ≡ min (length room) (length old.waiting)) × (take n room ≡ take n old.waiting)
    × (new ≡ record old { given = old.given ++ take n old.waiting; waiting = drop n old.waiting; due = false })
LinkReads room read.Later old new = (old.waiting ≡ []) × (old.finish ≡ finish.Later) × (new ≡ record old { due = false })
LinkReads room read.End old new = (old.waiting ≡ []) × (old.finish ≡ finish.End) × (new ≡ record old { due = false; answered = true; ended = true })
LinkReads room read.Failed old new = (old.waiting ≡ []) × (old.finish ≡ finish.Failed) × (new ≡ record old { due = false; answered = true; broken = true })

-- the front of the octets is taken, as many as the credit leaves room for, but none where writes fail by an act
abbrev pub LinkWrites : List ℕ → NetWrote → LinkState → LinkState → Type 0
LinkWrites octets (wrote.Took n) old new = (old.failing ≡ false) × (n ≡ room_for (length octets) old.credit (length old.taken))
    × (new ≡ record old { writable = old.writable && nat_le (length octets) n; taken = old.taken ++ take n octets; writes = old.writes ++ (length octets, n) ∷ [] })
LinkWrites octets wrote.Failed old new = new ≡ record old { broken = true }

-- the faults that an answer counts
abbrev pub faults_in_answer : NetRead → ℕ
faults_in_answer (read.Octets n) = 0
faults_in_answer read.End = 0
faults_in_answer read.Later = 0
faults_in_answer read.Failed = 1
