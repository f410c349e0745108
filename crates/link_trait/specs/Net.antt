-- What each call of a net does.
use Rattle.std.specs.Prelude.{◌≡◌, ◌≢◌, ◌<◌, ◌≤◌, ◌^◌, ◌-◌, ℕ, List, [], ◌∷◌, ◌++◌, Some, Bool, true, false, nat_lt, length, take, if◌then◌else◌, ⊤}
use Rattle.link_trait.specs.Link.{Rose}
use Rattle.link_trait.specs.NetState.{NetState}
use Rattle.link_trait.specs.declared.net.NetEvent.{NetEvent}
use Rattle.link_trait.specs.declared.net.NetEvent.TheVariants as event
use Rattle.link_trait.specs.declared.net.NetRead.{NetRead}
use Rattle.link_trait.specs.declared.net.NetRead.TheVariants as read
use Rattle.link_trait.specs.declared.net.NetWrote.{NetWrote}
use Rattle.link_trait.specs.declared.net.NetWrote.TheVariants as wrote
use Rattle.link_trait.specs.declared.net.Listening.{Listening}
use Rattle.link_trait.specs.declared.net.Listening.TheVariants as listening

-- the same for every connection
abbrev pub Same : {A : Type 0} → (ℕ → A) → (ℕ → A) → Type 0
Same old new = (conn : ℕ) → new conn ≡ old conn

-- the same for every other connection
abbrev pub SameBut : {A : Type 0} → ℕ → (ℕ → A) → (ℕ → A) → Type 0
SameBut conn old new = (other : ℕ) → other ≢ conn → new other ≡ old other

-- what passed through the links is as before
pub record SameTraffic (old new : NetState) : Type 0 where
  pub given : Same old.given new.given
  pub taken : Same old.taken new.taken
  pub wrote : Same old.wrote new.wrote
  pub ended : Same old.ended new.ended
  pub broken : Same old.broken new.broken

-- what passed through the other links is as before
pub record SameTrafficBut (conn : ℕ) (old new : NetState) : Type 0 where
  pub given : SameBut conn old.given new.given
  pub taken : SameBut conn old.taken new.taken
  pub wrote : SameBut conn old.wrote new.wrote
  pub ended : SameBut conn old.ended new.ended
  pub broken : SameBut conn old.broken new.broken

-- which connections are live, due and writable is as before
pub record SameLinks (old new : NetState) : Type 0 where
  pub live : Same old.live new.live
  pub named : new.named ≡ old.named
  pub due : Same old.due new.due
  pub writable : Same old.writable new.writable

-- whether it tells, and the schedule that it follows, which no call changes
pub record SameNet (old new : NetState) : Type 0 where
  pub tells : new.tells ≡ old.tells
  pub schedule : new.schedule ≡ old.schedule

-- what it tells is as before
pub record SameTold (old new : NetState) : Type 0 where
  pub traffic : SameTraffic old new
  pub passed : new.passed ≡ old.passed
  pub rested : new.rested ≡ old.rested

-- a fault was counted; the count never falls
abbrev pub CountsFault : ℕ → ℕ → Type 0
CountsFault old new = (old ≤ new) × Rose old new

-- `listen`
abbrev pub ListensAt : ℕ → Listening → NetState → NetState → Type 0
ListensAt port listening.Ready old new = (new.port ≡ Some port) × (old.faults ≤ new.faults)
ListensAt port listening.Failed old new = (new.port ≡ old.port) × CountsFault old.faults new.faults

pub record Listens (asked : ℕ) (result : Listening) (old new : NetState) : Type 0 where
  pub net : SameNet old new
  pub told : old.tells ≡ true → SameTold old new
  pub links : SameLinks old new
  pub answer : ListensAt asked result old new

-- `next`: what each event says
pub record Accepts (conn : ℕ) (old new : NetState) : Type 0 where
  pub rises : old.named < conn
  pub named : new.named ≡ conn
  pub was : old.live conn ≡ false
  pub live : new.live conn ≡ true
  pub due : new.due conn ≡ false
  pub writable : new.writable conn ≡ true
  pub live_elsewhere : SameBut conn old.live new.live
  pub due_elsewhere : SameBut conn old.due new.due
  pub writable_elsewhere : SameBut conn old.writable new.writable
  pub room : new.room < old.room

pub record Readies (conn : ℕ) (old new : NetState) : Type 0 where
  pub was : old.live conn ≡ true
  pub due : new.due conn ≡ true
  pub due_elsewhere : SameBut conn old.due new.due
  pub live : Same old.live new.live
  pub named : new.named ≡ old.named
  pub writable : Same old.writable new.writable
  pub room : new.room < old.room

pub record Frees (conn : ℕ) (old new : NetState) : Type 0 where
  pub was : old.live conn ≡ true
  pub writable : new.writable conn ≡ true
  pub writable_elsewhere : SameBut conn old.writable new.writable
  pub live : Same old.live new.live
  pub named : new.named ≡ old.named
  pub due : Same old.due new.due
  pub room : new.room < old.room

pub record Ticks (old new : NetState) : Type 0 where
  pub links : SameLinks old new
  pub room : new.room < old.room

abbrev pub Tells : NetEvent → NetState → NetState → Type 0
Tells (event.Accept conn) old new = Accepts conn.0 old new
Tells (event.Readable conn) old new = Readies conn.0 old new
Tells (event.Writable conn) old new = Frees conn.0 old new
Tells event.Tick old new = Ticks old new
Tells event.Turn old new = SameLinks old new
Tells event.Stop old new = SameLinks old new
Tells event.Failed old new = SameLinks old new

-- a connection that is new has no traffic
pub record HasNoTraffic (conn : ℕ) (net : NetState) : Type 0 where
  pub given : net.given conn ≡ []
  pub taken : net.taken conn ≡ []
  pub wrote : net.wrote conn ≡ []
  pub ended : net.ended conn ≡ false
  pub broken : net.broken conn ≡ false

abbrev pub IsFresh : NetEvent → NetState → Type 0
IsFresh (event.Accept conn) net = HasNoTraffic conn.0 net
IsFresh _ net = ⊤

-- the answers that passed, once this one came: Readable and Writable don't count, and the list stands still at 2 ^ 64 - 1
abbrev pub passing : NetEvent → List NetEvent
passing (event.Readable conn) = []
passing (event.Writable conn) = []
passing answer = answer ∷ []

abbrev pub passed_after : List NetEvent → NetEvent → List NetEvent
passed_after passed answer = if nat_lt (length passed) (2 ^ 64 - 1) then passed ++ passing answer else passed

abbrev pub is_rest : NetEvent → Bool
is_rest event.Turn = true
is_rest event.Stop = true
is_rest event.Failed = true
is_rest _ = false

pub record NextTold (result : NetEvent) (old new : NetState) : Type 0 where
  pub traffic : SameTraffic old new
  pub fresh : IsFresh result new
  pub passed : new.passed ≡ passed_after old.passed result
  pub rested : new.rested ≡ is_rest result

-- Failed comes only where a fault was counted
abbrev pub CountsNextFaults : NetEvent → ℕ → ℕ → Type 0
CountsNextFaults event.Failed old new = CountsFault old new
CountsNextFaults _ old new = old ≤ new

pub record Nexts (result : NetEvent) (old new : NetState) : Type 0 where
  pub net : SameNet old new
  pub told : old.tells ≡ true → NextTold result old new
  pub event : Tells result old new
  pub port : new.port ≡ old.port
  pub faults : CountsNextFaults result old.faults new.faults

-- `read`
abbrev pub NetGivesWithin : NetRead → ℕ → Type 0
NetGivesWithin (read.Octets n) len = (1 ≤ n) × (n ≤ len)
NetGivesWithin _ len = ⊤

abbrev pub NetGives : NetRead → List ℕ → List ℕ → List ℕ → Type 0
NetGives (read.Octets n) space old new = new ≡ old ++ take n space
NetGives _ space old new = new ≡ old

abbrev pub Ends : NetRead → Bool → Bool → Type 0
Ends read.End old new = new ≡ true
Ends _ old new = new ≡ old

abbrev pub BreaksRead : NetRead → Bool → Bool → Type 0
BreaksRead read.Failed old new = new ≡ true
BreaksRead _ old new = new ≡ old

pub record ReadTold (conn : ℕ) (space : List ℕ) (result : NetRead) (old new : NetState) : Type 0 where
  pub given : NetGives result space (old.given conn) (new.given conn)
  pub taken : new.taken conn ≡ old.taken conn
  pub wrote : new.wrote conn ≡ old.wrote conn
  pub ended : Ends result (old.ended conn) (new.ended conn)
  pub broken : BreaksRead result (old.broken conn) (new.broken conn)
  pub elsewhere : SameTrafficBut conn old new
  pub passed : new.passed ≡ old.passed
  pub rested : new.rested ≡ false

abbrev pub CountsNetReadFaults : NetRead → ℕ → ℕ → Type 0
CountsNetReadFaults read.Failed old new = CountsFault old new
CountsNetReadFaults _ old new = old ≤ new

pub record Reads (conn : ℕ) (space : List ℕ) (result : NetRead) (old new : NetState) : Type 0 where
  pub net : SameNet old new
  pub within : NetGivesWithin result (length space)
  pub told : old.tells ≡ true → ReadTold conn space result old new
  pub live : Same old.live new.live
  pub named : new.named ≡ old.named
  pub due : new.due conn ≡ false
  pub due_elsewhere : SameBut conn old.due new.due
  pub writable : Same old.writable new.writable
  pub room : new.room ≤ old.room
  pub port : new.port ≡ old.port
  pub faults : CountsNetReadFaults result old.faults new.faults

-- `write`
abbrev pub NetTakesWithin : NetWrote → ℕ → Type 0
NetTakesWithin (wrote.Took n) len = n ≤ len
NetTakesWithin wrote.Failed len = ⊤

abbrev pub NetTakes : NetWrote → List ℕ → List ℕ → List ℕ → Type 0
NetTakes (wrote.Took n) octets old new = new ≡ old ++ take n octets
NetTakes wrote.Failed octets old new = new ≡ old

abbrev pub Wrote : NetWrote → ℕ → List (ℕ × ℕ) → List (ℕ × ℕ) → Type 0
Wrote (wrote.Took n) len old new = new ≡ old ++ (len, n) ∷ []
Wrote wrote.Failed len old new = new ≡ old

abbrev pub BreaksWrite : NetWrote → Bool → Bool → Type 0
BreaksWrite (wrote.Took n) old new = new ≡ old
BreaksWrite wrote.Failed old new = new ≡ true

pub record WriteTold (conn : ℕ) (octets : List ℕ) (result : NetWrote) (old new : NetState) : Type 0 where
  pub given : new.given conn ≡ old.given conn
  pub taken : NetTakes result octets (old.taken conn) (new.taken conn)
  pub wrote : Wrote result (length octets) (old.wrote conn) (new.wrote conn)
  pub ended : new.ended conn ≡ old.ended conn
  pub broken : BreaksWrite result (old.broken conn) (new.broken conn)
  pub elsewhere : SameTrafficBut conn old new
  pub passed : new.passed ≡ old.passed
  pub rested : new.rested ≡ old.rested

-- a write that took fewer octets than it was offered leaves its link not writable
abbrev pub WritableAfter : NetWrote → ℕ → Bool → Bool → Type 0
WritableAfter (wrote.Took n) len old new = new ≡ (if nat_lt n len then false else old)
WritableAfter wrote.Failed len old new = new ≡ old

abbrev pub CountsNetWriteFaults : NetWrote → ℕ → ℕ → Type 0
CountsNetWriteFaults (wrote.Took n) old new = old ≤ new
CountsNetWriteFaults wrote.Failed old new = CountsFault old new

pub record Writes (conn : ℕ) (octets : List ℕ) (result : NetWrote) (old new : NetState) : Type 0 where
  pub net : SameNet old new
  pub within : NetTakesWithin result (length octets)
  pub told : old.tells ≡ true → WriteTold conn octets result old new
  pub live : Same old.live new.live
  pub named : new.named ≡ old.named
  pub due : Same old.due new.due
  pub writable : WritableAfter result (length octets) (old.writable conn) (new.writable conn)
  pub writable_elsewhere : SameBut conn old.writable new.writable
  pub room : new.room ≤ old.room
  pub port : new.port ≡ old.port
  pub faults : CountsNetWriteFaults result old.faults new.faults

-- `shut`. Of a connection that is shut, due and writable say nothing
pub record Shuts (conn : ℕ) (old new : NetState) : Type 0 where
  pub net : SameNet old new
  pub told : old.tells ≡ true → SameTold old new
  pub live : new.live conn ≡ false
  pub live_elsewhere : SameBut conn old.live new.live
  pub named : new.named ≡ old.named
  pub due_elsewhere : SameBut conn old.due new.due
  pub writable_elsewhere : SameBut conn old.writable new.writable
  pub room : new.room ≤ old.room
  pub port : new.port ≡ old.port
  pub faults : old.faults ≤ new.faults
