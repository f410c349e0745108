-- The connections of a hub with their Closed events, as the table keeps them.
use Rattle.std.specs.Prelude.{◌≡◌, ◌≢◌, ◌≤◌, ◌+◌, ◌-◌, ◌^◌, min, ⊤, ℕ, List, [], ◌∷◌, Option, Some, None, Bool, true, false, is_some, length, nat_eq, if◌then◌else◌}
use Rattle.ws_kinds.specs.declared.note.Phase.{Phase}
use Rattle.ws_kinds.specs.declared.note.Phase.TheVariants.{Head, Ending}
use Rattle.ws_kinds.specs.ConfigValue.{ConfigValue, IsConfig}
use Rattle.hub_lines.specs.State.{Entry, PartingValue, no_entry, has_entry, is_gone, most_held_in}
use Rattle.socket_core.specs.Phases.{entered as goes_on}
use Rattle.hub_table.specs.declared.connection.Connection.{Connection}
use Rattle.hub_table.specs.declared.parting.Parting.{Parting}
use Rattle.hub_table.specs.Parting.{parting_value}
use Rattle.hub_notes.specs.Table.{TableState, AreRising}

-- where there is no connection
abbrev pub no_connection : Connection
no_connection = record { socket = no_entry; closed = None }

-- the connection of this number
abbrev pub connection_of : List Connection → ℕ → Connection
connection_of [] conn = no_connection
connection_of (first ∷ rest) conn = if nat_eq first.socket.conn conn then first else connection_of rest conn

-- another connection in place of the one of this number
abbrev pub replaced : List Connection → ℕ → Connection → List Connection
replaced [] conn other = []
replaced (first ∷ rest) conn other = if nat_eq first.socket.conn conn then other ∷ rest else first ∷ replaced rest conn other

-- all but the connection of this number
abbrev pub without : List Connection → ℕ → List Connection
without [] conn = []
without (first ∷ rest) conn = if nat_eq first.socket.conn conn then rest else first ∷ without rest conn

-- what contracts see of connections, in their order
abbrev pub entries_of : List Connection → List Entry
entries_of [] = []
entries_of (first ∷ rest) = first.socket ∷ entries_of rest

-- the connection of this number, if there is one
abbrev pub connection_in : List Connection → ℕ → Option Connection
connection_in all conn = if has_entry (entries_of all) conn then Some (connection_of all conn) else None

-- a Closed event, if one is due, in front of others
abbrev pub put_before : Option Parting → List PartingValue → List PartingValue
put_before None rest = rest
put_before (Some parting) rest = parting_value parting ∷ rest

-- the Closed events that are due, in the order of their connections
abbrev pub partings_of : List Connection → List PartingValue
partings_of [] = []
partings_of (first ∷ rest) = put_before first.closed (partings_of rest)

-- the code and the reason of a Closed event
abbrev pub cause : Parting → ℕ × List ℕ
cause parting = (parting.code, parting.reason.items)

-- nothing more is read of the connection
abbrev pub is_ending : Phase → Bool
is_ending Ending = true
is_ending _ = false

-- its Closed event is due
abbrev pub is_due : Connection → Bool
is_due connection = is_some connection.closed

-- it is in phase Ending
abbrev pub ends : Connection → Bool
ends connection = is_ending connection.socket.phase

-- the numbers of the connections that pass the test, in their order
abbrev pub numbers_where : (Connection → Bool) → List Connection → List ℕ
numbers_where test [] = []
numbers_where test (first ∷ rest) = if test first then first.socket.conn ∷ numbers_where test rest else numbers_where test rest

-- what contracts see of a table
abbrev pub table_state : ConfigValue → ℕ → List Connection → TableState
table_state config named all = record { config = config; named = named; entries = entries_of all; partings = partings_of all }

-- the connection with its socket changed
abbrev pub with_socket : Connection → Entry → Connection
with_socket connection socket = record { socket = socket; closed = connection.closed }

-- it went on to a phase
abbrev pub entered : Connection → Phase → Connection
entered connection phase = with_socket connection (goes_on phase connection.socket)

-- it went on to a phase, and this Closed event is due
abbrev pub parted : Connection → Phase → Parting → Connection
parted connection phase parting = record { socket = goes_on phase connection.socket; closed = Some parting }

-- its Closed event is due no more
abbrev pub told : Connection → Connection
told connection = record { socket = connection.socket; closed = None }

-- a Closed event is of this connection
abbrev pub IsOwn : ℕ → Option Parting → Type 0
IsOwn conn None = ⊤
IsOwn conn (Some parting) = parting.conn.0 ≡ conn

-- what holds of each connection by itself
pub record IsConnection (numbers : ConfigValue) (greatest : ℕ) (connection : Connection) : Type 0 where
  -- its number is among those that were accepted, which begin at 1
  pub first : 1 ≤ connection.socket.conn
  pub among : connection.socket.conn ≤ greatest
  pub config : connection.socket.config ≡ numbers
  -- nothing was put in phase Head
  pub head : connection.socket.phase ≡ Head → connection.socket.numbered ≡ 0
  pub own : IsOwn connection.socket.conn connection.closed
  -- it is gone only as long as its Closed event is due
  pub due : is_gone connection.socket.phase ≡ true → is_some connection.closed ≡ true
  -- what is held back for it has a bound, and is discarded once it is gone; nothing is held where nothing was put
  pub bound : length connection.socket.ring ≤ most_held_in numbers connection.socket.phase
  pub gone : is_gone connection.socket.phase ≡ true → connection.socket.ring ≡ []
  pub unused : connection.socket.numbered ≡ 0 → connection.socket.ring ≡ []

-- this holds of each of them
abbrev pub AreConnections : ConfigValue → ℕ → List Connection → Type 0
AreConnections config named [] = ⊤
AreConnections config named (first ∷ rest) = IsConnection config named first × AreConnections config named rest

-- what holds of all connections
pub record AreKept (config : ConfigValue) (greatest : ℕ) (all : List Connection) : Type 0 where
  pub rising : AreRising (entries_of all)
  pub each : AreConnections config greatest all
  pub few : length all ≤ config.max_conns
  -- the numbers are those of a configuration
  pub numbers : IsConfig config
