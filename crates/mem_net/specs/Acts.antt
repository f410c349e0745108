-- What the acts of a schedule send, end, pass, and let links take.
use Rattle.std.specs.Prelude.{◌+◌, ℕ, List, [], ◌∷◌, Option, Some, None, Bool, true, false, nat_eq, if◌then◌else◌}
use Rattle.std.specs.List.{flat_map, fold, list_any}
use Rattle.std.specs.Option.{option_map}
use Rattle.link_trait.specs.declared.act.Act.{Act}
use Rattle.link_trait.specs.declared.act.Act.TheVariants as act
use Rattle.link_trait.specs.declared.net.NetEvent.{NetEvent}
use Rattle.link_trait.specs.declared.net.NetEvent.TheVariants as event
use Rattle.mem_net.specs.declared.mem_link.Finish.{Finish}
use Rattle.mem_net.specs.declared.mem_link.Finish.TheVariants as finish

-- the numbers of the connections that arrive, in order
abbrev pub arrives_by : Act → List ℕ
arrives_by (act.Arrive conn credit) = conn.0 ∷ []
arrives_by _ = []

abbrev pub arrivals : List Act → List ℕ
arrivals acts = flat_map arrives_by acts

-- the octets that acts send to conn
abbrev pub sent_by : ℕ → Act → List ℕ
sent_by conn (act.Octets other octets) = if nat_eq other.0 conn then octets else []
sent_by conn _ = []

abbrev pub sent : ℕ → List Act → List ℕ
sent conn acts = flat_map (sent_by conn) acts

-- what a read of conn answers after acts, once all that was sent was read
abbrev pub finish_by : ℕ → Act → Finish
finish_by conn (act.End other) = if nat_eq other.0 conn then finish.End else finish.Later
finish_by conn (act.ReadFails other) = if nat_eq other.0 conn then finish.Failed else finish.Later
finish_by conn _ = finish.Later

abbrev pub or_then : Finish → Finish → Finish
or_then finish.Later other = other
or_then finish.End other = finish.End
or_then finish.Failed other = finish.Failed

abbrev pub finish_of : ℕ → List Act → Finish
finish_of conn [] = finish.Later
finish_of conn (act ∷ acts) = or_then (finish_by conn act) (finish_of conn acts)

-- how many octets the link of conn takes in all after an act, by how many before it
abbrev pub credit_by : ℕ → Option ℕ → Act → Option ℕ
credit_by conn before (act.Arrive other credit) = if nat_eq other.0 conn then credit else before
credit_by conn before (act.Room other more) = if nat_eq other.0 conn then option_map (λ octets. octets + more) before else before
credit_by conn before _ = before

-- how many octets the link of conn takes in all by these acts: its credit and all room that it got, or any number where there is
-- none. A connection that has not arrived takes no octets
abbrev pub credit_of : ℕ → List Act → Option ℕ
credit_of conn acts = fold (credit_by conn) (Some 0) acts

-- this act lets the writes of conn fail
abbrev pub is_write_failure : ℕ → Act → Bool
is_write_failure conn (act.WriteFails other) = nat_eq other.0 conn
is_write_failure conn _ = false

-- the writes of conn fail by these acts
abbrev pub writes_fail : ℕ → List Act → Bool
writes_fail conn acts = list_any (is_write_failure conn) acts

-- the answers of `next` that acts pass
abbrev pub passes_by : Act → List NetEvent
passes_by (act.Arrive conn credit) = event.Accept conn ∷ []
passes_by act.Tick = event.Tick ∷ []
passes_by act.Turn = event.Turn ∷ []
passes_by _ = []

abbrev pub passes : List Act → List NetEvent
passes acts = flat_map passes_by acts

-- the event by which an act is told
abbrev pub event_of : Act → Option NetEvent
event_of (act.Arrive conn credit) = Some (event.Accept conn)
event_of (act.Octets conn octets) = Some (event.Readable conn)
event_of (act.End conn) = Some (event.Readable conn)
event_of (act.ReadFails conn) = Some (event.Readable conn)
event_of (act.Room conn more) = Some (event.Writable conn)
event_of (act.WriteFails conn) = Some (event.Writable conn)
event_of act.Tick = Some event.Tick
event_of act.Turn = Some event.Turn

abbrev pub is_end : Finish → Bool
is_end finish.Later = false
is_end finish.End = true
is_end finish.Failed = false

abbrev pub is_fault : Finish → Bool
is_fault finish.Later = false
is_fault finish.End = false
is_fault finish.Failed = true
