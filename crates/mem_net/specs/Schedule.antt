-- Which schedules are sound.
use Rattle.std.specs.Prelude.{◌&&◌, ◌^◌, not, ℕ, List, [], ◌∷◌, ◌++◌, Bool, true, false, nat_eq, nat_lt, nat_le, length}
use Rattle.std.specs.List.{list_all, list_any}
use Rattle.link_trait.specs.declared.act.Act.{Act}
use Rattle.link_trait.specs.declared.act.Act.TheVariants as act

-- this act is an arrival of conn
abbrev pub is_arrival : ℕ → Act → Bool
is_arrival conn (act.Arrive other credit) = nat_eq other.0 conn
is_arrival conn _ = false

-- this act is no arrival of a number that is not below conn
abbrev pub is_below : ℕ → Act → Bool
is_below conn (act.Arrive other credit) = nat_lt other.0 conn
is_below conn _ = true

-- this act ends the octets of conn, by the end or by a fault
abbrev pub is_ending : ℕ → Act → Bool
is_ending conn (act.End other) = nat_eq other.0 conn
is_ending conn (act.ReadFails other) = nat_eq other.0 conn
is_ending conn _ = false

-- a connection's number, from 1 to 4,294,967,295
abbrev pub is_number : ℕ → Bool
is_number conn = nat_le 1 conn && nat_lt conn (2 ^ 32)

-- conn is greater than the number of every arrival among acts
abbrev pub is_rising : List Act → ℕ → Bool
is_rising acts conn = list_all (is_below conn) acts

-- conn arrives among acts
abbrev pub has_arrived : List Act → ℕ → Bool
has_arrived acts conn = list_any (is_arrival conn) acts

-- the octets of conn end among acts
abbrev pub has_ended : List Act → ℕ → Bool
has_ended acts conn = list_any (is_ending conn) acts

-- conn arrived among acts, and its octets have not ended
abbrev pub can_send : List Act → ℕ → Bool
can_send acts conn = has_arrived acts conn && not (has_ended acts conn)

-- this act may come after acts
abbrev pub is_sound_after : List Act → Act → Bool
is_sound_after acts (act.Arrive conn credit) = is_number conn.0 && is_rising acts conn.0
is_sound_after acts (act.Octets conn octets) = is_number conn.0 && can_send acts conn.0 && nat_le 1 (length octets) && nat_le (length octets) 8192
is_sound_after acts (act.End conn) = is_number conn.0 && can_send acts conn.0
is_sound_after acts (act.ReadFails conn) = is_number conn.0 && can_send acts conn.0
is_sound_after acts (act.Room conn more) = is_number conn.0 && has_arrived acts conn.0 && nat_le 1 more
is_sound_after acts (act.WriteFails conn) = is_number conn.0 && has_arrived acts conn.0
is_sound_after acts act.Tick = true
is_sound_after acts act.Turn = true

-- each of these acts may come where it stands, after those before
abbrev pub are_sound_after : List Act → List Act → Bool
are_sound_after before [] = true
are_sound_after before (act ∷ acts) = is_sound_after before act && are_sound_after (before ++ act ∷ []) acts

-- the numbers are in their ranges and arrive rising; an act names a connection that arrived before, and nothing is sent
-- once its octets have ended
abbrev pub is_sound : List Act → Bool
is_sound acts = are_sound_after [] acts
