-- What a hub has to tell of its connections.
use Rattle.std.specs.Prelude.{◌≡◌, ℕ, List, [], ◌∷◌, false, nat_eq, length, if◌then◌else◌}
use Rattle.std.specs.List.{list_any}
use Rattle.ws_kinds.specs.NoteValue.{NoteValue}
use Rattle.run_meaning.specs.Tell.{Tell, nothing_told, at_turn, tell_by_all}
use Rattle.run_meaning.specs.Notes.{is_turn}
use Rattle.hub_lines.specs.State.{HubState, TellingValue, is_present, ring_at}

abbrev pub tell_in : TellingValue → Tell
tell_in telling = record { dropped = telling.dropped; drained = telling.drained; full = telling.full; dirty = telling.dirty; fresh = telling.fresh }

abbrev pub tell_of : List TellingValue → ℕ → Tell
tell_of [] conn = nothing_told
tell_of (first ∷ rest) conn = if nat_eq first.conn conn then tell_in first else tell_of rest conn

-- what stands to be told of a connection
abbrev pub tell_at : HubState → ℕ → Tell
tell_at hub conn = tell_of hub.tellings conn

-- These notes, if none ends a turn, make of each connection's what stands to be told afterwards.
abbrev pub TellsBy : List NoteValue → HubState → HubState → Type 0
TellsBy notes old new = list_any is_turn notes ≡ false → (conn : ℕ) → tell_at new conn ≡ tell_by_all conn notes (tell_at old conn)

-- how many octets are held for a connection when nothing is pending or corked
abbrev pub held_in : HubState → ℕ → ℕ
held_in hub conn = if is_present hub conn then length (ring_at hub conn) else 0

-- A turn ends, after these notes of the same call: what stands to be told is that, by what is held then.
abbrev pub EndsTelling : List NoteValue → HubState → HubState → Type 0
EndsTelling made old new = (conn : ℕ) → tell_at new conn ≡ at_turn (held_in new conn) (tell_by_all conn made (tell_at old conn))
