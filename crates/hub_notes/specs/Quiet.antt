-- For how long the connections of a hub are quiet.
use Rattle.std.specs.Prelude.{◌≡◌, ◌⊎◌, ℕ, List, Bool, true, if◌then◌else◌}
use Rattle.std.specs.List.{list_all}
use Rattle.ws_kinds.specs.NoteValue as note
use Rattle.ws_kinds.specs.NoteValue.{NoteValue}
use Rattle.idle_close.specs.QuietValue.{one_more}
use Rattle.run_meaning.specs.Quiet.{QuietCount, is_leaving, count_by, is_uncounted}
use Rattle.run_meaning.specs.Timely.{is_ping_due, is_end_due}
use Rattle.hub_lines.specs.State.{HubState, Quiet, entry_at, is_present}
use Rattle.hub_notes.specs.Progress.{standings_at}

abbrev pub count_of : Quiet → QuietCount
count_of quiet = record { ticks = quiet.ticks; leaving = quiet.leaving }

abbrev pub counts_at : HubState → ℕ → QuietCount
counts_at hub conn = count_of (entry_at hub conn).quiet

-- Each connection that is there afterwards was there before, and its counts are the same.
abbrev pub SameCounts : HubState → HubState → Type 0
SameCounts old new = (conn : ℕ) → is_present new conn ≡ true → (is_present old conn ≡ true) × (counts_at new conn ≡ counts_at old conn)

-- These notes, if none tells of a tick, of a connection that was accepted or of octets that were read, leave the counts.
abbrev pub CountsBeside : List NoteValue → HubState → HubState → Type 0
CountsBeside notes old new = list_all is_uncounted notes ≡ true → SameCounts old new

-- the connection is leaving
abbrev pub leaves_at : HubState → ℕ → Bool
leaves_at hub conn = is_leaving (standings_at hub conn).phase

-- Each that is there afterwards was there before, or was accepted by this note; and its counts are those after the note.
abbrev pub CountsBy : NoteValue → HubState → HubState → Type 0
CountsBy this old new = (conn : ℕ) → is_present new conn ≡ true
    → ((is_present old conn ≡ true) ⊎ (this ≡ note.accepted conn)) × (counts_at new conn ≡ count_by conn this (leaves_at old conn) (counts_at old conn))

-- one more tick, as a hub counts it: a count stands still at 2 ^ 64 - 1
abbrev pub next_count : Bool → QuietCount → QuietCount
next_count leaves count = record { ticks = one_more count.ticks; leaving = if leaves then one_more count.leaving else count.leaving }

-- one more tick makes a ping due, and an end
abbrev pub ping_due_at : HubState → ℕ → Bool
ping_due_at hub conn = is_ping_due hub.config (standings_at hub conn).phase (counts_at hub conn)

abbrev pub end_due_at : HubState → ℕ → Bool
end_due_at hub conn = is_end_due hub.config (standings_at hub conn).phase (counts_at hub conn)
