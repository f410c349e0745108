-- The words that proofs of this crate and of those above use, under one name.
pub use Rattle.std.specs.Option.{option_map}
pub use Rattle.ws_kinds.specs.All.{ConfigValue, NoteValue, IsNoted}
pub use Rattle.wire_meaning.specs.All.{Item, can_drop, reply, spelled}
pub use Rattle.link_trait.specs.All.{Shuts, Writes, NetState}
pub use Rattle.link_trait.specs.declared.net.NetWrote.{NetWrote}
pub use Rattle.hub_lines.specs.Calls.{Beside, IsBounded, IsNewTo, Keeps, KeepsLine, SameButPending, SameElsewhere, SameLinesElsewhere, Settled, ShortRings, Starts, Ties, is_sender, nothing, only, part_at, part_below, published, put_octets, receives, served, then_also}
pub use Rattle.hub_lines.specs.Corks.{HolderIsPresent, IsFreeFor, IsTidy}
pub use Rattle.hub_lines.specs.Fronts.{DropsFairly, FailsWithin, TakesAll, TakesFront}
pub use Rattle.hub_lines.specs.Indices.{AreBelow, AreStored, Pointed, frame_at, frames_named, indices_of, pending_by, waiting_by}
pub use Rattle.hub_lines.specs.Items.{CanDropLast, item_at, joined, kept}
pub use Rattle.hub_lines.specs.Lines.{AreFairNotes, Fair, FairFor, Fair as FairLine, FairTold, Held, IsCounted, IsFairDrop, IsFairNote, Stands, StandsFor, StandsTold, held_at, held_octets, line}
pub use Rattle.hub_lines.specs.Moves.{Buffered, Moves, Others, buffered_at, buffered_of, with_pending}
pub use Rattle.hub_lines.specs.State.{AreConfigured, Entry, HubState, PartingValue, Pending, Quiet, Server, TellingValue, cork_at, entry_at, entry_of, frames_of, has_entry, held_by, is_gone, is_present, most_held, most_held_in, new_entry, no_entry, numbered_at, pending_at, phase_at, place_of, ring_at, server}
pub use Rattle.hub_lines.specs.Told.{ShortWhereHeld, WritesAreNoted, drops, fell_short, is_dropped, is_silent, short_after, short_from, taken_of, took_by, took_sum, writes, writes_by}
