-- What the proofs of this crate use of the crates below, of std, and of its own specs.
pub use Rattle.std.proofs.Common.{Bool, List, None, Option, Some, [], ap, append-nil, append_assoc, arith, cond, drop, false, get_or, length, length-append, length-drop, length-take, map, min, nat_eq, nat_lt, not, refl, set, subst, suc, sym, take, take-append-drop, true, zero, ℕ, ⊎_elim, ◌&&◌, ◌++◌, ◌+◌, ◌<◌, ◌||◌, ◌∙◌, ◌∷◌, ◌≡◌, ◌≢◌, ◌≤◌}
pub use Rattle.std.proofs.Math.Bool.{or-false as or_false, or-true as or_true}
pub use Rattle.std.proofs.lemmas.Bool.{cases_eq}
pub use Rattle.std.proofs.lemmas.Bool.Decides.{nat_tests}
pub use Rattle.std.proofs.lemmas.List.{append_cancel_right, drop-append-le, drop-drop, get_or_append_left, get_or_push, map_push, take-append-le, take_all}
pub use Rattle.hub_lines.specs.All.{option_map, ConfigValue, NoteValue, IsNoted, Item, can_drop, reply, spelled, Shuts, Writes, NetState, NetWrote, Beside, Keeps, KeepsLine, SameButPending, SameElsewhere, SameLinesElsewhere, Settled, Starts, Ties, nothing, only, part_at, part_below, served, then_also, IsFreeFor, IsTidy, AreBelow, AreStored, Pointed, frame_at, frames_named, indices_of, pending_by, waiting_by, CanDropLast, joined, kept, AreFairNotes, Fair, FairFor, FairTold, Held, IsCounted, IsFairDrop, IsFairNote, Stands, StandsFor, StandsTold, held_at, held_octets, Buffered, Moves, Others, buffered_at, buffered_of, with_pending, AreConfigured, Entry, HubState, Pending, Server, cork_at, entry_at, entry_of, frames_of, has_entry, held_by, is_gone, is_present, new_entry, no_entry, numbered_at, pending_at, place_of, ring_at, server, ShortWhereHeld, WritesAreNoted, drops, fell_short, is_dropped, is_silent, short_after, short_from, taken_of, took_by, took_sum, writes, writes_by}
pub use Rattle.ws_kinds.proofs.Facts.{by_cases, clash, less_is as is_less, not_less_is as is_not_less, or_right as none_rest, is_unequal as number_other, is_equal as number_same, or_assoc, equal_is as same_number}
