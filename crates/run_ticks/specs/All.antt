-- The words that proofs of this crate and of those above use, under one name.
pub use Rattle.std.specs.List.{list_all, list_any}
pub use Rattle.ws_kinds.specs.ConfigValue.{IsConfig}
pub use Rattle.ws_kinds.specs.All.{ConfigValue, NoteValue, OrderValue}
pub use Rattle.ws_kinds.specs.declared.note.Left.{Left}
pub use Rattle.ws_kinds.specs.declared.note.Left.TheVariants.{Finished, Idle, LinkFailed, PeerEnd}
pub use Rattle.ws_kinds.specs.declared.note.Phase.{Phase}
pub use Rattle.ws_kinds.specs.declared.note.Phase.TheVariants.{Ending, Gone, Head, Leaving, Open}
pub use Rattle.idle_close.specs.QuietValue.{one_more}
pub use Rattle.run_meaning.specs.All.{is_gone_by_in, is_gone_in, number_of, is_open, phase, world, is_acceptance, is_gone, is_gone_by, is_left, is_away, unless_gone, is_outgoing, QuietCount, count_by, count_from, is_leaving, is_tick, is_uncounted, new_count, one_heard, one_tick, quiet, by_note, notes_of, of_notes, TicksRight, Timely, ends_stretch, in_stretch, is_by_tick, is_end_due, is_ping_due, is_pinged, is_ticking, one_if, stretch}
pub use Rattle.hub_lines.specs.All.{HubState, is_present}
pub use Rattle.hub_notes.specs.All.{Does, Proceeds, Progress, progress_after_all, progress_at, standings_at, CountsBeside, CountsBy, SameCounts, counts_at, end_due_at, leaves_at, next_count, ping_due_at, ServesAll, Ticks, is_of_tick}
pub use Rattle.run_laws.specs.All.{Agrees, is_of_orders}
pub use Rattle.run_ticks.specs.Counts.{Counts, IsTicked}
pub use Rattle.run_ticks.specs.Rows.{leaving, opened, pinged, quick, silent, ticked}
