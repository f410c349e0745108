-- The words that proofs of this crate and of those above use, under one name.
pub use Rattle.std.specs.List.{list_all, list_any}
pub use Rattle.ws_kinds.specs.All.{ConfigValue, NoteValue, OrderValue, close, publish, send, subscribe, unsubscribe, with_topic, without_topic, AreNoted, IsNoted}
pub use Rattle.ws_kinds.specs.declared.kind.Kind.{Kind}
pub use Rattle.ws_kinds.specs.declared.note.Left.{Left}
pub use Rattle.ws_kinds.specs.declared.note.Left.TheVariants.{LinkFailed}
pub use Rattle.ws_kinds.specs.declared.note.Phase.{Phase}
pub use Rattle.ws_kinds.specs.declared.note.Phase.TheVariants.{Ending, Gone, Head, Leaving, Open}
pub use Rattle.ws_kinds.specs.declared.note.Why.{Why}
pub use Rattle.ws_kinds.specs.declared.note.Why.TheVariants.{Memory}
pub use Rattle.wire_meaning.specs.All.{Item}
pub use Rattle.link_trait.specs.All.{NetState}
pub use Rattle.run_meaning.specs.All.{accepted_by, dropped_by, ends_short, gather, has_number, is_accepted, is_gone_by_in, is_gone_in, number_of, only_if, taken, total, writes, closing, data_frame, is_open, leaves_open, moved, sends, topics_left, is_acceptance, is_gone, is_of, is_turn, Standing, needs_memory, unless_gone, why_at, Answers, is_link_failure, is_outgoing, refuses, serves, for_memory, for_reason, is_uncounted, Step, appended_by, by_note, by_order, frames_of, is_for, items_by, items_of, notes_of, of_notes, standing_after, standing_after_all, standing_by, standing_obeys, standings_after, tell_by_all}
pub use Rattle.hub_lines.specs.All.{Keeps, KeepsLine, Ties, nothing, only, then_also, DropsFairly, TakesFront, kept, AreFairNotes, FairFor, IsCounted, HubState, Server, entry_at, is_present, numbered_at, drops, is_dropped, is_silent, short_after, short_from, taken_of, took_by, took_sum}
pub use Rattle.hub_notes.specs.Answers.{Arrives, FitsCloseFrame, Makes, has_frames}
pub use Rattle.hub_notes.specs.Calls.{Advances, Appends, Does, Proceeds}
pub use Rattle.hub_notes.specs.Fronts.{KeepsFront, KeepsFronts, RingsWait, SameDrops, Waits, items_at}
pub use Rattle.hub_notes.specs.NetAfter.{FailsAfter, NetAfter, RoseBy, TrafficAfter}
pub use Rattle.hub_notes.specs.NextTold.{IsNextTold, NoneToTell, TakesTold, news_at}
pub use Rattle.hub_notes.specs.Progress.{Progress, due_at, due_of, may_all_come, may_all_step, may_come, may_leave_by, may_step, progress_after, progress_after_all, progress_at, progress_by, progress_by_step, progress_by_steps, progress_obeys, standing_in, standings_at, topics_at}
pub use Rattle.hub_notes.specs.Quiet.{CountsBeside, CountsBy, SameCounts, count_of, counts_at, end_due_at, leaves_at, next_count, ping_due_at}
pub use Rattle.hub_notes.specs.Serving.{Obeys, Serves, ServesAll}
pub use Rattle.hub_notes.specs.Table.{AreAbove, AreRising, ChangesOne, IsNextEnding, IsNextEntry, IsTable, TableState, TakesDue, due_when_gone, is_kept, table_of}
pub use Rattle.hub_notes.specs.Tells.{EndsTelling, TellsBy, held_in, tell_at, tell_in, tell_of}
pub use Rattle.hub_notes.specs.Ticks.{Ticks, is_of_tick}
pub use Rattle.hub_notes.specs.Turns.{EndsTurn, FinishesIfEmpty, FinishesOne, Offers, Rise, finishes}
