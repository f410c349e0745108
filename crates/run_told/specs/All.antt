-- The words that proofs of this crate and of those above use, under one name.
pub use Rattle.std.specs.List.{list_all, list_any}
pub use Rattle.ws_kinds.specs.All.{ConfigValue, NoteValue, OrderValue, close, publish, send, subscribe, unsubscribe, with_topic, without_topic, AreNoted, IsNoted}
pub use Rattle.ws_kinds.specs.declared.note.Phase.{Phase}
pub use Rattle.ws_kinds.specs.declared.note.Phase.TheVariants.{Ending, Gone, Head, Leaving, Open}
pub use Rattle.wire_meaning.specs.All.{all_spelled, can_drop, reply, whole}
pub use Rattle.wire_meaning.specs.declared.frame.Opcode.TheVariants.{Pong}
pub use Rattle.link_trait.specs.All.{NetState}
pub use Rattle.run_meaning.specs.All.{accepted_by, drops, has_number, is_accepted, taken, kept, kept_of, Carries, World, closing, is_gone_phase, is_open, leaves_open, moved, phase, plain, topics_left, world, is_of, is_turn, is_away, unless_gone, is_outgoing, Server, Step, by_note, by_order, notes_of, of_notes, Tell, at_turn, has_news, is_telling, is_told, marked, nothing_told, one_dropped, tell_by, tell_by_all, AreTold, IsToldRight, ToldRight, has_to_tell, held_after, tell, tell_from, tell_noted}
pub use Rattle.hub_lines.specs.All.{Settled, nothing, HubState, TellingValue, entry_at, is_gone, is_present, ring_at, server}
pub use Rattle.hub_notes.specs.All.{Advances, Appends, Does, Proceeds, KeepsFront, SameDrops, items_at, FailsAfter, NetAfter, IsNextTold, NoneToTell, TakesTold, news_at, Progress, due_at, may_all_come, may_all_step, may_come, may_step, progress_after, progress_at, progress_by, progress_by_steps, progress_obeys, standings_at, topics_at, ServesAll, IsTable, table_of, EndsTelling, TellsBy, held_in, tell_at, tell_of, EndsTurn, finishes}
pub use Rattle.run_laws.specs.All.{Agrees, is_early, is_of_orders}
pub use Rattle.run_told.specs.Pass.{KeepsOwed, TellsAll, TellsBut, TellsTo, is_told_or_left}
pub use Rattle.run_told.specs.Rows.{begun, dropped_empty, dropped_held, emptied, emptied_told, gone, held_emptied, silent}
pub use Rattle.run_told.specs.Tellings.{HoldsAs, IsTold, Tellings, TellsNext}
pub use Rattle.run_told.specs.Trace.{Trace, drops_back, is_empty_back, trace, trace_from, traced, was_held_back, was_held_from}
pub use Rattle.run_told.specs.Trace.Trace.{drop, mark, turn_with}
