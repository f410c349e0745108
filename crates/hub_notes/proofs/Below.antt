-- What the proofs of this crate use of the crates below, of std, and of its own specs.
pub use Rattle.std.proofs.Common.{Bool, List, None, Option, Some, [], ap, append-nil, append_assoc, arith, cond, false, get_or, inl, inr, length, length-append, map, nat_eq, nat_lt, not, refl, subst, suc, sym, take, true, ℕ, ◌&&◌, ◌++◌, ◌+◌, ◌-◌, ◌<◌, ◌^◌, ◌||◌, ◌∙◌, ◌∷◌, ◌≡◌, ◌≤◌, ◌⊎◌}
pub use Rattle.std.proofs.Math.Seq.{take-suc}
pub use Rattle.std.proofs.lemmas.Bool.Decides.{nat_tests}
pub use Rattle.std.proofs.lemmas.List.{length-map, length-take-le, map-append}
pub use Rattle.hub_notes.specs.All.{list_all, list_any, ConfigValue, NoteValue, OrderValue, close, publish, send, subscribe, unsubscribe, with_topic, without_topic, AreNoted, IsNoted, Kind, Left, LinkFailed, Phase, Ending, Gone, Head, Leaving, Open, Why, Memory, Item, NetState, accepted_by, dropped_by, ends_short, gather, has_number, is_accepted, is_gone_by_in, is_gone_in, number_of, only_if, taken, total, writes, closing, data_frame, is_open, leaves_open, moved, sends, topics_left, is_acceptance, is_gone, is_of, is_turn, Standing, needs_memory, unless_gone, why_at, Answers, is_link_failure, is_outgoing, refuses, serves, for_memory, for_reason, is_uncounted, Step, appended_by, by_note, by_order, frames_of, is_for, items_by, items_of, notes_of, of_notes, standing_after, standing_after_all, standing_by, standing_obeys, standings_after, tell_by_all, Keeps, KeepsLine, Ties, nothing, only, then_also, DropsFairly, TakesFront, kept, AreFairNotes, FairFor, IsCounted, HubState, Server, entry_at, is_present, numbered_at, drops, is_dropped, is_silent, short_after, short_from, taken_of, took_by, took_sum, Advances, Appends, Does, Proceeds, KeepsFront, KeepsFronts, SameDrops, items_at, FailsAfter, NetAfter, RoseBy, TrafficAfter, Progress, may_all_come, may_all_step, may_come, may_step, progress_after, progress_after_all, progress_at, progress_by, progress_by_step, progress_by_steps, progress_obeys, standing_in, standings_at, CountsBeside, SameCounts, Obeys, Serves, ServesAll, TellsBy, tell_at, is_of_tick}
pub use Rattle.ws_kinds.proofs.Facts.{and_left, and_right, and_true, by_cases, clash, no_more as count_same, or_assoc as or-assoc, or_false, or_left, or_right, stays_false, stays_live}
pub use Rattle.run_meaning.proofs.All.{has_number-append, notes_of-append, notes_of-notes, and-assoc, gone-append, gone_by-append, list_all-append, list_any-append, taken-append, writes-append, items-append, none_moves, performs_more, open_standing, all_follow, none_follow}
pub use Rattle.run_meaning.proofs.TellLemmas.{all_then}
pub use Rattle.hub_lines.proofs.All.{dropped_append, fairs_undropped, taken_some, suc_is, kept_append, kept_same, keeps_as, keeps_same, keeps_then, fairs_longer, silent_drops}
