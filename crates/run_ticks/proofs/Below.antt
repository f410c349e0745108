-- What the proofs of this crate use of the crates below, of std, and of its own specs.
pub use Rattle.std.proofs.Common.{Bool, List, None, Option, Some, [], ap, append-nil, append_assoc, arith, cond, false, inl, inr, min, nat_eq, not, refl, subst, suc, sym, true, ℕ, ◌&&◌, ◌++◌, ◌+◌, ◌-◌, ◌<◌, ◌^◌, ◌||◌, ◌∙◌, ◌∷◌, ◌≡◌, ◌≤◌, ◌⊎◌}
pub use Rattle.std.proofs.Math.Bool.{or-true}
pub use Rattle.std.proofs.lemmas.Bool.Decides.{nat_tests}
pub use Rattle.run_ticks.specs.All.{list_all, list_any, IsConfig, ConfigValue, NoteValue, OrderValue, Left, Finished, Idle, LinkFailed, PeerEnd, Phase, Ending, Gone, Head, Leaving, Open, one_more, is_gone_by_in, is_gone_in, number_of, is_open, phase, world, is_acceptance, is_gone, is_gone_by, is_left, is_away, unless_gone, is_outgoing, QuietCount, count_by, count_from, is_leaving, is_tick, is_uncounted, new_count, one_heard, one_tick, quiet, by_note, notes_of, of_notes, TicksRight, Timely, ends_stretch, in_stretch, is_by_tick, is_end_due, is_ping_due, is_pinged, is_ticking, one_if, stretch, HubState, is_present, Does, Proceeds, Progress, progress_after_all, progress_at, standings_at, CountsBeside, CountsBy, SameCounts, counts_at, end_due_at, leaves_at, next_count, ping_due_at, ServesAll, Ticks, is_of_tick, Agrees, is_of_orders, Counts, IsTicked, leaving, opened, pinged, quick, silent, ticked}
pub use Rattle.ws_kinds.proofs.Facts.{and_left, and_right, by_cases, clash, or_left, or_right, same_number}
pub use Rattle.run_meaning.proofs.All.{all_follow, all_then, none_follow, none_then, list_any-append, place_of, place_of_one, new, old, open_shown}
pub use Rattle.run_meaning.proofs.Parts.Placed.{early, late}
pub use Rattle.hub_notes.proofs.All.{notes_step, away_by_phase, none_if_gone, phase_of_away, unaccepted}
pub use Rattle.run_laws.proofs.All.{orders_notes, outgoing_of_orders}
