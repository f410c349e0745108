-- The same, and the lemmas that the proofs of functions and of crates above use.
pub use Rattle.hub_lines.proofs.Below.{Bool, List, None, Option, Some, [], ap, append-nil, append_assoc, arith, cond, drop, false, get_or, length, length-append, length-drop, length-take, map, min, nat_eq, nat_lt, not, refl, set, subst, suc, sym, take, take-append-drop, true, zero, ℕ, ⊎_elim, ◌&&◌, ◌++◌, ◌+◌, ◌<◌, ◌||◌, ◌∙◌, ◌∷◌, ◌≡◌, ◌≢◌, ◌≤◌, or_false, or_true, cases_eq, nat_tests, append_cancel_right, drop-append-le, drop-drop, get_or_append_left, get_or_push, map_push, take-append-le, take_all, option_map, by_cases, is_less, is_not_less, none_rest, number_other, number_same, or_assoc, same_number, ConfigValue, NoteValue, IsNoted, Item, can_drop, reply, spelled, Shuts, Writes, NetState, NetWrote, Beside, Keeps, KeepsLine, SameButPending, SameElsewhere, SameLinesElsewhere, Settled, Starts, Ties, nothing, only, part_at, part_below, served, then_also, IsFreeFor, IsTidy, AreBelow, AreStored, Pointed, frame_at, frames_named, indices_of, pending_by, waiting_by, CanDropLast, joined, kept, AreFairNotes, Fair, FairFor, FairTold, Held, IsCounted, IsFairDrop, IsFairNote, Stands, StandsFor, StandsTold, held_at, held_octets, Buffered, Moves, Others, buffered_at, buffered_of, with_pending, AreConfigured, Entry, HubState, Pending, Server, cork_at, entry_at, entry_of, frames_of, has_entry, held_by, is_gone, is_present, new_entry, no_entry, numbered_at, pending_at, place_of, ring_at, server, ShortWhereHeld, WritesAreNoted, drops, fell_short, is_dropped, is_silent, short_after, short_from, taken_of, took_by, took_sum, writes, writes_by}
pub use Rattle.hub_lines.proofs.CallLemmas.{below_no, below_yes, carried, carried_after, drop_amount, drop_is_fair, dropped_append, elsewhere_then, fair_at, fairs_undropped, keeps_note, kept_by_one, lines_elsewhere_then, none_later, noted_failed, noted_took, parts_all, parts_first, parts_next, settled_held, short_dropped, short_silent, short_took, starts_of, taken_some, ties_accepted, ties_same, ties_shut, writes_more}
pub use Rattle.hub_lines.proofs.CorkLemmas.{beside_ours, keeps_flushed, keeps_moved, keeps_put, moves_ours, moves_piece, ours_here, ours_other}
pub use Rattle.hub_lines.proofs.EntryLemmas.{Changed, configured_of, entry_added, entry_new, entry_removed, entry_removed_elsewhere, entry_set_elsewhere, entry_set_here, entry_set_other, suc_is as next, none_of, place_conn, place_entry, present_entry, suc_is}
pub use Rattle.hub_lines.proofs.IndexLemmas.{frames_pointed, frames_popped, frames_waiting, waiting_more}
pub use Rattle.hub_lines.proofs.KeptLemmas.{is_dropped_more, is_dropped_note, joined_push, kept_append, kept_none, kept_same, not_dropped, stood_drop, stood_front, stood_move, stood_note, stood_point, stood_pop}
pub use Rattle.hub_lines.proofs.LineLemmas.{beside_of, beside_then, held_same, keeps_accepted, keeps_after_nothing, keeps_as, keeps_before_nothing, keeps_of, keeps_only, keeps_quiet, keeps_same, keeps_then, last_fewer, last_none, last_push, line_as, line_gone, line_moved, line_pointed, line_popped, line_put, line_same, line_still, line_then, only_here, only_other}
pub use Rattle.hub_lines.proofs.NetLemmas.{same_told, split_map, split_told, taken_elsewhere, taken_failed, taken_shut, taken_written}
pub use Rattle.hub_lines.proofs.StepLemmas.{clash, fair_point, fair_silent, faired_drop, faired_point, faired_ring, faired_silent, faired_took, fairs_longer, fairs_more, moves_before, moves_drain, moves_drain_both, moves_drop, moves_keep, moves_offer, moves_pop, moves_shift, moves_then, moves_took, moves_whole, clash as no, others_dropped, others_same, others_shut, others_silent, others_then, others_took, short_here, short_more, short_of_front, silent_dropped, silent_drops, silent_fine, silent_short, silent_sum, silent_took, stands_point, stands_silent, sum_more, took_stands, up_by_one}
pub use Rattle.hub_lines.proofs.StoredLemmas.{beside_stored, cork_stored, entry_stored, keeps_pointed, keeps_popped, keeps_stored, present_stored}
