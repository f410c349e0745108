-- What the proofs of this crate use of the crates below, of std, and of its own specs.
pub use Rattle.std.proofs.Common.{Bool, Err, IsTrue, List, None, Ok, Option, Result, Some, [], ap, append-nil, append_assoc, arith, cond, false, inl, inr, is_ok, is_some, length, length-append, min, nat_eq, nat_le, nat_lt, not, refl, rules, subst, suc, sym, take, true, zero, ℕ, ⊎_elim, ◌&&◌, ◌++◌, ◌+◌, ◌-◌, ◌<◌, ◌==◌, ◌^◌, ◌||◌, ◌∙◌, ◌∷◌, ◌≡◌, ◌≢◌, ◌≤◌, ◌⊎◌, if◌then◌else◌}
pub use Rattle.std.proofs.Math.Bool.{or-true as or_true}
pub use Rattle.std.proofs.lemmas.Bool.{cases_eq, not-true as falsely, and_from as one_more, not-false as truly}
pub use Rattle.std.proofs.lemmas.Bool.Decides.{nat_tests}
pub use Rattle.std.proofs.lemmas.Str.{IsUtf8-from_is_utf8}
pub use Rattle.hub_core.specs.All.{list_all, list_any, option_map, ConfigValue, NoteValue, accepted, busy, failed, given, head, no_room, opened, peer_close, ping_got, pong_got, tick, OrderValue, order_value, order_values, publish, send, subscribe, unsubscribe, has_topic, is_pair, topics_of, with_topic, without_topic, AreNoted, IsNoted, Kind, Binary, Text, Left, Finished, Idle, LinkFailed, PeerEnd, Phase, Ending, Gone, Head, Leaving, Open, Why, BadTopic, Forbidden, Memory, NotOpen, TooMany, Item, close_item, is_droppable, replied, spelled, whole, header, opcode_number, Opcode, Begins, Close, Continuation, Ping, Pong, Reserved, CountsFault, NetState, is_sent_opcode, admits, ChangesTopics, IsLast, IsNext, dropped_by, dropped_of, gather, has_number, is_gone_by_in, is_gone_in, number_of, taken, taken_by, took_by, total, writes, cause_of, data_frame, is_open, leaves_open, moved, topics_left, is_gone_by, is_left, is_of, is_sending, is_turn, Standing, first_reason, is_bad_topic, needs_memory, unless_gone, why_at, why_publish, why_send, why_subscribe, why_unsubscribe, MayRefuse, is_link_failure, is_outgoing, refuses, for_memory, for_reason, QuietCount, new_count, one_heard, is_reading, by_note, frames_of, Tell, at_turn, has_news, marked, nothing_told, one_dropped, tell_by, tell_by_all, Beside, KeepsLine, SameElsewhere, SameLinesElsewhere, ShortRings, Starts, Ties, is_sender, nothing, only, part_below, published, receives, served, then_also, DropsFairly, TakesAll, TakesFront, joined, Held, IsCounted, Stands, StandsFor, held_at, held_octets, Moves, Others, buffered_at, with_pending, Entry, HubState, PartingValue, Server, TellingValue, cork_at, entry_at, entry_of, has_entry, is_gone, is_present, new_entry, no_entry, numbered_at, pending_at, phase_at, ring_at, server, ShortWhereHeld, fell_short, is_dropped, is_silent, short_after, short_from, taken_of, Arrives, Makes, has_frames, Advances, Appends, Proceeds, KeepsFront, KeepsFronts, RingsWait, SameDrops, Waits, items_at, FailsAfter, NetAfter, RoseBy, TrafficAfter, TakesTold, news_at, Progress, due_at, due_of, may_all_come, may_come, may_leave_by, progress_after, progress_after_all, progress_at, progress_by, progress_obeys, standings_at, topics_at, CountsBeside, CountsBy, SameCounts, count_of, counts_at, leaves_at, Obeys, Serves, ServesAll, ChangesOne, IsTable, TableState, TakesDue, due_when_gone, is_kept, table_of, TellsBy, held_in, tell_at, tell_of, EndsTurn, FinishesIfEmpty, FinishesOne, Offers, Rise, finishes, Taken, IsSent, can_drop, octets_of, LeavesLinkWhole, PassesOctets, TellsFailure, TellsRing, drops_in, Puttable, Frame, Reply, Spelled, Kept, Backlog, Clear, Dropped, Failed, parting_value, AreRisingRows, ChangesRow, IsNextRow, TellingsState, has_row, TellsPut, at, ChangesHub, Ends, Goes, Leaves, OffersRing, Passes, PutsItem, tell_after, Publishes, PutsUnless, count_below, number_in, OffersHeld, Puts, KeepsRows, Settles, SettlesRows, SettlesUpTo, LosesLink, Notes, Sends, NotesUnserved, ServesByEachRule, ServesOrder, IsHub, hub_of, may_hold, IsNextNews, MarksTold, Quiet, is_leaving, is_ping_due, is_end_due, next_count, ping_due_at, end_due_at, CountsOne, TicksIfThere, Recounts, TicksBelow, Ticks, IsNextEntry, pinged, is_ping, is_end, is_uncounted, BadCode, close_frame, closing, is_bad_close, why_close, BeginsToLeave, Closes, close, is_sendable, is_utf8}
pub use Rattle.ws_kinds.proofs.Facts.{and_left, and_right, and_true, by_cases, clash, less_is as is_less, not_less_is as is_not_less, no_more, same_number as of_here, other_number as of_other, or_assoc, or_false, or_left, or_none, or_right, other_number, plus_none, same_number as same, same_number, no_more as zero_more}
pub use Rattle.run_meaning.proofs.All.{all_as, none_follow}
pub use Rattle.hub_lines.proofs.All.{below_no, below_yes, carried_after, kept_by_one, lines_elsewhere_then, short_silent, starts_of, ties_same, ties_shut, entry_added, entry_new, none_of, present_entry, kept_same, beside_of, beside_then, held_same, keeps_of, line_gone, line_moved, line_put, line_still, only_here, only_other, same_told, split_told, taken_shut, fair_silent, no, others_shut, silent_drops, silent_short, stands_point, stands_silent}
pub use Rattle.hub_notes.proofs.All.{advances_same, advances_then, proceeds_after_quiet, proceeds_first, proceeds_last, proceeds_same, proceeds_then, does_notes, obeys_same, drops_as, drops_still, drops_then, fairly_later, fairly_longer, fairly_now, silent_undropped, undropped, appends_after_nothing, appends_as, appends_before_nothing, appends_same, appends_then, fewer, front_later, front_same, front_then, fails_same, fails_then, outgoing_both, same_counts, told_one, TopicsEnd, changed, sent, served_by, serves_seen, after_other, after_own, away_by_phase, none_stays, outgoing_unaccepted, unaccepted, only_turned}
pub use Rattle.hub_tellings.proofs.All.{fewer_rows_without, nothing_of}
pub use Rattle.hub_ticks.proofs.OneLemmas.{one_end, one_nothing, one_ping, ticks_start}
pub use Rattle.hub_ticks.proofs.WalkLemmas.{ticks_end, ticks_on}
