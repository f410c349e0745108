-- The same, and the lemmas that the proofs of functions and of crates above use.
pub use Rattle.hub_core.proofs.Below.{Bool, Err, IsTrue, List, None, Ok, Option, Result, Some, [], ap, append-nil, append_assoc, arith, cond, false, inl, inr, is_ok, is_some, length, length-append, min, nat_eq, nat_le, nat_lt, not, refl, rules, subst, suc, sym, take, true, zero, ℕ, ⊎_elim, ◌&&◌, ◌++◌, ◌+◌, ◌-◌, ◌<◌, ◌==◌, ◌^◌, ◌||◌, ◌∙◌, ◌∷◌, ◌≡◌, ◌≢◌, ◌≤◌, ◌⊎◌, or_true, cases_eq, falsely, one_more, truly, nat_tests, list_all, list_any, option_map, and_left, and_right, and_true, by_cases, clash, is_less, is_not_less, no_more, of_here, of_other, or_assoc, or_false, or_left, or_none, or_right, other_number, plus_none, same, same_number, zero_more, ConfigValue, NoteValue, accepted, busy, failed, given, head, no_room, opened, peer_close, ping_got, pong_got, tick, OrderValue, order_value, order_values, publish, send, subscribe, unsubscribe, has_topic, is_pair, topics_of, with_topic, without_topic, AreNoted, IsNoted, Kind, Binary, Text, Left, Finished, Idle, LinkFailed, PeerEnd, Phase, Ending, Gone, Head, Leaving, Open, Why, BadTopic, Forbidden, Memory, NotOpen, TooMany, Item, close_item, is_droppable, replied, spelled, whole, header, opcode_number, Opcode, Begins, Close, Continuation, Ping, Pong, Reserved, CountsFault, NetState, is_sent_opcode, admits, ChangesTopics, IsLast, all_as, none_follow, dropped_by, dropped_of, gather, has_number, is_gone_by_in, is_gone_in, number_of, taken, taken_by, took_by, total, writes, cause_of, data_frame, is_open, leaves_open, moved, topics_left, is_gone_by, is_left, is_of, is_sending, is_turn, Standing, first_reason, is_bad_topic, needs_memory, unless_gone, why_at, why_publish, why_send, why_subscribe, why_unsubscribe, MayRefuse, is_link_failure, is_outgoing, refuses, for_memory, for_reason, QuietCount, new_count, one_heard, is_reading, by_note, frames_of, Tell, at_turn, has_news, marked, nothing_told, one_dropped, tell_by, tell_by_all, below_no, below_yes, carried_after, kept_by_one, lines_elsewhere_then, short_silent, starts_of, ties_same, ties_shut, entry_added, entry_new, none_of, present_entry, kept_same, beside_of, beside_then, held_same, keeps_of, line_gone, line_moved, line_put, line_still, only_here, only_other, same_told, split_told, taken_shut, fair_silent, no, others_shut, silent_drops, silent_short, stands_point, stands_silent, Beside, KeepsLine, SameElsewhere, SameLinesElsewhere, ShortRings, Starts, Ties, is_sender, nothing, only, part_below, published, receives, served, then_also, DropsFairly, TakesAll, TakesFront, joined, Held, IsCounted, Stands, StandsFor, held_at, held_octets, Moves, Others, buffered_at, with_pending, Entry, HubState, PartingValue, Server, TellingValue, cork_at, entry_at, entry_of, has_entry, is_gone, is_present, new_entry, no_entry, numbered_at, pending_at, phase_at, ring_at, server, ShortWhereHeld, fell_short, is_dropped, is_silent, short_after, short_from, taken_of, advances_same, advances_then, proceeds_after_quiet, proceeds_first, proceeds_last, proceeds_same, proceeds_then, does_notes, obeys_same, drops_as, drops_still, drops_then, fairly_later, fairly_longer, fairly_now, silent_undropped, undropped, appends_after_nothing, appends_as, appends_before_nothing, appends_same, appends_then, front_later, front_same, front_then, fails_same, fails_then, outgoing_both, same_counts, told_one, TopicsEnd, changed, sent, served_by, serves_seen, after_other, after_own, away_by_phase, none_stays, outgoing_unaccepted, unaccepted, Arrives, Makes, has_frames, Advances, Appends, Proceeds, KeepsFront, KeepsFronts, RingsWait, SameDrops, Waits, items_at, FailsAfter, NetAfter, RoseBy, TrafficAfter, TakesTold, news_at, Progress, due_at, due_of, may_all_come, may_come, may_leave_by, progress_after, progress_after_all, progress_at, progress_by, progress_obeys, standings_at, topics_at, CountsBeside, CountsBy, SameCounts, count_of, counts_at, leaves_at, Obeys, Serves, ServesAll, ChangesOne, IsTable, TableState, TakesDue, due_when_gone, is_kept, table_of, TellsBy, held_in, tell_at, tell_of, EndsTurn, FinishesIfEmpty, FinishesOne, Offers, Rise, finishes, Taken, IsSent, can_drop, octets_of, LeavesLinkWhole, PassesOctets, TellsFailure, TellsRing, drops_in, Puttable, Frame, Reply, Spelled, Kept, Backlog, Clear, Dropped, Failed, parting_value, fewer_rows_without, nothing_of, AreRisingRows, ChangesRow, IsNextRow, TellingsState, has_row, TellsPut, at, ChangesHub, Ends, Goes, Leaves, OffersRing, Passes, PutsItem, tell_after, Publishes, PutsUnless, count_below, number_in, OffersHeld, Puts, KeepsRows, Settles, SettlesRows, SettlesUpTo, LosesLink, Notes, Sends, NotesUnserved, ServesByEachRule, ServesOrder, IsHub, hub_of, may_hold, IsNextNews, MarksTold, Quiet, is_leaving, is_ping_due, is_end_due, next_count, ping_due_at, end_due_at, CountsOne, TicksIfThere, Recounts, TicksBelow, Ticks, IsNextEntry, pinged, is_ping, is_end, is_uncounted, one_nothing, one_ping, one_end, ticks_start, ticks_on, ticks_end, close, close_frame, IsUtf8-from_is_utf8}
pub use Rattle.hub_core.proofs.CallLemmas.{Forgets, Stays, IsEnd, IsNext, appends_accepted, appends_stay, appends_quiet, appends_taken, arrives_taken, counts_accepted, end_close, end_failed, gone_phase, head_notices, head_progress, hub_accepted, hub_taken, makes_none, message_is_sent, notes_alone, notes_given, notes_nobody, notes_open, notes_unserved, notices_ends, number_is_sent, opened_elsewhere, opened_untold, phase_known, phase_known as phase_there, plain_enters, plain_next, sends_as, sends_noted, sends_nothing, sends_put, sends_served, sends_unserved, ties_accepted, ties_stay, ties_taken, with_accepted, stays_forgotten}
pub use Rattle.hub_core.proofs.CloseLemmas.{FitsClose, close_fits, obeys_close, order_closed, ties_leaving}
pub use Rattle.hub_core.proofs.CountLemmas.{count_begins, count_end, count_next, nobody, subscriber_known, subscriber_open, subscriber_present, zero_topics}
pub use Rattle.hub_core.proofs.FailLemmas.{fail_appended, fail_appends, fail_elsewhere, fail_gone, fail_proceeds, fail_ties}
pub use Rattle.hub_core.proofs.HubSteps.{Enters}
pub use Rattle.hub_core.proofs.ItemLemmas.{drops_sent, octets_sent}
pub use Rattle.hub_core.proofs.LeaveLemmas.{all_at_once, all_later, front_at_once, goes, goes_loses, goes_notes, leave_advances, leave_appends, leave_before, leave_beside, leave_drops, leave_elsewhere, leave_fails, leave_fails_none, leave_front_other, leave_gone, leave_lines, leave_net, leave_others, leave_short_other, leave_taken, leave_takes_all, leave_ties, leave_waits, may_leave, topics_end}
pub use Rattle.hub_core.proofs.NoteLemmas.{NotesOne, Notices, Still, StillOrNew, advances_noted, appends_noted, counts_changed, drops_silent, enters_held, fails_noted, front_noted, is_inner, items_still, line_noted, net_noted, notes_entered, notes_none, notices_entered, notices_none, still_entered, still_of, still_same}
pub use Rattle.hub_core.proofs.OfferLemmas.{ending_shown, offers_broken, offers_finished, offers_none, offers_only, offers_whole, same_elsewhere}
pub use Rattle.hub_core.proofs.OrderLemmas.{open_alone, order_published, order_refused, refused_by, unserved_noted, why_shown}
pub use Rattle.hub_core.proofs.PublishLemmas.{PublishesTo, further, publishes_end, publishes_next, publishes_none, to_end, unless_kept}
pub use Rattle.hub_core.proofs.PutLemmas.{passed_appends, put_advances, put_appends, put_beside, put_elsewhere, put_front_other, put_net, put_phase, put_present, put_proceeds, put_short_other, put_tells, put_ties, put_waits, put_waits_other}
pub use Rattle.hub_core.proofs.RowLemmas.{holds_past, hub_passed, hub_settled, may_hold_past, no_row_zero, passes_of, row_room, settles, settling_ends, settling_next, settling_starts}
pub use Rattle.hub_core.proofs.SentLemmas.{failures_after, gone_by_after, progress_with, sent_failures, sent_gone, sent_gone_by, sent_may, sent_outgoing, sent_progress, sent_silent, sent_taken, sent_tells, sent_untold, sent_wrote, short_still, silent_short_from, split_notes}
pub use Rattle.hub_core.proofs.StandLemmas.{all_outgoing, appends_gone, open_has, present_open, sent_or_gone}
pub use Rattle.hub_core.proofs.StateLemmas.{SameRows, beside_change, change_elsewhere, change_named, change_octets, change_phase, change_present, change_progress, drops_none, drops_same, entry_changed, entry_kept, front_still, hub_changed, is_away, is_there, lines_elsewhere, pairs_same, phase_same, phase_twice, plain_change, present_same, progress_of, progress_same, same_or_not, table_change, taken_same, told_before, topics_elsewhere, topics_here}
pub use Rattle.hub_core.proofs.SubscribeLemmas.{fits, many_is, many_not, subscribe_fits, subscribe_forbidden, subscribe_refused, subscribe_unstored, topics_served}
pub use Rattle.hub_core.proofs.ToldLemmas.{NoNewsUpTo, appends_told, no_news, takes_told, told_between, told_further, told_last}
pub use Rattle.hub_core.proofs.TurnLemmas.{Finishing, appends_finished, at_any, empty_or_not, fewer, finishes_empty, finishes_one, finishing_ends, finishing_next, finishing_skip, finishing_starts, finishing_step, is_known, no_octets, none_at_zero, passes_over, stood, with_tellings}
pub use Rattle.hub_core.proofs.TickLemmas.{counts_given, counts_one, due_as, elsewhere_recounted, heard_as, hub_recounted, makes_recounted, open_there, ping_open, plain_recounts, present_recounted, progress_recounted, stays_recounted, ticks_as, phase_recounted, reading_there, none_there}
