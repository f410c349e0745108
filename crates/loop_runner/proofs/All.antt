-- The same, and the lemmas that the proofs of functions and of crates above use.
pub use Rattle.loop_runner.proofs.Below.{Bool, IsSome, List, None, Option, Some, [], ap, append-nil, append_assoc, arith, cond, drop, false, inl, inr, is_some, length, length-append, length-drop, map, min, nat_eq, nat_le, nat_lt, not, refl, rules, subst, suc, sym, take, true, zero, ℕ, ⊎_elim, ◌&&◌, ◌++◌, ◌+◌, ◌-◌, ◌<◌, ◌==◌, ◌^◌, ◌||◌, ◌∙◌, ◌∷◌, ◌≡◌, ◌≢◌, ◌≤◌, ◌⊎◌, cases_eq, ne_eqb, not_true, nat_tests, nat_cmp_total, append_cancel_left, length-map, length-take, take-append-drop, take_all, lookup-filter-keys, filter_same_pairs, length-le_from_keys, BTreeMap, WritesThrough, btree_map_len, get, is_at, eq_by_cmp_equiv, w16, w64, AllByRecursion, filter, list_all, list_any, lookup, eq_by_cmp, nat_cmp, is_utf8, and_left, and_right, and_true, by_cases, clash, is_same, of_here, of_other, or_left, or_right, stays_live, ConfigValue, EventValue, NoteValue, OrderValue, close, publish, send, subscribe, unsubscribe, with_topic, without_topic, AreNoted, IsNoted, Conn, HandlerMeaning, Kind, Left, LinkFailed, PeerEnd, Phase, Ending, Gone, Head, Leaving, Open, reads_told, Item, close_item, replied, whole, CanBeTold, Event, closed, failed, message, ping, pong, unmasked, Begun, Front, data_front, ends, events_from, gives, is_text, more, opens, reading, is_text_front, Pong, Rose, CountsFault, CountsNetReadFaults, CountsNextFaults, Frees, NetGives, Nexts, Reads, Same, SameNet, Shuts, is_rest, passed_after, passing, NetState, NetEvent, NetRead, Middle, middle_front, ahead, has_ended, raw_of, begun_of, coming, middle_of, HasStepped, IsMore, events_of, is_last, Reader, State, AtFrameStart, Ended, InDataFrame, RouteTable, judged_stays, Judged, Verdict, admit, answer_text, refuse, undecided, refusal_text, reply_text, none_follow, notes_of-append, notes_of-notes, list_all-append, list_any-append, texts_exist, sound_one, open_shown, accepted_more, is_accepted, is_gone_in, number_of, LivedThroughout, heard, is_frame_heard, last_frame, read, cause_of, closing, is_open, leaves_open, moved, phase, plain, topics_left, world, Follows, arrival, is_acceptance, is_of, is_turn, Standing, unless_gone, Answers, Performs, is_link_failure, is_outgoing, refuses, serves, AreAdmitted, AreReplies, is_opened, is_opened_in, Right, entries, Meaning, admits, BetweenTurns, is_reading, after_turn, at_first, Step, by_note, by_order, notes_of, of_notes, standings_after, has_news, is_telling, AreTold, tell, short_silent, Settled, ShortRings, Ties, nothing, only, served, Entry, HubState, PartingValue, Server, TellingValue, entry_at, entry_of, has_entry, is_gone, is_present, phase_at, ring_at, server, is_silent, steps_of_notes, number_then, rose_same, told_none, told_one, other, own, phase_of_away, present_is_not_gone, unaccepted, Arrives, Makes, has_frames, Advances, Appends, Proceeds, RingsWait, Waits, NetAfter, RoseBy, NoneToTell, news_at, Progress, due_at, progress_after, progress_after_all, progress_at, progress_by, progress_by_steps, progress_obeys, standings_at, AreAbove, AreRising, IsTable, TakesDue, table_of, TellsBy, tell_at, tell_of, EndsTurn, Offers, finishes, Busy, Memory, Taken, parting_value, at, GivesOctets, LosesLink, Notes, Sends, none_but, agrees_aside, told_is, agrees_phase, agrees_entries, new_above, head_admitted, step_is_read, agrees_hub_phase, agrees_told_phase, due_taken, admitted_longer, replies_before, reply_of_opened, orders_notes, outgoing_of_orders, aside_but, next_but, Agrees, HearsFrames, HearsHead, IsFed, IsRead, ReaderView, reader_view, is_of_orders, noted_next, all_told, owed_aside, owed_call, owed_same, owed_steps, owed_then, pass_ends, pass_lasts, pass_more, pass_next, pass_starts, open_is, finishes_silent, finishes_turnless, holds_as, news_is, told_call, told_end, told_first, told_next, told_orders, told_proceed, KeepsOwed, TellsAll, TellsTo, HoldsAs, IsTold, TellsNext, kept_arrived, due_accepted, sound_call, sound_closed, sound_comes, sound_octets, sound_proceed, sound_serves, sound_shown, sound_time, away, there_arrived, there_same, there_shut, closed_given, message_given, opened_given, told_given, gone_accepted, known_world, shows_sound, shows_told, kept_passing, sound_arrival, sound_none, reading_at, reading_shown, close_kept, ended_kept, failed_kept, failure_kept, given_kept, later_kept, passed_kept, ping_kept, pong_kept, refused_kept, stepped_kept, waits_kept, shut_kept, kept_right_there, sound_offer, sound_turn, lived_through_turn, rest_links, turn_settled_there, agrees_now, kept_busy, kept_first, kept_memory, kept_no_room, kept_offered, kept_readable, kept_shut, kept_tick, kept_turned, kept_writable, AreThere, backlog_at, event_for, HearsAt, IntakeView, Kept, RestsAt, SameButReader, Shows, AreSound, is_inner, IsSound, decision_seen, ChangesIntake, IsNew, SameIntakes, intake_at, is_admitted, max_of, AreFew, AreViews, Beginning, EndsWithTurn, ForNotes, ForReplies, Holds, IsBetweenTurns, IsLivedThroughout, IsRight, IsSettled, IsSettledIfTold, IsToldNow, KeptAll, beginning, intake_view, meaning_of, view_by, view_of, with_view, HandsOut, IsKeptThen, Keeps, KeepsOn, KeepsOne, KeepsView, Moment, ServesOrders, TakesIn, moment, with_net, IsAsked, IsDrained, IsTaken, Ready, But, Every, Grows, HasFrames, NotesTurns, OfNotes, OffersIfThere, Onward, RisesBeyond, Running, StaysOrLeaves, Steps, StepsWith, Takes, is_kept_at, weight_at, weight_below, weight_of, EndsEvents, MakesRun, MakesTurn, MakesTurns, TakesEvent, WhereKept, AreBetween, AreTurns, FailsAs, FailsBeyondLinks, GrowsBy, NotesRun, Passes, PassesBetween, PassesTurn, PassesTurns, RunFailsAs, Runs, ending, goes_on, is_between, Decision, More, Refuse, Intake, Intakes, Turned, Ran, is_ticking, is_tick, is_uncounted, Timely, Does, CountsBeside, CountsBy, SameCounts, counts_at, Ticks, is_of_tick, no_entry, IsTicked, IsConfig, tick_advances, ticked_call, ticked_counted, ticked_first, ticked_orders, ticked_proceed, ticked_tick}
unfoldable pub use Rattle.loop_runner.proofs.Below.{IsDistinct, reads}
pub use Rattle.loop_runner.proofs.AdmitLemmas.{keep_opened, keep_refused, keep_waiting}
pub use Rattle.loop_runner.proofs.AnswerLemmas.{grows_last, grows_none, grows_whole}
pub use Rattle.loop_runner.proofs.ArriveLemmas.{accepted, refused, turned_away}
pub use Rattle.loop_runner.proofs.CloseLemmas.{fewer_then, keep_closed, kept_phase, steps_taken, taken_fewer, taken_was}
pub use Rattle.loop_runner.proofs.EventLemmas.{ahead_sound, step_sound}
pub use Rattle.loop_runner.proofs.FrameKeeps.{keep_close, keep_failed, keep_message, keep_more, keep_passed, keep_ping, keep_pong, keep_rest, kept_done, kept_over}
pub use Rattle.loop_runner.proofs.GrowLemmas.{grows_advances, grows_ended, grows_hub, grows_makes, grows_net, grows_next, grows_noted, grows_proceeds, grows_read, grows_same, grows_served, grows_shut, grows_then}
pub use Rattle.loop_runner.proofs.HeadLemmas.{ends_reading, frames_after, frames_of, goes_to, gone_now, opened_due, opened_phase, steps_opened, taken_after}
pub use Rattle.loop_runner.proofs.IntakeLemmas.{at_key}
pub use Rattle.loop_runner.proofs.KeepLemmas.{Earlier, admitted_on, earlier, few_front, few_of, holds_on, keep_notes, keep_on, keep_one_same, keep_one_then, keep_there, keep_views, keeps_on_then, keeps_then, same_notes, sent_told, served_told, where_told, CountsOn, counts_beside, counts_first, sent_ticked, served_ticked}
pub use Rattle.loop_runner.proofs.NotedLemmas.{links_both, links_noted, links_paid, links_still, none_numbered, number_none, turns_both, turns_noted, turns_same}
pub use Rattle.loop_runner.proofs.OpenLemmas.{OpensNobody, opens_ended, opens_none, opens_offered, opens_same, opens_sent, opens_served, opens_then, outgoing_unopened}
pub use Rattle.loop_runner.proofs.ProgressLemmas.{Calm, Stays, begins, begins_of, calm_after, calm_notes, calm_same, kept_at, kept_by, phase_read, phases_read, present_after, present_at, read_kept, read_present, reading_after, reads_before, stays_after, stays_notes, stays_or_leaves, stays_same, there_at, weight_by}
pub use Rattle.loop_runner.proofs.ReadKeepLemmas.{count_of, front_of, keep_away, keep_fed, keep_gone, keep_later, keep_lost}
pub use Rattle.loop_runner.proofs.RightLemmas.{kept_at_first, right_after, settled_ended, settled_told}
pub use Rattle.loop_runner.proofs.RunningLemmas.{none_due, ready_of, running_away, running_begun, running_freed, running_same, running_shut, running_steps, running_ticked, running_tidied, running_written, taken_away, unread_away}
pub use Rattle.loop_runner.proofs.StepLemmas.{accepts_none, begin_none, call_begins, onward_call, onward_still, onward_then, starts, steps_but, steps_ended, steps_failed, steps_first, steps_freed, steps_given, steps_makes, steps_noted, steps_notes, steps_same, steps_sends, steps_served, steps_still, steps_then, telling_still, waits_freed, steps_ticks}
pub use Rattle.loop_runner.proofs.TellingLemmas.{ended_between, keep_told, news_kept, news_low, nothing_to_tell, told_in_turn}
pub use Rattle.loop_runner.proofs.ThroughoutLemmas.{ending_rest, lived_after, lived_first, turn_last}
pub use Rattle.loop_runner.proofs.TidyLemmas.{all_entries}
pub use Rattle.loop_runner.proofs.TurnKeeps.{few_before, few_onward, few_passes, keep_accepted, keep_busy, keep_ended, keep_freed, keep_full, keep_memory, keep_no_room, keep_readable, keep_tick}
pub use Rattle.loop_runner.proofs.TurnLemmas.{fails_beyond, fails_ended, fails_then, links_next, links_rose, rose_before, next_least, none_rest, turns_none as passed_none, passes_ended, passes_next, passes_onward, passes_then, passes_turn, ready_new, steps_read, there_next, turns_last, turns_more, turns_stop}
pub use Rattle.loop_runner.proofs.TurningLemmas.{event_between, event_ended, kept_then, right_then, run_made, settled_then, turn_made, turns_none, turns_then}
pub use Rattle.loop_runner.proofs.ViewLemmas.{Written, are_views_of, new_here, none_some, same_but, same_some, view_fed, view_read, views_new, views_of, views_same, views_shut, views_tidied, views_written, with_here, with_other, with_same, with_twice, written}
