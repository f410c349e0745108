-- What the proofs of this crate use of the crates below, of std, and of its own specs.
pub use Rattle.std.proofs.Common.{Bool, IsSome, List, None, Option, Some, [], ap, append-nil, append_assoc, arith, cond, drop, false, inl, inr, is_some, length, length-append, length-drop, map, min, nat_eq, nat_le, nat_lt, not, refl, rules, subst, suc, sym, take, true, zero, ℕ, ⊎_elim, ◌&&◌, ◌++◌, ◌+◌, ◌-◌, ◌<◌, ◌==◌, ◌^◌, ◌||◌, ◌∙◌, ◌∷◌, ◌≡◌, ◌≢◌, ◌≤◌, ◌⊎◌}
pub use Rattle.std.proofs.lemmas.Bool.{cases_eq, ne_eqb, not-true as not_true}
pub use Rattle.std.proofs.lemmas.Bool.Decides.{nat_tests}
pub use Rattle.std.proofs.lemmas.Cmp.{nat_cmp_total}
pub use Rattle.std.proofs.lemmas.List.{append_cancel_left, length-map, length-take, take-append-drop, take_all}
pub use Rattle.std.proofs.lemmas.Map.Entries.{lookup-filter-keys}
pub use Rattle.std.proofs.lemmas.Map.Made.{filter_same_pairs}
pub use Rattle.std.proofs.lemmas.Map.Steps.{length-le_from_keys}
pub use Rattle.loop_runner.specs.All.{BTreeMap, WritesThrough, btree_map_len, get, is_at, eq_by_cmp_equiv, w16, w64, AllByRecursion, filter, list_all, list_any, lookup, eq_by_cmp, nat_cmp, is_utf8, ConfigValue, EventValue, NoteValue, OrderValue, close, publish, send, subscribe, unsubscribe, with_topic, without_topic, AreNoted, IsNoted, Conn, HandlerMeaning, Kind, Left, LinkFailed, PeerEnd, Phase, Ending, Gone, Head, Leaving, Open, Item, close_item, replied, whole, CanBeTold, Event, closed, failed, message, ping, pong, unmasked, Begun, Front, data_front, ends, events_from, gives, is_text, more, opens, reading, is_text_front, Pong, Rose, CountsFault, CountsNetReadFaults, CountsNextFaults, Frees, NetGives, Nexts, Reads, Same, SameNet, Shuts, is_rest, passed_after, passing, NetState, NetEvent, NetRead, Middle, middle_front, ahead, has_ended, raw_of, begun_of, coming, middle_of, HasStepped, IsMore, events_of, is_last, Reader, State, AtFrameStart, Ended, InDataFrame, RouteTable, Judged, Verdict, admit, answer_text, refuse, undecided, refusal_text, reply_text, is_accepted, is_gone_in, number_of, LivedThroughout, heard, is_frame_heard, last_frame, read, cause_of, closing, is_open, leaves_open, moved, phase, plain, topics_left, world, Follows, arrival, is_acceptance, is_of, is_turn, Standing, unless_gone, Answers, Performs, is_link_failure, is_outgoing, refuses, serves, AreAdmitted, AreReplies, is_opened, is_opened_in, Right, entries, Meaning, admits, BetweenTurns, is_reading, after_turn, at_first, Step, by_note, by_order, notes_of, of_notes, standings_after, has_news, is_telling, AreTold, tell, Settled, ShortRings, Ties, nothing, only, served, Entry, HubState, PartingValue, Server, TellingValue, entry_at, entry_of, has_entry, is_gone, is_present, phase_at, ring_at, server, is_silent, Arrives, Makes, has_frames, Advances, Appends, Proceeds, RingsWait, Waits, NetAfter, RoseBy, NoneToTell, news_at, Progress, due_at, progress_after, progress_after_all, progress_at, progress_by, progress_by_steps, progress_obeys, standings_at, AreAbove, AreRising, IsTable, TakesDue, table_of, TellsBy, tell_at, tell_of, EndsTurn, Offers, finishes, Busy, Memory, Taken, parting_value, at, GivesOctets, LosesLink, Notes, Sends, Agrees, HearsFrames, HearsHead, IsFed, IsRead, ReaderView, reader_view, is_of_orders, KeepsOwed, TellsAll, TellsTo, HoldsAs, IsTold, TellsNext, AreThere, backlog_at, event_for, HearsAt, IntakeView, Kept, RestsAt, SameButReader, Shows, AreSound, is_inner, IsSound, decision_seen, ChangesIntake, IsNew, SameIntakes, intake_at, is_admitted, max_of, AreFew, AreViews, Beginning, EndsWithTurn, ForNotes, ForReplies, Holds, IsBetweenTurns, IsLivedThroughout, IsRight, IsSettled, IsSettledIfTold, IsToldNow, KeptAll, beginning, intake_view, meaning_of, view_by, view_of, with_view, HandsOut, IsKeptThen, Keeps, KeepsOn, KeepsOne, KeepsView, Moment, ServesOrders, TakesIn, moment, with_net, IsAsked, IsDrained, IsTaken, Ready, But, Every, Grows, HasFrames, NotesTurns, OfNotes, OffersIfThere, Onward, RisesBeyond, Running, StaysOrLeaves, Steps, StepsWith, Takes, is_kept_at, weight_at, weight_below, weight_of, EndsEvents, MakesRun, MakesTurn, MakesTurns, TakesEvent, WhereKept, AreBetween, AreTurns, FailsAs, FailsBeyondLinks, GrowsBy, NotesRun, Passes, PassesBetween, PassesTurn, PassesTurns, RunFailsAs, Runs, ending, goes_on, is_between, Decision, More, Refuse, Intake, Intakes, Turned, Ran, is_ticking, is_tick, is_uncounted, Timely, Does, CountsBeside, CountsBy, SameCounts, counts_at, Ticks, is_of_tick, no_entry, IsTicked, IsConfig}
unfoldable pub use Rattle.loop_runner.specs.All.{IsDistinct, reads}
pub use Rattle.ws_kinds.proofs.Facts.{and_left, and_right, and_true, by_cases, clash, equal_is as is_same, same_number as of_here, other_number as of_other, or_left, or_right, stays_live}
pub use Rattle.wire_meaning.proofs.All.{reads_told}
pub use Rattle.upgrade_head.proofs.All.{judged_stays}
pub use Rattle.run_meaning.proofs.All.{none_follow, notes_of-append, notes_of-notes, list_all-append, list_any-append, texts_exist, sound_one, open_shown, accepted_more, all_then, none_then}
pub use Rattle.hub_lines.proofs.All.{short_silent}
pub use Rattle.hub_notes.proofs.All.{steps_of_notes, number_then, rose_same, told_none, told_one, other, own, phase_of_away, present_is_not_gone, unaccepted}
pub use Rattle.run_laws.proofs.All.{none_but, agrees_aside, told_is, agrees_phase, agrees_entries, new_above, head_admitted, step_is_read, agrees_hub_phase, agrees_told_phase, due_taken, admitted_longer, replies_before, reply_of_opened, orders_notes, outgoing_of_orders, aside_but, next_but}
pub use Rattle.run_told.proofs.All.{noted_next, all_told, owed_aside, owed_call, owed_same, owed_steps, owed_then, pass_ends, pass_lasts, pass_more, pass_next, pass_starts, open_is, finishes_silent, finishes_turnless, holds_as, news_is, told_call, told_end, told_first, told_next, told_orders, told_proceed}
pub use Rattle.run_ticks.proofs.All.{ticked_call, ticked_counted, ticked_first, ticked_orders, ticked_proceed, ticked_tick}
pub use Rattle.run_kept.proofs.All.{kept_arrived, due_accepted, none_due, sound_call, sound_closed, sound_comes, sound_octets, sound_proceed, sound_serves, sound_shown, sound_time, away, there_arrived, there_same, there_shut, closed_given, message_given, opened_given, told_given, gone_accepted, known_world, shows_sound, shows_told, kept_passing, sound_arrival, sound_none, reading_at, reading_shown, close_kept, ended_kept, failed_kept, failure_kept, given_kept, later_kept, passed_kept, ping_kept, pong_kept, refused_kept, stepped_kept, waits_kept, shut_kept, kept_right_there, sound_offer, sound_turn, lived_through_turn, rest_links, turn_settled_there, agrees_now, kept_busy, kept_first, kept_memory, kept_no_room, kept_offered, kept_readable, kept_shut, kept_tick, kept_turned, kept_writable, tick_advances}
