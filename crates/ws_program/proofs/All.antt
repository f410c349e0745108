-- The same, and the lemmas that the proofs of functions and of crates above use.
pub use Rattle.ws_program.proofs.Below.{Bool, List, None, Option, Some, String, [], ap, append-nil, append_assoc, arith, cond, drop, false, inl, inr, length, length-drop, length-take, map, min, nat_eq, nat_lt, not, refl, replicate, rules, string_bytes, slice_get, subst, suc, sym, take, take-append-drop, true, zero, ℕ, ◌&&◌, ◌++◌, ◌+◌, ◌-◌, ◌<◌, ◌^◌, ◌||◌, ◌∙◌, ◌∷◌, ◌≡◌, ◌≢◌, ◌≤◌, ◌⊎◌, Appends-nil, Appends-trans, Consumes-nil, Consumes-trans, or_false, eq-or-lt_of_le, take-length, cases_lt, or_first, or_second, nat_tests, flat_map-append, length-append, length-take-le, take-append-le, take_all, list_any-append, is_count_by, Bor, Appends, Consumes, IsAtEnd, AllByRecursion, count_by, flat_map, list_all, list_any, option_to_list, and_left, and_right, both_left, both_right, by_cases, clash, ConfigValue, EventValue, WhatValue, NoteValue, note_value, OrderValue, close, publish, send, subscribe, unsubscribe, AreNotes, RecorderState, told_by, Kind, Left, LinkFailed, PeerEnd, Phase, Ending, Gone, Head, Leaving, Open, reading_short, reads_is, Item, answers, close_item, echoed, spelled, AreShort, Event, is_last, frame, reading, Begins, Pong, TellsAlike-trans, Rose, TellsAlike, is_rest, NetState, AppendsFront, Act, NetEvent, not_there, arrivals, credit_of, finish_by, finish_of, is_end, is_fault, is_write_failure, or_then, passes, passes_by, sent, writes_fail, LinkState, is_finish, is_ready, new_link, FollowsSchedule, MemNetState, link_at, link_of, net_state, start_net, has_arrived, is_ending, Finish, spelled_some, one_to_one, WritesText, IsRefused, IsText, Link, link_line, note_line, report, header, Fault, TooLong, ahead, raw_of, room_of, HasStepped, IsMore, events_of, Reader, Step, RouteTable, bus_order, bus_said, order_on, routes_of_bus, gather-append, gone-append, act, perform-line, take_one, accepted_by, gather, is_accepted, is_gone_by_in, is_gone_in, number_of, LivedThroughout, Line, World, after_own, answered, appended, close_frame, data_frame, event_of, first_world, is_gone_phase, is_refused, line_after, noted, obey, obeyed, orders_of, phase, plain, run, step, is_gone_by, is_left, is_of, window, AreReplies, Right, Server, BetweenTurns, is_reading, at_first, frames_of, settled_held, next, none_of, Settled, held_at, held_octets, Entry, HubState, entry_at, has_entry, is_gone, phase_at, ring_at, server, IsTable, table_of, phase_there, obeys_by, unaccepted_phase, there_first, known_world, AreThere, backlog_at, IntakeView, kept_at_first, lived_first, echo_in_range, intake_at, AreFew, AreViews, Beginning, EndsWithTurn, IsBetweenTurns, IsLivedThroughout, IsRight, IsSettled, KeptAll, no_view, GrowsBy, Runs, goes_on, Intakes, Text, may_stand, meant, Command, Echo, Made, Replay, Answers, AnswersAll, AnswersNext, AnswersStep, GoesOn, Passes, Puts, answers_to, bus_server, EchoesFront, EndsDone, EndsPast, EndsTooLong, ReadsNoFurther, has_ended, AnswersText, CanRun, HasRun, IsRefusal, IsTaken, RefusesAs, ReplayEnds, ReplaysAll, ReplaysFront, AreLinks, IsReplayed, IsReport, all_link_lines, is_end_of, is_fault_of, is_stop, is_turn_act, links_of, Streams, streams, IsEcho, IsNoCommand, IsReplay, RefusesWords, Answered, Status, Done, NetFault, OutOfMemory, ReadFault, Refused, Usage, WriteFault}
pub use Rattle.ws_program.proofs.EchoLemmas.{Piece, Stands, done_closed, echo_start, echo_then, front_written, no_further, nothing_further, past_no_further, past_too_long, piece_read, stands_first, stands_short, stands_then, unmoved_no_further}
pub use Rattle.ws_program.proofs.EndLemmas.{failed_then, ran_never_failed, ran_never_spent, ran_stopped, spent_then, stopped_then}
pub use Rattle.ws_program.proofs.EventLemmas.{answers_all_then, answers_then, answers_to-append, front_then, goes_on_then, next_step, none_of_both, octets_fault, short_after, short_rest, some_of_both}
pub use Rattle.ws_program.proofs.FewLemmas.{few_items}
pub use Rattle.ws_program.proofs.BeginLemmas.{first_few, first_of, made_can_begin, not_stopped, one_turn}
pub use Rattle.ws_program.proofs.MadeLemmas.{count_in_phase, count_more, sum_more, sums_more, sums_still, summary_is}
pub use Rattle.ws_program.proofs.PassLemmas.{front_behind, front_of_more, passes_nothing, passes_then, tells_alike_same, tells_alike_unmoved}
pub use Rattle.ws_program.proofs.ReplayLemmas.{can_run, fault_of_all, reported, text_ends, text_of_all}
pub use Rattle.ws_program.proofs.ReplayedLemmas.{replay_all, replay_ended, replay_failed, replay_given, replay_short, replay_unended}
pub use Rattle.ws_program.proofs.ReportLemmas.{held_gone, held_none, held_there, links_fail, links_grow, links_more, links_next, text_fails, text_grows, text_next, writes_less, writes_then}
pub use Rattle.ws_program.proofs.RunLemmas.{between_first, bus_beginning, few_passed, has_run, kept_first, never_failed, never_spent, no_views, IsKeptLast, there_at_first, views_at_first}
pub use Rattle.ws_program.proofs.StepLemmas.{close_step, failed_step, message_step, ping_step, puts_event, puts_last}
pub use Rattle.ws_program.proofs.StopLemmas.{all_answers, is_going, no_stop, passes_few, plain_passed, stop_done, stop_passed}
