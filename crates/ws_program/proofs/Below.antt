-- What the proofs of this crate use of the crates below, of std, and of its own specs.
pub use Rattle.std.proofs.Common.{Bool, List, None, Option, Some, String, [], ap, append-nil, append_assoc, arith, cond, drop, false, inl, inr, length, length-drop, length-take, map, min, nat_eq, nat_lt, not, refl, replicate, rules, string_bytes, slice_get, subst, suc, sym, take, take-append-drop, true, zero, ℕ, ◌&&◌, ◌++◌, ◌+◌, ◌-◌, ◌<◌, ◌^◌, ◌||◌, ◌∙◌, ◌∷◌, ◌≡◌, ◌≢◌, ◌≤◌, ◌⊎◌}
pub use Rattle.std.proofs.KnownBytes.{Appends-nil, Appends-trans, Consumes-nil, Consumes-trans}
pub use Rattle.std.proofs.Math.Bool.{or-false as or_false}
pub use Rattle.std.proofs.Math.Nat.{eq-or-lt_of_le}
pub use Rattle.std.proofs.Math.Seq.{take-length}
pub use Rattle.std.proofs.lemmas.Bool.{cases_lt, or_left as or_first, or_right as or_second}
pub use Rattle.std.proofs.lemmas.Bool.Decides.{nat_tests}
pub use Rattle.std.proofs.lemmas.Grind.{flat_map-append}
pub use Rattle.std.proofs.lemmas.List.{length-append, length-take-le, take-append-le, take_all}
pub use Rattle.std.proofs.lemmas.List.Folds.{list_any-append}
pub use Rattle.std.proofs.lemmas.List.Recursion.{is_count_by}
pub use Rattle.ws_program.specs.All.{Bor, Appends, Consumes, IsAtEnd, AllByRecursion, count_by, flat_map, list_all, list_any, option_to_list, ConfigValue, EventValue, WhatValue, NoteValue, note_value, OrderValue, close, publish, send, subscribe, unsubscribe, AreNotes, RecorderState, told_by, Kind, Left, LinkFailed, PeerEnd, Phase, Ending, Gone, Head, Leaving, Open, Item, answers, close_item, echoed, spelled, AreShort, Event, is_last, frame, reading, Begins, Pong, Rose, TellsAlike, is_rest, NetState, AppendsFront, Act, NetEvent, arrivals, credit_of, finish_by, finish_of, is_end, is_fault, is_write_failure, or_then, passes, passes_by, sent, writes_fail, LinkState, is_finish, is_ready, new_link, FollowsSchedule, MemNetState, link_at, link_of, net_state, start_net, has_arrived, is_ending, Finish, WritesText, IsRefused, IsText, Link, link_line, note_line, report, header, Fault, TooLong, ahead, raw_of, room_of, HasStepped, IsMore, events_of, Reader, Step, RouteTable, bus_order, bus_said, order_on, routes_of_bus, accepted_by, gather, is_accepted, is_gone_by_in, is_gone_in, number_of, LivedThroughout, Line, World, after_own, answered, appended, close_frame, data_frame, event_of, first_world, is_gone_phase, is_refused, line_after, noted, obey, obeyed, orders_of, phase, plain, run, step, is_gone_by, is_left, is_of, window, AreReplies, Right, Server, BetweenTurns, is_reading, at_first, frames_of, Settled, held_at, held_octets, Entry, HubState, entry_at, has_entry, is_gone, phase_at, ring_at, server, IsTable, table_of, AreThere, backlog_at, IntakeView, intake_at, AreFew, AreViews, Beginning, EndsWithTurn, IsBetweenTurns, IsLivedThroughout, IsRight, IsSettled, KeptAll, no_view, GrowsBy, Runs, goes_on, Intakes, Text, may_stand, meant, Command, Echo, Made, Replay, Answers, AnswersAll, AnswersNext, AnswersStep, GoesOn, Passes, Puts, answers_to, bus_server, EchoesFront, EndsDone, EndsPast, EndsTooLong, ReadsNoFurther, has_ended, AnswersText, CanRun, HasRun, IsRefusal, IsTaken, RefusesAs, ReplayEnds, ReplaysAll, ReplaysFront, AreLinks, IsReplayed, IsReport, all_link_lines, is_end_of, is_fault_of, is_stop, is_turn_act, links_of, Streams, streams, IsEcho, IsNoCommand, IsReplay, RefusesWords, Answered, Status, Done, NetFault, OutOfMemory, ReadFault, Refused, Usage, WriteFault, total, is_present, numbered_at, IsRunOf, CountsItems, count_at, items_there, Counts, IsSummary, IsSummaryLine, MadeEnds, WritesSummary, is_counted, over_accepted, sums_over, with_link, made_acts, summary_line, Sums, IsMade, IsNoReader, is_reader}
pub use Rattle.ws_kinds.proofs.Facts.{and_left, and_right, and_left as both_left, and_right as both_right, by_cases, clash}
pub use Rattle.wire_meaning.proofs.All.{reading_short, reads_is}
pub use Rattle.link_trait.proofs.Pieces.{TellsAlike-trans}
pub use Rattle.mem_net.proofs.All.{not_there}
pub use Rattle.schedule_text.proofs.All.{spelled_some, one_to_one}
pub use Rattle.run_meaning.proofs.All.{accepted-append, gather-append, total-append, gone-append, act, perform-line, take_one}
pub use Rattle.hub_lines.proofs.All.{settled_held, next, none_of}
pub use Rattle.hub_core.proofs.All.{phase_there}
pub use Rattle.run_laws.proofs.All.{accepted_known, away_by_gone, obeys_by, there_by_phase, unaccepted_phase}
pub use Rattle.run_kept.proofs.All.{there_first, known_world}
pub use Rattle.loop_runner.proofs.All.{kept_at_first, lived_first, ready_new, rose_before}
pub use Rattle.command_words.proofs.EchoRange.{echo_in_range}
pub use Rattle.command_words.proofs.ServeRange.{serve_in_range}
