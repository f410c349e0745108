-- The words that proofs of this crate and of those above use, under one name.
pub use Rattle.std.specs.Borrow.{Bor}
pub use Rattle.std.specs.Io.KnownBytes.{Appends, Consumes, IsAtEnd}
pub use Rattle.std.specs.List.{AllByRecursion, count_by, flat_map, list_all, list_any}
pub use Rattle.std.specs.Option.{option_to_list}
pub use Rattle.ws_kinds.specs.All.{ConfigValue, EventValue, WhatValue, NoteValue, note_value, OrderValue, close, publish, send, subscribe, unsubscribe, AreNotes, RecorderState, told_by}
pub use Rattle.ws_kinds.specs.declared.kind.Kind.{Kind}
pub use Rattle.ws_kinds.specs.declared.note.Left.{Left}
pub use Rattle.ws_kinds.specs.declared.note.Left.TheVariants.{LinkFailed, PeerEnd}
pub use Rattle.ws_kinds.specs.declared.note.Phase.{Phase}
pub use Rattle.ws_kinds.specs.declared.note.Phase.TheVariants.{Ending, Gone, Head, Leaving, Open}
pub use Rattle.wire_meaning.specs.All.{Item, answers, close_item, echoed, spelled, AreShort, Event, is_last, frame, reading}
pub use Rattle.wire_meaning.specs.declared.frame.Opcode.TheVariants.{Begins, Pong}
pub use Rattle.link_trait.specs.All.{Rose, TellsAlike, is_rest, NetState, AppendsFront}
pub use Rattle.link_trait.specs.declared.act.Act.{Act}
pub use Rattle.link_trait.specs.declared.net.NetEvent.{NetEvent}
pub use Rattle.mem_net.specs.All.{arrivals, credit_of, finish_by, finish_of, is_end, is_fault, is_write_failure, or_then, passes, passes_by, sent, writes_fail, LinkState, is_finish, is_ready, new_link, FollowsSchedule, MemNetState, link_at, link_of, net_state, start_net, has_arrived, is_ending}
pub use Rattle.mem_net.specs.declared.mem_link.Finish.{Finish}
pub use Rattle.schedule_text.specs.All.{WritesText, IsRefused, IsText, Link, link_line, note_line, report, header}
pub use Rattle.schedule_text.specs.declared.fault.Fault.{Fault}
pub use Rattle.schedule_text.specs.declared.fault.Fault.TheVariants.{TooLong}
pub use Rattle.frame_reader.specs.All.{ahead, raw_of, room_of, HasStepped, IsMore, events_of}
pub use Rattle.frame_reader.specs.declared.reader.Reader.{Reader}
pub use Rattle.frame_reader.specs.declared.step.Step.{Step}
pub use Rattle.made_schedule.specs.All.{made_acts}
pub use Rattle.made_schedule.specs.Summary.{summary_line}
pub use Rattle.route_table.specs.All.{RouteTable}
pub use Rattle.bus_handler.specs.All.{bus_order, bus_said, order_on, routes_of_bus}
pub use Rattle.run_meaning.specs.All.{accepted_by, gather, is_accepted, is_gone_by_in, is_gone_in, number_of, total, LivedThroughout, Line, World, after_own, answered, appended, close_frame, data_frame, event_of, first_world, is_gone_phase, is_refused, line_after, noted, obey, obeyed, orders_of, phase, plain, run, step, is_gone_by, is_left, is_of, window, AreReplies, Right, Server, BetweenTurns, is_reading, at_first, frames_of}
pub use Rattle.hub_lines.specs.All.{Settled, held_at, held_octets, Entry, HubState, entry_at, has_entry, is_gone, is_present, numbered_at, phase_at, ring_at, server}
pub use Rattle.hub_notes.specs.All.{IsTable, table_of}
pub use Rattle.run_kept.specs.All.{AreThere, backlog_at, IntakeView}
pub use Rattle.loop_runner.specs.All.{intake_at, AreFew, AreViews, Beginning, EndsWithTurn, IsBetweenTurns, IsLivedThroughout, IsRight, IsSettled, KeptAll, no_view, GrowsBy, Runs, goes_on}
pub use Rattle.loop_runner.specs.declared.intakes.Intakes.{Intakes}
pub use Rattle.command_words.specs.Meaning.{Text, may_stand, meant}
pub use Rattle.command_words.specs.declared.command.Command.{Command}
pub use Rattle.command_words.specs.declared.command.Command.TheVariants.{Echo, Made, Replay, Serve}
pub use Rattle.ws_program.specs.Answers.{Answers, AnswersAll, AnswersNext, AnswersOctets, AnswersStep, CountsFaults, GoesOn, Passes, Puts, answers_to}
pub use Rattle.ws_program.specs.BusServer.{bus_server}
pub use Rattle.ws_program.specs.Echo.{EchoEnds, EchoesAll, EchoesFront, EndsDone, EndsPast, EndsTooLong, ReadsNoFurther, RefusesTooLong, has_ended, max_input, max_read}
pub use Rattle.ws_program.specs.Replay.{AnswersSchedule, AnswersText, CanRun, GivesAll, HasRun, IsRefusal, IsReportOfText, IsTaken, RefusesAs, ReplayEnds, ReplaysAll, ReplaysFront, StopsReading, WritesNothing}
pub use Rattle.ws_program.specs.Replayed.{AreLinks, IsNew, IsReplayed, IsReport, IsRunOf, CountsItems, all_link_lines, count_at, is_end_of, is_fault_of, is_stop, is_turn_act, items_there, links_of}
pub use Rattle.ws_program.specs.Made.{Counts, IsSummary, IsSummaryLine, MadeEnds, WritesSummary, is_counted, over_accepted, sums_over, with_link}
pub use Rattle.ws_program.specs.NewServer.{IsNewServer}
pub use Rattle.ws_program.specs.Serve.{AreNotesOf, EndsTurns, FailsInTurn, FailsToListen, IsRightRun, IsServed, IsUnused, LeavesSink, Outer, RunsNew, Scene, ServeEnds, ServesTo, ServesTurns, Service, WritesServed, outer, scene, served_line}
pub use Rattle.ws_program.specs.Status.{exit_code_of}
pub use Rattle.ws_program.specs.Streams.{Streams, TellsFaults, streams}
pub use Rattle.ws_program.specs.Words.{IsEcho, IsMade, IsNoCommand, IsNoReader, IsNoServer, IsReplay, IsServe, RefusesWords, is_reader, is_server}
pub use Rattle.ws_program.specs.declared.answers.Answered.{Answered}
pub use Rattle.ws_program.specs.declared.made.Sums.{Sums}
pub use Rattle.ws_program.specs.declared.status.Status.{Status}
pub use Rattle.ws_program.specs.declared.status.Status.TheVariants.{Done, NetFault, OutOfMemory, ReadFault, Refused, Usage, WriteFault}
