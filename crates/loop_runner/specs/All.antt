-- The words that proofs of this crate and of those above use, under one name.
pub use Rattle.std.specs.BTreeMap.{BTreeMap, WritesThrough, btree_map_len, get, is_at}
pub use Rattle.std.specs.Cmp.{eq_by_cmp_equiv}
pub use Rattle.std.specs.Int.{w16, w64}
pub use Rattle.std.specs.List.{AllByRecursion, filter, list_all, list_any}
unfoldable pub use Rattle.std.specs.List.{IsDistinct}
pub use Rattle.std.specs.Map.{lookup}
pub use Rattle.std.specs.Ordering.{eq_by_cmp, nat_cmp}
pub use Rattle.std.specs.Str.{is_utf8}
pub use Rattle.ws_kinds.specs.All.{ConfigValue, EventValue, NoteValue, OrderValue, close, publish, send, subscribe, unsubscribe, with_topic, without_topic, AreNoted, IsNoted}
pub use Rattle.ws_kinds.specs.ConfigValue.{IsConfig}
pub use Rattle.ws_kinds.specs.declared.conn.Conn.{Conn}
pub use Rattle.ws_kinds.specs.declared.handler.Handler.{Ghosts as HandlerMeaning}
pub use Rattle.ws_kinds.specs.declared.kind.Kind.{Kind}
pub use Rattle.ws_kinds.specs.declared.note.Left.{Left}
pub use Rattle.ws_kinds.specs.declared.note.Left.TheVariants.{LinkFailed, PeerEnd}
pub use Rattle.ws_kinds.specs.declared.note.Phase.{Phase}
pub use Rattle.ws_kinds.specs.declared.note.Phase.TheVariants.{Ending, Gone, Head, Leaving, Open}
pub use Rattle.wire_meaning.specs.All.{Item, close_item, replied, whole, CanBeTold, Event, closed, failed, message, ping, pong, unmasked, Begun, Front, data_front, ends, events_from, gives, is_text, more, opens, reading, is_text_front}
unfoldable pub use Rattle.wire_meaning.specs.All.{reads}
pub use Rattle.wire_meaning.specs.declared.frame.Opcode.TheVariants.{Pong}
pub use Rattle.link_trait.specs.All.{Rose, CountsFault, CountsNetReadFaults, CountsNextFaults, Frees, NetGives, Nexts, Reads, Same, SameNet, Shuts, is_rest, passed_after, passing, NetState}
pub use Rattle.link_trait.specs.declared.net.NetEvent.{NetEvent}
pub use Rattle.link_trait.specs.declared.net.NetRead.{NetRead}
pub use Rattle.frame_reader.specs.All.{Middle, middle_front, ahead, has_ended, raw_of, begun_of, coming, middle_of, HasStepped, IsMore, events_of}
pub use Rattle.frame_reader.specs.Step.{is_last}
pub use Rattle.frame_reader.specs.declared.reader.Reader.{Reader}
pub use Rattle.frame_reader.specs.declared.reader.State.{State}
pub use Rattle.frame_reader.specs.declared.reader.State.TheVariants.{AtFrameStart, Ended, InDataFrame}
pub use Rattle.route_table.specs.All.{RouteTable}
pub use Rattle.topic_guard.specs.Admits.{admits}
pub use Rattle.upgrade_head.specs.All.{Judged, Verdict, admit, answer_text, refuse, undecided, refusal_text, reply_text}
pub use Rattle.run_meaning.specs.All.{is_accepted, is_gone_in, number_of, LivedThroughout, heard, is_frame_heard, last_frame, read, cause_of, closing, is_open, leaves_open, moved, phase, plain, topics_left, world, Follows, arrival, is_acceptance, is_of, is_turn, Standing, unless_gone, Answers, Performs, is_link_failure, is_outgoing, refuses, serves, AreAdmitted, AreReplies, is_opened, is_opened_in, Right, entries, Meaning, BetweenTurns, is_reading, after_turn, at_first, Step, by_note, by_order, notes_of, of_notes, standings_after, has_news, is_telling, AreTold, tell, is_ticking, is_tick, is_uncounted, Timely}
pub use Rattle.hub_lines.specs.All.{Settled, ShortRings, Ties, nothing, only, served, Entry, HubState, PartingValue, Server, TellingValue, entry_at, entry_of, has_entry, is_gone, is_present, phase_at, ring_at, server, is_silent, no_entry}
pub use Rattle.hub_notes.specs.All.{Arrives, Makes, has_frames, Advances, Appends, Proceeds, RingsWait, Waits, NetAfter, RoseBy, NoneToTell, news_at, Progress, due_at, progress_after, progress_after_all, progress_at, progress_by, progress_by_steps, progress_obeys, standings_at, AreAbove, AreRising, IsTable, TakesDue, table_of, TellsBy, tell_at, tell_of, EndsTurn, Offers, finishes, Does, CountsBeside, CountsBy, SameCounts, counts_at, Ticks, is_of_tick}
pub use Rattle.hub_notes.specs.declared.arrival.Arrival.TheVariants.{Busy, Memory, Taken}
pub use Rattle.hub_table.specs.All.{parting_value}
pub use Rattle.hub_core.specs.All.{at, GivesOctets, LosesLink, Notes, Sends}
pub use Rattle.run_laws.specs.All.{Agrees, HearsFrames, HearsHead, IsFed, IsRead, ReaderView, reader_view, is_of_orders}
pub use Rattle.run_told.specs.All.{KeepsOwed, TellsAll, TellsTo, HoldsAs, IsTold, TellsNext}
pub use Rattle.run_ticks.specs.All.{IsTicked}
pub use Rattle.run_kept.specs.All.{AreThere, backlog_at, event_for, HearsAt, IntakeView, Kept, RestsAt, SameButReader, Shows, AreSound, is_inner}
pub use Rattle.loop_runner.specs.Events.{IsSound}
pub use Rattle.loop_runner.specs.Heads.{decision_seen}
pub use Rattle.loop_runner.specs.Intakes.{ChangesIntake, IsNew, LendsIntake, SameIntakes, intake_at, is_admitted, max_of}
pub use Rattle.loop_runner.specs.Keeps.{AreFew, AreViews, Beginning, EndsWithTurn, ForNotes, ForReplies, Holds, IsBetweenTurns, IsLivedThroughout, IsRight, IsSettled, IsSettledIfTold, IsToldNow, KeptAll, beginning, intake_view, meaning_of, no_view, view_by, view_of, with_view}
pub use Rattle.loop_runner.specs.Moments.{Gives, HandsOut, HandsTold, IsKeptThen, Keeps, KeepsNext, KeepsOn, KeepsOne, KeepsView, Moment, Opens, ServesOrders, SettlesNext, TakesIn, TellsOn, TellsOne, moment, with_hub, with_net}
pub use Rattle.loop_runner.specs.Ready.{IsAsked, IsDrained, IsTaken, Ready}
pub use Rattle.loop_runner.specs.Steps.{But, Every, Grows, HasFrames, NotesTurns, OfNotes, OffersIfThere, Onward, RisesBeyond, Running, StaysOrLeaves, Steps, StepsWith, Takes, is_kept_at, weight_at, weight_below, weight_of}
pub use Rattle.loop_runner.specs.Turning.{Between, EndsEvents, MakesRun, MakesTurn, MakesTurns, TakesEvent, WhereKept}
pub use Rattle.loop_runner.specs.Turns.{AreBetween, AreTurns, FailsAs, FailsBeyondLinks, GrowsBy, NotesRun, Passes, PassesBetween, PassesTurn, PassesTurns, RunFailsAs, Runs, ending, goes_on, is_between}
pub use Rattle.loop_runner.specs.declared.admitting.Decision.{Decision}
pub use Rattle.loop_runner.specs.declared.admitting.Decision.TheVariants.{More, Refuse}
pub use Rattle.loop_runner.specs.declared.intakes.Intake.{Intake}
pub use Rattle.loop_runner.specs.declared.intakes.Intakes.{Intakes}
pub use Rattle.loop_runner.specs.declared.turn.Turned.{Turned}
pub use Rattle.loop_runner.specs.declared.turns.Ran.{Ran}
