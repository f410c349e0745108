-- What the proofs of this crate use of the crates below, of std, and of its own specs.
pub use Rattle.std.proofs.Common.{Bool, List, None, Option, Some, [], add-zero, ap, append-nil, append_assoc, arith, cond, drop, false, is_some, length, length-append, map, nat_eq, nat_lt, not, refl, subst, suc, sym, take, true, zero, ℕ, ⊎_elim, ◌&&◌, ◌++◌, ◌+◌, ◌-◌, ◌<◌, ◌^◌, ◌||◌, ◌∙◌, ◌∷◌, ◌≡◌, ◌≢◌, ◌≤◌}
pub use Rattle.std.proofs.Math.Bool.{and-false, or-true, or_assoc, or-false as or_false}
pub use Rattle.std.proofs.lemmas.Bool.{and_from, cases_eq, not-true}
pub use Rattle.std.proofs.lemmas.Bool.Decides.{nat_tests}
pub use Rattle.std.proofs.lemmas.Grind.{flat_map-append}
pub use Rattle.std.proofs.lemmas.List.{drop-append-le, length-take-le, map-append}
pub use Rattle.std.proofs.lemmas.Option.{slice_get-get_or}
pub use Rattle.run_laws.specs.All.{flat_map, list_all, list_any, ConfigValue, EventValue, NoteValue, OrderValue, close, publish, send, subscribe, unsubscribe, has_topic, topics_of, with_topic, without_topic, AreNoted, Left, Finished, Idle, LinkFailed, PeerEnd, Phase, Ending, Gone, Head, Leaving, Open, Why, Item, all_spelled, close_item, reply, spelled, whole, Event, reading, Pong, HasNoTraffic, Nexts, ReadTold, Reads, SameTraffic, SameTrafficBut, Shuts, passed_after, passing, NetState, NetEvent, NetRead, ahead, has_ended, is_end, raw_of, coming, HasStepped, events_of, is_last, Reader, State, AtFrameStart, Ended, InDataFrame, Step, Close, Ping, RouteTable, Judged, Verdict, admit, answer_text, more, refuse, Covers, TopicsEnd, same, accepted_by, closed_by, closes, gather, given, given_by, has_number, is_accepted, is_gone_by_in, number_of, only_if, taken, taken_by, took_by, total, writes, IsFair, without, Carried, Carries, Heard, IsLife, Lived, Reaches, first_frames, frames_in, heard, heard_by, is_frame_heard, last_frame, life_by, opened, read, refused, to_hear, Line, World, after_own, answered, appended, cause_of, closed_by_server, closing, data_frame, event_of, first_world, is_gone_phase, is_open, is_refused, leaves_open, line_after, moved, noted, noted_all, obey, obeyed, orders_of, phase, plain, put, run, sends, step, topics_left, unknown, world, Follows, Mark, is_aside, is_inner, marks_by, marks_of, arrival, conn_of, is_acceptance, is_event, is_gone_by, is_left, is_of, is_unserved, window, Ordered, Standing, event_at, is_away, standing_of, standings, unless_gone, why_at, Answers, Performs, is_outgoing, refuses, serves, AreAdmitted, AreReplies, is_admitted, is_opened, is_opened_in, entries, is_arrival, is_entry, by_note, by_order, is_for, items_of, line_by, line_by_all, notes_of, standings_after, IsNewTo, KeepsLine, Settled, Starts, nothing, only, served, DropsFairly, TakesFront, item_at, kept, AreFairNotes, FairFor, FairLine, FairTold, Held, IsFairDrop, Stands, StandsFor, StandsTold, held_at, Entry, HubState, PartingValue, Server, entry_at, has_entry, is_present, no_entry, numbered_at, pending_at, phase_at, ring_at, server, is_dropped, is_silent, taken_of, took_sum, Advances, Appends, Does, Proceeds, KeepsFront, SameDrops, items_at, FailsAfter, NetAfter, Progress, due_at, due_of, may_all_step, may_step, progress_after, progress_after_all, progress_at, progress_by, progress_by_step, progress_by_steps, progress_obeys, standing_in, standings_at, topics_at, ServesAll, AreAbove, AreRising, TakesDue, is_kept, table_of, Agrees, AgreesAt, IsToldOnce, is_early, line_progress, untold, HearsAll, HearsFrames, HearsFront, HearsHead, to_come, AreUnlike, IsFed, IsRead, ReaderView, is_all, reader_view, FollowsAt, FollowsBut, is_closed, is_of_orders, is_quiet, is_wordless, is_unheard, note_of_event, is_at_most_arrival, is_unread}
pub use Rattle.ws_kinds.proofs.Facts.{and_left, and_right, and_true, is_less as below, by_cases, clash, is_unequal as is_other, equal_is as is_same, same_number as itself, or_left, or_none, or_right, plus_none}
pub use Rattle.upgrade_head.proofs.All.{judged_stays}
pub use Rattle.run_meaning.proofs.All.{follows_aside, other_left, world_conns, has_number-append, first_behind, lines_after, noted_line, other_line, own_line, all_follow, all_then, none_follow, none_then, notes_of-append, notes_of-notes, event_lines, event_ordered, event_state, ordered_other, accepted-append, closes-append, gather-append, given-append, gone_by-append, list_all-append, list_any-append, taken-append, writes-append, heard_one, accepts_none, act, ends_left, ends_obeys, gone_moves, items_steps, leaves_shown, moves_shown, none_moves, obey_acts, open_shown, perform-line, world_plain}
pub use Rattle.hub_lines.proofs.All.{fair_at, taken_some, none_of, kept_same, faired_silent, silent_sum, sum_more}
pub use Rattle.hub_notes.proofs.All.{dropped_named, drops_as, drops_still, fairly_later, fairly_longer, short_named, silent_undropped, took_named, front_later, away_by_phase, outgoing_unaccepted, phase_of_away, rest_unaccepted, unaccepted, unaccepted_then}
