-- What the proofs of this crate use of the crates below, of std, and of its own specs.
pub use Rattle.std.proofs.Common.{Bool, List, MatchOption, None, Option, Some, [], add-zero, add_assoc, ap, append-nil, append_assoc, arith, cond, drop, drop_of_length-le, eq-or-lt_of_le, false, inl, inr, le_refl, length, map, nat_eq, nat_le, nat_lt, not, refl, slice_get, subst, suc, sym, take, true, zero, zero-add, ℕ, ◌&&◌, ◌++◌, ◌+◌, ◌<◌, ◌||◌, ◌∙◌, ◌∷◌, ◌≡◌, ◌≢◌, ◌≤◌, ◌⊎◌}
pub use Rattle.std.proofs.Math.Bool.{or-false, or-false as or_false}
pub use Rattle.std.proofs.lemmas.Bool.Decides.{nat_tests}
pub use Rattle.std.proofs.lemmas.Grind.{flat_map-append}
pub use Rattle.std.proofs.lemmas.List.{drop-append-le, length-take, map-append, take-append-le}
pub use Rattle.run_meaning.specs.All.{flat_map, list_all, list_any, ConfigValue, EventValue, NoteValue, note_value, OrderValue, close, publish, send, subscribe, unsubscribe, has_topic, with_topic, without_topic, Kind, Left, Finished, Idle, LinkFailed, PeerEnd, Note, Phase, Ending, Gone, Head, Leaving, Open, Why, Absent, BadCode, BadText, BadTopic, Forbidden, NotOpen, TooBig, TooMany, Item, all_spelled, reply, spelled, Event, reading, SameTraffic, NetState, RouteTable, FieldList, fields_of, head_end, Judged, JudgedHead, Verdict, admit, answer_text, asks_to_upgrade, by_key, by_path, has_version, is_get, more, path_of, refuse, route_of, unended, key_of, Covers, TopicsEnd, same, accepted_by, closed_by, closes, dropped_by, drops, gather, given, given_by, has_number, is_accepted, is_gone_by_in, is_gone_in, taken, taken_by, took_by, total, writes, EchoLine, echo_after, echo_by, echo_lines, echo_own, echo_server, echo_start, echo_view, sent_back, events, events_from, one_or_none, state_after, kept, kept_of, without, Carried, Carries, Heard, IsLife, Lived, LivedThroughout, Reaches, first_frames, frames_in, heard, heard_by, is_frame_heard, last_frame, life_by, opened, read, refused, to_hear, Line, World, after_own, answered, appended, cause_of, close_frame, closed_by_server, closing, conns_after, data_frame, event_of, first_world, is_frame, is_gone_phase, is_naming, is_open, is_refused, is_still, leaves_alone, leaves_open, line_after, moved, noted, noted_all, obey, obeyed, orders_of, param_after, perform, phase, plain, put, route_after, run, sends, serve, step, topics_left, world, Follows, Mark, is_aside, is_inner, marks_by, marks_of, is_event, is_gone, is_gone_by, is_left, is_of, is_turn, is_unserved, until, window, Justified, JustifiedBelow, Ordered, Standing, asked, at_order, event_at, first_reason, is_away, is_bad_close, is_bad_text, is_bad_topic, may_be_gone, named, named_by, needs_memory, standing_of, standings, underway, unless_gone, why_at, why_close, why_send, why_subscribe, why_unsubscribe, by_gone, by_memory, by_reason, Answers, Performs, is_outgoing, refuses, serves, for_memory, for_reason, AreAdmitted, AreReplies, HasReplies, is_admitted, is_opened, is_opened_in, Right, RightRun, Sound, Server, served_by, Serving, Step, by_note, by_order, frames_of, is_for, items_by, items_of, line_by, line_by_all, notes_of, of_notes, standing_after, standing_after_all, standing_by, standing_obeys, standings_after, Tell, tell_by, tell_by_all, line_value}
pub use Rattle.ws_kinds.proofs.Facts.{and_left, and_right, by_cases, clash, or_left as left_false, or_assoc as or-assoc, or_left, or_right, or_right as right_false, equal_is as same_number}
pub use Rattle.wire_meaning.proofs.All.{reading-append}
pub use Rattle.upgrade_head.proofs.All.{judged_stays, judged_unique}
