-- The same, and the lemmas that the proofs of functions and of crates above use.
pub use Rattle.run_meaning.proofs.Below.{Bool, List, MatchOption, None, Option, Some, [], add-zero, add_assoc, ap, append-nil, append_assoc, arith, cond, drop, drop_of_length-le, eq-or-lt_of_le, false, inl, inr, le_refl, length, map, nat_eq, nat_le, nat_lt, not, refl, slice_get, subst, suc, sym, take, true, zero, zero-add, ℕ, ◌&&◌, ◌++◌, ◌+◌, ◌<◌, ◌||◌, ◌∙◌, ◌∷◌, ◌≡◌, ◌≢◌, ◌≤◌, ◌⊎◌, or-false, or_false, nat_tests, flat_map-append, drop-append-le, length-take, map-append, take-append-le, flat_map, list_all, list_any, and_left, and_right, by_cases, clash, left_false, or-assoc, or_left, or_right, right_false, same_number, ConfigValue, EventValue, NoteValue, note_value, OrderValue, close, publish, send, subscribe, unsubscribe, has_topic, with_topic, without_topic, Kind, Left, Finished, Idle, LinkFailed, PeerEnd, Note, Phase, Ending, Gone, Head, Leaving, Open, Why, Absent, BadCode, BadText, BadTopic, Forbidden, NotOpen, TooBig, TooMany, reading-append, Item, all_spelled, reply, spelled, Event, reading, SameTraffic, NetState, RouteTable, judged_stays, judged_unique, FieldList, fields_of, head_end, Judged, JudgedHead, Verdict, admit, answer_text, asks_to_upgrade, by_key, by_path, has_version, is_get, more, path_of, refuse, route_of, unended, key_of, Covers, TopicsEnd, same, accepted_by, closed_by, closes, dropped_by, drops, gather, given, given_by, has_number, is_accepted, is_gone_by_in, is_gone_in, taken, taken_by, took_by, total, writes, EchoLine, echo_after, echo_by, echo_lines, echo_own, echo_server, echo_start, echo_view, sent_back, events, events_from, one_or_none, state_after, kept, kept_of, without, Carried, Carries, Heard, IsLife, Lived, LivedThroughout, Reaches, first_frames, frames_in, heard, heard_by, is_frame_heard, last_frame, life_by, opened, read, refused, to_hear, Line, World, after_own, answered, appended, cause_of, close_frame, closed_by_server, closing, conns_after, data_frame, event_of, first_world, is_frame, is_gone_phase, is_naming, is_open, is_refused, is_still, leaves_alone, leaves_open, line_after, moved, noted, noted_all, obey, obeyed, orders_of, param_after, perform, phase, plain, put, route_after, run, sends, serve, step, topics_left, world, Follows, Mark, is_aside, is_inner, marks_by, marks_of, is_event, is_gone, is_gone_by, is_left, is_of, is_turn, is_unserved, until, window, Justified, JustifiedBelow, Ordered, Standing, asked, at_order, event_at, first_reason, is_away, is_bad_close, is_bad_text, is_bad_topic, may_be_gone, named, named_by, needs_memory, standing_of, standings, underway, unless_gone, why_at, why_close, why_send, why_subscribe, why_unsubscribe, by_gone, by_memory, by_reason, Answers, Performs, is_outgoing, refuses, serves, for_memory, for_reason, AreAdmitted, AreReplies, HasReplies, is_admitted, is_opened, is_opened_in, Right, RightRun, Sound, Server, served_by, Serving, Step, by_note, by_order, frames_of, is_for, items_by, items_of, line_by, line_by_all, notes_of, of_notes, standing_after, standing_after_all, standing_by, standing_obeys, standings_after, Tell, tell_by, tell_by_all, line_value}
pub use Rattle.run_meaning.proofs.Answered.{opened_first, refused_first}
pub use Rattle.run_meaning.proofs.BridgeLemmas.{Blocked, Underway, accepts_within, block, covers_all, covers_notes, covers_shows, first, justified_all, justified_first, names_from, next_lines, next_world, rest, this_unserved, underway_next, whole_line, whole_notes}
pub use Rattle.run_meaning.proofs.EchoLemmas.{lines_phase, world_view}
pub use Rattle.run_meaning.proofs.EventLemmas.{events_from-append, events_one}
pub use Rattle.run_meaning.proofs.Following.{follows_aside, follows_same, other_left}
pub use Rattle.run_meaning.proofs.Growing.{Grows, grows_same, grows_then, run_conns, run_gone, run_grows, world_conns}
pub use Rattle.run_meaning.proofs.Kept.{all_kept, has_number-append, kept_dropped, kept_one, kept_put, without-append, without-later, without-same}
pub use Rattle.run_meaning.proofs.Leaving.{first_behind, world_frames}
pub use Rattle.run_meaning.proofs.LineLemmas.{line_by_all-append, lines_after, lines_after-append, lines_away, lines_gone, lines_put, lines_stay, noted_line, notes_by, other_line, own_line}
pub use Rattle.run_meaning.proofs.Lives.{life_continues, life_unique, replies_front}
pub use Rattle.run_meaning.proofs.NoteLemmas.{all_follow as all_as, all_follow, all_then, named_none, named_then, names_itself, names_now, none_follow, none_follow as none_of, none_then, notes_of-append, notes_of-notes, one_within, outgoing_no_name, outgoing_no_order, outgoing_within, refused_before, refused_then, within_no_event}
pub use Rattle.run_meaning.proofs.OrderedLemmas.{Named, event_lines, event_ordered, event_state, named_at, performs_within}
pub use Rattle.run_meaning.proofs.Ordering.{at_order_one, gone_more, justified_below_note, justified_next, justified_note, justified_unserved, named_by-not, named_now, named_one, ordered_event, ordered_none, ordered_other}
pub use Rattle.run_meaning.proofs.Parts.{Placed, PlacedOne, accepted-append, and-assoc, closes-append, drops-append, early, gather-append, given-append, gone-append, gone_by-append, late, list_all-append, list_any-append, place_of, place_of_one, taken-append, total-append, until-append, writes-append}
pub use Rattle.run_meaning.proofs.Parts.PlacedOne.{new, old}
pub use Rattle.run_meaning.proofs.Replies.{run_reply, texts_exist, with_replies, world_reply}
pub use Rattle.run_meaning.proofs.Serving.{alone_unless_gone, is_within, named-none, serving_end, serving_next, serving_note, serving_start, serving_unserved}
pub use Rattle.run_meaning.proofs.Singles.{answered_state, heard_one, line_event, line_one, marks_one, phase_one, plain_one, sound_one, state_all, state_run}
pub use Rattle.run_meaning.proofs.Starts.{right_none, run_none}
pub use Rattle.run_meaning.proofs.Staying.{carried_first, carried_gone, carried_put, carried_same, carried_took, lived_first, lived_gone, lived_same}
pub use Rattle.run_meaning.proofs.StepLemmas.{accepts_none, act, away_moves, ends_left, ends_noted, ends_obeys, ends_steps, away_moves as gone_moved, away_moves as gone_moves, away_moves as gone_stays, items-append, items_steps, leaves_shown, moves_shown, none_moves, number_first, obey_acts, obey_does, obey_not, open_shown, performs_more, shown_noted, shown_obeys, shown_step, shown_steps, standing-append}
pub use Rattle.run_meaning.proofs.Throughout.{accepted_more, throughout_octets, throughout_other, throughout_turn}
pub use Rattle.run_meaning.proofs.Underway.{left_alone, noted_all-line, own_still, perform-append, perform-line, perform-same, perform-state, take_one, underway_all, underway_first, underway_note, underway_served, underway_unserved}
pub use Rattle.run_meaning.proofs.WhyLemmas.{away_not_open, away_shown, may_where_away, needs_asked, open_standing, open_where_for, some_where_away, why_asked, why_away}
pub use Rattle.run_meaning.proofs.Worlds.{is_event_at, naming-not, noted_all-append, refused_more, refused_one, run-append, run_plain, step_event, step_plain, window_event, window_one, world_event, world_one, world_plain}
