-- The same, and the lemmas that the proofs of functions and of crates above use.
pub use Rattle.schedule_text.proofs.Below.{Bool, Err, IfSome, IsErr, IsUtf8, List, MatchResult, None, Ok, Option, Result, Some, [], add-one, add_comm, ap, append_assoc, arith, codes, cond, decimal, drop, eqb, false, get_or, if◌then◌else◌, inl, inr, leb, length, ltb, map, not, refl, subst, suc, sym, take, true, zero, ℕ, ◌%◌, ◌&&◌, ◌*◌, ◌++◌, ◌+◌, ◌/◌, ◌<◌, ◌^◌, ◌||◌, ◌∙◌, ◌∷◌, ◌≡◌, ◌≢◌, ◌≤◌, ◌⊎◌, or_false, and_parts, both, eqb-true, le-leb, le-ltb, leb-true, lt-ltb, ltb-false, ltb-true, Decides-eqb, nat_tests, IsAscii-from_digits, decimal-digits_value, decimal_digit, decimal_nonempty, digits_decimal, digits_value-decimal, first_decimal, append-nil, drop_at, length-append, take-append-drop, take_all, take_at, take_more, on_ok_weaker, strip_prefix_is, IsUtf8-from_ascii, IsNumeralModel, digit_from_value, numerals_by_value, tells_digits, digit_value, is_ascii_digit, Appends, AllByRecursion, flat_map, list_all, list_any, position, position_or_len, OnOk, result_ok, bytes_eq, AllDigits, digits_value, NoteValue, accepted, busy, closed, dropped, failed, given, gone, head, message, no_room, opened, peer_close, ping_got, pinged, pong_got, tick, told, took, turn, unserved, AreOctets, IsNote, Conn, Left, Why, tells_then, Act, rising_is_new, are_sound_after, can_send, has_arrived, has_ended, is_arrival, is_below, is_ending, is_number, is_rising, is_sound, is_sound_after, Arrives, Ends, Follows, Takes, alone_at, digit_count, has_no_leading_zero, hex_value, number_of, octet_at, pair_value, pairs_at, pairs_with, value_of, with_conn, ◌>>=◌, hex, hex_digit, line, rest_of_line, shown, Fails, Puts, PutsOrFails, WritesText, last_part, last_text, parts, IsAt, Begins, Breaks, IsReadAgain, IsReading, IsRefused, IsText, IsUnlessMemory, fault_after, naming_fault, rising_fault, sending_fault, IsLink, IsOneToOne, Link, drained_word, kind_word, left_word, link_line, note_line, why_word, HasLine, IsNumber, IsTyped, header, schedule_text, spelled, Arrivals, Fault, ReadFault, Last, SinkFault}
unfoldable pub use Rattle.schedule_text.proofs.Below.{act_at, arrival_at, conn_at, credit_at, named_at, number_at, octets_at, positive_at, room_at, sent_at}
pub use Rattle.schedule_text.proofs.Again.{read_again, reads_back}
pub use Rattle.schedule_text.proofs.Begun.{BreaksAs, IsLate, act_sound, after_end, bad_line, broken_line, is_late, line_is, next_line, none_from, none_is, not_rising, shorter, some_fault, spelled_some, taken_none, taken_some, unknown}
pub use Rattle.schedule_text.proofs.Followed.{and_assoc, and_true, clash, follows_arrival, follows_end, follows_other, has_come, has_named, rises, rising_none, rising_some}
pub use Rattle.schedule_text.proofs.Fronts.{count_at_end, count_at_place, count_le, front_digits, text_is_read}
pub use Rattle.schedule_text.proofs.Hex.{IsPairs, pair_again, pairs_again, pairs_take}
pub use Rattle.schedule_text.proofs.Lines.{BeginsWith, act_again, act_once, act_takes}
pub use Rattle.schedule_text.proofs.Numbers.{bind_some, chosen_other, chosen_some, ends_number, number_again, number_starts, number_takes, octet_takes, own, some_is, starts_number}
pub use Rattle.schedule_text.proofs.Outputs.{appends_then, exit, exit_before, fails_more, flat_map_more, flat_map_next, flat_map_parted, hex_flat, hex_next, hex_parted, line_text, put_whole, puts_fails, puts_then, then}
pub use Rattle.schedule_text.proofs.Printed.{prints_next, prints_part, typed_next}
pub use Rattle.schedule_text.proofs.Reported.{one_to_one}
pub use Rattle.schedule_text.proofs.Unique.{only_refusal, only_text, text_begins}
