-- What the proofs of this crate use of the crates below, of std, and of its own specs.
pub use Rattle.std.proofs.Common.{Bool, Err, IfSome, IsErr, IsUtf8, List, MatchResult, None, Ok, Option, Result, Some, [], add-one, add_comm, ap, append_assoc, arith, codes, cond, decimal, drop, eqb, false, get_or, if◌then◌else◌, inl, inr, leb, length, ltb, map, not, refl, subst, suc, sym, take, true, zero, ℕ, ◌%◌, ◌&&◌, ◌*◌, ◌++◌, ◌+◌, ◌/◌, ◌<◌, ◌^◌, ◌||◌, ◌∙◌, ◌∷◌, ◌≡◌, ◌≢◌, ◌≤◌, ◌⊎◌}
pub use Rattle.std.proofs.Math.Bool.{or-false as or_false}
pub use Rattle.std.proofs.lemmas.Bool.{and_parts, and_from as both, eqb-true, le-leb, le-ltb, leb-true, lt-ltb, ltb-false, ltb-true}
pub use Rattle.std.proofs.lemmas.Bool.Decides.{Decides-eqb, nat_tests}
pub use Rattle.std.proofs.lemmas.Fmt.{IsAscii-from_digits, decimal-digits_value, decimal_digit, decimal_nonempty, digits_decimal, digits_value-decimal, first_decimal}
pub use Rattle.std.proofs.lemmas.List.{append-nil, drop_at, length-append, take-append-drop, take_all, take_at, take_more}
pub use Rattle.std.proofs.lemmas.Result.{on_ok_weaker}
pub use Rattle.std.proofs.lemmas.Slice.Eq.{strip_prefix_is}
pub use Rattle.std.proofs.lemmas.Str.{IsUtf8-from_ascii}
pub use Rattle.std.proofs.lemmas.Str.Parse.{IsNumeralModel, digit_from_value, numerals_by_value, tells_digits}
pub use Rattle.schedule_text.specs.All.{digit_value, is_ascii_digit, Appends, AllByRecursion, flat_map, list_all, list_any, position, position_or_len, OnOk, result_ok, bytes_eq, AllDigits, digits_value, NoteValue, accepted, busy, closed, dropped, failed, given, gone, head, message, no_room, opened, peer_close, ping_got, pinged, pong_got, tick, told, took, turn, unserved, AreOctets, IsNote, Conn, Left, Why, Act, are_sound_after, can_send, has_arrived, has_ended, is_arrival, is_below, is_ending, is_number, is_rising, is_sound, is_sound_after, Arrives, Ends, Follows, Takes, alone_at, digit_count, has_no_leading_zero, hex_value, number_of, octet_at, pair_value, pairs_at, pairs_with, value_of, with_conn, ◌>>=◌, hex, hex_digit, line, rest_of_line, shown, Fails, Puts, PutsOrFails, WritesText, last_part, last_text, parts, IsAt, Begins, Breaks, IsReadAgain, IsReading, IsRefused, IsText, IsUnlessMemory, fault_after, naming_fault, rising_fault, sending_fault, IsLink, IsOneToOne, Link, drained_word, kind_word, left_word, link_line, note_line, why_word, HasLine, IsNumber, IsTyped, header, schedule_text, spelled, Arrivals, Fault, ReadFault, Last, SinkFault}
unfoldable pub use Rattle.schedule_text.specs.All.{act_at, arrival_at, conn_at, credit_at, named_at, number_at, octets_at, positive_at, room_at, sent_at}
pub use Rattle.link_trait.proofs.Pieces.{TellsAlike-trans as tells_then}
pub use Rattle.mem_net.proofs.All.{rising_is_new}
