-- The same, and the lemmas that the proofs of functions and of crates above use.
pub use Rattle.wire_meaning.proofs.Below.{Bool, IsUtf8, List, None, Option, Some, [], ap, append_assoc, arith, bit_xor, cond, drop, false, get_or, if◌then◌else◌, inl, inr, is_none, leb, length, length-append, length-drop, length-take, map, nat_le, nat_lt, not, option_map, refl, slice_index, subst, suc, sym, take, true, zero, ℕ, ◌%◌, ◌&&◌, ◌*◌, ◌++◌, ◌+◌, ◌-◌, ◌/◌, ◌<◌, ◌==◌, ◌^◌, ◌||◌, ◌∙◌, ◌∷◌, ◌≡◌, ◌≤◌, ◌⊎◌, take-append-add, and_parts, cases_eq, cases_lt, cond_both, eq-eqb, false_from_ne_true, le-leb, le-ltb, leb-true, lt-leb, lt-ltb, ne_eqb, not-false, nat_tests, append-nil, drop-append-le, drop_all, drop_at, drop_more, length-take-le, map_push, take-append-drop, take-append-le, take_all, take_at, from_be_bytes-to_be_bytes_2, from_be_bytes-to_be_bytes_8, bit_at-lt, bit_at_xor, same_from_bits, IsCharBoundary-from_take, IsUtf8-append, IsUtf8-drop, IsUtf8-encode, IsUtf8-from_is_utf8, IsUtf8-nil, is_utf8-from_IsUtf8, len_utf8_bounds, length-encode, utf8_valid_len-IsUtf8, utf8_valid_len_le, IsScalar, Width, byte_len, from_be_bytes, is_in_range, to_be_bytes, w16, w64, AllByRecursion, flat_map, is_utf8, error_len_after_one, error_len_after_two, second_byte_max, second_byte_min, valid_len_up_to, Kind, Binary, Text, KeepsRules, Sent, all_spelled, answers, echoed, event_of, sent_octets, AreShort, CanBeTold, IsShort, Event, close_code, closed, closing, failed, is_last, is_sendable, message, ping, pong, Opening, first_octet, has_reserved_bit, is_final, is_masked, key_at, masked_frame, number_at, octets_at, opcode_of, opening, seven_bits, size_at, size_octets, with_key, with_size, unmasked, Begun, Front, IsAllowed, begun_octets, body_front, breach, data_front, ends, events_from, frame_front, front_at, gives, is_control, is_data, is_over, is_reserved, is_text, more, opens, part_is, parts_are, reading, refuses_first, refuses_second, unless_breach, is_text_front, begun_view, event_view, Opcode, Begins, Close, Continuation, Ping, Pong, Reserved}
unfoldable pub use Rattle.wire_meaning.proofs.Below.{utf8_error_len, utf8_valid_len, reads, reads_within}
pub use Rattle.wire_meaning.proofs.BoundLemmas.{reading_short, reads_told, reads_told_at}
pub use Rattle.wire_meaning.proofs.FrameLemmas.{front_of_frame, reads-frame}
pub use Rattle.wire_meaning.proofs.GrowthLemmas.{Extends, Grows, breach_keyed, breach_sized, code_at, code_of, front_extends, front_grows, reading-append, size_grows, size_of}
pub use Rattle.wire_meaning.proofs.LastLemmas.{nothing_follows}
pub use Rattle.wire_meaning.proofs.MaskLemmas.{get_or-unmasked, length-unmasked, unmasked-append, unmasked-unmasked, unmasked_turn, unmasked_turned, xor-xor}
pub use Rattle.wire_meaning.proofs.ReadingLemmas.{Shorter, Yields, at_front, at_gives, at_more, at_opens, control_short, front_shorter, front_yields, gives_shorter, opens_shorter, parts_front, reads_by, reads_is, reads_within_any, size_part}
pub use Rattle.wire_meaning.proofs.SentLemmas.{closing-back, closing_last, reading-sent, then_rest, whole_events}
pub use Rattle.wire_meaning.proofs.TextFront.{IsLongest, continuation_of, front_of_continued, is_text_front-append, longest, not_front}
pub use Rattle.wire_meaning.proofs.TextLemmas.{front_of_text}
