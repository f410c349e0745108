-- What the proofs of this crate use of the crates below, of std, and of its own specs.
pub use Rattle.std.proofs.Common.{Bool, IsUtf8, List, None, Option, Some, [], ap, append_assoc, arith, bit_xor, cond, drop, false, get_or, if◌then◌else◌, inl, inr, is_none, leb, length, length-append, length-drop, length-take, map, nat_le, nat_lt, not, option_map, refl, slice_index, subst, suc, sym, take, true, zero, ℕ, ◌%◌, ◌&&◌, ◌*◌, ◌++◌, ◌+◌, ◌-◌, ◌/◌, ◌<◌, ◌==◌, ◌^◌, ◌||◌, ◌∙◌, ◌∷◌, ◌≡◌, ◌≤◌, ◌⊎◌}
pub use Rattle.std.proofs.Math.Seq.{take-append-add}
pub use Rattle.std.proofs.lemmas.Bool.{and_parts, cases_eq, cases_lt, cond_both, eq-eqb, false_from_ne_true, le-leb, le-ltb, leb-true, lt-leb, lt-ltb, ne_eqb, not-false}
pub use Rattle.std.proofs.lemmas.Bool.Decides.{nat_tests}
pub use Rattle.std.proofs.lemmas.List.{append-nil, drop-append-le, drop_all, drop_at, drop_more, length-take-le, map_push, take-append-drop, take-append-le, take_all, take_at}
pub use Rattle.std.proofs.lemmas.Nat.{from_be_bytes-to_be_bytes_2, from_be_bytes-to_be_bytes_8}
pub use Rattle.std.proofs.lemmas.Nat.Bits.{bit_at-lt, bit_at_xor, same_from_bits}
pub use Rattle.std.proofs.lemmas.Str.{IsCharBoundary-from_take, IsUtf8-append, IsUtf8-drop, IsUtf8-encode, IsUtf8-from_is_utf8, IsUtf8-nil, is_utf8-from_IsUtf8, len_utf8_bounds, length-encode, utf8_valid_len-IsUtf8, utf8_valid_len_le}
pub use Rattle.wire_meaning.specs.All.{IsScalar, Width, byte_len, from_be_bytes, is_in_range, to_be_bytes, w16, w64, AllByRecursion, flat_map, is_utf8, error_len_after_one, error_len_after_two, second_byte_max, second_byte_min, valid_len_up_to, Kind, Binary, Text, KeepsRules, Sent, all_spelled, answers, echoed, event_of, sent_octets, AreShort, CanBeTold, IsShort, Event, close_code, closed, closing, failed, is_last, is_sendable, message, ping, pong, Opening, first_octet, has_reserved_bit, is_final, is_masked, key_at, masked_frame, number_at, octets_at, opcode_of, opening, seven_bits, size_at, size_octets, with_key, with_size, unmasked, Begun, Front, IsAllowed, begun_octets, body_front, breach, data_front, ends, events_from, frame_front, front_at, gives, is_control, is_data, is_over, is_reserved, is_text, more, opens, part_is, parts_are, reading, refuses_first, refuses_second, unless_breach, is_text_front, begun_view, event_view, Opcode, Begins, Close, Continuation, Ping, Pong, Reserved}
unfoldable pub use Rattle.wire_meaning.specs.All.{utf8_error_len, utf8_valid_len, reads, reads_within}
