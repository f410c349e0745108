-- The words that proofs of this crate and of those above use, under one name.
pub use Rattle.std.specs.Char.{IsScalar}
pub use Rattle.std.specs.Int.{Width, byte_len, from_be_bytes, is_in_range, to_be_bytes, w16, w64}
pub use Rattle.std.specs.List.{AllByRecursion, flat_map}
pub use Rattle.std.specs.Str.{is_utf8}
pub use Rattle.std.specs.Str.Lossy.{error_len_after_one, error_len_after_two, second_byte_max, second_byte_min, valid_len_up_to}
unfoldable pub use Rattle.std.specs.Str.Lossy.{utf8_error_len, utf8_valid_len}
pub use Rattle.ws_kinds.specs.declared.kind.Kind.{Kind}
pub use Rattle.ws_kinds.specs.declared.kind.Kind.TheVariants.{Binary, Text}
pub use Rattle.wire_meaning.specs.Answer.{Item, KeepsRules, Sent, all_spelled, answers, can_drop, close_body, close_item, echoed, event_of, is_droppable, reply as replied, reply, sent_octets, spelled, whole}
pub use Rattle.wire_meaning.specs.Bounds.{AreShort, CanBeTold, IsClose, IsShort, is_failure}
pub use Rattle.wire_meaning.specs.Event.{Event, close_code, closed, closing, failed, is_last, is_sendable, message, ping, pong}
pub use Rattle.wire_meaning.specs.Frame.{Opening, first_octet, frame, has_reserved_bit, header, header_with, is_final, is_masked, key_at, masked_frame, number_at, octets_at, opcode_number, opcode_of, opening, seven_bits, size_at, size_octets, with_key, with_size}
pub use Rattle.wire_meaning.specs.Mask.{unmasked}
pub use Rattle.wire_meaning.specs.Reading.{Begun, Front, IsAllowed, begun_octets, body_front, breach, data_front, ends, events_from, frame_front, front_at, gives, is_control, is_data, is_out_of_turn, is_over, is_reserved, is_text, more, opens, part_is, parts_are, reading, refuses_first, refuses_second, unless_breach}
unfoldable pub use Rattle.wire_meaning.specs.Reading.{reads, reads_within}
pub use Rattle.wire_meaning.specs.Text.{is_text_front}
pub use Rattle.wire_meaning.specs.View.{begun_view, event_view, front_view, opening_view}
pub use Rattle.wire_meaning.specs.declared.frame.Opcode.{Opcode}
pub use Rattle.wire_meaning.specs.declared.frame.Opcode.TheVariants.{Begins, Close, Continuation, Ping, Pong, Reserved}
