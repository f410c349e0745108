-- The words that proofs of this crate and of those above use, under one name.
pub use Rattle.std.specs.Int.{Width, byte_len, from_be_bytes, w16, w64}
pub use Rattle.std.specs.Str.{is_utf8}
pub use Rattle.ws_kinds.specs.declared.kind.Kind.{Kind}
pub use Rattle.wire_meaning.specs.All.{Event, closed, closing, failed, ping, pong, Opening, has_reserved_bit, is_final, is_masked, key_at, number_at, octets_at, opcode_of, seven_bits, size_at, with_key, with_size, unmasked, Begun, Front, begun_octets, body_front, data_front, ends, events_from, frame_front, front_at, gives, is_control, is_data, is_out_of_turn, is_over, is_reserved, is_text, more, reading, refuses_first, refuses_second, unless_breach, is_text_front}
unfoldable pub use Rattle.wire_meaning.specs.All.{reads}
pub use Rattle.wire_meaning.specs.declared.frame.Opcode.{Opcode}
pub use Rattle.wire_meaning.specs.declared.frame.Opcode.TheVariants.{Begins, Close, Continuation, Ping, Pong, Reserved}
pub use Rattle.utf8_stream.specs.All.{is_front}
pub use Rattle.frame_reader.specs.Close.{CloseIs}
pub use Rattle.frame_reader.specs.Header.{Describes, HeaderIs, IsHeader, behind, kind_in, opened}
pub use Rattle.frame_reader.specs.Middle.{Middle, middle_front, moved}
pub use Rattle.frame_reader.specs.Parsed.{AwaitsOctets, HasEvent, Keeps, ParsedIs, Tells, burden, event_of, is_last, last, lent_of, span_event}
pub use Rattle.frame_reader.specs.Reader.{ahead, has_ended, is_at_start, is_end, is_unread, max_of, raw_of, room_of}
pub use Rattle.frame_reader.specs.State.{begun_of, coming, is_text_open, left_of, middle_of, weight}
pub use Rattle.frame_reader.specs.Step.{HasStepped, IsMore, RestsStepped, events_of}
pub use Rattle.frame_reader.specs.declared.data_frame.DataFrame.{DataFrame}
pub use Rattle.frame_reader.specs.declared.header.FrameHeader.{FrameHeader}
pub use Rattle.frame_reader.specs.declared.header.MessageState.{MessageState}
pub use Rattle.frame_reader.specs.declared.reader.EventSpan.{EventSpan}
pub use Rattle.frame_reader.specs.declared.reader.Reader.{Reader}
pub use Rattle.frame_reader.specs.declared.reader.State.{State}
pub use Rattle.frame_reader.specs.declared.reader.State.TheVariants.{AtFrameStart, Ended, InDataFrame}
