-- What the proofs of this crate use of the crates below, of std, and of its own specs.
pub use Rattle.std.proofs.Common.{Bool, List, None, Option, Some, [], ap, append_assoc, arith, bit_xor, cond, drop, false, get_or, inl, inr, length, length-append, length-drop, length-take, nat_le, nat_lt, not, refl, rules, set, subst, suc, sym, take, true, zero, ℕ, ◌%◌, ◌&&◌, ◌++◌, ◌+◌, ◌-◌, ◌<◌, ◌==◌, ◌^◌, ◌||◌, ◌∙◌, ◌∷◌, ◌≡◌, ◌≤◌}
pub use Rattle.std.proofs.Math.Seq.{drop-append-add, take-append-add}
pub use Rattle.std.proofs.lemmas.Bool.{and_parts, cases_eq, cases_lt, eq-eqb, le-ltb, lt-ltb, ne_eqb, not-true}
pub use Rattle.std.proofs.lemmas.List.{append-nil, drop-append-le, drop-drop, drop-set-lt, drop_at, length-take-le, places, same_lists, take-append-drop, take-append-le, take_all, take_at, take_more_set}
pub use Rattle.frame_reader.specs.All.{Width, byte_len, from_be_bytes, w16, w64, is_utf8, Kind, Event, closed, closing, failed, ping, pong, Opening, has_reserved_bit, is_final, is_masked, key_at, number_at, octets_at, opcode_of, seven_bits, size_at, with_key, with_size, unmasked, Begun, Front, begun_octets, body_front, data_front, ends, events_from, frame_front, front_at, gives, is_control, is_data, is_out_of_turn, is_over, is_reserved, is_text, more, reading, refuses_first, refuses_second, unless_breach, is_text_front, Opcode, Begins, Close, Continuation, Ping, Pong, Reserved, is_front, CloseIs, Describes, IsHeader, behind, kind_in, opened, Middle, middle_front, moved, Keeps, Tells, burden, is_last, last, lent_of, span_event, ahead, has_ended, is_at_start, is_end, is_unread, max_of, raw_of, room_of, begun_of, coming, is_text_open, middle_of, weight, DataFrame, FrameHeader, MessageState, EventSpan, Reader, State, AtFrameStart, Ended, InDataFrame}
unfoldable pub use Rattle.frame_reader.specs.All.{reads}
pub use Rattle.wire_meaning.proofs.All.{Extends, Grows, breach_sized, code_at, code_of, front_extends, front_grows, size_grows, size_of, length-unmasked, unmasked-append, unmasked_turn, unmasked_turned, control_short, reads_is, size_part, not_front}
