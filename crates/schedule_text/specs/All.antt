-- The words that proofs of this crate and of those above use, under one name.
pub use Rattle.std.specs.Char.{digit_value, is_ascii_digit}
pub use Rattle.std.specs.Io.KnownBytes.{Appends}
pub use Rattle.std.specs.List.{AllByRecursion, flat_map, list_all, list_any, position, position_or_len}
pub use Rattle.std.specs.Result.{OnOk, result_ok}
pub use Rattle.std.specs.Str.{bytes_eq}
pub use Rattle.std.specs.Str.Parse.{AllDigits, digits_value}
pub use Rattle.ws_kinds.specs.All.{NoteValue, accepted, busy, closed, dropped, failed, given, gone, head, message, no_room, opened, peer_close, ping_got, pinged, pong_got, tick, told, took, turn, unserved, AreOctets, IsNote}
pub use Rattle.ws_kinds.specs.declared.conn.Conn.{Conn}
pub use Rattle.ws_kinds.specs.declared.note.Left.{Left}
pub use Rattle.ws_kinds.specs.declared.note.Why.{Why}
pub use Rattle.link_trait.specs.declared.act.Act.{Act}
pub use Rattle.mem_net.specs.All.{are_sound_after, can_send, has_arrived, has_ended, is_arrival, is_below, is_ending, is_number, is_rising, is_sound, is_sound_after}
pub use Rattle.schedule_text.specs.Arrivals.{Arrives, Ends, Follows, ended_after}
pub use Rattle.schedule_text.specs.FaultText.{fault_text}
pub use Rattle.schedule_text.specs.Front.{PairsUnlessMemory, Takes, TakesUnlessMemory, alone_at, digit_count, has_no_leading_zero, hex_value, number_of, octet_at, pair_value, pairs_at, pairs_with, value_of, with_conn, ◌>>=◌}
unfoldable pub use Rattle.schedule_text.specs.Front.{act_at, arrival_at, conn_at, credit_at, named_at, number_at, octets_at, positive_at, room_at, sent_at}
pub use Rattle.schedule_text.specs.Line.{hex, hex_digit, line, rest_of_line, shown}
pub use Rattle.schedule_text.specs.Output.{Fails, Holds, Puts, PutsOrFails, PutsTo, WritesText, WritesTo, last_part, last_text, numbers_text, parts}
pub use Rattle.schedule_text.specs.Reader.{IsAt, ReadsLine}
pub use Rattle.schedule_text.specs.Reading.{Begins, Breaks, IsReadAgain, IsReading, IsRefused, IsText, IsUnlessMemory, RefusesWell, fault_after, naming_fault, rising_fault, sending_fault}
pub use Rattle.schedule_text.specs.Report.{IsLink, IsOneToOne, Link, drained_word, kind_word, left_word, link_line, note_line, report, why_word}
pub use Rattle.schedule_text.specs.Spelling.{HasLine, IsNumber, IsTyped, header, schedule_text, spelled}
pub use Rattle.schedule_text.specs.declared.arrivals.Arrivals.{Arrivals}
pub use Rattle.schedule_text.specs.declared.fault.Fault.{Fault}
pub use Rattle.schedule_text.specs.declared.fault.ReadFault.{ReadFault}
pub use Rattle.schedule_text.specs.declared.output.Last.{Last}
pub use Rattle.schedule_text.specs.declared.output.SinkFault.{SinkFault}
