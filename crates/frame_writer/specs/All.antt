-- The words that proofs of this crate and of those above use, under one name.
pub use Rattle.frame_writer.specs.Close.{HasSendableCode, close_octets, event_of}
pub use Rattle.frame_writer.specs.Header.{Heads, is_sent_opcode}
