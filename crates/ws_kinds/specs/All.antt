-- The words that proofs of this crate and of those above use, under one name.
pub use Rattle.ws_kinds.specs.Answer.{answer}
pub use Rattle.ws_kinds.specs.ConfigValue.{ConfigValue, IsConfig, config_of, usual_config}
pub use Rattle.ws_kinds.specs.EventValue.{EventValue, WhatValue, event_value, what_value}
pub use Rattle.ws_kinds.specs.NoteValue.{NoteValue, accepted, busy, closed, dropped, failed, given, gone, head, message, no_room, note_value, opened, peer_close, ping_got, pinged, pong_got, tick, told, took, turn, unserved}
pub use Rattle.ws_kinds.specs.OrderValue.{OrderValue, close, order_value, order_values, publish, send, subscribe, unsubscribe}
pub use Rattle.ws_kinds.specs.OwnedNote.{owned_note_value}
pub use Rattle.ws_kinds.specs.Ranges.{AreNotes, AreOctets, IsNote}
pub use Rattle.ws_kinds.specs.Recorder.{RecorderState, told_by}
pub use Rattle.ws_kinds.specs.Watch.{AreNoted, IsNoted}
pub use Rattle.ws_kinds.specs.Topics.{has_topic, is_pair, topics_of, with_topic, without_topic}
