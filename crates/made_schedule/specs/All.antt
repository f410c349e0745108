-- The words that proofs of this crate and of those above use, under one name.
pub use Rattle.std.specs.List.{list_all}
pub use Rattle.wire_meaning.specs.All.{unmasked}
pub use Rattle.link_trait.specs.declared.act.Act.{Act}
pub use Rattle.link_trait.specs.declared.act.Act.TheVariants.{Turn}
pub use Rattle.mem_net.specs.All.{are_sound_after, has_arrived, has_ended, is_arrival, is_below, is_ending, is_number, is_rising, is_sound, is_sound_after}
pub use Rattle.made_schedule.specs.Generator.{next_state}
unfoldable pub use Rattle.made_schedule.specs.Generator.{state_after}
pub use Rattle.made_schedule.specs.Made.{made_acts, opening, round}
unfoldable pub use Rattle.made_schedule.specs.Made.{messages, openings, room_head, rounds}
pub use Rattle.made_schedule.specs.Message.{body_of, hex, hex_digit, key_of, message, sender_of}
unfoldable pub use Rattle.made_schedule.specs.Message.{octets_of}
