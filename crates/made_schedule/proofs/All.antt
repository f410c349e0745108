-- The same, and the lemmas that the proofs of functions and of crates above use.
pub use Rattle.made_schedule.proofs.Below.{Bool, List, None, [], ap, append_assoc, arith, drop, false, inl, inr, length, nat_eq, nat_le, nat_lt, refl, rules, subst, suc, sym, true, zero, ℕ, ◌%◌, ◌*◌, ◌++◌, ◌+◌, ◌<◌, ◌^◌, ◌||◌, ◌∙◌, ◌∷◌, ◌≡◌, ◌≤◌, ◌⊎◌, cases_lt, or_true, nat_tests, append-nil, list_all-append, list_any-append, list_all, unmasked, Act, Turn, are_sound_after, has_arrived, has_ended, is_arrival, is_below, is_ending, is_number, is_rising, is_sound, is_sound_after, next_state, made_acts, opening, round, hex, message, sender_of}
unfoldable pub use Rattle.made_schedule.proofs.Below.{state_after, messages, openings, room_head, rounds, octets_of}
pub use Rattle.made_schedule.proofs.Sound.{IsOpenTo, made_open}
pub use Rattle.made_schedule.proofs.Steps.{message_more, no_messages, no_openings, no_rounds, no_step, opening_more, put_more, put_none, put_three, round_more, rounds_more, step_more, steps_more}
pub use Rattle.made_schedule.proofs.Lengths.{made_length}
