-- What the proofs of this crate use of the crates below, of std, and of its own specs.
pub use Rattle.std.proofs.Common.{Bool, List, None, [], ap, append_assoc, arith, drop, false, inl, inr, length, nat_eq, nat_le, nat_lt, refl, rules, subst, suc, sym, true, zero, ℕ, ◌%◌, ◌*◌, ◌++◌, ◌+◌, ◌<◌, ◌^◌, ◌||◌, ◌∙◌, ◌∷◌, ◌≡◌, ◌≤◌, ◌⊎◌}
pub use Rattle.std.proofs.lemmas.Bool.{cases_lt, or_right as or_true}
pub use Rattle.std.proofs.lemmas.Bool.Decides.{nat_tests}
pub use Rattle.std.proofs.lemmas.List.{append-nil, length-append}
pub use Rattle.std.proofs.lemmas.List.Folds.{list_all-append, list_any-append}
pub use Rattle.made_schedule.specs.All.{list_all, unmasked, Act, Turn, are_sound_after, has_arrived, has_ended, is_arrival, is_below, is_ending, is_number, is_rising, is_sound, is_sound_after, next_state, made_acts, opening, round, hex, message, sender_of}
unfoldable pub use Rattle.made_schedule.specs.All.{state_after, messages, openings, room_head, rounds, octets_of}
