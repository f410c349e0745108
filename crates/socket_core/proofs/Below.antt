-- What the proofs of this crate use of the crates below, of std, and of its own specs.
pub use Rattle.std.proofs.Common.{Bool, List, None, Option, Some, [], ap, append-nil, append_assoc, arith, cond, drop, false, if◌then◌else◌, inl, inr, length, length-append, length-drop, max, min, nat_eq, nat_lt, refl, rules, subst, sym, take, true, ℕ, ◌&&◌, ◌++◌, ◌+◌, ◌-◌, ◌<◌, ◌==◌, ◌^◌, ◌||◌, ◌∙◌, ◌∷◌, ◌≡◌, ◌≢◌, ◌≤◌}
pub use Rattle.std.proofs.Math.Bool.{and-false}
pub use Rattle.std.proofs.lemmas.Bool.Decides.{nat_tests}
pub use Rattle.std.proofs.lemmas.List.{drop-append-le, drop-drop, drop_all, length-take-le, nil_from_length, take_all}
pub use Rattle.socket_core.specs.All.{to_be_bytes, w16, w64, list_all, ConfigValue, NoteValue, AreNoted, IsNoted, Binary, Text, Item, header, opcode_number, size_octets, Begins, Rose, Writes, NetState, NetWrote, taken, writes, is_sending, TakesFront, joined, Held, IsCounted, Stands, held_octets, Moves, Entry, WritesAreNoted, taken_of, RingValue, with_octets, IsPuttable, can_drop, octets_of, Hands, HandsOver, OffersParts, BreaksLink, KeepsNet, LeavesLinkWhole, Offers, OffersNoted, OffersOnce, PassesOctets, TellsFailure, TellsRing, drops_in, is_drop, the_view, Puttable, Frame, Reply, Spelled, Kept, Backlog, Clear, Dropped, Failed}
pub use Rattle.ws_kinds.proofs.Facts.{same_number}
pub use Rattle.hub_lines.proofs.All.{noted_failed, noted_took, short_dropped, short_took, writes_more, split_told, taken_elsewhere, taken_failed, taken_written, moves_drain, moves_drain_both, moves_drop, moves_keep, moves_offer, moves_pop, moves_then, others_dropped, others_same, others_then, others_took, short_of_front, took_stands, up_by_one}
