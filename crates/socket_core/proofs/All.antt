-- The same, and the lemmas that the proofs of functions and of crates above use.
pub use Rattle.socket_core.proofs.Below.{Bool, List, None, Option, Some, [], ap, append-nil, append_assoc, arith, cond, drop, false, if◌then◌else◌, inl, inr, length, length-append, length-drop, max, min, nat_eq, nat_lt, nil_from_length, refl, rules, subst, sym, take, true, ℕ, ◌&&◌, ◌++◌, ◌+◌, ◌-◌, ◌<◌, ◌==◌, ◌^◌, ◌||◌, ◌∙◌, ◌∷◌, ◌≡◌, ◌≢◌, ◌≤◌, and-false, nat_tests, drop-append-le, drop-drop, drop_all, length-take-le, take_all, to_be_bytes, w16, w64, list_all, same_number, ConfigValue, NoteValue, AreNoted, IsNoted, Binary, Text, Item, header, opcode_number, size_octets, Begins, Rose, Writes, NetState, NetWrote, taken, writes, is_sending, noted_failed, noted_took, short_dropped, short_took, writes_more, split_told, taken_elsewhere, taken_failed, taken_written, moves_drain, moves_drain_both, moves_drop, moves_keep, moves_offer, moves_pop, moves_then, others_dropped, others_same, others_then, others_took, short_of_front, took_stands, up_by_one, TakesFront, joined, Held, IsCounted, Stands, held_octets, Moves, Entry, WritesAreNoted, taken_of, RingValue, with_octets, IsPuttable, can_drop, octets_of, Hands, HandsOver, OffersParts, BreaksLink, KeepsNet, LeavesLinkWhole, Offers, OffersNoted, OffersOnce, PassesOctets, TellsFailure, TellsRing, drops_in, is_drop, the_view, Puttable, Frame, Reply, Spelled, Kept, Backlog, Clear, Dropped, Failed}
pub use Rattle.socket_core.proofs.HandLemmas.{hands_drained, hands_drained_both, hands_failed, hands_failed_last, hands_for, hands_kept, hands_took, net_same, none_is, over_all, over_failed, over_kept, over_took, parts_back, parts_both, parts_failed, parts_failed_last, parts_first, rest_of, some_is, whole_tells}
pub use Rattle.socket_core.proofs.OfferLemmas.{front_failed, offers_took, one_noted, own_took, taken_took, writes_took}
pub use Rattle.socket_core.proofs.PassLemmas.{length_one, noted_dropped, octets_few, passes_dropped, passes_left, passes_none, passes_put, undropped_of}
