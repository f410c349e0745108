-- The words that proofs of this crate and of those above use, under one name.
pub use Rattle.std.specs.Int.{to_be_bytes, w16, w64}
pub use Rattle.std.specs.List.{list_all}
pub use Rattle.ws_kinds.specs.All.{ConfigValue, NoteValue, AreNoted, IsNoted}
pub use Rattle.ws_kinds.specs.declared.kind.Kind.TheVariants.{Binary, Text}
pub use Rattle.wire_meaning.specs.All.{Item, header, opcode_number, size_octets}
pub use Rattle.wire_meaning.specs.declared.frame.Opcode.TheVariants.{Begins}
pub use Rattle.link_trait.specs.All.{Rose, Writes, NetState}
pub use Rattle.link_trait.specs.declared.net.NetWrote.{NetWrote}
pub use Rattle.run_meaning.specs.All.{taken, writes, is_sending}
pub use Rattle.hub_lines.specs.All.{TakesFront, joined, Held, IsCounted, Stands, held_octets, Moves, Entry, WritesAreNoted, taken_of}
pub use Rattle.backlog.specs.All.{RingValue, with_octets}
pub use Rattle.socket_core.specs.Items.{HasMemory, HasRoom, IsPuttable, IsSent, can_drop, longest_payload, octets_of}
pub use Rattle.socket_core.specs.Offers.{Hands, HandsOver, OffersParts}
pub use Rattle.socket_core.specs.Phases.{can_enter, entered, entered as goes_on}
pub use Rattle.socket_core.specs.Puts.{BreaksLink, CountsRinged, KeepsNet, LeavesLinkWhole, Offers, OffersNoted, OffersOnce, OffersSome, PassesOctets, TellsFailure, TellsRing, WritesAlone, drops_in, is_drop}
pub use Rattle.socket_core.specs.Timed.{IsSocket, IsTimed, counts_of, heard_in, heard_socket, leaves_as, or_zero, quiet_of, ticked_in, ticked_socket}
pub use Rattle.socket_core.specs.contracts.socket.Socket.{the_view}
pub use Rattle.socket_core.specs.declared.item.Item.{Item as Puttable}
pub use Rattle.socket_core.specs.declared.item.Item.TheVariants.{Frame, Reply, Spelled}
pub use Rattle.socket_core.specs.declared.socket.Kept.{Kept}
pub use Rattle.socket_core.specs.declared.socket.Kept.TheVariants.{Backlog, Clear, Dropped, Failed}
