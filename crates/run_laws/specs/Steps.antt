-- The notes beside the net, while something that the net told is not noted yet.
use Rattle.std.specs.Prelude.{◌≡◌, ℕ, List, ◌++◌, true, length}
use Rattle.std.specs.List.{flat_map}
use Rattle.ws_kinds.specs.declared.note.Left.TheVariants.{PeerEnd, LinkFailed}
use Rattle.ws_kinds.specs.NoteValue.{NoteValue}
use Rattle.link_trait.specs.NetState.{NetState}
use Rattle.run_meaning.specs.Counts.{gather, writes, taken, given, is_gone_by_in, is_accepted}
use Rattle.run_meaning.specs.Network.{Mark, marks_by, marks_of}

-- for one connection, all that the net told is noted
pub record FollowsAt (conn : ℕ) (notes : List NoteValue) (net : NetState) : Type 0 where
  pub ended : is_gone_by_in conn PeerEnd notes ≡ net.ended conn
  pub broken : is_gone_by_in conn LinkFailed notes ≡ net.broken conn
  pub given : length (net.given conn) ≡ given conn notes
  pub taken : length (net.taken conn) ≡ taken conn notes
  pub wrote : net.wrote conn ≡ writes conn notes

-- all that the net told is noted, but for these marks, which come next
pub record FollowsBut (coming : List Mark) (notes : List NoteValue) (net : NetState) : Type 0 where
  pub passed : gather marks_by notes ++ coming ≡ flat_map marks_of net.passed
  pub lines : (conn : ℕ) → is_accepted conn notes ≡ true → FollowsAt conn notes net
