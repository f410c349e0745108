-- What the sockets hold, as a net.
use Rattle.std.specs.Prelude.{◌≡◌, [], Option, None, Some, false}
use Rattle.link_trait.specs.Net.{Nexts}
use Rattle.link_trait.specs.declared.net.NetEvent.{NetEvent}
use Rattle.link_trait.specs.NetState.{NetState}
use Rattle.mio_net.specs.Table.{is_live, is_due, is_writable}
use Rattle.mio_net.specs.declared.sockets.Sockets.{Sockets}

-- it does not tell what passes through it
abbrev pub state_of : Sockets → NetState
state_of sockets = record {
  tells = false;
  given = λ _. [];
  taken = λ _. [];
  wrote = λ _. [];
  ended = λ _. false;
  broken = λ _. false;
  passed = [];
  rested = false;
  live = is_live sockets.peers;
  named = sockets.named;
  due = is_due sockets.peers;
  writable = is_writable sockets.peers;
  room = sockets.room;
  faults = sockets.faults;
  port = sockets.port;
  schedule = None;
}

-- nothing is told and nothing changed, or this is told
abbrev pub MayTell : Option NetEvent → NetState → NetState → Type 0
MayTell None old new = new ≡ old
MayTell (Some told) old new = Nexts told old new
