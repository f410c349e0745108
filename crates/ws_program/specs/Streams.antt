-- What the source and the sink of a command tell at one moment, and how their faults are told.
use Rattle.std.specs.Prelude.{◌≡◌, ℕ, List, Option}
use Rattle.link_trait.specs.Link.{Rose}
use Rattle.link_trait.specs.declared.sink.Sink.{Ghosts as SinkMeaning}
use Rattle.link_trait.specs.declared.source.Source.{Ghosts as SourceMeaning}
use Rattle.ws_program.specs.declared.status.Status.{Status}
use Rattle.ws_program.specs.declared.status.Status.TheVariants.{ReadFault, WriteFault}

pub record Streams : Type 0 where
  -- the octets that the source has left, where it tells them
  pub left : Option (List ℕ)
  -- how many faults the source has had
  pub read_faults : ℕ
  -- the octets that were written to the sink, where it tells them
  pub written : Option (List ℕ)
  -- how many faults the sink has had
  pub write_faults : ℕ

abbrev pub streams : {S K : Type 0} → SourceMeaning S → SinkMeaning K → S → K → Streams
streams of_source of_sink source sink = record {
  left = of_source.left source;
  read_faults = of_source.faults source;
  written = of_sink.written sink;
  write_faults = of_sink.faults sink;
}

-- ReadFault is told exactly where the source counted a fault, and WriteFault exactly where the sink did. The other's count
-- stands still then, and with every other status both do.
abbrev pub TellsFaults : Status → (old new : Streams) → Type 0
TellsFaults ReadFault old new = Rose old.read_faults new.read_faults × (new.write_faults ≡ old.write_faults)
TellsFaults WriteFault old new = (new.read_faults ≡ old.read_faults) × Rose old.write_faults new.write_faults
TellsFaults status old new = (new.read_faults ≡ old.read_faults) × (new.write_faults ≡ old.write_faults)
