use Rattle.ws_program.proofs.Below.{◌≡◌, ◌+◌, ℕ, List, [], length, Appends, Consumes, TellsAlike, echoed}
use Rattle.ws_program.proofs.EchoLemmas.{Stands}
use Rattle.ws_program.proofs.echo.echo_run.Given as goal

abbrev pub invariant-reads : goal.invariant-reads
invariant-reads g l = record {
  stands : (came : List ℕ) × Consumes (g.S.Source.left l.fn.source) (g.S.Source.left l.source) came × Appends (g.K.Sink.written l.fn.sink) (g.K.Sink.written l.sink) (echoed l.max_message came)
      × Stands l.max_message came l.reader × (length came + l.left ≡ 67108864);
  length : length l.octets ≡ 8192;
  empty : l.answers ≡ [];
  source_tells : TellsAlike (g.S.Source.left l.fn.source) (g.S.Source.left l.source);
  sink_tells : TellsAlike (g.K.Sink.written l.fn.sink) (g.K.Sink.written l.sink);
  read_unfailing : g.S.Source.faults l.source ≡ g.S.Source.faults l.fn.source;
  write_unfailing : g.K.Sink.faults l.sink ≡ g.K.Sink.faults l.fn.sink;
}

abbrev pub decreases-reads : goal.decreases-reads
decreases-reads g l = l.left
