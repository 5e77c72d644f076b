use Rattle.std.proofs.Common.{◌≡◌}
use Rattle.ccr_io.proofs.Pieces.{Moves}
use Rattle.ccr_io.proofs.tests.copy_through.Given as goal

abbrev pub invariant-loop : goal.invariant-loop
invariant-loop g l = record {
  moved : Moves (g.S.Source.left l.fn.source) (g.S.Source.left l.source) (g.K.Sink.taken l.fn.sink) (g.K.Sink.taken l.sink);
  source_quiet : g.S.Source.faults l.source ≡ g.S.Source.faults l.fn.source;
  sink_quiet : g.K.Sink.faults l.sink ≡ g.K.Sink.faults l.fn.sink;
}
