use Rattle.std.proofs.Common.{length, ◌-◌, ◌≡◌, ◌≤◌, take, is_some}
use Rattle.std.specs.Io.KnownBytes.{Appends}
use Rattle.ccr_io.proofs.traits.write_all.Given as goal

abbrev pub invariant-loop-done : goal.invariant-loop-done
invariant-loop-done g l = record {
  in_range : l.done ≤ length l.bytes;
  appended : Appends (g.K.Sink.taken l.fn.to) (g.K.Sink.taken l.to) (take l.done l.bytes);
  told : is_some (g.K.Sink.taken l.to) ≡ is_some (g.K.Sink.taken l.fn.to);
  quiet : g.K.Sink.faults l.to ≡ g.K.Sink.faults l.fn.to;
}

abbrev pub decreases-loop-done : goal.decreases-loop-done
decreases-loop-done g l = length l.bytes - l.done
