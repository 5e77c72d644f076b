use Rattle.std.proofs.Common.{◌≡◌, drop}
use Rattle.ccr_run.specs.Samples.{same_hits}
use Rattle.ccr_run.proofs.samples.same_hits.Given as goal

abbrev pub invariant-loop-i : goal.invariant-loop-i
invariant-loop-i l = same_hits (drop l.i l.a) (drop l.i l.b) ≡ same_hits l.a l.b
