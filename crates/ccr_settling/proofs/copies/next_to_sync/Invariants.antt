use Rattle.ccr_settling.specs.Served.{EachBelow, IsSynced}
use Rattle.ccr_settling.proofs.copies.next_to_sync.Given as goal

abbrev pub invariant-loop-place : goal.invariant-loop-place
invariant-loop-place l = EachBelow l.place IsSynced l.copies
