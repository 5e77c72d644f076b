use Rattle.ccr_settling.specs.Served.{EachBelow, IsResynced}
use Rattle.ccr_settling.proofs.copies.next_to_resync.Given as goal

abbrev pub invariant-loop-place : goal.invariant-loop-place
invariant-loop-place l = EachBelow l.place IsResynced l.copies
