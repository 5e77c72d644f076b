use Rattle.ccr_settling.specs.Served.{EachBelow, IsCaughtUp}
use Rattle.ccr_settling.proofs.copies.next_to_catch_up.Given as goal

abbrev pub invariant-loop-place : goal.invariant-loop-place
invariant-loop-place l = EachBelow l.place IsCaughtUp l.copies
