use Rattle.ccr_settling.specs.Served.{EachBelow, IsAcked}
use Rattle.ccr_settling.proofs.copies.next_to_ack.Given as goal

abbrev pub invariant-loop-place : goal.invariant-loop-place
invariant-loop-place l = EachBelow l.place IsAcked l.copies
