use Rattle.ccr_leader.proofs.Stale.{FoundFrom}
use Rattle.ccr_leader.proofs.stale_copies.place_of.Given as goal

abbrev pub invariant-loop-place : goal.invariant-loop-place
invariant-loop-place l = FoundFrom l.copy l.place l.copies
