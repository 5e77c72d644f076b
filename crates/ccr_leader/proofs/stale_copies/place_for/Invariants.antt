use Rattle.ccr_leader.proofs.Stale.{StandsFrom}
use Rattle.ccr_leader.proofs.stale_copies.place_for.Given as goal

abbrev pub invariant-loop-place : goal.invariant-loop-place
invariant-loop-place l = StandsFrom l.number l.place l.copies
