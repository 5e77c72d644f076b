use Rattle.ccr_copies.proofs.Places.{NoneBefore}
use Rattle.ccr_copies.proofs.walks.place_of.Given as goal

abbrev pub invariant-loop-place : goal.invariant-loop-place
invariant-loop-place l = NoneBefore l.copy l.place l.replicas
