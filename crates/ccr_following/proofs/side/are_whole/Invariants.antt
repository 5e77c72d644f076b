use Rattle.std.specs.List.{list_all}
use Rattle.std.proofs.Common.{◌≡◌, drop}
use Rattle.ccr_model.specs.Settled.{is_whole}
use Rattle.ccr_following.proofs.Wholeness.{copies_of}
use Rattle.ccr_following.proofs.side.are_whole.Given as goal

abbrev pub invariant-loop-place : goal.invariant-loop-place
invariant-loop-place l = list_all (is_whole l.count) (copies_of (drop l.place l.copies.replicas)) ≡ list_all (is_whole l.count) (copies_of l.copies.replicas)
