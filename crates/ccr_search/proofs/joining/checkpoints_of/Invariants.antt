use Rattle.std.proofs.Common.{◌≡◌, map, take}
use Rattle.ccr_search.specs.Joined.{checkpoint_of}
use Rattle.ccr_search.proofs.joining.checkpoints_of.Given as goal

abbrev pub invariant-loop-part : goal.invariant-loop-part
invariant-loop-part l = l.all.items ≡ map (λ part. checkpoint_of part.count) (take l.part-index l.parts)
