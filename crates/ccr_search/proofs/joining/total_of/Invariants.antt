use Rattle.std.proofs.Common.{◌≡◌, length, map, take}
use Rattle.std.specs.List.{sum}
use Rattle.ccr_search.proofs.joining.total_of.Given as goal

abbrev pub invariant-loop-part : goal.invariant-loop-part
invariant-loop-part l = l.total ≡ sum (map (λ part. length part.hits) (take l.part-index l.parts))
