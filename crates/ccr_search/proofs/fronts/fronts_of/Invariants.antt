use Rattle.std.proofs.Common.{◌≡◌, ◌+◌, map, take}
use Rattle.ccr_search.specs.Joined.{rests_in, AreValued}
use Rattle.ccr_search.proofs.fronts.fronts_of.Given as goal

abbrev pub invariant-loop-part : goal.invariant-loop-part
invariant-loop-part l =
    (rests_in l.fronts.items ≡ map (λ part. take (l.from + l.size) part.hits) (take l.part-index l.parts)) × AreValued l.sort l.fronts.items
