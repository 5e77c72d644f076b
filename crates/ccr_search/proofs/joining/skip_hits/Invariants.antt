use Rattle.ccr_search.specs.Joined.{rests_in, AreSorted, AreValued, IsSkipped}
use Rattle.ccr_search.proofs.joining.skip_hits.Given as goal

abbrev pub invariant-loop-done : goal.invariant-loop-done
invariant-loop-done l =
    AreValued l.sort l.fronts
    × (AreSorted l.sort (rests_in l.initial.fronts) → IsSkipped l.sort (rests_in l.initial.fronts) (rests_in l.fronts) l.done)
