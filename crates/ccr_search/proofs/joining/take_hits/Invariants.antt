use Rattle.ccr_search.specs.Joined.{rests_in, AreSorted, AreValued}
use Rattle.ccr_search.proofs.Pages.{IsPaged}
use Rattle.ccr_search.proofs.joining.take_hits.Given as goal

abbrev pub invariant-loop-done : goal.invariant-loop-done
invariant-loop-done l =
    AreValued l.sort l.fronts
    × (AreSorted l.sort (rests_in l.initial.fronts) → IsPaged l.sort (rests_in l.initial.fronts) (rests_in l.fronts) l.hits.items l.done l.count)
