use Rattle.std.proofs.Common.{ℕ, ◌<◌, List, subst}
use Rattle.ccr_tracker.specs.Numbers.{IsEnd}
use Rattle.ccr_tracker.specs.Ranges.{covers}
use Rattle.ccr_tracker.proofs.Covered.{end-last, from_not_below}
use Rattle.ccr_tracker.proofs.ranges.Ranges.end.Goals as goal

pub returns-in-Some-clause-end : goal.returns-in-Some-clause-end
returns-in-Some-clause-end c =
    subst (λ (rs : List (ℕ × ℕ)). (0 < c.in-Some.end.now) × IsEnd (covers rs) c.in-Some.end.now) c.self.view_is
    (end-last c.in-Some.field-0-0.now c.in-Some.end.now 0 c.self.inside.by_start.entries c.self.invariant c.in-Some.ensures.value
    (λ q there. from_not_below c.in-Some.field-0-0.now q (c.in-Some.ensures.greatest q there)))
