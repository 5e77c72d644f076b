use Rattle.std.proofs.Common.{◌++◌, sym, ◌∙◌, ap, subst}
use Rattle.ccr_tracker.specs.Ranges.{AreApart}
use Rattle.ccr_tracker.proofs.Covered.{inserted_last}
use Rattle.ccr_tracker.proofs.ranges.Ranges.copy.Goals as goal

pub loop-first-preserved : goal.loop-first-preserved
loop-first-preserved c =
    inserted_last 0 c.in-Some.first.now c.in-Some.end.now c.loop-first.by_start.entries c.next.new.self c.args.self.now c.insert.new.self.entries
    (subst (AreApart 0) c.self.view_is c.self.invariant) (ap (λ rest. c.loop-first.by_start.entries ++ rest) (sym c.in-Some.ensures.steps) ∙ c.loop-first.invariant)
    c.in_ok-insert.ensures.entries
