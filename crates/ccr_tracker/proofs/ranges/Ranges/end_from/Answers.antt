use Rattle.std.proofs.Common.{◌≡◌, ℕ, List, subst}
use Rattle.ccr_tracker.specs.Ranges.{end_from}
use Rattle.ccr_tracker.proofs.Covered.{end-found, end-none}
use Rattle.ccr_tracker.proofs.ranges.Ranges.end_from.Goals as goal

pub returns-in-Some : goal.returns-in-Some
returns-in-Some c =
    subst (λ (rs : List (ℕ × ℕ)). c.in-Some.end.now ≡ end_from rs c.args.n) c.self.view_is
    (end-found c.args.n c.in-Some.end.now c.self.inside.by_start.entries c.in-Some.ensures.value)

pub returns-in-None : goal.returns-in-None
returns-in-None c =
    subst (λ (rs : List (ℕ × ℕ)). c.args.n ≡ end_from rs c.args.n) c.self.view_is
    (end-none c.args.n c.self.inside.by_start.entries c.in-None.ensures.value)
