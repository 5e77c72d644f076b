use Rattle.std.proofs.Common.{◌≡◌, ℕ, ◌+◌, false, List, subst, arith}
use Rattle.ccr_tracker.specs.Ranges.{IsBefore, covers, start_of}
use Rattle.ccr_tracker.proofs.Covered.{before, covers-below, from_not_above, from_not_below, none-before, not_above, start-below}
use Rattle.ccr_tracker.proofs.ranges.Ranges.before.Goals as goal

pub returns-in-Some-clause-some : goal.returns-in-Some-clause-some
returns-in-Some-clause-some c =
    let range = c.range.ensures.in_range tt in
    let first = c.in-Some.first.now in
    let end = c.in-Some.end.now in
    let entry = range.3 (first, end) c.next_back.new.self c.in-Some.ensures.steps in
    subst (λ (rs : List (ℕ × ℕ)). IsBefore rs c.args.n (first, end)) c.self.view_is
    (before c.args.n first end 0 c.self.inside.by_start.entries c.self.invariant (from_not_above first c.args.n entry.0.1) entry.1
    (λ q small there. from_not_below first q (range.4 (first, end) c.next_back.new.self c.in-Some.ensures.steps q (tt, not_above q c.args.n small) there)))

pub returns-in-None-clause-none : goal.returns-in-None-clause-none
returns-in-None-clause-none c =
    let range = c.range.ensures.in_range tt in
    subst (λ (rs : List (ℕ × ℕ)). covers rs c.args.n ≡ false) c.self.view_is
    (covers-below c.args.n (c.args.n + 1) c.self.inside.by_start.entries (omega arith)
    (none-before c.args.n 0 c.self.inside.by_start.entries c.self.invariant (λ q small. range.5 c.in-None.ensures.steps.0 q (tt, not_above q c.args.n small))))

pub returns-in-None-clause-no_start : goal.returns-in-None-clause-no_start
returns-in-None-clause-no_start c =
    let range = c.range.ensures.in_range tt in
    subst (λ (rs : List (ℕ × ℕ)). start_of rs c.args.n ≡ c.args.n) c.self.view_is
    (start-below c.args.n (c.args.n + 1) c.self.inside.by_start.entries (omega arith)
    (none-before c.args.n 0 c.self.inside.by_start.entries c.self.invariant (λ q small. range.5 c.in-None.ensures.steps.0 q (tt, not_above q c.args.n small))))
