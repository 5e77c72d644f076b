use Rattle.ccr_tracker.proofs.Kept.{is-end, end_is}
use Rattle.ccr_tracker.proofs.Tracker.end.Goals as goal

pub returns-in-Some-clause-value : goal.returns-in-Some-clause-value
returns-in-Some-clause-value c =
    let end = is-end c.self.inside.count c.self.inside.above c.args.self.now c.self.view_is c.self.invariant c.in-Some.end c.in-Some.ensures.end.0 c.in-Some.ensures.end.1 in
    end_is c.args.self.now c.in-Some.end end

pub returns-in-Some-clause-end : goal.returns-in-Some-clause-end
returns-in-Some-clause-end c =
    is-end c.self.inside.count c.self.inside.above c.args.self.now c.self.view_is c.self.invariant c.in-Some.end c.in-Some.ensures.end.0 c.in-Some.ensures.end.1
