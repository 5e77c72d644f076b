use Rattle.ccr_tracker.proofs.Kept.{next-below, next-above}
use Rattle.ccr_tracker.proofs.Tracker.first_absent_from.Goals as goal

pub returns-then-n-self : goal.returns-then-n-self
returns-then-n-self c =
    next-below c.self.inside.count c.self.inside.above c.args.self.now c.self.view_is c.self.invariant c.args.n c.if-n-self.true

pub returns-else-n-self : goal.returns-else-n-self
returns-else-n-self c =
    next-above c.self.inside.count c.self.inside.above c.args.self.now c.self.view_is c.self.invariant c.args.n c.first_absent_from.result c.if-n-self.false c.first_absent_from.ensures
