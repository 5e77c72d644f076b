use Rattle.ccr_tracker.proofs.Kept.{least_absent, canonical}
use Rattle.ccr_tracker.proofs.Tracker.count.Goals as goal

pub returns-clause-least : goal.returns-clause-least
returns-clause-least c =
    least_absent c.self.inside.count c.self.inside.above c.args.self.now c.self.view_is c.self.invariant

pub returns-clause-canonical : goal.returns-clause-canonical
returns-clause-canonical c =
    canonical c.self.inside.count c.self.inside.above c.args.self.now c.self.view_is c.self.invariant
