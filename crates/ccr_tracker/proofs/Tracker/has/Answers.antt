use Rattle.ccr_tracker.proofs.Kept.{has-above}
use Rattle.ccr_tracker.proofs.Tracker.has.Goals as goal

pub returns-else-n-self : goal.returns-else-n-self
returns-else-n-self c =
    has-above c.self.inside.count c.self.inside.above c.args.self.now c.self.view_is c.self.invariant c.args.n c.has.result c.if-n-self.false c.has.ensures
