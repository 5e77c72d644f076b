use Rattle.ccr_tracker.proofs.Kept.{has_gap}
use Rattle.ccr_tracker.proofs.Tracker.gap.Goals as goal

pub returns : goal.returns
returns c =
    has_gap c.self.inside.count c.self.inside.above c.args.self.now c.self.view_is c.self.invariant c.is_empty.result c.is_empty.ensures
