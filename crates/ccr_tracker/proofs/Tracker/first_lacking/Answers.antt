use Rattle.ccr_tracker.proofs.Kept.{lacking_count, lacking_outside}
use Rattle.ccr_tracker.proofs.Tracker.first_lacking.Goals as goal

pub returns-then-self-of : goal.returns-then-self-of
returns-then-self-of c =
    lacking_count c.self.inside.count c.of.inside.count c.self.inside.above c.of.inside.above c.args.self.now c.args.of.now c.self.view_is c.of.view_is c.self.invariant c.of.invariant c.if-self-of.true

pub returns : goal.returns
returns c =
    lacking_outside c.self.inside.count c.of.inside.count c.self.inside.above c.of.inside.above c.args.self.now c.args.of.now c.self.view_is c.of.view_is c.self.invariant c.of.invariant c.if-self-of.false c.first_outside.result c.first_outside.ensures
