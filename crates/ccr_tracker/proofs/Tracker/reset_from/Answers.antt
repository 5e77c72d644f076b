use Rattle.ccr_tracker.proofs.Kept.{apart_kept, members_kept, kept_is}
use Rattle.ccr_tracker.proofs.Tracker.reset_from.Goals as goal

pub invariant_of-self : goal.invariant_of-self
invariant_of-self c =
    apart_kept c.self.inside.count c.self.inside.above c.args.self.now c.self.view_is c.self.invariant c.args.n c.min-self-inside.result c.cut_from.new.self c.cut_from.ensures.apart c.min-self-inside.ensures c.cut_from.ensures.members

pub returns-clause-members : goal.returns-clause-members
returns-clause-members c =
    members_kept c.self.inside.count c.self.inside.above c.args.self.now c.self.view_is c.self.invariant c.args.n c.min-self-inside.result c.cut_from.new.self c.cut_from.ensures.apart c.min-self-inside.ensures c.cut_from.ensures.members

pub returns-clause-after : goal.returns-clause-after
returns-clause-after c =
    kept_is c.self.inside.count c.self.inside.above c.args.self.now c.self.view_is c.self.invariant c.args.n c.min-self-inside.result c.cut_from.new.self c.cut_from.ensures.apart c.min-self-inside.ensures c.cut_from.ensures.members
