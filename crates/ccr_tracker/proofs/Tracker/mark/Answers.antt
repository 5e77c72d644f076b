use Rattle.std.proofs.Common.{sym, ◌∙◌}
use Rattle.ccr_tracker.proofs.Kept.{not_covered, apart_inserted, members_inserted, inserted_is, members_risen, risen_is}
use Rattle.ccr_tracker.proofs.Tracker.mark.Goals as goal

pub insert-requires-clause-absent : goal.insert-requires-clause-absent
insert-requires-clause-absent c =
    not_covered c.self.inside.count c.self.inside.above c.args.self.now c.self.view_is c.self.invariant c.args.n (sym c.has.ensures ∙ c.if-has.false)

pub invariant_of-self-in-Continue-1 : goal.invariant_of-self-in-Continue-1
invariant_of-self-in-Continue-1 c =
    apart_inserted c.self.inside.count c.self.inside.above c.args.self.now c.self.view_is c.self.invariant c.args.n c.insert.new.self (sym c.has.ensures ∙ c.if-has.false) c.if-n-self.false c.in_ok-insert.ensures.apart c.in_ok-insert.ensures.members

pub returns-then-n-self-clause-members : goal.returns-then-n-self-clause-members
returns-then-n-self-clause-members c =
    members_risen c.self.inside.count c.self.inside.above c.args.self.now c.self.view_is c.self.invariant c.args.n c.take_from_count-self-inside.result c.take_from_count-self-inside.new.self c.if-n-self.true c.take_from_count-self-inside.ensures.apart c.take_from_count-self-inside.ensures.members

pub returns-then-n-self-clause-after : goal.returns-then-n-self-clause-after
returns-then-n-self-clause-after c =
    risen_is c.self.inside.count c.self.inside.above c.args.self.now c.self.view_is c.self.invariant c.args.n c.take_from_count-self-inside.result c.take_from_count-self-inside.new.self c.if-n-self.true c.take_from_count-self-inside.ensures.apart c.take_from_count-self-inside.ensures.members (sym c.has.ensures ∙ c.if-has.false)

pub returns-in_ok-insert-clause-members : goal.returns-in_ok-insert-clause-members
returns-in_ok-insert-clause-members c =
    members_inserted c.self.inside.count c.self.inside.above c.args.self.now c.self.view_is c.self.invariant c.args.n c.insert.new.self (sym c.has.ensures ∙ c.if-has.false) c.if-n-self.false c.in_ok-insert.ensures.apart c.in_ok-insert.ensures.members

pub returns-in_ok-insert-clause-after : goal.returns-in_ok-insert-clause-after
returns-in_ok-insert-clause-after c =
    inserted_is c.self.inside.count c.self.inside.above c.args.self.now c.self.view_is c.self.invariant c.args.n c.insert.new.self (sym c.has.ensures ∙ c.if-has.false) c.if-n-self.false c.in_ok-insert.ensures.apart c.in_ok-insert.ensures.members
