use Rattle.std.proofs.Common.{◌≡◌, ℕ, ◌||◌, ap, ◌∙◌, nat_lt, max}
use Rattle.ccr_tracker.specs.Ranges.{covers}
use Rattle.ccr_tracker.proofs.Kept.{members_filled, filled_is}
use Rattle.ccr_tracker.proofs.Tracker.fill_below.Goals as goal

pub returns-clause-members : goal.returns-clause-members
returns-clause-members c =
    let took : (k : ℕ) → (nat_lt k c.take_from_count-self-inside.result || covers c.take_from_count-self-inside.new.self k) ≡ (nat_lt k (max c.self.inside.count c.args.n) || covers c.self.inside.above k) =
    λ k. c.take_from_count-self-inside.ensures.members k ∙ ap (λ n. nat_lt k n || covers c.self.inside.above k) c.max.ensures in
    members_filled c.self.inside.count c.self.inside.above c.args.self.now c.self.view_is c.self.invariant c.args.n c.take_from_count-self-inside.result c.take_from_count-self-inside.new.self c.take_from_count-self-inside.ensures.apart took

pub returns-clause-after : goal.returns-clause-after
returns-clause-after c =
    let took : (k : ℕ) → (nat_lt k c.take_from_count-self-inside.result || covers c.take_from_count-self-inside.new.self k) ≡ (nat_lt k (max c.self.inside.count c.args.n) || covers c.self.inside.above k) =
    λ k. c.take_from_count-self-inside.ensures.members k ∙ ap (λ n. nat_lt k n || covers c.self.inside.above k) c.max.ensures in
    filled_is c.self.inside.count c.self.inside.above c.args.self.now c.self.view_is c.self.invariant c.args.n c.take_from_count-self-inside.result c.take_from_count-self-inside.new.self c.take_from_count-self-inside.ensures.apart took
