use Rattle.std.proofs.Common.{ℕ, ◌∙◌, ap, subst}
use Rattle.ccr_model.specs.Leaders.{Leader}
use Rattle.ccr_settling.specs.Idle.{NoneWakesAt}
use Rattle.ccr_settling.proofs.Polled.{none-wakes}
use Rattle.ccr_settling.proofs.waking.next_to_wake.Goals as goal

pub returns : goal.returns
returns c =
    none-wakes c.args.shard.now
    (subst (λ (n : ℕ). NoneWakesAt c.args.shard.now n) (c.primary.ensures ∙ ap (λ (l : Leader). l.copies.primary.number) c.leader.ensures) c.in_default.ensures)
    c.in_default-next_to_wake_at_replicas.ensures
