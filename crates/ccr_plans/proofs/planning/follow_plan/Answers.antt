use Rattle.std.proofs.Common.{ℕ, ◌≤◌, refl, sym, subst}
use Rattle.ccr_plans.proofs.Allowed.{follower-named, replicas-few}
use Rattle.ccr_plans.proofs.planning.follow_plan.Goals as goal

pub push_follow-requires-clause-replicas : goal.push_follow-requires-clause-replicas
push_follow-requires-clause-replicas c =
    subst (λ (n : ℕ). n ≤ 7) (sym c.unwrap_or-replicas.ensures)
    (replicas-few c.args.meta.now c.args.index.now c.args.leader.now c.args.settings.now c.in-Ok.x.now c.requires c.in-Ok.ensures.bounds.replicas)

pub push_follow-requires-clause-index : goal.push_follow-requires-clause-index
push_follow-requires-clause-index c =
    follower-named c.args.meta.now c.args.meta.now c.args.index.now c.args.leader.now c.args.settings.now c.worlds-worlds.ensures.fits refl c.requires
