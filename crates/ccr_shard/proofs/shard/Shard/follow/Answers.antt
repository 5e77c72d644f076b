use Rattle.std.proofs.Common.{ap, ◌∙◌, arith, List}
use Rattle.ccr_model.specs.Leaders.{Start}
use Rattle.ccr_model.specs.Followers.{Follower}
use Rattle.ccr_model.specs.World.{same_name}
use Rattle.ccr_shard.proofs.Followed.{followed_after}
use Rattle.ccr_shard.proofs.shard.Shard.follow.Goals as goal

pub returns-clause-after : goal.returns-clause-after
returns-clause-after c =
    followed_after c.args.self.now _ c.args.params.now c.copy-2.result c.args.copies.now c.copy-3.result c.args.name.now c.in_ok-lease.lease c.history-history.result.now c.len-f.result c.retention_of-retention.result
    c.in_ok-own.own c.in_ok-own.sent c.push.new.self.items c.send_all.new.self c.self.view_is
    (c.in_default.ensures ∙ ap (λ (xs : List Follower). same_name xs c.args.name.now) c.as_slice.ensures.value)
    (omega (arith, c.self.inside.followers.ok.0)) (omega (arith, c.self.inside.followers.ok.0)) c.copy-2.ensures c.copy-3.ensures c.in_ok-lease.ensures c.history-history.ensures
    (c.retention_of-retention.ensures ∙ ap (λ (s : Start). s.retention) c.start.ensures) c.in_ok-own.ensures c.in_ok-push.ensures.items c.in_ok-send_all.ensures
