use Rattle.std.proofs.Common.{◌≡◌, subst}
use Rattle.std.specs.Prelude.{IfOk, OnOk}
use Rattle.ccr_model.specs.Outcomes.{Outcome}
use Rattle.ccr_model.specs.World.{State}
use Rattle.ccr_shard.proofs.Sided.{is_sided}
use Rattle.ccr_shard.proofs.shard.Shard.step.Goals as goal

pub returns-in_default : goal.returns-in_default
returns-in_default c =
    let same = is_sided c.args.self.now c.args.event.now c.args.picks.now c.in_default.not-Deliver c.in_default.not-Drop c.in_default.not-Wake c.in_default.not-Follow c.in_default.not-Search c.in_default.not-Settle in
    record {
      reply = subst (λ (o : Outcome State). IfOk c.on_side.result (λ reply. reply ≡ o.reply)) same c.on_side.ensures.reply;
      after = subst (λ (o : Outcome State). OnOk c.on_side.result (c.on_side.new.self ≡ o.next)) same c.on_side.ensures.after;
    }
