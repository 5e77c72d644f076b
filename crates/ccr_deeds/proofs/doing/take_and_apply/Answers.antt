use Rattle.std.proofs.Common.{◌<◌, sym, subst, ◌∙◌, ap}
use Rattle.std.specs.Prelude.{[], ◌∷◌}
use Rattle.ccr_journal.specs.declared.events.Event.TheVariants as event
use Rattle.ccr_deeds.specs.Logs.{entered}
use Rattle.ccr_deeds.proofs.Deeding.{took_then, takes-length}
use Rattle.ccr_deeds.proofs.doing.take_and_apply.Goals as goal

pub happens-requires : goal.happens-requires
happens-requires g c =
    subst (λ n. c.args.world < n) (sym (takes-length (g.W.Worlds.logs c.args.worlds.now) c.args.world c.args.f c.args.write c.in_ok-batch.batch (g.W.Worlds.logs c.take.new.worlds) c.in_ok-batch.ensures.took)) c.requires

pub returns-clause-done : goal.returns-clause-done
returns-clause-done g c =
    took_then (g.W.Worlds.logs c.args.worlds.now) (g.W.Worlds.logs c.take.new.worlds) (g.W.Worlds.logs c.happens.new.self) c.args.world c.args.f c.args.epoch c.args.write c.in_ok-batch.batch c.in_ok-reply.reply
    c.in_ok-batch.ensures.took
    (c.in_ok-reply.ensures.ok ∙ ap (λ b. entered (g.W.Worlds.logs c.take.new.worlds) c.args.world (record { event = event.Apply c.args.f c.args.epoch c.args.write b; reply = c.in_ok-reply.reply } ∷ [])) c.in_ok-batch-2.ensures)
