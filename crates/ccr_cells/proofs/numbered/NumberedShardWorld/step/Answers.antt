use Rattle.std.proofs.Common.{subst}
use Rattle.std.specs.Prelude.{IfOk}
use Rattle.ccr_worlds.proofs.Fates.{fated_step}
use Rattle.ccr_cells.specs.Opened.{NumberedWorld, opening_of, may_reply_in}
use Rattle.ccr_cells.proofs.Steps.{stepped_reply}
use Rattle.ccr_cells.proofs.numbered.NumberedShardWorld.step.Goals as goal

pub invariant_of-self : goal.invariant_of-self
invariant_of-self g c =
    fated_step g.P.Chooser.fate (g.K.Handed.fates c.self.inside.number) c.self.inside.world.recorded c.step.new.self.recorded c.self.inside.world.policy c.step.new.self.policy
    c.args.event.now c.step.result c.step.ensures.entry c.step.ensures.fate c.step.ensures.whole c.step.ensures.err c.self.invariant

pub returns-clause-may : goal.returns-clause-may
returns-clause-may g c =
    subst (λ (w : NumberedWorld). IfOk c.step.result (λ reply. may_reply_in (opening_of w) w.recorded.journal c.args.event.now reply)) c.self.view_is
    (stepped_reply c.self.inside.world.recorded c.step.new.self.recorded c.args.event.now c.step.result c.step.ensures.possible c.step.ensures.entry c.step.ensures.reply)
