use Rattle.std.proofs.Common.{refl}
use Rattle.ccr_worlds.specs.Fated.{log_of}
use Rattle.ccr_worlds.proofs.Endings.{at_err, ok_settled, err_settling, fated_settled}
use Rattle.ccr_worlds.proofs.Quiet.{same_may}
use Rattle.ccr_worlds.proofs.settling.settle_one.Goals as goal

pub returns-in_err-_whole-clause-err : goal.returns-in_err-_whole-clause-err
returns-in_err-_whole-clause-err g c = at_err _ c.from_residual.result (same_may (log_of c.args.world.now.recorded))

pub returns-clause-ok : goal.returns-clause-ok
returns-clause-ok g c = ok_settled c.args.world.now.recorded c.settle_alone.new.self.recorded c.settle_alone.result c.settle_alone.ensures.start c.settle_alone.ensures.ok

pub returns-clause-err : goal.returns-clause-err
returns-clause-err g c = err_settling c.args.world.now.recorded c.settle_alone.new.self.recorded c.settle_alone.result c.settle_alone.ensures.start c.settle_alone.ensures.err

pub returns-clause-fated : goal.returns-clause-fated
returns-clause-fated g c =
    fated_settled g.P.Chooser.fate c.args.world.now.recorded c.settle_alone.new.self.recorded c.args.world.now.policy c.settle_alone.new.self.policy c.settle_alone.result
    c.in_ok-_whole.ensures.whole c.settle_alone.ensures.ok c.settle_alone.ensures.err c.settle_alone.ensures.start c.settle_alone.ensures.policy c.settle_alone.ensures.possible
