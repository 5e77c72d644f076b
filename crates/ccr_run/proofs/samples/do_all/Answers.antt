use Rattle.std.specs.Vec.Iter.{into_iter_items}
use Rattle.ccr_deeds.proofs.Deeding.{on_err}
use Rattle.ccr_plans.specs.Scenes.{Scene}
use Rattle.ccr_run.proofs.Ends.{continues_begun, continues_next}
use Rattle.ccr_run.proofs.samples.do_all.Goals as goal

pub loop-command-preserved : goal.loop-command-preserved
loop-command-preserved g c =
    continues_next _ c.args.commands.items _ _ c.in-Some.command (into_iter_items c.loop-command.command-iterator) (into_iter_items c.next.new.self) c.loop-command.invariant
    c.in-Some.ensures.steps.0 c.in_ok-do_one.ensures.done

pub returns-in_err-do_one-clause-begun : goal.returns-in_err-do_one-clause-begun
returns-in_err-do_one-clause-begun g c =
    let before : Scene = record { names = c.args.game.now.meta; logs = g.W.Worlds.logs c.args.game.now.worlds } in
    let now : Scene = record { names = c.loop-command.game.meta; logs = g.W.Worlds.logs c.loop-command.game.worlds } in
    let after : Scene = record { names = c.do_one.new.game.meta; logs = g.W.Worlds.logs c.do_one.new.game.worlds } in
    on_err _ _ (continues_begun before c.args.commands.items now after c.in-Some.command (into_iter_items c.loop-command.command-iterator) (into_iter_items c.next.new.self)
    c.loop-command.invariant c.in-Some.ensures.steps.0 c.in_err-do_one.ensures.begun)
