use Rattle.std.proofs.Common.{◌≡◌, List}
use Rattle.std.specs.Vec.Iter.{into_iter_items}
use Rattle.ccr_plans.specs.Scenes.{Scene}
use Rattle.ccr_run.proofs.Ends.{Continues}
use Rattle.ccr_run.proofs.samples.do_all.Given as goal

abbrev pub invariant-loop-command : goal.invariant-loop-command
invariant-loop-command g l =
    Continues (record { names = l.initial.game.meta; logs = g.W.Worlds.logs l.initial.game.worlds }) l.fn.commands.items
    (record { names = l.game.meta; logs = g.W.Worlds.logs l.game.worlds }) (into_iter_items l.command-iterator)
