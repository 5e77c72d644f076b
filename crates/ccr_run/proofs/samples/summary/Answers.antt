use Rattle.std.specs.Prelude.{string_bytes}
use Rattle.ccr_script.specs.Generated.{generated}
use Rattle.ccr_deeds.proofs.Deeding.{on_err}
use Rattle.ccr_plans.specs.Scenes.{Scene}
use Rattle.ccr_run.proofs.Ends.{begun_none, begun_of, ends_in, summary_of}
use Rattle.ccr_run.proofs.samples.summary.Goals as goal

pub do_and_sum_up-requires : goal.do_and_sum_up-requires
do_and_sum_up-requires g c =
    ends_in c.in_ok-commands.commands.items c.args.seed c.args.writes c.in_ok-commands.ensures

pub returns-in_err-commands-clause-begun : goal.returns-in_err-commands-clause-begun
returns-in_err-commands-clause-begun g c =
    on_err _ _ (begun_none (record { names = c.args.game.now.meta; logs = g.W.Worlds.logs c.args.game.now.worlds }) (generated c.args.seed c.args.writes))

pub returns-in_err-text-clause-begun : goal.returns-in_err-text-clause-begun
returns-in_err-text-clause-begun g c =
    let before : Scene = record { names = c.args.game.now.meta; logs = g.W.Worlds.logs c.args.game.now.worlds } in
    let after : Scene = record { names = c.do_and_sum_up.new.game.meta; logs = g.W.Worlds.logs c.do_and_sum_up.new.game.worlds } in
    on_err _ _ (begun_of before after c.in_ok-commands.commands.items (generated c.args.seed c.args.writes) c.in_ok-commands.ensures c.in_err-text.ensures.begun)

pub returns-clause-done : goal.returns-clause-done
returns-clause-done g c =
    let before : Scene = record { names = c.args.game.now.meta; logs = g.W.Worlds.logs c.args.game.now.worlds } in
    let after : Scene = record { names = c.do_and_sum_up.new.game.meta; logs = g.W.Worlds.logs c.do_and_sum_up.new.game.worlds } in
    summary_of before after c.in_ok-commands.commands.items (generated c.args.seed c.args.writes) (string_bytes c.in_ok-text.text) c.in_ok-commands.ensures c.in_ok-text.ensures.done
