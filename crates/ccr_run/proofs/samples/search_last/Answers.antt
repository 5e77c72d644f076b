use Rattle.ccr_search.specs.Joined.{said_by}
use Rattle.ccr_deeds.proofs.Deeding.{on_err}
use Rattle.ccr_plans.specs.Scenes.{Scene}
use Rattle.ccr_run.proofs.Ends.{at_first, at_last, ends_finding}
use Rattle.ccr_run.proofs.samples.search_last.Goals as goal

pub returns-in_err-do_all-clause-begun : goal.returns-in_err-do_all-clause-begun
returns-in_err-do_all-clause-begun g c =
    let before : Scene = record { names = c.args.game.now.meta; logs = g.W.Worlds.logs c.args.game.now.worlds } in
    let after : Scene = record { names = c.do_all.new.game.meta; logs = g.W.Worlds.logs c.do_all.new.game.worlds } in
    on_err _ _ (at_first before after c.args.commands.items c.pop_search-command.new.commands.items c.pop_search-command.result c.pop_search-command.ensures.split c.in_err-do_all.ensures.begun)

pub returns-in_err-answer-clause-begun : goal.returns-in_err-answer-clause-begun
returns-in_err-answer-clause-begun g c =
    let before : Scene = record { names = c.args.game.now.meta; logs = g.W.Worlds.logs c.args.game.now.worlds } in
    let mid : Scene = record { names = c.do_all.new.game.meta; logs = g.W.Worlds.logs c.do_all.new.game.worlds } in
    let after : Scene = record { names = c.search.new.game.meta; logs = g.W.Worlds.logs c.search.new.game.worlds } in
    on_err _ _ (at_last before mid after c.args.commands.items c.pop_search-command.new.commands.items c.pop_search-command.result c.pop_search-command.ensures.split c.in_ok-do_all.ensures.done
    c.in_err-answer.ensures.begun)

pub returns-clause-done : goal.returns-clause-done
returns-clause-done g c =
    let before : Scene = record { names = c.args.game.now.meta; logs = g.W.Worlds.logs c.args.game.now.worlds } in
    let mid : Scene = record { names = c.do_all.new.game.meta; logs = g.W.Worlds.logs c.do_all.new.game.worlds } in
    let after : Scene = record { names = c.search.new.game.meta; logs = g.W.Worlds.logs c.search.new.game.worlds } in
    ends_finding before mid after c.args.commands.items c.pop_search-command.new.commands.items c.pop_search-command.result (said_by c.in_ok-answer.answer) c.pop_search-command.ensures.split
    c.in_ok-do_all.ensures.done c.in_ok-answer.ensures.done
