use Rattle.ccr_deeds.proofs.Deeding.{on_err}
use Rattle.ccr_plans.specs.Scenes.{Scene}
use Rattle.ccr_run.proofs.Ends.{finds, with_begun}
use Rattle.ccr_run.proofs.samples.search.Goals as goal

pub returns-clause-done : goal.returns-clause-done
returns-clause-done g c =
    let before : Scene = record { names = c.args.game.now.meta; logs = g.W.Worlds.logs c.args.game.now.worlds } in
    let after : Scene = record { names = c.does.new.self.meta; logs = g.W.Worlds.logs c.does.new.self.worlds } in
    finds before after c.args.command c.in_ok-told.told.answer c.in_ok-told.told.told.items _ c.in_ok-told.ensures.done c.in_ok-answer.ensures

pub returns-in_err-answer-clause-begun : goal.returns-in_err-answer-clause-begun
returns-in_err-answer-clause-begun g c =
    let before : Scene = record { names = c.args.game.now.meta; logs = g.W.Worlds.logs c.args.game.now.worlds } in
    let after : Scene = record { names = c.does.new.self.meta; logs = g.W.Worlds.logs c.does.new.self.worlds } in
    on_err _ _ (with_begun before after c.args.command c.in_ok-told.told.answer c.in_ok-told.told.told.items c.in_ok-told.ensures.done)
