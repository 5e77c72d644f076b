use Rattle.ccr_deeds.proofs.Deeding.{on_err}
use Rattle.ccr_plans.specs.Scenes.{Scene}
use Rattle.ccr_game.proofs.Playing.{with_begun}
use Rattle.ccr_game.proofs.game.Game.happens.Goals as goal

pub returns-in_err-printed-clause-begun : goal.returns-in_err-printed-clause-begun
returns-in_err-printed-clause-begun g c =
    let before : Scene = record { names = c.args.self.now.meta; logs = g.W.Worlds.logs c.args.self.now.worlds } in
    let after : Scene = record { names = c.does.new.self.meta; logs = g.W.Worlds.logs c.does.new.self.worlds } in
    on_err _ _ (with_begun before after c.args.command _ _ c.in_ok-answer.ensures.done)
