use Rattle.std.proofs.Common.{IfOk, OnErr, string_bytes, subst, sym}
use Rattle.ccr_plans.specs.Scenes.{Begins, Does, Scene}
use Rattle.ccr_game.proofs.Playing.{settle_alone}
use Rattle.ccr_game.proofs.players.GameWhole.perform_left.Goals as goal

pub returns-clause-done : goal.returns-clause-done
returns-clause-done g c =
    let before : Scene = record { names = c.args.self.now.meta; logs = g.W.Worlds.logs c.args.self.now.worlds } in
    let after : Scene = record { names = c.settle.new.self.meta; logs = g.W.Worlds.logs c.settle.new.self.worlds } in
    subst (λ k. IfOk c.settle.result (λ text. Does before k after (string_bytes text))) (sym (settle_alone c.args._command c.requires)) c.settle.ensures.done

pub returns-clause-begun : goal.returns-clause-begun
returns-clause-begun g c =
    let before : Scene = record { names = c.args.self.now.meta; logs = g.W.Worlds.logs c.args.self.now.worlds } in
    let after : Scene = record { names = c.settle.new.self.meta; logs = g.W.Worlds.logs c.settle.new.self.worlds } in
    subst (λ k. OnErr c.settle.result (Begins before k after)) (sym (settle_alone c.args._command c.requires)) c.settle.ensures.begun
