use Rattle.std.proofs.Common.{◌≡◌, ◌∙◌, length, sym, rules}
use Rattle.ccr_deeds.specs.Settles.{IsSettled}
use Rattle.ccr_deeds.proofs.Deeding.{EachWorld-length, on_err}
use Rattle.ccr_game.proofs.Playing.{settle_whole}
use Rattle.ccr_game.proofs.game.Game.settle.Goals as goal

pub returns-in_err-text-clause-begun : goal.returns-in_err-text-clause-begun
returns-in_err-text-clause-begun g c =
    on_err _ _ (settle_whole c.args.self.now.meta (g.W.Worlds.logs c.args.self.now.worlds) (g.W.Worlds.logs c.settle.new.self) c.in_ok-settle.ensures.ok)

pub invariant_of-self-2 : goal.invariant_of-self-2
invariant_of-self-2 g c =
    let count : c.args.self.now.meta.worlds ≡ length (g.W.Worlds.logs c.args.self.now.worlds) = search rules in
    record { fits = λ _. count ∙ sym (EachWorld-length IsSettled (g.W.Worlds.logs c.args.self.now.worlds) (g.W.Worlds.logs c.settle.new.self) c.in_ok-settle.ensures.ok) }
