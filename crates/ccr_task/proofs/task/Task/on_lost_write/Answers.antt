use Rattle.std.proofs.Common.{refl, sym, ◌∙◌}
use Rattle.ccr_task.proofs.Calls.{of-none, of-sent, lost-write}
use Rattle.ccr_task.proofs.task.Task.on_lost_write.Goals as goal

pub returns-then-not-has_sent : goal.returns-then-not-has_sent
returns-then-not-has_sent c = of-none c.args.self.now c.args.write _ _ (sym c.has_sent.ensures ∙ c.if-not-has_sent.true) (refl, refl)

pub returns : goal.returns
returns c =
    of-sent c.args.self.now c.args.write _ _ (sym c.has_sent.ensures ∙ c.if-not-has_sent.false)
    (λ w found. (refl, lost-write c.args.self.now c.lose_write.new.self c.args.write c.args.now w found c.lose_write.ensures))
