use Rattle.std.proofs.Common.{◌≡◌, ◌+◌, ◌-◌, suc, length, ◌∙◌, ap, arith}
use Rattle.ccr_model.specs.Tasks.{Task as Modelled, fill_writes}
use Rattle.ccr_task.proofs.Sending.{has_some, batches-turn}
use Rattle.ccr_task.proofs.task.Task.fill_writes.Goals as goal

pub loop-turn-preserved : goal.loop-turn-preserved
loop-turn-preserved c =
    let one_more : c.min-turns.result - c.loop-turn.turn ≡ suc (c.min-turns.result - (c.loop-turn.turn + 1)) = omega arith in
    let counted : c.count-in-loop-turn.result ≡ length c.loop-turn.self.buffer = c.count-in-loop-turn.ensures ∙ ap (λ (t : Modelled). length t.buffer) c.self-in-loop-turn.view_is in
    batches-turn (c.min-turns.result - (c.loop-turn.turn + 1)) (c.min-turns.result - c.loop-turn.turn) c.loop-turn.self c.begin_write.new.self (fill_writes c.args.self.now) one_more
    (has_some c.loop-turn.self.buffer c.count-in-loop-turn.result counted c.if-count-eq0.false) c.in_ok-begin_write.ensures c.loop-turn.invariant
