use Rattle.std.proofs.Common.{◌≡◌, true, ◌+◌, ◌-◌, suc, ◌∙◌, sym, arith}
use Rattle.ccr_task.proofs.Sending.{may_begin, reads-turn, reads-end}
use Rattle.ccr_task.proofs.task.Task.fill_reads.Goals as goal

pub loop-turn-preserved : goal.loop-turn-preserved
loop-turn-preserved c =
    let one_more : c.min-turns.result - c.loop-turn.turn ≡ suc (c.min-turns.result - (c.loop-turn.turn + 1)) = omega arith in
    let may : may_begin c.loop-turn.self ≡ true = sym c.may_begin.ensures ∙ c.if-not-may_begin.false in
    λ new after rest.
    c.loop-turn.invariant new after
    (reads-turn (c.min-turns.result - (c.loop-turn.turn + 1)) (c.min-turns.result - c.loop-turn.turn) c.loop-turn.self c.begin_next_read.new.self c.loop-turn.sent c.begin_next_read.new.sent one_more may
    c.in_ok-begin_next_read.ensures new after rest)

pub returns-then-not-may_begin : goal.returns-then-not-may_begin
returns-then-not-may_begin c =
    c.loop-turn.invariant c.loop-turn.self c.loop-turn.sent
    (reads-end (c.min-turns.result - c.loop-turn.turn) c.loop-turn.self c.loop-turn.sent (sym c.may_begin.ensures ∙ c.if-not-may_begin.true))
