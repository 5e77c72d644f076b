use Rattle.std.proofs.Common.{sym, ◌∙◌}
use Rattle.ccr_workers.proofs.Growing.{turned, turned_none}
use Rattle.ccr_workers.proofs.turns.take_turn.Goals as goal

pub returns-in_err-next-clause-went : goal.returns-in_err-next-clause-went
returns-in_err-next-clause-went g c =
    turned_none g.X.Machine.entry_of g.X.Machine.may_reply g.X.Machine.may_choose g.X.Machine.is_idle c.args.pass.now c.act_next.new.pass
    (c.act_next.ensures.own ∙ sym c.requires.own) _ c.in_err-next.ensures.err

pub returns-clause-went : goal.returns-clause-went
returns-clause-went g c =
    turned g.X.Machine.entry_of g.X.Machine.may_reply g.X.Machine.may_choose g.X.Machine.is_idle c.args.pass.now c.act_next.new.pass c.in_ok-next.next
    (c.act_next.ensures.own ∙ sym c.requires.own) c.in_ok-next.ensures.ok
