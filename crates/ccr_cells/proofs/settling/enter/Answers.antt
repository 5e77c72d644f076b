use Rattle.ccr_worlds.proofs.Endings.{at_err}
use Rattle.ccr_cells.proofs.Settled.{entered, not_entered}
use Rattle.ccr_cells.proofs.settling.enter.Goals as goal

pub act-requires : goal.act-requires
act-requires g c = record { own = c.requires.only.home.own }

pub returns-in_err-_entered-clause-err : goal.returns-in_err-_entered-clause-err
returns-in_err-_entered-clause-err g c =
    at_err _ c.from_residual.result (not_entered c.args.cell.now c.args.pass.now c.act.new.pass c.requires.only c.act.ensures.own c.in_err-_entered.ensures.err)

pub returns-clause-ok : goal.returns-clause-ok
returns-clause-ok g c =
    entered c.args.cell.now c.args.pass.now c.act.new.pass c.requires.only c.in_ok-_entered._entered.0 c.in_ok-_entered._entered.1 c.requires.idle c.act.ensures.own c.in_ok-_entered.ensures.ok
