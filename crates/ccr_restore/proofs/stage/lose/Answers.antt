use Rattle.ccr_restore.proofs.stage.lose.Goals as goal

pub returns-clause-by : goal.returns-clause-by
returns-clause-by c = c.delay.ensures.by c.args.plan.now c.requires
