use Rattle.ccr_run.proofs.Completeness.{sample_complete}
use Rattle.ccr_run.proofs.replays.replay.Goals as goal

pub returns-in-Some-Sample-clause-complete : goal.returns-in-Some-Sample-clause-complete
returns-in-Some-Sample-clause-complete g c _ _ quiet =
    sample_complete _ _ c.sample_in.result.status _ _ _ _ _ _ _ c.sample_in.ensures.report (c.sample_in.ensures.told (g.S.Source.faults c.args.script.now)) quiet
