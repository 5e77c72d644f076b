use Rattle.ccr_script.specs.Generated.{generated}
use Rattle.ccr_reports.proofs.Scenes.{handed_out}
use Rattle.ccr_run.proofs.Scenes.{sampled}
use Rattle.ccr_run.proofs.samples.sample_handed.Goals as goal

pub returns-clause-report : goal.returns-clause-report
returns-clause-report g c =
    sampled g.K.Handed.fates (generated c.args.seed c.args.writes) c.sum_up-status.result c.into_journals-journals.result.items
    (g.O.Sink.taken c.args.out.now) (g.O.Sink.taken c.sum_up-status.new.out) _ c.sum_up-status.new.game.meta c.sum_up-status.new.game.worlds c.into_worlds-worlds.result
    c.new-game.ensures c.sum_up-status.ensures.sums c.into_worlds-worlds.ensures
    (handed_out g.K.Handed.fates c.into_worlds-worlds.result c.into_journals-journals.result.items c.into_journals-journals.ensures.value c.into_journals-journals.ensures.possible
    c.into_journals-journals.ensures.headline c.into_journals-journals.ensures.prefix c.into_journals-journals.ensures.picks)
