use Rattle.ccr_reports.proofs.Scenes.{handed_out, reported}
use Rattle.ccr_run.proofs.replays.replay_handed.Goals as goal

pub returns-clause-report : goal.returns-clause-report
returns-clause-report g c =
    reported g.K.Handed.fates c.play-status.result (g.S.Source.left c.args.script.now) (g.S.Source.left c.play-status.new.script) c.into_journals-journals.result.items
    (g.O.Sink.taken c.args.out.now) (g.O.Sink.taken c.play-status.new.out) _ c.play-status.new.player.meta c.play-status.new.player.worlds c.into_worlds-worlds.result
    c.new-game.ensures c.play-status.ensures.told c.into_worlds-worlds.ensures
    (handed_out g.K.Handed.fates c.into_worlds-worlds.result c.into_journals-journals.result.items c.into_journals-journals.ensures.value c.into_journals-journals.ensures.possible
    c.into_journals-journals.ensures.headline c.into_journals-journals.ensures.prefix c.into_journals-journals.ensures.picks)
