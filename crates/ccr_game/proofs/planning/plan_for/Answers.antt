use Rattle.std.proofs.Common.{◌≡◌, ◌∙◌}
use Rattle.ccr_plans.specs.Scenes.{Scene, notes_for}
use Rattle.ccr_game.proofs.Playing.{few_notes, plan_so}
use Rattle.ccr_game.proofs.planning.plan_for.Goals as goal

pub plan-requires : goal.plan-requires
plan-requires g c =
    let s : Scene = record { names = c.args.meta.now; logs = g.W.Worlds.logs c.args.worlds.now } in
    let same : c.as_slice.result.now ≡ notes_for s.names s.logs c.args.command = c.as_slice.ensures.value ∙ c.in_ok-notes.ensures.notes in
    record { few = few_notes s c.args.command c.as_slice.result.now c.worlds-count.ensures.fits same }

pub returns-clause-plan : goal.returns-clause-plan
returns-clause-plan g c =
    let s : Scene = record { names = c.args.meta.now; logs = g.W.Worlds.logs c.args.worlds.now } in
    let same : c.as_slice.result.now ≡ notes_for s.names s.logs c.args.command = c.as_slice.ensures.value ∙ c.in_ok-notes.ensures.notes in
    plan_so s c.args.command c.as_slice.result.now c.in_ok-planned.planned c.plan.new.meta c.worlds-count.ensures.fits c.requires.count c.requires.other same
    c.in_ok-planned.ensures.plan c.in_ok-planned.ensures.names
