use Rattle.std.proofs.Common.{refl}
use Rattle.ccr_deeds.proofs.Deeding.{on_err}
use Rattle.ccr_plans.specs.Scenes.{Scene}
use Rattle.ccr_game.proofs.Playing.{begun_none, begun_part, count_after, deeds_within, does_with, ordered_for}
use Rattle.ccr_game.proofs.game.Game.does.Goals as goal

pub carry_out-requires : goal.carry_out-requires
carry_out-requires g c =
    let s : Scene = record { names = c.args.self.now.meta; logs = g.W.Worlds.logs c.args.self.now.worlds } in
    deeds_within s c.args.command c.plan_for.new.meta c.in_ok-planned.planned (g.W.Worlds.logs c.plan_for.new.worlds) c.in_ok-planned.ensures.plan c.plan_for.ensures.same

pub returns-clause-done : goal.returns-clause-done
returns-clause-done g c =
    let s : Scene = record { names = c.args.self.now.meta; logs = g.W.Worlds.logs c.args.self.now.worlds } in
    does_with s c.args.command c.plan_for.new.meta c.in_ok-planned.planned (g.W.Worlds.logs c.plan_for.new.worlds) (g.W.Worlds.logs c.carry_out.new.worlds)
    c.in_ok-told.told.answer c.in_ok-told.told.told.items c.in_ok-planned.ensures.plan c.plan_for.ensures.same c.in_ok-told.ensures.done c.in_ok-told.ensures.answer

pub returns-clause-ordered : goal.returns-clause-ordered
returns-clause-ordered g c =
    let s : Scene = record { names = c.args.self.now.meta; logs = g.W.Worlds.logs c.args.self.now.worlds } in
    ordered_for s c.args.command c.plan_for.new.meta c.in_ok-planned.planned (g.W.Worlds.logs c.plan_for.new.worlds) (g.W.Worlds.logs c.carry_out.new.worlds)
    c.in_ok-told.told.answer c.in_ok-told.told.told.items c.in_ok-planned.ensures.plan c.in_ok-told.ensures.done c.in_ok-told.ensures.ordered c.in_ok-told.ensures.answer

pub invariant_of-self-2 : goal.invariant_of-self-2
invariant_of-self-2 g c =
    let s : Scene = record { names = c.args.self.now.meta; logs = g.W.Worlds.logs c.args.self.now.worlds } in
    record {
      fits = λ _. count_after s c.args.command c.plan_for.new.meta c.in_ok-planned.planned (g.W.Worlds.logs c.plan_for.new.worlds) (g.W.Worlds.logs c.carry_out.new.worlds)
          c.in_ok-told.told.told.items c.in_ok-planned.ensures.plan c.plan_for.ensures.same c.in_ok-told.ensures.done;
    }

pub returns-then-self-clause-begun : goal.returns-then-self-clause-begun
returns-then-self-clause-begun g c =
    begun_none (record { names = c.args.self.now.meta; logs = g.W.Worlds.logs c.args.self.now.worlds }) c.args.command c.args.self.now.meta (g.W.Worlds.logs c.args.self.now.worlds) refl

pub returns-in_err-planned-clause-begun : goal.returns-in_err-planned-clause-begun
returns-in_err-planned-clause-begun g c =
    on_err _ _ (begun_none (record { names = c.args.self.now.meta; logs = g.W.Worlds.logs c.args.self.now.worlds }) c.args.command c.plan_for.new.meta (g.W.Worlds.logs c.plan_for.new.worlds) c.plan_for.ensures.same)

pub returns-in_err-told-clause-begun : goal.returns-in_err-told-clause-begun
returns-in_err-told-clause-begun g c =
    let s : Scene = record { names = c.args.self.now.meta; logs = g.W.Worlds.logs c.args.self.now.worlds } in
    on_err _ _ (begun_part s c.args.command c.plan_for.new.meta c.in_ok-planned.planned (g.W.Worlds.logs c.plan_for.new.worlds) (g.W.Worlds.logs c.carry_out.new.worlds) c.in_ok-planned.ensures.plan
    c.plan_for.ensures.same c.in_err-told.ensures.begun)
