use Rattle.std.proofs.Common.{◌≡◌, ◌<◌, ◌≤◌, ◌∷◌, [], length, map, sym, subst, arith}
use Rattle.std.proofs.Math.ListN.{length-set}
use Rattle.std.specs.Prelude.{IfOk, OnErr, slice_set}
use Rattle.ccr_deeds.specs.Logs.{entered}
use Rattle.ccr_worlds.specs.Fated.{log_of, standing_of}
use Rattle.ccr_worlds.proofs.Fates.{fated_step, fated_set}
use Rattle.ccr_worlds.proofs.Searched.{found_ordered}
use Rattle.ccr_worlds.proofs.Slots.{set_ok, set_err, below, ok_log, err_log}
use Rattle.ccr_worlds.proofs.bare.BareWorlds.happens.Goals as goal

pub invariant_of-self : goal.invariant_of-self
invariant_of-self g c =
    let within : c.args.world < length c.self.inside.worlds.items =
    below (λ w. log_of w.recorded) c.self.inside.worlds.items c.args.world (subst (λ ls. c.args.world < length ls) (sym c.self.view_is) c.requires) in
    record {
      fated = fated_set (λ w. standing_of g.P.Chooser.fate w.recorded w.policy) g.K.Handed.fates 0 c.self.inside.worlds.items _ c.args.world c.index_mut-place.result.now
          c.index_mut-place.result.now c.step.new.self within c.index_mut-place.ensures.value
          (λ first. fated_step g.P.Chooser.fate first c.index_mut-place.result.now.recorded c.step.new.self.recorded c.index_mut-place.result.now.policy c.step.new.self.policy
          c.args.event.now c.step.result c.step.ensures.entry c.step.ensures.fate c.step.ensures.whole c.step.ensures.err)
          c.self.invariant.fated;
      empty = c.self.invariant.empty;
      enough = let same = length-set c.self.inside.worlds.items c.args.world c.step.new.self in let room = c.self.invariant.enough in omega arith;
    }

pub returns-clause-ok : goal.returns-clause-ok
returns-clause-ok g c =
    subst (λ ls. IfOk c.step.result (λ reply. map (λ w. log_of w.recorded) (slice_set c.self.inside.worlds.items c.args.world c.step.new.self)
    ≡ entered ls c.args.world (record { event = c.args.event.now; reply = reply } ∷ []))) c.self.view_is
    (set_ok (λ w. log_of w.recorded) c.self.inside.worlds.items c.args.world c.index_mut-place.result.now c.index_mut-place.result.now c.step.new.self c.args.event.now c.step.result
    (subst (λ ls. c.args.world < length ls) (sym c.self.view_is) c.requires) c.index_mut-place.ensures.value
    (ok_log c.index_mut-place.result.now.recorded c.step.new.self.recorded c.args.event.now c.step.result c.step.ensures.entry))

pub returns-clause-ordered : goal.returns-clause-ordered
returns-clause-ordered g c =
    found_ordered c.index_mut-place.result.now.recorded c.step.new.self.recorded c.args.event.now c.step.result c.step.ensures.possible c.step.ensures.entry c.step.ensures.reply

pub returns-clause-err : goal.returns-clause-err
returns-clause-err g c =
    subst (λ ls. OnErr c.step.result (map (λ w. log_of w.recorded) (slice_set c.self.inside.worlds.items c.args.world c.step.new.self) ≡ ls)) c.self.view_is
    (set_err (λ w. log_of w.recorded) c.self.inside.worlds.items c.args.world c.index_mut-place.result.now c.index_mut-place.result.now c.step.new.self c.step.result
    (subst (λ ls. c.args.world < length ls) (sym c.self.view_is) c.requires) c.index_mut-place.ensures.value
    (err_log c.index_mut-place.result.now.recorded c.step.new.self.recorded c.step.result c.step.ensures.err))
