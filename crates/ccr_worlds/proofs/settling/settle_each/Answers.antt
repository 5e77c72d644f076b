use Rattle.std.proofs.Common.{◌<◌, length, get_or, refl, arith}
use Rattle.ccr_deeds.specs.Settles.{EachWorld, IsSettled, MayBeSettled}
use Rattle.ccr_worlds.specs.Fated.{log_of, standing_of}
use Rattle.ccr_worlds.proofs.Endings.{at_ok, at_err}
use Rattle.ccr_worlds.proofs.Turns.{Turn, none_yet, one_more_done, all_done, stopped_at, turn_weaker, no_turn, each_log, each_fated}
use Rattle.ccr_worlds.proofs.settling.settle_each.Goals as goal

pub loop-world-init : goal.loop-world-init
loop-world-init g c = none_yet (Turn (λ w. standing_of g.P.Chooser.fate w.recorded w.policy) IsSettled) c.args.worlds.now

pub loop-world-preserved : goal.loop-world-preserved
loop-world-preserved g c =
    let within : c.loop-world.world-index < length c.loop-world.worlds = omega arith in
    one_more_done (Turn (λ w. standing_of g.P.Chooser.fate w.recorded w.policy) IsSettled) c.loop-world.world-index c.args.worlds.now c.loop-world.worlds c.world-item.result
    (get_or c.loop-world.worlds c.loop-world.world-index c.world-item.result) c.settle_one.new.world within refl (c.in_ok-settle_one.ensures.ok, c.settle_one.ensures.fated) c.loop-world.invariant

pub returns-in_err-settle_one-clause-err : goal.returns-in_err-settle_one-clause-err
returns-in_err-settle_one-clause-err g c =
    let within : c.loop-world.world-index < length c.loop-world.worlds = omega arith in
    at_err _ c.from_residual.result
    (each_log (λ w. standing_of g.P.Chooser.fate w.recorded w.policy) (λ w. log_of w.recorded) (λ w. refl) MayBeSettled c.args.worlds.now _
    (stopped_at (Turn (λ w. standing_of g.P.Chooser.fate w.recorded w.policy) IsSettled) (Turn (λ w. standing_of g.P.Chooser.fate w.recorded w.policy) MayBeSettled) c.loop-world.world-index
    c.args.worlds.now c.loop-world.worlds c.world-item.result (get_or c.loop-world.worlds c.loop-world.world-index c.world-item.result) c.settle_one.new.world within refl
    (c.in_err-settle_one.ensures.err, c.settle_one.ensures.fated) (turn_weaker _) (no_turn _) c.loop-world.invariant))

pub returns-in_err-settle_one-clause-fated : goal.returns-in_err-settle_one-clause-fated
returns-in_err-settle_one-clause-fated g c =
    let within : c.loop-world.world-index < length c.loop-world.worlds = omega arith in
    each_fated (λ w. standing_of g.P.Chooser.fate w.recorded w.policy) MayBeSettled c.args.worlds.now _
    (stopped_at (Turn (λ w. standing_of g.P.Chooser.fate w.recorded w.policy) IsSettled) (Turn (λ w. standing_of g.P.Chooser.fate w.recorded w.policy) MayBeSettled) c.loop-world.world-index
    c.args.worlds.now c.loop-world.worlds c.world-item.result (get_or c.loop-world.worlds c.loop-world.world-index c.world-item.result) c.settle_one.new.world within refl
    (c.in_err-settle_one.ensures.err, c.settle_one.ensures.fated) (turn_weaker _) (no_turn _) c.loop-world.invariant)

pub returns-clause-ok : goal.returns-clause-ok
returns-clause-ok g c =
    each_log (λ w. standing_of g.P.Chooser.fate w.recorded w.policy) (λ w. log_of w.recorded) (λ w. refl) IsSettled c.args.worlds.now c.loop-world.worlds
    (all_done (Turn (λ w. standing_of g.P.Chooser.fate w.recorded w.policy) IsSettled) c.loop-world.world-index c.args.worlds.now c.loop-world.worlds (omega arith) c.loop-world.invariant)

pub returns-clause-fated : goal.returns-clause-fated
returns-clause-fated g c =
    each_fated (λ w. standing_of g.P.Chooser.fate w.recorded w.policy) IsSettled c.args.worlds.now c.loop-world.worlds
    (all_done (Turn (λ w. standing_of g.P.Chooser.fate w.recorded w.policy) IsSettled) c.loop-world.world-index c.args.worlds.now c.loop-world.worlds (omega arith) c.loop-world.invariant)
