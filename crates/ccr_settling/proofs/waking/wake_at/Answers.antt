use Rattle.std.specs.Prelude.{MatchOption}
use Rattle.std.proofs.Common.{◌≡◌, ◌<◌, ◌≤◌, true, Option, length, sym, subst, arith}
use Rattle.ccr_journal.specs.declared.events.Event.{Event}
use Rattle.ccr_model.specs.Settling.{may_act}
use Rattle.ccr_settling.specs.Idle.{NoneWakesAt}
use Rattle.ccr_settling.proofs.Polled.{none-below, none-parked, one-is-named, wakes}
use Rattle.ccr_settling.proofs.waking.wake_at.Goals as goal

pub returns-in_err-least : goal.returns-in_err-least
returns-in_err-least c =
    subst (λ (o : Option Event). MatchOption o (NoneWakesAt c.args.shard.now c.args.copy) (λ event. may_act c.args.shard.now event ≡ true)) (sym c.from_residual-in_err-least.ensures)
    (none-parked c.args.shard.now c.args.copy c.in_err-least.ensures)

pub returns-then-least-known_global : goal.returns-then-least-known_global
returns-then-least-known_global c =
    let far : c.in_ok-side.side.now.global ≤ c.in_ok-least.least.from = omega arith in
    none-below c.args.shard.now c.args.copy c.in_ok-side.side.now c.in_ok-least.least (sym c.in_ok-side.ensures) c.in_ok-least.ensures far

pub unreachable-requires : goal.unreachable-requires
unreachable-requires c =
    one-is-named c.args.shard.now c.args.copy c.in_ok-least.least c.requires c.in_ok-least.ensures
    (λ f low. let few : f < c.followers.result = omega (arith, low) in c.in-None.ensures f few)

pub returns : goal.returns
returns c =
    let low : c.in_ok-least.least.from < c.in_ok-side.side.now.global = omega arith in
    let few : c.in-Some.f < length c.args.shard.now.followers = omega (arith, c.in-Some.ensures.0) in
    subst (λ (e : Event). may_act c.args.shard.now e ≡ true) (sym c.wake.ensures)
    (wakes c.args.shard.now c.args.copy c.in-Some.f c.in_ok-side.side.now c.in_ok-least.least (sym c.in_ok-side.ensures) c.in_ok-least.ensures low few c.in-Some.ensures.1)
