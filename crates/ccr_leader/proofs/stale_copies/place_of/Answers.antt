use Rattle.std.proofs.Common.{◌≤◌, length, ◌∙◌, arith}
use Rattle.ccr_copies.proofs.Places.{is-number, isnt-number}
use Rattle.ccr_leader.proofs.Stale.{found-more, found-here, found-none}
use Rattle.ccr_leader.proofs.stale_copies.place_of.Goals as goal

pub loop-place-preserved : goal.loop-place-preserved
loop-place-preserved c =
    let x = c.index-copies-place.result in
    found-more c.args.copy c.loop-place.place x c.args.copies.now c.loop-place-test.true c.index-copies-place.is c.loop-place.invariant
    (isnt-number c.from.result x.number c.args.copy (c.from.ensures ∙ c.number.ensures) c.if-from-copy.false)

pub returns-then-from-copy-clause-place : goal.returns-then-from-copy-clause-place
returns-then-from-copy-clause-place c =
    let x = c.index-copies-place.result in
    found-here c.args.copy c.loop-place.place x c.args.copies.now c.loop-place-test.true c.index-copies-place.is c.loop-place.invariant
    (is-number c.from.result x.number c.args.copy (c.from.ensures ∙ c.number.ensures) c.if-from-copy.true)

pub returns-clause-place : goal.returns-clause-place
returns-clause-place c =
    let past : length c.args.copies.now ≤ c.loop-place.place = omega (arith, c.loop-place-test.false) in
    found-none c.args.copy c.loop-place.place c.args.copies.now past c.loop-place.invariant
