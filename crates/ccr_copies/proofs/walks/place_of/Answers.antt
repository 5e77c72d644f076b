use Rattle.std.proofs.Common.{◌≤◌, ◌∙◌, length, arith}
use Rattle.ccr_copies.proofs.Places.{get-at, is-number, isnt-number, none-more, none-there, place-is}
use Rattle.ccr_copies.proofs.walks.place_of.Goals as goal

pub loop-place-preserved : goal.loop-place-preserved
loop-place-preserved c =
    none-more c.args.copy c.loop-place.place c.index-replicas-place.result c.args.replicas.now c.loop-place.invariant
    (get-at c.args.replicas.now c.loop-place.place c.index-replicas-place.result c.loop-place-test.true c.index-replicas-place.is)
    (isnt-number c.from.result c.index-replicas-place.result.copy.number c.args.copy (c.from.ensures ∙ c.number.ensures) c.if-from-copy.false)

pub returns-then-from-copy : goal.returns-then-from-copy
returns-then-from-copy c =
    place-is c.args.copy c.loop-place.place c.index-replicas-place.result c.args.replicas.now c.loop-place.invariant
    (get-at c.args.replicas.now c.loop-place.place c.index-replicas-place.result c.loop-place-test.true c.index-replicas-place.is)
    (is-number c.from.result c.index-replicas-place.result.copy.number c.args.copy (c.from.ensures ∙ c.number.ensures) c.if-from-copy.true)

pub returns : goal.returns
returns c = none-there c.args.copy c.args.replicas.now (λ k r low get. c.loop-place.invariant k r (let over : length c.args.replicas.now ≤ c.loop-place.place = omega (arith, c.loop-place-test.false) in omega arith) get)
