use Rattle.std.proofs.Common.{◌≡◌, List, take, ◌++◌, ◌∷◌, [], ap, sym, ◌∙◌, arith, rules}
use Rattle.std.proofs.lemmas.List.{take_all}
use Rattle.ccr_op.specs.Operation.{Operation}
use Rattle.ccr_segment.specs.Index.{ops_in}
use Rattle.ccr_segment.proofs.PlaceLaws.{opened_nth, opened_count, no_place, take-next}
use Rattle.ccr_segment.proofs.segment.all_ops.Goals as goal

pub op_from-requires-clause-within : goal.op_from-requires-clause-within
op_from-requires-clause-within c =
    (opened_nth c.args.bytes.now c.args.places.now c.loop-place.place-index no_place (λ i. omega (arith, c.type_inv.bytes i)) c.requires c.loop-place-test.true).within

pub op_from-requires-clause-there : goal.op_from-requires-clause-there
op_from-requires-clause-there c =
    let nth = opened_nth c.args.bytes.now c.args.places.now c.loop-place.place-index no_place (λ i. omega (arith, c.type_inv.bytes i)) c.requires c.loop-place-test.true in
    rw nth.read (search rules)

pub loop-place-preserved : goal.loop-place-preserved
loop-place-preserved c =
    let nth = opened_nth c.args.bytes.now c.args.places.now c.loop-place.place-index no_place (λ i. omega (arith, c.type_inv.bytes i)) c.requires c.loop-place-test.true in
    let same : nth.op ≡ c.in_ok-op.op = rw nth.read at c.in_ok-op.ensures in
    c.in_ok-push.ensures.items
    ∙ ap (λ (ops : List Operation). ops ++ c.in_ok-op.op ∷ []) c.loop-place.invariant
    ∙ ap (λ (op : Operation). take c.loop-place.place-index (ops_in c.args.bytes.now) ++ op ∷ []) (sym same)
    ∙ sym (take-next (ops_in c.args.bytes.now) c.loop-place.place-index nth.op nth.item)

pub returns : goal.returns
returns c =
    c.loop-place.invariant
    ∙ take_all c.loop-place.place-index (ops_in c.args.bytes.now) (omega (arith, c.loop-place-test.false, opened_count c.args.bytes.now c.args.places.now c.requires))
