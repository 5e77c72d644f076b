use Rattle.std.proofs.Common.{◌≡◌, Some, ap, sym, ◌∙◌, arith, rules}
use Rattle.std.proofs.lemmas.Option.{slice_get_past}
use Rattle.ccr_op.specs.Operation.{Operation}
use Rattle.ccr_segment.specs.Index.{ops_in}
use Rattle.ccr_segment.proofs.PlaceLaws.{opened_nth, opened_count, no_place}
use Rattle.ccr_segment.proofs.segment.nth_op.Goals as goal

pub op_from-requires-clause-within : goal.op_from-requires-clause-within
op_from-requires-clause-within c = (opened_nth c.args.bytes.now c.args.places.now c.args.at no_place (λ i. omega (arith, c.type_inv.bytes i)) c.requires (omega arith)).within

pub op_from-requires-clause-there : goal.op_from-requires-clause-there
op_from-requires-clause-there c =
    let nth = opened_nth c.args.bytes.now c.args.places.now c.args.at no_place (λ i. omega (arith, c.type_inv.bytes i)) c.requires (omega arith) in
    rw nth.read (search rules)

pub returns : goal.returns
returns c =
    let nth = opened_nth c.args.bytes.now c.args.places.now c.args.at no_place (λ i. omega (arith, c.type_inv.bytes i)) c.requires (omega arith) in
    let same : nth.op ≡ c.in_ok-op.op = rw nth.read at c.in_ok-op.ensures in
    ap (λ (op : Operation). Some op) (sym same) ∙ sym nth.item

pub returns-then-at-places : goal.returns-then-at-places
returns-then-at-places c = sym (slice_get_past (ops_in c.args.bytes.now) c.args.at (omega (arith, c.if-at-places.true, opened_count c.args.bytes.now c.args.places.now c.requires)))
