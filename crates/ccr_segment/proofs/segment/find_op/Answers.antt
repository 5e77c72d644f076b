use Rattle.std.proofs.Common.{◌≡◌, Some, ap, sym, ◌∙◌, arith, rules}
use Rattle.ccr_op.specs.Operation.{Operation}
use Rattle.ccr_segment.proofs.PlaceLaws.{opened_rises, opened_at, opened_absent}
use Rattle.ccr_segment.proofs.segment.find_op.Goals as goal

pub place_of-requires : goal.place_of-requires
place_of-requires c = opened_rises c.args.bytes.now c.args.places.now (λ i. omega (arith, c.type_inv.bytes i)) c.requires

pub op_from-requires-clause-within : goal.op_from-requires-clause-within
op_from-requires-clause-within c =
    (opened_at c.args.bytes.now c.args.places.now c.args.n c.in-Some.at (record { seq = 0; start = 0 }) (λ i. omega (arith, c.type_inv.bytes i)) c.requires c.in-Some.ensures.0 (c.in-Some.ensures.1 (record { seq = 0; start = 0 }))).within

pub op_from-requires-clause-there : goal.op_from-requires-clause-there
op_from-requires-clause-there c =
    let hit = opened_at c.args.bytes.now c.args.places.now c.args.n c.in-Some.at (record { seq = 0; start = 0 }) (λ i. omega (arith, c.type_inv.bytes i)) c.requires c.in-Some.ensures.0 (c.in-Some.ensures.1 (record { seq = 0; start = 0 })) in
    rw hit.read (search rules)

pub returns-in_ok-op-in-Some : goal.returns-in_ok-op-in-Some
returns-in_ok-op-in-Some c =
    let hit = opened_at c.args.bytes.now c.args.places.now c.args.n c.in-Some.at (record { seq = 0; start = 0 }) (λ i. omega (arith, c.type_inv.bytes i)) c.requires c.in-Some.ensures.0 (c.in-Some.ensures.1 (record { seq = 0; start = 0 })) in
    let same : hit.op ≡ c.in_ok-op-in-Some.op = rw hit.read at c.in_ok-op-in-Some.ensures in
    ap (λ (op : Operation). Some op) (sym same) ∙ sym hit.found

pub returns-in-None : goal.returns-in-None
returns-in-None c = sym (opened_absent c.args.bytes.now c.args.places.now c.args.n c.requires c.in-None.ensures)
