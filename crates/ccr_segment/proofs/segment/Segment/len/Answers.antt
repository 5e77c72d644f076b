use Rattle.std.proofs.Common.{ℕ, List, subst, arith}
use Rattle.ccr_op.proofs.FieldLaws.{IsBytes}
use Rattle.ccr_segment.proofs.PlaceLaws.{opened_fits, opened_count}
use Rattle.ccr_segment.proofs.segment.Segment.len.Goals as goal

pub overflow_cast-result : goal.overflow_cast-result
overflow_cast-result c =
    let h = opened_fits c.self.inside.bytes.items c.self.inside.places.items (subst (λ (b : List ℕ). IsBytes b) c.as_slice.ensures.value c.know_bytes.ensures) c.self.invariant in
    omega (arith, c.len.ensures, opened_count c.self.inside.bytes.items c.self.inside.places.items c.self.invariant, h.0.count)

pub returns : goal.returns
returns c = rw (← c.self.view_is) (omega (arith, c.len.ensures, opened_count c.self.inside.bytes.items c.self.inside.places.items c.self.invariant))
