use Rattle.std.proofs.Common.{ℕ, List, subst, ◌∙◌}
use Rattle.ccr_op.proofs.FieldLaws.{IsBytes}
use Rattle.ccr_segment.proofs.PlaceLaws.{opened_fits}
use Rattle.ccr_segment.proofs.segment.Segment.bytes.Goals as goal

pub returns-clause-value : goal.returns-clause-value
returns-clause-value c =
    let h = opened_fits c.self.inside.bytes.items c.self.inside.places.items (subst (λ (b : List ℕ). IsBytes b) c.as_slice-bytes.ensures.value c.know_bytes.ensures) c.self.invariant in
    rw (← c.self.view_is) (c.as_slice-bytes.ensures.value ∙ h.1)

pub returns-clause-fits : goal.returns-clause-fits
returns-clause-fits c =
    let h = opened_fits c.self.inside.bytes.items c.self.inside.places.items (subst (λ (b : List ℕ). IsBytes b) c.as_slice-bytes.ensures.value c.know_bytes.ensures) c.self.invariant in
    rw (← c.self.view_is) h.0
