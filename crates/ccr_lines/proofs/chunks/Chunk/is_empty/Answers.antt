use Rattle.std.proofs.Common.{sym, ◌∙◌, ap, eq-eqb}
use Rattle.std.proofs.lemmas.Bool.{eqb-true}
use Rattle.ccr_lines.proofs.Parts.{part-empty, empty-part}
use Rattle.ccr_lines.proofs.chunks.Chunk.is_empty.Goals as goal

pub returns : goal.returns
returns c = (
  λ h. sym (ap (λ a. a.bytes) c.self.view_is) ∙ part-empty _ _ _ c.self.invariant.ordered c.self.invariant.within (eqb-true _ _ h),
  λ h. eq-eqb _ _ (empty-part _ _ _ c.self.invariant.ordered c.self.invariant.within (ap (λ a. a.bytes) c.self.view_is ∙ h)),
)
