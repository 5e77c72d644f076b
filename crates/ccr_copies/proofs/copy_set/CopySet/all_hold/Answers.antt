use Rattle.std.specs.Prelude.{is_some}
use Rattle.std.proofs.Common.{ℕ, Option, not, ◌∙◌, ap}
use Rattle.ccr_model.specs.Copies.{all_copies, has_lease}
use Rattle.ccr_copies.proofs.Walking.{none-fails, turned}
use Rattle.ccr_copies.proofs.copy_set.CopySet.all_hold.Goals as goal

pub returns : goal.returns
returns c =
    turned (is_some c.lacks_lease.result) c.is_none.result c.is_none.ensures ∙ (ap (λ (o : Option ℕ). not (is_some o)) c.lacks_lease.ensures ∙ none-fails (has_lease c.args.id.now) (all_copies c.args.self.now))
