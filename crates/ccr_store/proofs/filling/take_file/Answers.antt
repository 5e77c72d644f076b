use Rattle.std.proofs.Common.{◌++◌, List, sym, subst}
use Rattle.ccr_op.specs.Operation.{Operation}
use Rattle.ccr_store.specs.Kept.{AreOnce, IsHolding}
use Rattle.ccr_store.proofs.filling.take_file.Goals as goal

pub returns-clause-held : goal.returns-clause-held
returns-clause-held c = λ all holding once.
    subst (λ (xs : List Operation). IsHolding (all ++ xs) c.take_ops.new.ops.entries c.take_ops.new.ids.entries) c.in_ok-all.ensures
    (c.in_ok-numbers.ensures.held all holding (subst (λ (xs : List Operation). AreOnce (all ++ xs)) (sym c.in_ok-all.ensures) once))
