use Rattle.std.proofs.Common.{◌≡◌, Some, sym, ◌∙◌, ap}
use Rattle.ccr_model.specs.Operations.{op_at}
use Rattle.ccr_model.specs.Stores.{held}
use Rattle.ccr_model.specs.Copies.{Copy}
use Rattle.ccr_copies.proofs.Progress.{found-taken}
use Rattle.ccr_copies.proofs.copy_side.CopySide.take_from.Goals as goal

pub returns-clause-ok : goal.returns-clause-ok
returns-clause-ok c =
    let found : op_at c.args.seq (held c.args.from.now.store) ≡ Some c.in-Some.op.now = ap (λ (x : Copy). op_at c.args.seq (held x.store)) (sym c.from.view_is) ∙ sym c.in-Some.ensures in
    found-taken c.args.self.now c.args.seq c.in-Some.op.now (held c.args.from.now.store) c.take_copy.new.self found c.in_ok-take_copy.ensures.ok
