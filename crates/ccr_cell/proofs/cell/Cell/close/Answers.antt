use Rattle.std.proofs.Common.{rules}
use Rattle.ccr_cell.proofs.Moves.{closed_with}
use Rattle.ccr_cell.proofs.cell.Cell.close.Goals as goal

pub returns-clause-ok : goal.returns-clause-ok
returns-clause-ok g c =
    let last = rw c.into_seat.ensures at c.close_with-closed.ensures.values.2 in
    closed_with _ _ _ _ _ _ _ (search rules) (search rules) last _ c.take-machine.ensures.value
