use Rattle.std.proofs.Common.{rules}
use Rattle.ccr_cell.proofs.Moves.{may_take}
use Rattle.ccr_cell.proofs.cell.Cell.take.Goals as goal

pub compare_exchange-found-requires : goal.compare_exchange-found-requires
compare_exchange-found-requires g c = (search rules, search rules, may_take _ _ _ _ _ _ _ _ (search rules) (search rules) (search rules))
