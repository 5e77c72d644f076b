use Rattle.std.proofs.Common.{rules, arith}
use Rattle.ccr_cell.proofs.Moves.{may_split}
use Rattle.ccr_cell.proofs.cell.Cell.split.Goals as goal

pub split_seat-seat-requires : goal.split_seat-seat-requires
split_seat-seat-requires g c = (c.requires.own, search rules, may_split _ _ _ _ _ _ (omega (arith, c.requires.two)))
