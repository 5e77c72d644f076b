use Rattle.std.proofs.Common.{rules, arith}
use Rattle.ccr_cell.proofs.Moves.{may_add}
use Rattle.ccr_cell.proofs.cell.Cell.add.Goals as goal

pub store-requires : goal.store-requires
store-requires g c = (c.requires.own, search rules, may_add _ _ _ _ _ _ _ c.requires.hand.0 _ c.requires.hand.1 c.requires.live (omega (arith, c.requires.word)))
