use Rattle.std.proofs.Common.{rules}
use Rattle.ccr_cell.proofs.Moves.{may_leave}
use Rattle.ccr_cell.proofs.cell.Cell.leave.Goals as goal

pub store-requires : goal.store-requires
store-requires g c = (c.requires.own, search rules, may_leave _ _ _ _ _ _ _ _ c.requires.hand c.requires.live c.requires.word)
