use Rattle.std.proofs.Common.{rules}
use Rattle.ccr_cell.proofs.Moves.{bare, may_join, may_load}
use Rattle.ccr_cell.proofs.cell.Cell.join.Goals as goal

pub join_seat-requires : goal.join_seat-requires
join_seat-requires g c = (c.requires.own, search rules, rw c.into_seat.ensures (bare _ c.args.other.no_slot), search rules, may_join _ _ _ _ _ _ _ _ (search rules) (search rules) (search rules) (search rules))

pub load-word-requires : goal.load-word-requires
load-word-requires g c = (search rules, search rules, may_load _ _ _ _ _ _ _ (search rules))
