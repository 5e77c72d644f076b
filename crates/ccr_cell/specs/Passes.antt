-- What contracts read of a pass and of a cell.
use Rattle.std.specs.Prelude.{◌≡◌}
use Rattle.ccr_cell.specs.declared.view.View.{View}
use Rattle.ccr_cell.specs.declared.pass.Ticket.{Ticket}
use Rattle.ccr_cell.specs.declared.cell.Cell.{Cell}

-- what the pass knows
abbrev pub view_of : {X S E : Type 0} → Ticket X S E → View S E
view_of pass = pass.seat.me.0

-- the pass is of this cell
abbrev pub IsOf : {X S V R E N : Type 0} → Cell X S V R E N → Ticket X S E → Type 0
IsOf cell pass = pass.seat.table_id ≡ cell.table.shared.table_id

-- the machine that the cell was made with
abbrev pub first_of : {X S V R E N : Type 0} → Cell X S V R E N → X
first_of cell = cell.table.shared.key.value
