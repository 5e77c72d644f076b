use Rattle.std.proofs.Common.{◌≡◌, ◌==◌, drop}
use Rattle.std.specs.List.{position_from}
use Rattle.ccr_model.specs.Tasks.{Write}
use Rattle.ccr_task.proofs.lists.place_of_write.Given as goal

abbrev pub invariant-loop-i : goal.invariant-loop-i
invariant-loop-i l = position_from (λ (w : Write). w.number == l.number) l.i (drop l.i l.writes) ≡ position_from (λ (w : Write). w.number == l.number) 0 l.writes
