use Rattle.std.proofs.Common.{◌≡◌, ◌==◌, drop}
use Rattle.std.specs.List.{position_from}
use Rattle.ccr_model.specs.Tasks.{Read}
use Rattle.ccr_task.proofs.lists.first_of_request.Given as goal

abbrev pub invariant-loop-i : goal.invariant-loop-i
invariant-loop-i l = position_from (λ (r : Read). r.request == l.request) l.i (drop l.i l.reads) ≡ position_from (λ (r : Read). r.request == l.request) 0 l.reads
