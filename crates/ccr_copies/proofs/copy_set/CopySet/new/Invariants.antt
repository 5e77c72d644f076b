use Rattle.std.proofs.Common.{◌≡◌, ◌≤◌, ◌-◌}
use Rattle.ccr_copies.proofs.Walking.{new_replicas}
use Rattle.ccr_copies.proofs.copy_set.CopySet.new.Given as goal

abbrev pub invariant-loop-number : goal.invariant-loop-number
invariant-loop-number l = (1 ≤ l.number) × (l.number - 1 ≤ l.copies - 1) × (l.replicas.items ≡ new_replicas l.number)
