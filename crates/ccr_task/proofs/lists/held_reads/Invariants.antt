use Rattle.std.proofs.Common.{◌≡◌, ◌++◌, drop, filter}
use Rattle.ccr_model.specs.Tasks.{is_held}
use Rattle.ccr_task.proofs.lists.held_reads.Given as goal

abbrev pub invariant-loop-read : goal.invariant-loop-read
invariant-loop-read l = l.held.items ++ filter is_held (drop l.read-index l.reads) ≡ filter is_held l.reads
