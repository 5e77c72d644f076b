use Rattle.std.proofs.Common.{◌≡◌, min, drop}
use Rattle.ccr_model.specs.Tasks.{least_from}
use Rattle.ccr_task.proofs.lists.least_of_reads.Given as goal

abbrev pub invariant-loop-read : goal.invariant-loop-read
invariant-loop-read l = min l.least (least_from l.least (drop l.read-index l.reads)) ≡ least_from l.next l.reads
