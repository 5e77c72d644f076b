use Rattle.std.proofs.Common.{◌≡◌, drop, map, filter_map}
use Rattle.ccr_model.specs.Settling.{time_of, least_of}
use Rattle.ccr_model.specs.Tasks.{Read}
use Rattle.ccr_task.specs.Ordering.{earlier}
use Rattle.ccr_task.proofs.lists.reads_wait_until.Given as goal

abbrev pub invariant-loop-read : goal.invariant-loop-read
invariant-loop-read l = earlier (least_of (filter_map time_of (map (λ (r : Read). r.progress) (drop l.read-index l.reads)))) l.least ≡ earlier (least_of (filter_map time_of (map (λ (r : Read). r.progress) l.reads))) l.fn.other
