use Rattle.std.proofs.Common.{◌≡◌, drop, map, filter_map}
use Rattle.ccr_model.specs.Settling.{time_of, least_of}
use Rattle.ccr_model.specs.Tasks.{Write}
use Rattle.ccr_task.specs.Ordering.{earlier}
use Rattle.ccr_task.proofs.lists.writes_wait_until.Given as goal

abbrev pub invariant-loop-write : goal.invariant-loop-write
invariant-loop-write l = earlier (least_of (filter_map time_of (map (λ (r : Write). r.progress) (drop l.write-index l.writes)))) l.least ≡ earlier (least_of (filter_map time_of (map (λ (r : Write). r.progress) l.writes))) l.fn.other
