use Rattle.std.proofs.Common.{◌≤◌, ◌≡◌, ◌+◌, drop}
use Rattle.ccr_task.specs.Ordering.{place_after}
use Rattle.ccr_task.proofs.lists.place_behind.Given as goal

abbrev pub invariant-loop-read : goal.invariant-loop-read
invariant-loop-read l = record {
  counts : l.place + place_after l.request (drop l.read-index l.reads) ≡ place_after l.request l.reads;
  few : l.place ≤ l.read-index;
}
