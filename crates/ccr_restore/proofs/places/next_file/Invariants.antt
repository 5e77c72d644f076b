use Rattle.std.proofs.Common.{◌≡◌, ◌-◌, ◌≤◌, length, drop}
use Rattle.ccr_restore.specs.Places.{left_from}
use Rattle.ccr_restore.proofs.places.next_file.Given as goal

abbrev pub invariant-loop-file : goal.invariant-loop-file
invariant-loop-file l = record {
  within : l.file ≤ length l.sizes;
  same : left_from l.chunk_size l.file 0 (drop l.file l.sizes) ≡ left_from l.chunk_size l.from 0 (drop l.from l.sizes);
}

abbrev pub decreases-loop-file : goal.decreases-loop-file
decreases-loop-file l = length l.sizes - l.file
