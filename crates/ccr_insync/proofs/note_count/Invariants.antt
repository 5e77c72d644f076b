use Rattle.std.proofs.Common.{◌≡◌, ◌++◌, map, take, drop}
use Rattle.ccr_insync.specs.Members.{as_acked}
use Rattle.ccr_insync.proofs.note_count.Given as goal

abbrev pub invariant-loop-m : goal.invariant-loop-m
invariant-loop-m l = l.members ≡ map (as_acked l.fn.copy l.fn.count) (take l.m-index l.initial.members) ++ drop l.m-index l.initial.members
