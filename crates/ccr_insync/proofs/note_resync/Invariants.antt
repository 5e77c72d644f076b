use Rattle.std.proofs.Common.{◌≡◌, ◌++◌, map, take, drop}
use Rattle.ccr_insync.specs.Members.{as_resynced}
use Rattle.ccr_insync.proofs.note_resync.Given as goal

abbrev pub invariant-loop-m : goal.invariant-loop-m
invariant-loop-m l = l.members ≡ map (as_resynced l.fn.copy) (take l.m-index l.initial.members) ++ drop l.m-index l.initial.members
