use Rattle.std.proofs.Common.{◌≡◌, ◌++◌, map, take, drop}
use Rattle.ccr_insync.specs.Members.{as_term_begins}
use Rattle.ccr_insync.proofs.begin_term.Given as goal

abbrev pub invariant-loop-m : goal.invariant-loop-m
invariant-loop-m l = l.members ≡ map (as_term_begins l.fn.primary l.fn.count) (take l.m-index l.initial.members) ++ drop l.m-index l.initial.members
