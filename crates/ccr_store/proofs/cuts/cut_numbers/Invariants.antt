use Rattle.std.proofs.Common.{◌≡◌, length}
use Rattle.ccr_store.specs.Kept.{below}
use Rattle.ccr_store.proofs.cuts.cut_numbers.Given as goal

abbrev pub invariant-loop : goal.invariant-loop
invariant-loop l = below l.bound l.numbers.keys ≡ below l.bound l.initial.numbers.keys

abbrev pub decreases-loop : goal.decreases-loop
decreases-loop l = length l.numbers.keys
