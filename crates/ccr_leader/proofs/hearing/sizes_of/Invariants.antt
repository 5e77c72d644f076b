use Rattle.std.proofs.Common.{◌≡◌, length, map, take}
use Rattle.ccr_leader.proofs.hearing.sizes_of.Given as goal

abbrev pub invariant-loop-file : goal.invariant-loop-file
invariant-loop-file l = l.sizes.items ≡ map (λ file. length file.items) (take l.file-index l.files)
