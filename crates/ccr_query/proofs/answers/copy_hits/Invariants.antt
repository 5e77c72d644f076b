use Rattle.std.proofs.Common.{◌≡◌, take}
use Rattle.ccr_query.proofs.answers.copy_hits.Given as goal

abbrev pub invariant-loop-hit : goal.invariant-loop-hit
invariant-loop-hit l = l.others.items ≡ take l.hit-index l.hits
