use Rattle.std.proofs.Common.{◌≡◌, true, drop}
use Rattle.ccr_query.specs.Conditions.{any_value}
use Rattle.ccr_query.proofs.conditions.any_is_at.Given as goal

abbrev pub invariant-loop-at : goal.invariant-loop-at
invariant-loop-at l = any_value l.name (λ _. true) l.fields ≡ any_value l.name (λ _. true) (drop l.at-index l.fields)
