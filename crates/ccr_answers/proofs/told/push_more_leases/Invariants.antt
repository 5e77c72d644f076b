use Rattle.std.proofs.Common.{◌≡◌, ◌++◌, string_bytes, drop}
use Rattle.std.specs.Prelude.{codes, flat_map}
use Rattle.ccr_answers.specs.Told.{kept_text}
use Rattle.ccr_answers.proofs.told.push_more_leases.Given as goal

abbrev pub invariant-loop-lease : goal.invariant-loop-lease
invariant-loop-lease l =
    string_bytes l.text ++ flat_map (λ x. codes "," ++ kept_text x) (drop l.lease-index l.leases) ≡ string_bytes l.initial.text ++ flat_map (λ x. codes "," ++ kept_text x) l.leases
