use Rattle.std.proofs.Common.{◌≡◌, ◌++◌, string_bytes, drop}
use Rattle.std.specs.Prelude.{codes, flat_map}
use Rattle.ccr_answers.specs.Told.{copy_text}
use Rattle.ccr_answers.proofs.told.push_more_copies.Given as goal

abbrev pub invariant-loop-copy : goal.invariant-loop-copy
invariant-loop-copy l =
    string_bytes l.text ++ flat_map (λ c. codes "," ++ copy_text c) (drop l.copy-index l.copies) ≡ string_bytes l.initial.text ++ flat_map (λ c. codes "," ++ copy_text c) l.copies
