use Rattle.std.proofs.Common.{◌≡◌, ◌++◌, string_bytes, drop}
use Rattle.std.specs.Prelude.{codes, flat_map}
use Rattle.ccr_answers.specs.Answers.{decided_text}
use Rattle.ccr_answers.proofs.texts.created_text.Given as goal

abbrev pub invariant-loop-decided : goal.invariant-loop-decided
invariant-loop-decided l = string_bytes l.text ++ flat_map decided_text (drop l.decided-index l.list) ≡ codes "created" ++ flat_map decided_text l.list
