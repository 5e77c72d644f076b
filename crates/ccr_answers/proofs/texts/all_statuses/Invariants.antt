use Rattle.std.proofs.Common.{◌≡◌, ◌++◌, string_bytes, drop}
use Rattle.std.specs.Prelude.{codes}
use Rattle.ccr_answers.specs.Answers.{statuses_text}
use Rattle.ccr_answers.proofs.texts.all_statuses.Given as goal

abbrev pub invariant-loop-shard : goal.invariant-loop-shard
invariant-loop-shard l = string_bytes l.text ++ statuses_text l.shard (drop l.shard l.told) ≡ codes "status" ++ statuses_text 0 l.told
