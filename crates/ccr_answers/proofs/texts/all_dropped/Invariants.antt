use Rattle.std.proofs.Common.{◌≡◌, ◌+◌, drop}
use Rattle.ccr_answers.specs.Answers.{all_dropped}
use Rattle.ccr_answers.proofs.texts.all_dropped.Given as goal

abbrev pub invariant-loop-reply : goal.invariant-loop-reply
invariant-loop-reply l = l.dropped + all_dropped (drop l.reply-index l.told) ≡ all_dropped l.told
