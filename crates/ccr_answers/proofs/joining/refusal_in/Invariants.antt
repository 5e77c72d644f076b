use Rattle.std.proofs.Common.{◌≡◌, drop}
use Rattle.ccr_answers.specs.Joined.{refusal_in}
use Rattle.ccr_answers.proofs.joining.refusal_in.Given as goal

abbrev pub invariant-loop-reply : goal.invariant-loop-reply
invariant-loop-reply l = refusal_in (drop l.reply-index l.told) ≡ refusal_in l.told
