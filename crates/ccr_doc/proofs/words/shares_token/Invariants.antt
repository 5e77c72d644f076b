use Rattle.std.proofs.Common.{◌≡◌, length}
use Rattle.ccr_doc.specs.Words.{have_common_token}
use Rattle.ccr_doc.proofs.words.shares_token.Given as goal

abbrev pub invariant-loop-word : goal.invariant-loop-word
invariant-loop-word l = have_common_token l.left l.right ≡ have_common_token l.rest l.right

abbrev pub decreases-loop-word : goal.decreases-loop-word
decreases-loop-word l = length l.rest
