use Rattle.std.proofs.Common.{◌≡◌, ◌++◌, length}
use Rattle.ccr_doc.specs.Words.{tokens_of}
use Rattle.ccr_doc.proofs.words.tokens.Given as goal

abbrev pub invariant-loop-word : goal.invariant-loop-word
invariant-loop-word l = tokens_of l.text ≡ l.found.items ++ tokens_of l.rest

abbrev pub decreases-loop-word : goal.decreases-loop-word
decreases-loop-word l = length l.rest
