use Rattle.std.proofs.Common.{rules, append_assoc}
use Rattle.ccr_search.specs.Printed.{answer_text}
use Rattle.ccr_search.proofs.printing.text.Goals as goal

pub returns : goal.returns
unfolding answer_text
returns c = simp append_assoc (search rules)
