use Rattle.std.proofs.Common.{rules, append_assoc}
use Rattle.ccr_playing.proofs.answering.whole_line.Goals as goal

pub returns : goal.returns
returns c = simp append_assoc (search rules)
