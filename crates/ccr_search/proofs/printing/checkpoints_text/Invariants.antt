use Rattle.std.proofs.Common.{◌≡◌, string_bytes, take}
use Rattle.ccr_search.specs.Printed.{checkpoint_text, listed}
use Rattle.ccr_search.proofs.printing.checkpoints_text.Given as goal

abbrev pub invariant-loop-index : goal.invariant-loop-index
invariant-loop-index l = string_bytes l.text ≡ listed checkpoint_text (take l.index l.checkpoints)
