use Rattle.std.proofs.Common.{◌≡◌, take, count_by}
use Rattle.ccr_run.specs.Samples.{is_delete}
use Rattle.ccr_run.proofs.samples.deletes_in.Given as goal

abbrev pub invariant-loop-command : goal.invariant-loop-command
invariant-loop-command l = l.deletes ≡ count_by is_delete (take l.command-index l.commands)
