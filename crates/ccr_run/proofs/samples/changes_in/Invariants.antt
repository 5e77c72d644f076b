use Rattle.std.proofs.Common.{◌≡◌, take, count_by}
use Rattle.ccr_run.specs.Samples.{is_change}
use Rattle.ccr_run.proofs.samples.changes_in.Given as goal

abbrev pub invariant-loop-command : goal.invariant-loop-command
invariant-loop-command l = l.changes ≡ count_by is_change (take l.command-index l.commands)
