use Rattle.std.proofs.Common.{◌≡◌, ◌++◌, drop, filter}
use Rattle.std.specs.Option.{option_copied, option_to_list}
use Rattle.ccr_auto.specs.Follow.{applies}
use Rattle.ccr_auto.proofs.follow.AutoFollow.decide.Given as goal

abbrev pub invariant-loop-entry : goal.invariant-loop-entry
invariant-loop-entry l =
    option_to_list (option_copied l.first) ++ filter (applies l.remote l.index) (drop l.entry-index l.entry-items) ≡ filter (applies l.remote l.index) l.entry-items
