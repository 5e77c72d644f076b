use Rattle.std.proofs.Common.{◌≡◌, ◌<◌, ◌-◌, ◌++◌}
use Rattle.ccr_script.specs.Generated.{changes}
use Rattle.ccr_script.proofs.generating.add_changes.Given as goal

abbrev pub invariant-loop-i : goal.invariant-loop-i
invariant-loop-i l =
    (l.drawn < 4294967296) × (l.commands.items ++ changes l.writes (l.writes - l.i) l.i l.drawn ≡ l.initial.commands.items ++ changes l.writes l.writes 0 l.seed)
