-- Why a change of a cluster's auto-follow patterns was refused, as a plan.
use Rattle.std.specs.Prelude.{◌≡◌, ◌≢◌}
use Rattle.ccr_auto.specs.declared.follow.AutoFault.TheVariants.{Memory as PatternMemory}
use Rattle.ccr_meta.specs.declared.faults.AutoRefused.{AutoRefused}
use Rattle.ccr_meta.specs.declared.faults.AutoRefused.TheVariants.{Meta, Auto}
use Rattle.ccr_meta.specs.declared.faults.MetaFault.TheVariants.{Memory}
use Rattle.ccr_plans.specs.Planned.{Planned}
use Rattle.ccr_plans.specs.Forms.{refused}
use Rattle.ccr_plans.specs.Patterns.{pattern_refused}

-- want of memory gives no plan
abbrev pub IsRefusedSo : AutoRefused → Planned → Type 0
IsRefusedSo (Meta fault) plan = (fault ≢ Memory) × (plan ≡ refused fault)
IsRefusedSo (Auto fault) plan = (fault ≢ PatternMemory) × (plan ≡ pattern_refused fault)
