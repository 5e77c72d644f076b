-- The orders to a bound that are on a side of it.
use Rattle.std.specs.Prelude.{Bool}
use Rattle.std.specs.Ordering.{is_ge, is_gt, is_le, is_lt}
use Rattle.std.specs.declared.cmp.Ordering.{Ordering}
use Rattle.ccr_query.specs.declared.conditions.Side.{Side}
use Rattle.ccr_query.specs.declared.conditions.Side.TheVariants.{AtLeast, Above, AtMost, Below}

abbrev pub passes_of : Side → Ordering → Bool
passes_of AtLeast order = is_ge order
passes_of Above order = is_gt order
passes_of AtMost order = is_le order
passes_of Below order = is_lt order
