-- The order of values.
use Rattle.std.specs.declared.cmp.Ordering.{Ordering}
use Rattle.std.specs.declared.cmp.Ordering.TheVariants.{Less, Greater}
use Rattle.std.specs.Ordering.{nat_cmp, int_cmp, bool_cmp}
use Rattle.std.specs.Cmp.Lexicographic.{slice_cmp}
use Rattle.ccr_doc.specs.declared.scalars.Scalar.{Scalar}
use Rattle.ccr_doc.specs.declared.scalars.Scalar.TheVariants.{Text, Number, Truth}

-- truth values first, with false before true, then numbers, then texts by their bytes
abbrev pub scalar_cmp : Scalar → Scalar → Ordering
scalar_cmp (Truth a) (Truth b) = bool_cmp a b
scalar_cmp (Truth a) (Number b) = Less
scalar_cmp (Truth a) (Text b) = Less
scalar_cmp (Number a) (Truth b) = Greater
scalar_cmp (Number a) (Number b) = int_cmp a b
scalar_cmp (Number a) (Text b) = Less
scalar_cmp (Text a) (Truth b) = Greater
scalar_cmp (Text a) (Number b) = Greater
scalar_cmp (Text a) (Text b) = slice_cmp nat_cmp a b
