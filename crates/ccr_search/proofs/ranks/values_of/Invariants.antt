use Rattle.std.proofs.Common.{◌≡◌, Option, List, map, take}
use Rattle.ccr_doc.specs.declared.scalars.Scalar.{Scalar}
use Rattle.ccr_query.specs.Sorting.{key_of}
use Rattle.ccr_query.specs.declared.sorting.SortKey.{SortKey}
use Rattle.ccr_search.proofs.ranks.values_of.Given as goal

abbrev pub invariant-loop-key : goal.invariant-loop-key
invariant-loop-key l = l.values.items ≡ map {A = SortKey} {B = Option Scalar} (λ key. key_of key l.document) (take l.key-index l.sort)
