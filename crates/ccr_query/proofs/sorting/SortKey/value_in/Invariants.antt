use Rattle.std.proofs.Common.{◌≡◌, drop, option_copied}
use Rattle.std.specs.List.{fold}
use Rattle.ccr_query.specs.Sorting.{key_of, with_field}
use Rattle.ccr_query.proofs.sorting.SortKey.value_in.Given as goal

abbrev pub invariant-loop-at : goal.invariant-loop-at
invariant-loop-at l = key_of l.self l.document ≡ fold (with_field l.self) (option_copied l.first) (drop l.at-index l.at-items)
