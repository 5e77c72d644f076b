use Rattle.std.proofs.Common.{◌≡◌, ◌≤◌, ◌+◌, ◌++◌, map, length, vec_len, vec_capacity}
use Rattle.std.specs.List.{AllByRecursion}
use Rattle.std.specs.Vec.Iter.{into_iter_items}
use Rattle.ccr_cell.specs.Passes.{view_of}
use Rattle.ccr_workers.specs.Lists.{Each}
use Rattle.ccr_workers.specs.Settles.{IsOnlyPass}
use Rattle.ccr_worlds.specs.Fated.{PicksAreHanded}
use Rattle.ccr_worlds.specs.HandedOut.{IsHandedOut}
use Rattle.ccr_cells.specs.Opened.{opening_of}
use Rattle.ccr_cells.specs.Views.{AreNumbered, logs_in}
use Rattle.ccr_cells.proofs.handing_out.hand_out.Given as goal

abbrev pub invariant-loop-cell : goal.invariant-loop-cell
invariant-loop-cell g l = record {
  only : Each (IsOnlyPass opening_of) (into_iter_items l.cell-iterator) (into_iter_items l.rest);
  numbered : AreNumbered (vec_len l.journals) (into_iter_items l.rest);
  told : l.journals.items ++ map (λ p. (view_of p).seen) (into_iter_items l.rest) ≡ map (λ p. (view_of p).seen) l.fn.passes.items;
  known : AllByRecursion IsHandedOut (logs_in (into_iter_items l.rest)) → AllByRecursion IsHandedOut (logs_in l.fn.passes.items);
  picks : PicksAreHanded g.K.Handed.fates (vec_len l.journals) (logs_in (into_iter_items l.rest)) → PicksAreHanded g.K.Handed.fates 0 (logs_in l.fn.passes.items);
  room : vec_len l.journals + length (into_iter_items l.rest) ≤ vec_capacity l.journals;
}
