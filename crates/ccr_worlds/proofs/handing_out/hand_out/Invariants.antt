use Rattle.std.proofs.Common.{◌≡◌, ◌≤◌, ◌+◌, ◌++◌, map, length, vec_len, vec_capacity}
use Rattle.std.specs.List.{AllByRecursion}
use Rattle.std.specs.Vec.Iter.{into_iter_items}
use Rattle.ccr_worlds.specs.Fated.{log_of}
use Rattle.ccr_worlds.specs.HandedOut.{IsHandedOut}
use Rattle.ccr_worlds.proofs.handing_out.hand_out.Given as goal

abbrev pub invariant-loop-world : goal.invariant-loop-world
invariant-loop-world g l = record {
  told : l.journals.items ++ map (λ w. w.recorded.journal) (into_iter_items l.world-iterator) ≡ map (λ w. w.recorded.journal) l.fn.worlds.items;
  known : AllByRecursion IsHandedOut (map (λ w. log_of w.recorded) (into_iter_items l.world-iterator)) → AllByRecursion IsHandedOut (map (λ w. log_of w.recorded) l.fn.worlds.items);
  room : vec_len l.journals + length (into_iter_items l.world-iterator) ≤ vec_capacity l.journals;
}
