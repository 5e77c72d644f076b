use Rattle.std.proofs.Common.{◌≡◌, ◌+◌, ◌++◌, drop, map}
use Rattle.ccr_plans.specs.Forms.{in_turn}
use Rattle.ccr_plans.specs.Plans.{search_event}
use Rattle.ccr_plans.proofs.planning.search_each.Given as goal

abbrev pub invariant-loop-note : goal.invariant-loop-note
invariant-loop-note l = record {
  done : l.deeds.items ++ in_turn l.world (map (search_event l.x l.request l.copy) (drop l.note-index l.notes)) ≡ in_turn l.x.first (map (search_event l.x l.request l.copy) l.notes);
  place : l.world ≡ l.x.first + l.note-index;
}
