use Rattle.std.proofs.Common.{◌≡◌, ◌≤◌, length, vec_capacity}
use Rattle.ccr_workers.specs.Lists.{Fronts, UpTo}
use Rattle.ccr_workers.specs.Settles.{IsChosen}
use Rattle.ccr_workers.specs.Lending.{IsReady, Halved}
use Rattle.ccr_workers.proofs.crew.lend_each.Given as goal

abbrev pub invariant-loop-at : goal.invariant-loop-at
invariant-loop-at g l = record {
  given : Fronts (IsReady g.X.Machine.start (IsChosen g.X.Machine.entry_of g.X.Machine.may_reply g.X.Machine.may_choose g.X.Machine.is_idle)) l.cells l.given.items;
  count : length l.given.items ≡ l.at;
  kept : UpTo Halved l.at l.initial.passes l.passes;
  room : length l.cells ≤ vec_capacity l.given;
}
