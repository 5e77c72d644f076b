use Rattle.std.proofs.Common.{◌≡◌, length}
use Rattle.std.specs.List.{All}
use Rattle.ccr_workers.specs.Lists.{Each}
use Rattle.ccr_workers.specs.Settles.{IsChosen}
use Rattle.ccr_workers.specs.Lending.{IsReady, Went}
use Rattle.ccr_workers.proofs.settling.hire_all.Given as goal

abbrev pub invariant-loop-number : goal.invariant-loop-number
invariant-loop-number g l = record {
  ready : All (λ worker. Each (IsReady g.X.Machine.start (IsChosen g.X.Machine.entry_of g.X.Machine.may_reply g.X.Machine.may_choose g.X.Machine.is_idle)) l.cells worker.passes.items) l.crew.items;
  lent : Each (Went (IsChosen g.X.Machine.entry_of g.X.Machine.may_reply g.X.Machine.may_choose g.X.Machine.is_idle) (length l.crew.items) 0) l.initial.passes l.passes;
  count : length l.crew.items ≡ l.number;
}
