use Rattle.std.proofs.Common.{◌≡◌, length, take}
use Rattle.ccr_deeds.specs.Deeds.{AreDeeds, AreOrderedDeeds}
use Rattle.ccr_deeds.proofs.doing.do_deeds.Given as goal

abbrev pub invariant-deeds : goal.invariant-deeds
invariant-deeds g l = record {
  done : AreDeeds (g.W.Worlds.logs l.initial.worlds) (take l.deed-index l.deeds) (g.W.Worlds.logs l.worlds) l.told.items;
  ordered : AreOrderedDeeds (take l.deed-index l.deeds) l.told.items;
  count : length (g.W.Worlds.logs l.worlds) ≡ length (g.W.Worlds.logs l.initial.worlds);
}
