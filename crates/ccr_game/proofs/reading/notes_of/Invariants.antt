use Rattle.std.proofs.Common.{◌≡◌, take, drop}
use Rattle.ccr_plans.specs.Scenes.{notes_in}
use Rattle.ccr_game.proofs.reading.notes_of.Given as goal

abbrev pub invariant-shards : goal.invariant-shards
invariant-shards g l = record {
  done : l.notes.items ≡ notes_in l.number (take l.k (drop l.x.first (g.W.Worlds.logs l.initial.worlds)));
  same : g.W.Worlds.logs l.worlds ≡ g.W.Worlds.logs l.initial.worlds;
}
