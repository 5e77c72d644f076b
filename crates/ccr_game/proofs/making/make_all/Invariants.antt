use Rattle.std.specs.Vec.Iter.{into_iter_items}
use Rattle.ccr_game.proofs.Logs.{Makes}
use Rattle.ccr_game.proofs.making.make_all.Given as goal

abbrev pub invariant-starts : goal.invariant-starts
invariant-starts g l = Makes (g.W.Worlds.logs l.initial.worlds) l.fn.made.items (into_iter_items l.start-iterator) (g.W.Worlds.logs l.worlds)
