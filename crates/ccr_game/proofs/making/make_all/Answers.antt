use Rattle.std.proofs.Common.{◌≡◌, ◌∷◌, rules}
use Rattle.std.specs.Vec.Iter.{into_iter_items}
use Rattle.ccr_game.proofs.Logs.{makes_more}
use Rattle.ccr_game.proofs.making.make_all.Goals as goal

pub starts-preserved : goal.starts-preserved
starts-preserved g c =
    let next : into_iter_items c.starts.start-iterator ≡ c.in-Some.start ∷ into_iter_items c.next.new.self = search rules in
    makes_more (g.W.Worlds.logs c.args.worlds.now) c.args.made.items (into_iter_items c.starts.start-iterator) (into_iter_items c.next.new.self) c.in-Some.start
    (g.W.Worlds.logs c.starts.worlds) (g.W.Worlds.logs c.make.new.self) c.starts.invariant next c.in_ok-make.ensures.ok
