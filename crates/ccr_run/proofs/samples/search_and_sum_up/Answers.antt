use Rattle.std.specs.Prelude.{string_bytes}
use Rattle.ccr_search.specs.Joined.{said_by}
use Rattle.ccr_deeds.proofs.Deeding.{on_err}
use Rattle.ccr_plans.specs.Scenes.{Scene}
use Rattle.ccr_run.proofs.Ends.{found_begun, sums_up}
use Rattle.ccr_run.proofs.samples.search_and_sum_up.Goals as goal

pub returns-in_err-text-clause-begun : goal.returns-in_err-text-clause-begun
returns-in_err-text-clause-begun g c =
    let before : Scene = record { names = c.args.game.now.meta; logs = g.W.Worlds.logs c.args.game.now.worlds } in
    let after : Scene = record { names = c.search.new.game.meta; logs = g.W.Worlds.logs c.search.new.game.worlds } in
    on_err _ _ (found_begun before after c.args.command (said_by c.in_ok-follower.follower) c.in_ok-follower.ensures.done)

pub returns-clause-done : goal.returns-clause-done
returns-clause-done g c =
    let before : Scene = record { names = c.args.game.now.meta; logs = g.W.Worlds.logs c.args.game.now.worlds } in
    let after : Scene = record { names = c.search.new.game.meta; logs = g.W.Worlds.logs c.search.new.game.worlds } in
    sums_up c.args.changes c.args.deletes (said_by c.args.leader.now) before after c.args.command (said_by c.in_ok-follower.follower) (string_bytes c.in_ok-text.text)
    c.in_ok-follower.ensures.done c.in_ok-text.ensures
