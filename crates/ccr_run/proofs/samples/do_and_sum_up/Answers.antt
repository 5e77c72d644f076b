use Rattle.std.specs.Prelude.{◌≡◌, count_by, string_bytes}
use Rattle.ccr_search.specs.Joined.{said_by}
use Rattle.ccr_deeds.proofs.Deeding.{on_err}
use Rattle.ccr_plans.specs.Scenes.{Scene}
use Rattle.ccr_run.specs.Samples.{is_change, is_delete}
use Rattle.ccr_run.proofs.Ends.{at_first, at_last_found, ends_in_search, has_summary, then_in_search}
use Rattle.ccr_run.proofs.samples.do_and_sum_up.Goals as goal

pub pop_search-last-requires : goal.pop_search-last-requires
pop_search-last-requires g c =
    ends_in_search c.args.commands.items c.requires

pub search_last-requires : goal.search_last-requires
search_last-requires g c =
    then_in_search c.args.commands.items c.pop_search-last.new.commands.items c.pop_search-last.result c.requires c.pop_search-last.ensures.split

pub returns-in_err-leader-clause-begun : goal.returns-in_err-leader-clause-begun
returns-in_err-leader-clause-begun g c =
    let before : Scene = record { names = c.args.game.now.meta; logs = g.W.Worlds.logs c.args.game.now.worlds } in
    let after : Scene = record { names = c.search_last.new.game.meta; logs = g.W.Worlds.logs c.search_last.new.game.worlds } in
    on_err _ _ (at_first before after c.args.commands.items c.pop_search-last.new.commands.items c.pop_search-last.result c.pop_search-last.ensures.split c.in_err-leader.ensures.begun)

pub returns-in_err-text-clause-begun : goal.returns-in_err-text-clause-begun
returns-in_err-text-clause-begun g c =
    let before : Scene = record { names = c.args.game.now.meta; logs = g.W.Worlds.logs c.args.game.now.worlds } in
    let between : Scene = record { names = c.search_last.new.game.meta; logs = g.W.Worlds.logs c.search_last.new.game.worlds } in
    let after : Scene = record { names = c.search_and_sum_up.new.game.meta; logs = g.W.Worlds.logs c.search_and_sum_up.new.game.worlds } in
    on_err _ _ (at_last_found before between after c.args.commands.items c.pop_search-last.new.commands.items c.pop_search-last.result (said_by c.in_ok-leader.leader)
    c.pop_search-last.ensures.split c.in_ok-leader.ensures.done c.in_err-text.ensures.begun)

pub returns-clause-done : goal.returns-clause-done
returns-clause-done g c =
    let before : Scene = record { names = c.args.game.now.meta; logs = g.W.Worlds.logs c.args.game.now.worlds } in
    let between : Scene = record { names = c.search_last.new.game.meta; logs = g.W.Worlds.logs c.search_last.new.game.worlds } in
    let after : Scene = record { names = c.search_and_sum_up.new.game.meta; logs = g.W.Worlds.logs c.search_and_sum_up.new.game.worlds } in
    let counted : c.changes_in-changes.result ≡ count_by is_change c.args.commands.items = cc in
    let counted' : c.deletes_in-deletes.result ≡ count_by is_delete c.args.commands.items = cc in
    has_summary before between after c.args.commands.items c.pop_search-last.new.commands.items c.pop_search-last.result c.changes_in-changes.result c.deletes_in-deletes.result
    (said_by c.in_ok-leader.leader) (string_bytes c.in_ok-text.text) c.pop_search-last.ensures.split c.in_ok-leader.ensures.done counted counted' c.in_ok-text.ensures.done
