use Rattle.std.proofs.Common.{◌≡◌, [], subst}
use Rattle.std.specs.Prelude.{IfOk}
use Rattle.std.specs.Option.{option_and_then, option_map_or}
use Rattle.ccr_meta.specs.Names.{index_at}
use Rattle.ccr_plans.specs.Scenes.{notes_of}
use Rattle.ccr_game.proofs.reading.notes_for.Goals as goal

pub returns-clause-notes : goal.returns-clause-notes
returns-clause-notes g c =
    subst (λ o. IfOk c.notes_in_index.result (λ notes. notes.items ≡ option_map_or (notes_of (g.W.Worlds.logs c.args.worlds.now)) (option_and_then (index_at c.args.meta.now) o) []))
    c.index_read-index.ensures c.notes_in_index.ensures.notes

pub returns-clause-same : goal.returns-clause-same
returns-clause-same g c = c.notes_in_index.ensures.same
