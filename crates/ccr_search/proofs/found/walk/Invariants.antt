use Rattle.std.proofs.Common.{◌+◌, ◌≤◌, length, option_copied}
use Rattle.ccr_model.specs.Searches.{live_hits}
use Rattle.ccr_model.specs.Stores.{held}
use Rattle.ccr_search.proofs.Walks.{IsWalked, left_after}
use Rattle.ccr_search.proofs.found.walk.Given as goal

abbrev pub invariant-live : goal.invariant-live
invariant-live l =
    IsWalked (held l.store) l.query l.sort (option_copied l.last) l.all.items
    × (l.fn.reads ≤ l.reads)
    × (l.reads + left_after (option_copied l.last) (held l.store) ≤ l.fn.reads + length (live_hits (held l.store)))

abbrev pub decreases-live : goal.decreases-live
decreases-live l = left_after (option_copied l.last) (held l.store)
