use Rattle.std.proofs.Common.{rules, ◌≡◌, find, option_map, subst}
use Rattle.ccr_insync.specs.InSyncSet.{is_behind, IsKept}
use Rattle.ccr_insync.proofs.Kept.{least_behind}
use Rattle.ccr_insync.proofs.InSync.ready.Goals as goal

pub returns-clause-least : goal.returns-clause-least
returns-clause-least c =
    let kept : IsKept c.args.self.now = subst IsKept c.self.view_is c.self.invariant in
    let e : c.first_behind.result ≡ option_map (λ m. m.copy) (find (is_behind c.args.self.now.primary) c.args.self.now.members) = search rules in
    least_behind c.args.self.now c.first_behind.result kept e
