use Rattle.std.proofs.Common.{◌≡◌, ℕ, true, List, ◌++◌, ◌∷◌, [], sym, subst, ap, ◌∙◌}
use Rattle.ccr_leader.specs.Waited.{has_id}
use Rattle.ccr_leader.proofs.Waited.{has-added}
use Rattle.ccr_leader.proofs.kept_requests.note_lease.Goals as goal

pub returns-clause-there : goal.returns-clause-there
returns-clause-there c =
    ap (λ (ids : List (List ℕ)). has_id ids c.args.id.now) (c.in_ok-push.ensures.items ∙ ap (λ (id : List ℕ). c.args.leases.now.items ++ id ∷ []) c.in_ok-copy.ensures)
    ∙ has-added c.args.leases.now.items c.args.id.now
