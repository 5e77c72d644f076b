use Rattle.std.specs.Prelude.{slice_get, IfSome}
use Rattle.std.proofs.Common.{◌≡◌, Some, List, ◌∙◌, ap, subst}
use Rattle.ccr_model.specs.Copies.{Replica, Copies, replica_of}
use Rattle.ccr_copies.proofs.Places.{number-of}
use Rattle.ccr_copies.proofs.copy_set.CopySet.replica_at.Goals as goal

pub returns-clause-number : goal.returns-clause-number
returns-clause-number c =
    subst (λ (s : Copies). IfSome c.get_at.result (λ replica. replica_of s replica.now.copy.number ≡ Some replica.now)) c.self.view_is
    (number-of c.self.inside.next c.args.place c.self.inside.replicas.items c.get_at.result
    (c.get_at.ensures ∙ ap (λ (rs : List Replica). slice_get rs c.args.place) c.deref.ensures.value) c.self.invariant)
