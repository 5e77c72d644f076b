use Rattle.std.proofs.Common.{◌≡◌, ◌∷◌, ℕ, List, max, sym, ◌∙◌, ap, subst}
use Rattle.ccr_model.specs.Copies.{Replica, Copies, greatest, greatest_floor}
use Rattle.ccr_copies.proofs.Walking.{floors-two, floors_of}
use Rattle.ccr_copies.proofs.copy_set.CopySet.greatest_floor.Goals as goal

pub returns : goal.returns
returns c =
    subst (λ (s : Copies). c.greatest_floor_with.result ≡ greatest_floor s) c.self.view_is
    (c.greatest_floor_with.ensures
    ∙ (ap (λ (n : ℕ). greatest (n ∷ floors_of c.deref.result.now)) c.kept_from.ensures
    ∙ (ap (λ (rs : List Replica). greatest (c.self.inside.primary.floor ∷ floors_of rs)) c.deref.ensures.value
    ∙ ap (λ (ns : List ℕ). max c.self.inside.primary.floor (greatest ns)) (sym (floors-two c.self.inside.replicas.items)))))
