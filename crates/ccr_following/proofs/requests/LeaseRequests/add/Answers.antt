use Rattle.std.specs.List.{AllByRecursion}
use Rattle.std.proofs.Common.{◌≡◌, ◌<◌, ◌∷◌, ◌++◌, ℕ, List, [], ◌∙◌, subst, sym}
use Rattle.ccr_following.proofs.Standing.{insert_key-last}
use Rattle.ccr_following.proofs.requests.LeaseRequests.add.Goals as goal

pub returns : goal.returns
returns c =
    let older : AllByRecursion (λ (n : ℕ). n < c.args.number) c.self.inside.numbers.keys
    = subst (λ (ns : List ℕ). AllByRecursion (λ (n : ℕ). n < c.args.number) ns) (sym c.self.view_is) c.requires in
    subst (λ (ns : List ℕ). c.insert.new.self.keys ≡ ns ++ c.args.number ∷ []) c.self.view_is
    (c.in_ok-insert.ensures.keys ∙ insert_key-last c.args.number c.self.inside.numbers.keys older)
