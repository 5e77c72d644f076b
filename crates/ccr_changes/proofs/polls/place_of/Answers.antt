use Rattle.std.proofs.Common.{◌≡◌, ℕ, List, Some, IfNone, IfSome, ap, sym, subst}
use Rattle.std.specs.Prelude.{slice_get}
use Rattle.ccr_changes.specs.Indexes.{AreRising, ages_in}
use Rattle.ccr_changes.proofs.Ages.{searched-place}
use Rattle.ccr_changes.proofs.Indexing.{items_of}
use Rattle.ccr_changes.proofs.polls.place_of.Goals as goal

pub returns-clause-none : goal.returns-clause-none
returns-clause-none c =
    let own : c.in_ok-listed.listed.now.items ≡ ages_in c.args.ages.now.entries c.args.follower.now = ap items_of c.in_ok-listed.ensures.value in
    subst (λ (xs : List ℕ). IfNone c.ok.result ((at : ℕ) → slice_get xs at ≡ Some c.args.age → ⊥)) own
    ((searched-place c.in_ok-listed.listed.now.items c.args.age c.binary_search.result c.ok.result c.ok.ensures.value c.binary_search.ensures.position (subst (AreRising 0) (sym own) c.requires)).0)

pub returns-clause-some : goal.returns-clause-some
returns-clause-some c =
    let own : c.in_ok-listed.listed.now.items ≡ ages_in c.args.ages.now.entries c.args.follower.now = ap items_of c.in_ok-listed.ensures.value in
    subst (λ (xs : List ℕ). IfSome c.ok.result (λ at. slice_get xs at ≡ Some c.args.age)) own
    ((searched-place c.in_ok-listed.listed.now.items c.args.age c.binary_search.result c.ok.result c.ok.ensures.value c.binary_search.ensures.position (subst (AreRising 0) (sym own) c.requires)).1)
