use Rattle.std.proofs.Common.{◌≡◌, ℕ, Option, Some, not, ◌&&◌, ◌==◌, ◌∙◌, ap, sym, is_some}
use Rattle.std.specs.Option.{option_copied_mut}
use Rattle.std.specs.BTreeSet.{BTreeSet}
use Rattle.ccr_store.specs.Kept.{has_listed}
use Rattle.ccr_store.proofs.ByIdLaws.{listed-unlisted, list_at, fewer_listed}
use Rattle.ccr_store.proofs.by_id.unlist.Goals as goal

pub returns-in-Some-clause-value : goal.returns-in-Some-clause-value
returns-in-Some-clause-value c =
    let found : list_at c.args.ids.now.entries c.args.id.now ≡ Some c.in-Some.numbers.now = sym c.get_mut.ensures.value ∙ ap option_copied_mut c.in-Some.is in
    listed-unlisted c.args.id.now c.args.n c.args.ids.now.entries (c.get_mut.follows.lender c.remove.new.self).entries (Some c.remove.new.self)
    (((c.get_mut.follows.holds c.remove.new.self).3 (ap is_some found)).0)
    (λ k.
    fewer_listed c.in-Some.numbers.now c.remove.new.self c.args.n c.remove.ensures.updates.0 k
    ∙ ap (λ (o : Option (BTreeSet ℕ)). has_listed o k && not (c.args.n == k)) (sym found))
