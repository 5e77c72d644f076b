use Rattle.std.proofs.Common.{◌≡◌, ℕ, List, [], ◌∷◌, ◌++◌, Option, Some, None, is_some, ◌∙◌, ap, sym, subst}
use Rattle.std.specs.Option.{option_copied_mut}
use Rattle.std.specs.BTreeMap.{BTreeMap}
use Rattle.ccr_changes.specs.Indexes.{Listed, ages_in}
use Rattle.ccr_changes.proofs.Indexing.{Writes, ages-kept, ages-written, at_err, items_of, list_at}
use Rattle.ccr_changes.proofs.polls.push_age.Goals as goal

pub returns-in_err-push_back-clause-err : goal.returns-in_err-push_back-clause-err
returns-in_err-push_back-clause-err c =
    let found : list_at c.args.ages.now.entries c.args.follower.now ≡ Some c.in-Some.listed.now = sym c.get_mut.ensures.value ∙ ap option_copied_mut c.in-Some.is in
    at_err c.from_residual.result ((f : List ℕ) → ages_in (c.get_mut.follows.lender c.push_back.new.self).entries f ≡ ages_in c.args.ages.now.entries f)
    (ages-kept c.args.follower.now c.args.ages.now.entries (c.get_mut.follows.lender c.push_back.new.self).entries (Some c.push_back.new.self) (((c.get_mut.follows.holds c.push_back.new.self).3 (ap is_some found)).0)
    (c.in_err-push_back.ensures.items ∙ sym (ap items_of found)))

pub returns-in-Some-clause-ok : goal.returns-in-Some-clause-ok
returns-in-Some-clause-ok c =
    let found : list_at c.args.ages.now.entries c.args.follower.now ≡ Some c.in-Some.listed.now = sym c.get_mut.ensures.value ∙ ap option_copied_mut c.in-Some.is in
    ages-written c.args.follower.now c.args.ages.now.entries (c.get_mut.follows.lender c.push_back.new.self).entries (Some c.push_back.new.self) (λ xs. xs ++ c.args.age ∷ [])
    (((c.get_mut.follows.holds c.push_back.new.self).3 (ap is_some found)).0)
    (c.in_ok-push_back.ensures.items ∙ sym (ap (λ (o : Option Listed). items_of o ++ c.args.age ∷ []) found))

pub returns-clause-ok : goal.returns-clause-ok
returns-clause-ok c =
    let none : list_at c.args.ages.now.entries c.args.follower.now ≡ None = sym c.get_mut.ensures.value ∙ ap option_copied_mut c.in_default.is in
    ages-written c.args.follower.now c.args.ages.now.entries c.insert.new.self.entries (Some c.push_back-2.new.self) (λ xs. xs ++ c.args.age ∷ [])
    (subst (λ (m : BTreeMap (List ℕ) Listed). Writes c.args.follower.now m.entries c.insert.new.self.entries (Some c.push_back-2.new.self)) c.get_mut.follows.holds-at-none c.in_ok-insert.ensures.updates.0)
    (c.in_ok-push_back-2.ensures.items ∙ ap (λ (xs : List ℕ). xs ++ c.args.age ∷ []) (c.new-listed.ensures.items ∙ sym (ap items_of none)))
