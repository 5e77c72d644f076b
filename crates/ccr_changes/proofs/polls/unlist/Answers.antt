use Rattle.std.proofs.Common.{◌≡◌, Option, Some, is_some, ◌∙◌, ap, sym, arith}
use Rattle.std.specs.List.{remove}
use Rattle.std.specs.Option.{option_copied_mut}
use Rattle.ccr_changes.specs.Indexes.{Listed}
use Rattle.ccr_changes.proofs.Indexing.{ages-written, items_of, list_at, removed-items}
use Rattle.ccr_changes.proofs.polls.unlist.Goals as goal

pub returns-in-Some-clause-value : goal.returns-in-Some-clause-value
returns-in-Some-clause-value c =
    let found : list_at c.args.ages.now.entries c.args.follower.now ≡ Some c.in-Some.listed.now = sym c.get_mut.ensures.value ∙ ap option_copied_mut c.in-Some.is in
    let left : c.remove.new.self.items ≡ remove c.in-Some.listed.now.items c.args.at =
    removed-items c.remove.result c.in-Some.listed.now c.remove.new.self c.args.at c.remove.ensures.items c.remove.ensures.unchanged (λ lt. c.remove.ensures.variant.1 (omega (arith, c.in-Some.listed.now.ok.0))) in
    ages-written c.args.follower.now c.args.ages.now.entries (c.get_mut.follows.lender c.remove.new.self).entries (Some c.remove.new.self) (λ xs. remove xs c.args.at)
    (((c.get_mut.follows.holds c.remove.new.self).3 (ap is_some found)).0) (left ∙ sym (ap (λ (o : Option Listed). remove (items_of o) c.args.at) found))
