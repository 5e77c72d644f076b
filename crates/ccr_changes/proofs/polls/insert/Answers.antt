use Rattle.std.proofs.Common.{◌≡◌, ℕ, List, false, ◌∙◌, ap, sym, subst}
use Rattle.std.specs.Cmp.{nat_cmp_total}
use Rattle.std.specs.Set.{remove_key}
use Rattle.std.specs.BTreeMap.{is_at}
use Rattle.ccr_model.specs.Leaders.{Poll}
use Rattle.ccr_changes.specs.Indexes.{copy_cmp, has_copy}
use Rattle.ccr_changes.proofs.Keys.{key-total, remove-insert}
use Rattle.ccr_changes.proofs.Indexing.{at_err, copy_key}
use Rattle.ccr_changes.proofs.polls.insert.Goals as goal

pub returns-then-is_err-clause-err_copies : goal.returns-then-is_err-clause-err_copies
returns-then-is_err-clause-err_copies c =
    let key : ℕ × ℕ × ℕ = (c.poll.inside.copy, c.poll.inside.from, c.args.age) in
    let none : has_copy c.args.copies.now.keys key ≡ false = subst (λ (p : Poll). has_copy c.args.copies.now.keys (copy_key p c.args.age) ≡ false) (sym c.poll.view_is) c.requires.copies in
    at_err c.insert_requested-inserted.result (c.remove.new.self.keys ≡ c.args.copies.now.keys)
    (c.remove.ensures.keys
    ∙ (ap (λ (keys : List (ℕ × ℕ × ℕ)). remove_key (is_at (copy_cmp key)) keys) c.in_ok-insert.ensures.keys ∙ remove-insert (key-total nat_cmp_total) key c.args.copies.now.keys none))
