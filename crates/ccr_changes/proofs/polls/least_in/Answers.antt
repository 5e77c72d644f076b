use Rattle.std.proofs.Common.{ℕ, Option, sym, subst, arith}
use Rattle.std.specs.Cmp.{nat_cmp_total}
use Rattle.std.specs.Ordering.{nat_cmp}
use Rattle.ccr_changes.specs.Indexes.{IsLeastKey, copy_cmp}
use Rattle.ccr_changes.proofs.Keys.{first-none, first-some, key-start}
use Rattle.ccr_changes.proofs.Firsts.{copy-first, copy-passed}
use Rattle.ccr_changes.proofs.polls.least_in.Goals as goal

pub returns-in_err-at : goal.returns-in_err-at
returns-in_err-at c =
    subst (λ (o : Option (ℕ × ℕ)). IsLeastKey c.args.copies.now.keys c.args.copy o) (sym c.from_residual.ensures)
    (λ from age.
    first-none copy_cmp c.args.copies.now (c.args.copy, 0, 0) c.range.result (c.range.ensures.in_range tt) c.in_err-at.ensures.steps.0 (c.args.copy, from, age)
    (key-start nat_cmp nat_cmp_total c.args.copy 0 from age (omega arith)))

pub returns-then-at-copy : goal.returns-then-at-copy
returns-then-at-copy c =
    copy-passed c.args.copies.now.keys c.args.copy c.in_ok-at.field-0.now
    (first-some copy_cmp c.args.copies.now (c.args.copy, 0, 0) c.in_ok-at.field-0.now c.range.result c.next.new.self (c.range.ensures.in_range tt) c.in_ok-at.ensures.steps) c.if-at-copy.true

pub returns : goal.returns
returns c =
    copy-first c.args.copies.now.keys c.args.copy c.in_ok-at.field-0.now
    (first-some copy_cmp c.args.copies.now (c.args.copy, 0, 0) c.in_ok-at.field-0.now c.range.result c.next.new.self (c.range.ensures.in_range tt) c.in_ok-at.ensures.steps) c.if-at-copy.false
