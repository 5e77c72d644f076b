use Rattle.std.proofs.Common.{◌≡◌, ℕ, Vec, Global, sym, subst, IfOk}
use Rattle.std.proofs.Common.{rules}
use Rattle.ccr_store.specs.Kept.{Ascend}
use Rattle.ccr_store.proofs.Lengths.{ascend-sorted, ok_by}
use Rattle.ccr_store.proofs.store.in_order.Goals as goal

pub returns-clause-order : goal.returns-clause-order
returns-clause-order c =
    let keys : IfOk c.collect.result (λ (all : Vec ℕ Global). all.items ≡ c.args.numbers.now.keys) = search rules in
    ok_by c.collect.result (λ (all : Vec ℕ Global). all.items ≡ c.args.numbers.now.keys) (λ (all : Vec ℕ Global). Ascend 0 all.items) (λ all is. subst (Ascend 0) (sym is) (ascend-sorted c.args.numbers.now.keys c.iter.ensures.ordered)) keys
