use Rattle.std.proofs.Common.{◌≡◌, ℕ, ◌-◌, ◌<◌, ◌≤◌, List, length, take, drop, sym, ◌∙◌, subst, arith}
use Rattle.ccr_store.specs.Kept.{kept_at, ops_of, below, bytes_of, IsClosed}
use Rattle.ccr_store.proofs.Lengths.{cut-made, rest-within}
use Rattle.ccr_store.proofs.parts.Part.cut.Goals as goal

pub bytes_at-requires : goal.bytes_at-requires
bytes_at-requires c =
    let le : bytes_of (ops_of (kept_at c.args.ops.now.entries) (take (length c.as_slice-2.result.now - c.count_below-kept.result) (drop c.count_below-kept.result c.as_slice-2.result.now))) ≤ c.self.inside.bytes =
    rest-within (kept_at c.args.ops.now.entries) record { numbers = c.self.inside.numbers.items; bytes = c.self.inside.bytes } c.count_below-kept.result c.as_slice-2.result.now
    (subst (IsClosed (kept_at c.args.ops.now.entries)) (sym c.self.view_is) c.requires) c.as_slice-2.ensures.value in
    let fits : c.self.inside.bytes < 18446744073709551616 = c.self.invariant in
    omega arith

pub overflow_sub-self : goal.overflow_sub-self
overflow_sub-self c =
    let le : bytes_of (ops_of (kept_at c.args.ops.now.entries) (take (length c.as_slice-2.result.now - c.count_below-kept.result) (drop c.count_below-kept.result c.as_slice-2.result.now))) ≤ c.self.inside.bytes =
    rest-within (kept_at c.args.ops.now.entries) record { numbers = c.self.inside.numbers.items; bytes = c.self.inside.bytes } c.count_below-kept.result c.as_slice-2.result.now
    (subst (IsClosed (kept_at c.args.ops.now.entries)) (sym c.self.view_is) c.requires) c.as_slice-2.ensures.value in
    subst (λ k. k ≤ c.self.inside.bytes) (sym c.bytes_at.ensures) le

pub returns-clause-closed : goal.returns-clause-closed
returns-clause-closed c =
    cut-made (kept_at c.args.ops.now.entries) record { numbers = c.self.inside.numbers.items; bytes = c.self.inside.bytes } c.count_below-kept.result c.args.bound c.as_slice-2.result.now c.truncate.new.self.items c.bytes_at.result
    (subst (IsClosed (kept_at c.args.ops.now.entries)) (sym c.self.view_is) c.requires)
    (subst (λ (ns : List ℕ). take c.count_below-kept.result ns ≡ below c.args.bound ns) (c.as_slice.ensures.value ∙ sym c.as_slice-2.ensures.value) c.count_below-kept.ensures.front) c.as_slice-2.ensures.value c.bytes_at.ensures c.truncate.ensures.items
