use Rattle.std.specs.List.{range_with_len}
use Rattle.std.proofs.Common.{◌≡◌, ◌≤◌, ◌<◌, ℕ, ◌+◌, ◌-◌, List, map, sym, ◌∙◌, ap, subst, arith}
use Rattle.ccr_model.specs.Copies.{Copy, Replica, Copies, new_copy, replica_in_step}
use Rattle.ccr_copies.specs.Places.{AreNumbered}
use Rattle.ccr_copies.proofs.Places.{numbered-new}
use Rattle.ccr_copies.proofs.Walking.{new_replicas, one-more-copy}
use Rattle.ccr_copies.proofs.copy_set.CopySet.new.Goals as goal

pub loop-number-preserved : goal.loop-number-preserved
loop-number-preserved c =
    let some : 1 ≤ c.loop-number.number = c.loop-number.invariant.0 in
    let few : c.loop-number.number + 1 - 1 ≤ c.args.copies - 1 = omega (arith, c.loop-number-test.true) in
    let more : 1 ≤ c.loop-number.number + 1 = omega arith in (
      more,
      few,
      one-more-copy c.loop-number.number c.loop-number.replicas.items c.push.new.self.items c.in_step.result c.loop-number.invariant.0 c.loop-number.invariant.2
          (c.in_step.ensures ∙ ap (λ (x : Copy). replica_in_step x 0) c.new.ensures) c.in_ok-push.ensures.items,
    )

pub invariant_of-result : goal.invariant_of-result
invariant_of-result c =
    let low : c.loop-number.number - 1 ≤ c.args.copies - 1 = c.loop-number.invariant.1 in
    let same : c.loop-number.number - 1 ≡ c.args.copies - 1 = omega (arith, c.loop-number-test.false) in
    let items : c.loop-number.replicas.items ≡ new_replicas c.args.copies =
    c.loop-number.invariant.2 ∙ ap (λ (n : ℕ). map {A = ℕ} {B = Replica} (λ number. replica_in_step (new_copy number) 0) (range_with_len 1 n)) same in
    subst (λ (rs : List Replica). AreNumbered c.args.copies rs) (sym items) (numbered-new c.args.copies)

pub returns : goal.returns
returns c =
    let low : c.loop-number.number - 1 ≤ c.args.copies - 1 = c.loop-number.invariant.1 in
    let same : c.loop-number.number - 1 ≡ c.args.copies - 1 = omega (arith, c.loop-number-test.false) in
    let items : c.loop-number.replicas.items ≡ new_replicas c.args.copies =
    c.loop-number.invariant.2 ∙ ap (λ (n : ℕ). map {A = ℕ} {B = Replica} (λ number. replica_in_step (new_copy number) 0) (range_with_len 1 n)) same in
    let with_primary : Copy → Copies = λ p. record { term = 1; primary = p; replicas = c.loop-number.replicas.items; next = c.args.copies } in
    let with_replicas : List Replica → Copies = λ rs. record { term = 1; primary = new_copy 0; replicas = rs; next = c.args.copies } in
    ap with_primary c.new-2.ensures ∙ ap with_replicas items
