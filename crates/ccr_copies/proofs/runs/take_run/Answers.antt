use Rattle.std.proofs.Common.{◌≡◌, ◌≤◌, ◌+◌, ℕ, Some, sym, ◌∙◌, ap, arith}
use Rattle.ccr_op.specs.Operation.{Operation}
use Rattle.ccr_model.specs.Operations.{has_number, op_at}
use Rattle.ccr_model.specs.Stores.{held}
use Rattle.ccr_copies.proofs.Progress.{next-absent, number-of-found, takes-more, within-more}
use Rattle.ccr_copies.proofs.runs.take_run.Goals as goal

pub put-requires : goal.put-requires
put-requires c =
    let at : op_at c.loop-n.n (held c.args.of.now) ≡ Some c.in-Some.op.now = sym c.in-Some.ensures in
    let number : c.in_ok-copied.copied.seq ≡ c.loop-n.n = ap (λ (x : Operation). x.seq) c.in_ok-copied.ensures ∙ number-of-found c.loop-n.n (held c.args.of.now) c.in-Some.op.now at in
    ap (λ (k : ℕ). has_number (held c.loop-n.store) k) number ∙ next-absent c.args.store.now c.loop-n.store c.args.from c.loop-n.n c.loop-n.invariant.low c.requires c.loop-n.invariant.within

pub loop-n-preserved : goal.loop-n-preserved
loop-n-preserved c =
    let at : op_at c.loop-n.n (held c.args.of.now) ≡ Some c.in_ok-copied.copied = sym c.in-Some.ensures ∙ ap (λ (x : Operation). Some x) (sym c.in_ok-copied.ensures) in
    let low : c.args.from ≤ c.loop-n.n = c.loop-n.invariant.low in
    record {
      rest = takes-more (held c.args.of.now) c.loop-n.n c.args.to c.in_ok-copied.copied c.loop-n.store c.put.new.self _ c.loop-n-test.true at c.in_ok-put.ensures.ok c.loop-n.invariant.rest;
      within = within-more c.args.store.now c.loop-n.store c.put.new.self c.args.from c.loop-n.n c.args.to c.in_ok-copied.copied low c.loop-n-test.true
          (number-of-found c.loop-n.n (held c.args.of.now) c.in_ok-copied.copied at) c.in_ok-put.ensures.ok c.loop-n.invariant.within;
      low = omega arith;
    }
