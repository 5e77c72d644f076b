use Rattle.std.proofs.Common.{◌∙◌, ap}
use Rattle.std.specs.BTreeMap.{insert_entry}
use Rattle.std.specs.Ordering.{nat_cmp}
use Rattle.ccr_op.specs.Operation.{Operation}
use Rattle.ccr_store.proofs.Views.{copy-turn}
use Rattle.ccr_store.proofs.store.copy_map.Goals as goal

pub loop-n-preserved : goal.loop-n-preserved
loop-n-preserved c =
    copy-turn c.loop-n.copies.entries c.add.new.ops.entries c.args.ops.now.entries c.next.new.self c.loop-n.n-iterator c.in-Some.n.now c.in-Some.op.now c.iter-n-items.ensures.ordered c.loop-n.invariant c.in-Some.ensures.steps
    (c.in_ok-add.ensures ∙ ap (λ (op : Operation). insert_entry nat_cmp c.loop-n.copies.entries c.in-Some.n.now op) c.in_ok-copied.ensures)
