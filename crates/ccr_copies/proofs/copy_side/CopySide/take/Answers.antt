use Rattle.ccr_copies.proofs.Holding.{holds-taken}
use Rattle.ccr_copies.proofs.copy_side.CopySide.take.Goals as goal

pub invariant_of-self-2 : goal.invariant_of-self-2
invariant_of-self-2 c =
    holds-taken c.self.inside.seen c.mark.new.self c.self.inside.store c.put.new.self c.args.op c.seq-seq.result c.self.invariant c.in_ok-mark.ensures.members c.seq-seq.ensures c.in_ok-put.ensures.ok
