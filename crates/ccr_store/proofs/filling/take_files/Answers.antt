use Rattle.std.proofs.Common.{List, subst}
use Rattle.std.specs.Vec.Iter.{into_iter_items}
use Rattle.ccr_op.specs.Operation.{Operation}
use Rattle.ccr_store.proofs.Filled.{AreTaken, taken-more}
use Rattle.ccr_store.proofs.filling.take_files.Goals as goal

pub loop-file-preserved : goal.loop-file-preserved
loop-file-preserved c =
    taken-more c.args.files.items (into_iter_items c.next.new.self) c.in-Some.file c.loop-file.parts.items c.push.new.self.items c.in_ok-part.part
    c.loop-file.ops.entries c.take_file.new.ops.entries c.loop-file.ids.entries c.take_file.new.ids.entries c.requires.once
    (subst (λ (rest : List (List Operation)). AreTaken c.args.files.items rest c.loop-file.parts.items c.loop-file.ops.entries c.loop-file.ids.entries) c.in-Some.ensures.steps.0 c.loop-file.invariant)
    c.in_ok-push.ensures.items c.in_ok-part.ensures.part c.in_ok-part.ensures.order c.in_ok-part.ensures.held
