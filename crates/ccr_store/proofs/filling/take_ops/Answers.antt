use Rattle.std.proofs.Common.{◌∷◌, ◌++◌, [], List, ◌∙◌, ap, sym, subst}
use Rattle.std.specs.Vec.Iter.{into_iter_items}
use Rattle.std.proofs.lemmas.List.{nil_from_length}
use Rattle.ccr_op.specs.Operation.{Operation}
use Rattle.ccr_store.proofs.Filled.{IsTaking, taking-held, taking-more}
use Rattle.ccr_store.proofs.filling.take_ops.Goals as goal

pub loop-op-preserved : goal.loop-op-preserved
loop-op-preserved c =
    taking-more c.args.file.items c.args.ops.now.entries c.loop-op.ops.entries c.take_op.new.ops.entries c.args.ids.now.entries c.loop-op.ids.entries c.take_op.new.ids.entries
    c.in-Some.op (into_iter_items c.next.new.self) c.loop-op.numbers.items c.push.new.self.items
    (subst (λ (rest : List Operation). IsTaking c.args.file.items c.args.ops.now.entries c.args.ids.now.entries rest c.loop-op.numbers.items c.loop-op.ops.entries c.loop-op.ids.entries) c.in-Some.ensures.steps.0 c.loop-op.invariant)
    (c.in_ok-push.ensures.items ∙ ap (λ n. c.loop-op.numbers.items ++ n ∷ []) c.seq.ensures)
    c.in_ok-take_op.ensures

pub returns-clause-held : goal.returns-clause-held
returns-clause-held c =
    taking-held c.args.file.items c.args.ops.now.entries c.loop-op.ops.entries c.args.ids.now.entries c.loop-op.ids.entries (into_iter_items c.loop-op.op-iterator) c.loop-op.numbers.items
    (nil_from_length (into_iter_items c.loop-op.op-iterator) (sym c.loop-op.op-iterator.rest.ok.0 ∙ c.in-None.ensures.steps.0)) c.loop-op.invariant
