use Rattle.std.specs.Prelude.{slice_set}
use Rattle.std.proofs.Common.{◌∙◌, ap, sym}
use Rattle.std.proofs.lemmas.List.Edits.{map_over_more}
use Rattle.ccr_model.specs.Copies.{Replica}
use Rattle.ccr_model.specs.CopyRows.{unknown}
use Rattle.ccr_copies.proofs.walks.forget_all.Goals as goal

pub loop-replica-preserved : goal.loop-replica-preserved
loop-replica-preserved c =
    ap (λ (r : Replica). slice_set c.loop-replica.replicas c.loop-replica.replica-index r) (c.forget.ensures ∙ ap (λ (r : Replica). unknown r) (sym c.replica-item.is))
    ∙ map_over_more unknown c.args.replicas.now c.loop-replica.replicas c.loop-replica.replica-index c.replica-item.result c.loop-replica-test.true c.loop-replica.invariant c.replica-item.is
