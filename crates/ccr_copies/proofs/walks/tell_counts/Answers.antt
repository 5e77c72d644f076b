use Rattle.std.specs.Prelude.{slice_set}
use Rattle.std.proofs.Common.{◌∙◌, ap, sym}
use Rattle.std.proofs.lemmas.List.Edits.{map_over_more}
use Rattle.ccr_model.specs.Copies.{Replica}
use Rattle.ccr_model.specs.CopyRows.{with_true_count}
use Rattle.ccr_copies.proofs.walks.tell_counts.Goals as goal

pub loop-replica-preserved : goal.loop-replica-preserved
loop-replica-preserved c =
    ap (λ (r : Replica). slice_set c.loop-replica.replicas c.loop-replica.replica-index r) (c.tell_count.ensures ∙ ap (λ (r : Replica). with_true_count r) (sym c.replica-item.is))
    ∙ map_over_more with_true_count c.args.replicas.now c.loop-replica.replicas c.loop-replica.replica-index c.replica-item.result c.loop-replica-test.true c.loop-replica.invariant c.replica-item.is
