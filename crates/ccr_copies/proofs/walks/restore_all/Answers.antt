use Rattle.std.specs.Prelude.{slice_set, slice_get}
use Rattle.std.proofs.Common.{◌≡◌, ◌<◌, length, get_or, sym, ◌∙◌, ap, arith}
use Rattle.std.proofs.lemmas.List.Edits.{map_over_more}
use Rattle.ccr_model.specs.Copies.{Replica}
use Rattle.ccr_copies.proofs.Places.{get-at, numbered-set}
use Rattle.ccr_copies.proofs.Walking.{filed}
use Rattle.ccr_copies.proofs.walks.restore_all.Goals as goal

pub returns-in_err-restore-clause-numbers : goal.returns-in_err-restore-clause-numbers
returns-in_err-restore-clause-numbers c = λ next all.
    let low : c.loop-replica.replica-index < length c.loop-replica.replicas = omega (arith, c.loop-replica-test.true) in
    numbered-set next c.loop-replica.replica-index c.replica-item.result c.restore.new.self c.loop-replica.replicas (get-at c.loop-replica.replicas c.loop-replica.replica-index c.replica-item.result low c.replica-item.is)
    (c.in_err-restore.ensures.number ∙ ap (λ (r : Replica). r.copy.number) (sym c.replica-item.is)) (c.loop-replica.invariant.1 next all)

pub loop-replica-preserved : goal.loop-replica-preserved
loop-replica-preserved c =
    let low : c.loop-replica.replica-index < length c.loop-replica.replicas = omega (arith, c.loop-replica-test.true) in (
      ap (λ (r : Replica). slice_set c.loop-replica.replicas c.loop-replica.replica-index r)
          (c.in_ok-restore.ensures.ok ∙ (ap (λ s. filed c.args.count s (get_or c.loop-replica.replicas c.loop-replica.replica-index c.replica-item.result)) c.in_ok-copied.ensures
          ∙ ap (λ (r : Replica). filed c.args.count c.args.store.now r) (sym c.replica-item.is)))
          ∙ map_over_more (filed c.args.count c.args.store.now) c.args.replicas.now c.loop-replica.replicas c.loop-replica.replica-index c.replica-item.result c.loop-replica-test.true c.loop-replica.invariant.0 c.replica-item.is,
      λ next all. numbered-set next c.loop-replica.replica-index c.replica-item.result c.restore.new.self c.loop-replica.replicas (get-at c.loop-replica.replicas c.loop-replica.replica-index c.replica-item.result low c.replica-item.is)
          (c.in_ok-restore.ensures.number ∙ ap (λ (r : Replica). r.copy.number) (sym c.replica-item.is)) (c.loop-replica.invariant.1 next all),
    )
