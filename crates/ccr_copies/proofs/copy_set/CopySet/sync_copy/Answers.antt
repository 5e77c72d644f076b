use Rattle.std.specs.Prelude.{slice_set}
use Rattle.std.proofs.Common.{◌≡◌, sym, ◌∙◌, ap, subst}
use Rattle.std.proofs.lemmas.Result.{err_from_is_err_and}
use Rattle.ccr_journal.specs.declared.replies.Reply.TheVariants as replies
use Rattle.ccr_model.specs.Outcomes.{answered}
use Rattle.ccr_model.specs.Copies.{Replica, Copies, replica_of}
use Rattle.ccr_model.specs.CopyRows.{sync_row}
use Rattle.ccr_copies.specs.Faults.{refusal_of}
use Rattle.ccr_copies.specs.Places.{IsReadyPlace}
use Rattle.ccr_copies.proofs.Places.{get-at, numbered-set}
use Rattle.ccr_copies.proofs.Rows.{sync-done, sync-refused}
use Rattle.ccr_copies.proofs.copy_set.CopySet.sync_copy.Goals as goal

pub returns-in_err-place-clause-err : goal.returns-in_err-place-clause-err
returns-in_err-place-clause-err c =
    let p = err_from_is_err_and c.from_residual.result c.from_residual.ensures.1 in
    rw (p.1, p.2) (λ is. sync-refused c.args.self.now c.args.copy (replica_of c.args.self.now c.args.copy) (refusal_of c.in_err-place.field-0.0) c.in_err-place.ensures.err.1)

pub invariant_of-self : goal.invariant_of-self
invariant_of-self c =
    let ready : IsReadyPlace c.args.copy c.in_ok-place.place c.self.inside.replicas.items = subst (λ (s : Copies). IsReadyPlace c.args.copy c.in_ok-place.place s.replicas) (sym c.self.view_is) c.in_ok-place.ensures.ok in
    numbered-set c.self.inside.next c.in_ok-place.place c.index_mut-replica.result.now c.sync.new.self c.self.inside.replicas.items
    (get-at c.self.inside.replicas.items c.in_ok-place.place c.index_mut-replica.result.now ready.at.low c.index_mut-replica.ensures.value) c.in_err-sync.ensures.number c.self.invariant

pub invariant_of-self-2 : goal.invariant_of-self-2
invariant_of-self-2 c =
    let ready : IsReadyPlace c.args.copy c.in_ok-place.place c.self.inside.replicas.items = subst (λ (s : Copies). IsReadyPlace c.args.copy c.in_ok-place.place s.replicas) (sym c.self.view_is) c.in_ok-place.ensures.ok in
    numbered-set c.self.inside.next c.in_ok-place.place c.index_mut-replica.result.now c.sync.new.self c.self.inside.replicas.items
    (get-at c.self.inside.replicas.items c.in_ok-place.place c.index_mut-replica.result.now ready.at.low c.index_mut-replica.ensures.value) c.in_ok-sync.ensures.number c.self.invariant

pub returns-clause-ok : goal.returns-clause-ok
returns-clause-ok c =
    let old : Copies = record { term = c.self.inside.term; primary = c.self.inside.primary; replicas = c.self.inside.replicas.items; next = c.self.inside.next } in
    let ready : IsReadyPlace c.args.copy c.in_ok-place.place c.self.inside.replicas.items = subst (λ (s : Copies). IsReadyPlace c.args.copy c.in_ok-place.place s.replicas) (sym c.self.view_is) c.in_ok-place.ensures.ok in
    subst (λ (s : Copies). sync_row s c.args.copy (replica_of s c.args.copy) ≡ answered replies.Done (record old { replicas = slice_set old.replicas c.in_ok-place.place c.sync.new.self })) c.self.view_is
    (sync-done old c.args.copy c.in_ok-place.place c.index_mut-replica.result.now c.sync.new.self ready
    (get-at c.self.inside.replicas.items c.in_ok-place.place c.index_mut-replica.result.now ready.at.low c.index_mut-replica.ensures.value) c.in_ok-sync.ensures.ok)
