use Rattle.std.specs.Prelude.{find, slice_get, slice_set}
use Rattle.std.proofs.Common.{◌≡◌, ◌==◌, true, false, Some, None, List, sym, ◌∙◌, ap, subst}
use Rattle.ccr_journal.specs.declared.replies.Reply.TheVariants as replies
use Rattle.ccr_journal.specs.declared.replies.Refusal.TheVariants.{NoCopy}
use Rattle.ccr_model.specs.Outcomes.{answered, refused}
use Rattle.ccr_model.specs.Copies.{Copy, Replica, Copies, copy_of, replica_of}
use Rattle.ccr_copies.specs.Faults.{refusal_of}
use Rattle.ccr_copies.specs.Places.{IsPlaceOf}
use Rattle.ccr_copies.proofs.Places.{get-at, is-number, isnt-number, numbered-set}
use Rattle.ccr_model.specs.CopyRows.{not_replica}
use Rattle.ccr_model.specs.LeaderRows.{resync_row}
use Rattle.ccr_law_base.proofs.Lists.{some_equal}
use Rattle.ccr_copies.proofs.Rows.{resync-again, resync-done, resync-refused}
use Rattle.ccr_copies.proofs.copy_set.CopySet.resync.Goals as goal

pub returns-in_default-clause-err : goal.returns-in_default-clause-err
returns-in_default-clause-err c = λ is.
    let old : Copies = record { term = c.self.inside.term; primary = c.self.inside.primary; replicas = c.self.inside.replicas.items; next = c.self.inside.next } in
    let none : replica_of old c.args.copy ≡ None = subst (λ (rs : List Replica). find (λ (r : Replica). r.copy.number == c.args.copy) rs ≡ None) c.deref.ensures.value c.in_default.ensures in
    resync-refused c.args.self.now c.args.copy (refusal_of c.not_replica.result) (subst (λ (s : Copies). replica_of s c.args.copy ≡ None) c.self.view_is none) c.not_replica.ensures.same

pub returns-then-is_resynced-clause-ok : goal.returns-then-is_resynced-clause-ok
returns-then-is_resynced-clause-ok c =
    let old : Copies = record { term = c.self.inside.term; primary = c.self.inside.primary; replicas = c.self.inside.replicas.items; next = c.self.inside.next } in
    let at : IsPlaceOf c.args.copy c.in-Some.place c.self.inside.replicas.items = subst (λ (rs : List Replica). IsPlaceOf c.args.copy c.in-Some.place rs) c.deref.ensures.value c.in-Some.ensures in
    subst (λ (s : Copies). resync_row s c.args.copy (replica_of s c.args.copy) ≡ answered (replies.Resynced 0 0) s) c.self.view_is
    (resync-again old c.args.copy c.in-Some.place c.index.result.now at (get-at old.replicas c.in-Some.place c.index.result.now at.low c.index.ensures) (sym c.is_resynced.ensures ∙ c.if-is_resynced.true))

pub invariant_of-self : goal.invariant_of-self
invariant_of-self c =
    let at : IsPlaceOf c.args.copy c.in-Some.place c.self.inside.replicas.items = subst (λ (rs : List Replica). IsPlaceOf c.args.copy c.in-Some.place rs) c.deref.ensures.value c.in-Some.ensures in
    numbered-set c.self.inside.next c.in-Some.place c.index_mut-replica.result.now c.resync.new.self c.self.inside.replicas.items
    (get-at c.self.inside.replicas.items c.in-Some.place c.index_mut-replica.result.now at.low c.index_mut-replica.ensures.value) c.in_err-told.ensures.number c.self.invariant

pub invariant_of-self-2 : goal.invariant_of-self-2
invariant_of-self-2 c =
    let at : IsPlaceOf c.args.copy c.in-Some.place c.self.inside.replicas.items = subst (λ (rs : List Replica). IsPlaceOf c.args.copy c.in-Some.place rs) c.deref.ensures.value c.in-Some.ensures in
    numbered-set c.self.inside.next c.in-Some.place c.index_mut-replica.result.now c.resync.new.self c.self.inside.replicas.items
    (get-at c.self.inside.replicas.items c.in-Some.place c.index_mut-replica.result.now at.low c.index_mut-replica.ensures.value) c.in_ok-told.ensures.number c.self.invariant

pub returns-clause-ok : goal.returns-clause-ok
returns-clause-ok c =
    let old : Copies = record { term = c.self.inside.term; primary = c.self.inside.primary; replicas = c.self.inside.replicas.items; next = c.self.inside.next } in
    let at : IsPlaceOf c.args.copy c.in-Some.place c.self.inside.replicas.items = subst (λ (rs : List Replica). IsPlaceOf c.args.copy c.in-Some.place rs) c.deref.ensures.value c.in-Some.ensures in
    let get : slice_get old.replicas c.in-Some.place ≡ Some c.index_mut-replica.result.now = (get-at c.self.inside.replicas.items c.in-Some.place c.index_mut-replica.result.now at.low c.index_mut-replica.ensures.value) in
    let was : slice_get old.replicas c.in-Some.place ≡ Some c.index.result.now = (get-at old.replicas c.in-Some.place c.index.result.now at.low c.index.ensures) in
    let wasnt : c.index_mut-replica.result.now.resynced ≡ false =
    ap (λ (r : Replica). r.resynced) (some_equal c.index_mut-replica.result.now c.index.result.now (sym get ∙ was)) ∙ (sym c.is_resynced.ensures ∙ c.if-is_resynced.false) in
    subst (λ (s : Copies). resync_row s c.args.copy (replica_of s c.args.copy) ≡ answered (replies.Resynced c.in_ok-told.told.0 c.in_ok-told.told.1) (record old { replicas = slice_set old.replicas c.in-Some.place c.resync.new.self })) c.self.view_is
    (resync-done old c.args.copy c.in-Some.place c.in_ok-told.told.0 c.in_ok-told.told.1 c.index_mut-replica.result.now c.resync.new.self at get wasnt
    c.in_ok-told.ensures.ok c.in_ok-told.ensures.dropped c.in_ok-told.ensures.taken)
