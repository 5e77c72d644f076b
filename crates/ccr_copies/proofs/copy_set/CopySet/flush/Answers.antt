use Rattle.std.specs.Prelude.{find, slice_get, slice_set}
use Rattle.std.proofs.Common.{◌≡◌, ◌==◌, true, false, Some, None, List, sym, ◌∙◌, ap, subst}
use Rattle.ccr_journal.specs.declared.replies.Reply.TheVariants as replies
use Rattle.ccr_journal.specs.declared.replies.Refusal.TheVariants.{NoCopy}
use Rattle.ccr_model.specs.Outcomes.{answered, refused}
use Rattle.ccr_model.specs.Copies.{Copy, Replica, Copies, copy_of, replica_of}
use Rattle.ccr_copies.specs.Faults.{refusal_of}
use Rattle.ccr_copies.specs.Places.{IsPlaceOf}
use Rattle.ccr_copies.proofs.Places.{get-at, is-number, isnt-number, numbered-set}
use Rattle.ccr_model.specs.CopyRows.{flush_row}
use Rattle.ccr_copies.proofs.Rows.{flush-primary, flush-refused, flush-replica}
use Rattle.ccr_copies.proofs.copy_set.CopySet.flush.Goals as goal

pub returns-then-from-copy-clause-ok : goal.returns-then-from-copy-clause-ok
returns-then-from-copy-clause-ok c =
    let old : Copies = record { term = c.self.inside.term; primary = c.self.inside.primary; replicas = c.self.inside.replicas.items; next = c.self.inside.next } in
    let own : (old.primary.number == c.args.copy) ≡ true = is-number c.from.result old.primary.number c.args.copy (c.from.ensures ∙ c.number.ensures) c.if-from-copy.true in
    subst (λ (s : Copies). flush_row s c.args.copy (copy_of s c.args.copy) ≡ answered (replies.Flushed c.in_ok-commit.commit) (record old { primary = c.flush.new.self })) c.self.view_is
    (flush-primary old c.args.copy c.in_ok-commit.commit c.flush.new.self own c.in_ok-commit.ensures.ok c.in_ok-commit.ensures.told)

pub returns-in_default-clause-err : goal.returns-in_default-clause-err
returns-in_default-clause-err c = λ is.
    let old : Copies = record { term = c.self.inside.term; primary = c.self.inside.primary; replicas = c.self.inside.replicas.items; next = c.self.inside.next } in
    let other : (old.primary.number == c.args.copy) ≡ false = isnt-number c.from.result old.primary.number c.args.copy (c.from.ensures ∙ c.number.ensures) c.if-from-copy.false in
    let none : replica_of old c.args.copy ≡ None = subst (λ (rs : List Replica). find (λ (r : Replica). r.copy.number == c.args.copy) rs ≡ None) c.deref.ensures.value c.in_default.ensures in
    subst (λ (s : Copies). flush_row s c.args.copy (copy_of s c.args.copy) ≡ refused s (NoCopy c.args.copy)) c.self.view_is (flush-refused old c.args.copy other none)

pub invariant_of-self-in_err-commit-2 : goal.invariant_of-self-in_err-commit-2
invariant_of-self-in_err-commit-2 c =
    let at : IsPlaceOf c.args.copy c.in-Some.place c.self.inside.replicas.items = subst (λ (rs : List Replica). IsPlaceOf c.args.copy c.in-Some.place rs) c.deref.ensures.value c.in-Some.ensures in
    numbered-set c.self.inside.next c.in-Some.place c.index_mut-replica.result.now c.flush-2.new.self c.self.inside.replicas.items
    (get-at c.self.inside.replicas.items c.in-Some.place c.index_mut-replica.result.now at.low c.index_mut-replica.ensures.value) c.in_err-commit-2.ensures.number c.self.invariant

pub invariant_of-self-2 : goal.invariant_of-self-2
invariant_of-self-2 c =
    let at : IsPlaceOf c.args.copy c.in-Some.place c.self.inside.replicas.items = subst (λ (rs : List Replica). IsPlaceOf c.args.copy c.in-Some.place rs) c.deref.ensures.value c.in-Some.ensures in
    numbered-set c.self.inside.next c.in-Some.place c.index_mut-replica.result.now c.flush-2.new.self c.self.inside.replicas.items
    (get-at c.self.inside.replicas.items c.in-Some.place c.index_mut-replica.result.now at.low c.index_mut-replica.ensures.value) c.in_ok-commit-2.ensures.number c.self.invariant

pub returns-clause-ok : goal.returns-clause-ok
returns-clause-ok c =
    let old : Copies = record { term = c.self.inside.term; primary = c.self.inside.primary; replicas = c.self.inside.replicas.items; next = c.self.inside.next } in
    let other : (old.primary.number == c.args.copy) ≡ false = isnt-number c.from.result old.primary.number c.args.copy (c.from.ensures ∙ c.number.ensures) c.if-from-copy.false in
    let at : IsPlaceOf c.args.copy c.in-Some.place c.self.inside.replicas.items = subst (λ (rs : List Replica). IsPlaceOf c.args.copy c.in-Some.place rs) c.deref.ensures.value c.in-Some.ensures in
    subst (λ (s : Copies). flush_row s c.args.copy (copy_of s c.args.copy) ≡ answered (replies.Flushed c.in_ok-commit-2.commit) (record old { replicas = slice_set old.replicas c.in-Some.place c.flush-2.new.self })) c.self.view_is
    (flush-replica old c.args.copy c.in-Some.place c.in_ok-commit-2.commit c.index_mut-replica.result.now c.flush-2.new.self other at
    (get-at c.self.inside.replicas.items c.in-Some.place c.index_mut-replica.result.now at.low c.index_mut-replica.ensures.value) c.in_ok-commit-2.ensures.ok c.in_ok-commit-2.ensures.told)
