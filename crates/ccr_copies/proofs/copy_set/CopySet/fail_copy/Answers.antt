use Rattle.std.specs.Prelude.{find}
use Rattle.std.specs.Option.{option_map}
use Rattle.std.proofs.Common.{◌≡◌, ◌==◌, Some, None, List, sym, ◌∙◌, ap, subst}
use Rattle.ccr_journal.specs.declared.replies.Reply.TheVariants as replies
use Rattle.ccr_model.specs.Outcomes.{answered}
use Rattle.ccr_model.specs.Copies.{Copy, Replica, Copies, counted, replica_of}
use Rattle.ccr_copies.specs.Faults.{refusal_of}
use Rattle.ccr_copies.specs.Places.{AreNumbered, IsPlaceOf}
use Rattle.ccr_model.specs.CopyRows.{fail_copy_row}
use Rattle.ccr_copies.proofs.Places.{get-at, numbered-remove}
use Rattle.ccr_copies.proofs.Rows.{fail-done, fail-refused, leaves}
use Rattle.ccr_copies.proofs.copy_set.CopySet.fail_copy.Goals as goal

pub returns-in_default-clause-err : goal.returns-in_default-clause-err
returns-in_default-clause-err c =
    let old : Copies = record { term = c.self.inside.term; primary = c.self.inside.primary; replicas = c.self.inside.replicas.items; next = c.self.inside.next } in
    let none : replica_of old c.args.copy ≡ None = subst (λ (rs : List Replica). find (λ (r : Replica). r.copy.number == c.args.copy) rs ≡ None) c.deref.ensures.value c.in_default.ensures in
    fail-refused c.args.self.now c.args.copy (refusal_of c.not_leaving.result) (subst (λ (s : Copies). replica_of s c.args.copy ≡ None) c.self.view_is none) c.not_leaving.ensures.same

pub invariant_of-self : goal.invariant_of-self
invariant_of-self c =
    subst (λ (rs : List Replica). AreNumbered c.self.inside.next rs) (sym c.remove.ensures.items) (numbered-remove c.self.inside.next c.in-Some.place c.self.inside.replicas.items c.self.invariant)

pub returns-clause-left : goal.returns-clause-left
returns-clause-left c =
    let old : Copies = record { term = c.self.inside.term; primary = c.self.inside.primary; replicas = c.self.inside.replicas.items; next = c.self.inside.next } in
    let at : IsPlaceOf c.args.copy c.in-Some.place c.self.inside.replicas.items = subst (λ (rs : List Replica). IsPlaceOf c.args.copy c.in-Some.place rs) c.deref.ensures.value c.in-Some.ensures in
    subst (λ (s : Copies). option_map {T = Replica} {U = Copy} (λ r. r.copy) (replica_of s c.args.copy) ≡ Some c.into_copy-left.result) c.self.view_is
    (leaves old c.args.copy c.in-Some.place c.remove.result c.into_copy-left.result at (get-at c.self.inside.replicas.items c.in-Some.place c.remove.result at.low c.remove.ensures.value) c.into_copy-left.ensures)

pub returns-clause-ok : goal.returns-clause-ok
returns-clause-ok c =
    let old : Copies = record { term = c.self.inside.term; primary = c.self.inside.primary; replicas = c.self.inside.replicas.items; next = c.self.inside.next } in
    let at : IsPlaceOf c.args.copy c.in-Some.place c.self.inside.replicas.items = subst (λ (rs : List Replica). IsPlaceOf c.args.copy c.in-Some.place rs) c.deref.ensures.value c.in-Some.ensures in
    subst (λ (s : Copies). fail_copy_row s c.args.copy (replica_of s c.args.copy) ≡ answered replies.Done c.count_anew.new.self) c.self.view_is
    (fail-done old c.args.copy c.in-Some.place c.remove.result c.count_anew.new.self at (get-at c.self.inside.replicas.items c.in-Some.place c.remove.result at.low c.remove.ensures.value)
    (c.count_anew.ensures ∙ ap (λ (rs : List Replica). counted (record old { replicas = rs })) c.remove.ensures.items))
