use Rattle.std.proofs.Common.{◌≡◌, ◌==◌, false, Some, Option, List, sym, ◌∙◌, ap, subst}
use Rattle.ccr_model.specs.Copies.{Replica, Copies}
use Rattle.ccr_copies.specs.Places.{IsPlaceOf}
use Rattle.ccr_copies.specs.Views.{member_of, shown}
use Rattle.ccr_copies.proofs.Places.{get-at, isnt-number}
use Rattle.ccr_copies.proofs.Rows.{member-replica}
use Rattle.ccr_copies.proofs.copy_set.CopySet.view_of.Goals as goal

pub returns-clause-shown : goal.returns-clause-shown
returns-clause-shown c =
    let old : Copies = record { term = c.self.inside.term; primary = c.self.inside.primary; replicas = c.self.inside.replicas.items; next = c.self.inside.next } in
    let other : (old.primary.number == c.args.copy) ≡ false = isnt-number c.from.result old.primary.number c.args.copy (c.from.ensures ∙ c.number.ensures) c.if-from-copy.false in
    let at : IsPlaceOf c.args.copy c.in_ok-place.place old.replicas = subst (λ (rs : List Replica). IsPlaceOf c.args.copy c.in_ok-place.place rs) c.deref.ensures.value c.in_ok-place.ensures in
    subst (λ (s : Copies). ◌≡◌ {A = Option Replica} (Some (shown c.of_replica.result)) (member_of s c.args.copy)) c.self.view_is
    (ap (λ (x : Replica). Some x) c.of_replica.ensures.shown
    ∙ sym (member-replica old c.args.copy c.index.result.now other (at.found ∙ get-at old.replicas c.in_ok-place.place c.index.result.now at.low c.index.ensures)))
