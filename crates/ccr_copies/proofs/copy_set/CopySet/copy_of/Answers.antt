use Rattle.std.proofs.Common.{◌≡◌, ◌==◌, false, Some, Option, List, sym, ◌∙◌, ap, subst}
use Rattle.ccr_model.specs.Copies.{Copy, Replica, Copies, copy_of}
use Rattle.ccr_copies.specs.Places.{IsPlaceOf}
use Rattle.ccr_copies.proofs.Places.{get-at, isnt-number}
use Rattle.ccr_copies.proofs.Rows.{replica-copy}
use Rattle.ccr_copies.proofs.copy_set.CopySet.copy_of.Goals as goal

pub returns : goal.returns
returns c =
    let old : Copies = record { term = c.self.inside.term; primary = c.self.inside.primary; replicas = c.self.inside.replicas.items; next = c.self.inside.next } in
    let other : (old.primary.number == c.args.copy) ≡ false = isnt-number c.from.result old.primary.number c.args.copy (c.from.ensures ∙ c.number.ensures) c.if-from-copy.false in
    let at : IsPlaceOf c.args.copy c.in_ok-place.place old.replicas = subst (λ (rs : List Replica). IsPlaceOf c.args.copy c.in_ok-place.place rs) c.deref.ensures.value c.in_ok-place.ensures in
    subst (λ (s : Copies). ◌≡◌ {A = Option Copy} (Some c.copy.result.now) (copy_of s c.args.copy)) c.self.view_is
    (ap (λ (x : Copy). Some x) c.copy.ensures
    ∙ sym (replica-copy old c.args.copy c.index.result.now other (at.found ∙ get-at old.replicas c.in_ok-place.place c.index.result.now at.low c.index.ensures)))
