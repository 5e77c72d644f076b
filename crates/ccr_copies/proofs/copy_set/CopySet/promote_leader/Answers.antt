use Rattle.std.specs.Prelude.{find, remove}
use Rattle.std.proofs.Common.{◌≡◌, ◌==◌, ◌+◌, ℕ, None, List, ◌++◌, length, map, take, drop, refl, sym, ◌∙◌, ap, subst}
use Rattle.ccr_journal.specs.declared.replies.Reply.TheVariants as replies
use Rattle.ccr_model.specs.Outcomes.{answered}
use Rattle.ccr_model.specs.Copies.{Copy, Replica, Copies, replica_of}
use Rattle.ccr_copies.specs.Faults.{refusal_of}
use Rattle.ccr_copies.specs.Places.{AreNumbered, IsPlaceOf}
use Rattle.ccr_copies.proofs.Places.{get-at, numbered-map, numbered-remove}
use Rattle.ccr_copies.proofs.Walking.{map-length, overwritten}
use Rattle.ccr_tracker.specs.Numbers.{Numbers}
use Rattle.ccr_model.specs.CopyRows.{unknown}
use Rattle.ccr_model.specs.LeaderRows.{as_primary, missing_numbers}
use Rattle.ccr_copies.specs.Changes.{leader_copies_promote_row}
use Rattle.ccr_copies.proofs.Rows.{leader-done, leader-refused}
use Rattle.ccr_copies.proofs.copy_set.CopySet.promote_leader.Goals as goal

pub returns-in_default-clause-err : goal.returns-in_default-clause-err
returns-in_default-clause-err c = λ is.
    let old : Copies = record { term = c.self.inside.term; primary = c.self.inside.primary; replicas = c.self.inside.replicas.items; next = c.self.inside.next } in
    let none : replica_of old c.args.copy ≡ None = subst (λ (rs : List Replica). find (λ (r : Replica). r.copy.number == c.args.copy) rs ≡ None) c.deref.ensures.value c.in_default.ensures in
    leader-refused c.args.self.now c.args.copy (refusal_of c.not_replica.result) (subst (λ (s : Copies). replica_of s c.args.copy ≡ None) c.self.view_is none) c.not_replica.ensures.same

pub invariant_of-self : goal.invariant_of-self
invariant_of-self c =
    subst (λ (rs : List Replica). AreNumbered c.self.inside.next rs) (sym c.remove.ensures.items) (numbered-remove c.self.inside.next c.in-Some.place c.self.inside.replicas.items c.self.invariant)

pub invariant_of-self-2 : goal.invariant_of-self-2
invariant_of-self-2 c =
    let told : c.forget_all.new.replicas ≡ map {A = Replica} {B = Replica} unknown c.remove.new.self.items = c.forget_all.ensures ∙ ap (λ (rs : List Replica). map {A = Replica} {B = Replica} unknown rs) c.deref_mut.ensures.value in
    let size : length c.forget_all.new.replicas ≡ length c.remove.new.self.items = ap (λ (rs : List Replica). length rs) told ∙ map-length unknown c.remove.new.self.items in
    let whole : c.remove.new.self.len ≡ length c.remove.new.self.items = sym c.deref_mut.ensures.len ∙ ap (λ (rs : List Replica). length rs) c.deref_mut.ensures.value in
    let others : take c.remove.new.self.len (c.forget_all.new.replicas ++ drop (length c.forget_all.new.replicas) c.remove.new.self.items) ≡ map {A = Replica} {B = Replica} unknown (remove c.self.inside.replicas.items c.in-Some.place) =
    overwritten c.remove.new.self.len c.forget_all.new.replicas c.remove.new.self.items size whole
    ∙ (told ∙ ap (λ (rs : List Replica). map {A = Replica} {B = Replica} unknown rs) c.remove.ensures.items) in
    subst (λ (rs : List Replica). AreNumbered c.self.inside.next rs) (sym others)
    (numbered-map c.self.inside.next unknown (remove c.self.inside.replicas.items c.in-Some.place) (λ r. refl) (numbered-remove c.self.inside.next c.in-Some.place c.self.inside.replicas.items c.self.invariant))

pub returns-clause-ok : goal.returns-clause-ok
returns-clause-ok c =
    let old : Copies = record { term = c.self.inside.term; primary = c.self.inside.primary; replicas = c.self.inside.replicas.items; next = c.self.inside.next } in
    let at : IsPlaceOf c.args.copy c.in-Some.place c.self.inside.replicas.items = subst (λ (rs : List Replica). IsPlaceOf c.args.copy c.in-Some.place rs) c.deref.ensures.value c.in-Some.ensures in
    let told : c.forget_all.new.replicas ≡ map {A = Replica} {B = Replica} unknown c.remove.new.self.items = c.forget_all.ensures ∙ ap (λ (rs : List Replica). map {A = Replica} {B = Replica} unknown rs) c.deref_mut.ensures.value in
    let size : length c.forget_all.new.replicas ≡ length c.remove.new.self.items = ap (λ (rs : List Replica). length rs) told ∙ map-length unknown c.remove.new.self.items in
    let whole : c.remove.new.self.len ≡ length c.remove.new.self.items = sym c.deref_mut.ensures.len ∙ ap (λ (rs : List Replica). length rs) c.deref_mut.ensures.value in
    let others : take c.remove.new.self.len (c.forget_all.new.replicas ++ drop (length c.forget_all.new.replicas) c.remove.new.self.items) ≡ map {A = Replica} {B = Replica} unknown (remove c.self.inside.replicas.items c.in-Some.place) =
    overwritten c.remove.new.self.len c.forget_all.new.replicas c.remove.new.self.items size whole
    ∙ (told ∙ ap (λ (rs : List Replica). map {A = Replica} {B = Replica} unknown rs) c.remove.ensures.items) in
    let term : c.in_ok-term.term ≡ old.term + 1 = c.in_ok-term.ensures ∙ ap (λ (s : Copies). s.term + 1) (sym c.self.view_is) in
    subst (λ (s : Copies). leader_copies_promote_row s c.args.copy (replica_of s c.args.copy) ≡ answered (replies.Promoted c.in_ok-term.term c.in_ok-filled.filled) c.count_anew.new.self) c.self.view_is
    (leader-done old c.args.copy c.in-Some.place c.in_ok-term.term c.in_ok-filled.filled c.remove.result c.lead.new.self (take c.remove.new.self.len (c.forget_all.new.replicas ++ drop (length c.forget_all.new.replicas) c.remove.new.self.items)) c.count_anew.new.self at (get-at c.self.inside.replicas.items c.in-Some.place c.remove.result at.low c.remove.ensures.value)
    term (c.in_ok-filled.ensures.told ∙ ap (λ (x : Copy). length (missing_numbers x.seen)) c.into_copy-primary.ensures)
    (c.in_ok-filled.ensures.ok ∙ ap (λ (x : Copy). as_primary c.in_ok-term.term x) c.into_copy-primary.ensures) others c.count_anew.ensures)
