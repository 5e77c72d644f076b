use Rattle.std.proofs.Common.{◌≡◌, ◌≤◌, ◌+◌, ℕ, refl, List, [], ◌∷◌, ◌++◌, length, sym, ◌∙◌, ap, subst, arith}
use Rattle.ccr_journal.specs.declared.replies.Reply.TheVariants as replies
use Rattle.ccr_model.specs.Outcomes.{answered}
use Rattle.ccr_model.specs.Copies.{Copy, Replica, Copies, all_copies, counted, replica_in_step}
use Rattle.ccr_model.specs.CopyRows.{add_copy_row}
use Rattle.ccr_copies.proofs.Places.{numbered-push}
use Rattle.ccr_copies.specs.Places.{AreNumbered}
use Rattle.ccr_copies.proofs.Rows.{add-done, add-refused, all-length}
use Rattle.ccr_copies.proofs.copy_set.CopySet.add_copy.Goals as goal

pub returns-then-len-ge-MOST_COPIES-clause-err : goal.returns-then-len-ge-MOST_COPIES-clause-err
returns-then-len-ge-MOST_COPIES-clause-err c = λ is.
    let many : 8 ≤ length c.args.self.now.replicas + 1 = omega (arith, c.len.ensures, all-length c.args.self.now, c.if-len-ge-MOST_COPIES.true) in
    add-refused c.args.self.now many

pub invariant_of-self-2 : goal.invariant_of-self-2
invariant_of-self-2 c =
    subst (λ (rs : List Replica). AreNumbered (c.self.inside.next + 1) rs) (sym c.in-Ok.ensures.items)
    (numbered-push c.self.inside.next c.in_step.result c.self.inside.replicas.items (ap (λ (r : Replica). r.copy.number) c.in_step.ensures ∙ ap (λ (x : Copy). x.number) c.in_ok-copy.ensures) c.self.invariant)

pub returns-clause-ok : goal.returns-clause-ok
returns-clause-ok c =
    let old : Copies = record { term = c.self.inside.term; primary = c.self.inside.primary; replicas = c.self.inside.replicas.items; next = c.self.inside.next } in
    let few : 8 ≤ length old.replicas + 1 → ⊥ = λ many. omega (arith, many, c.if-len-ge-MOST_COPIES.false, c.len.ensures ∙ ap (λ (s : Copies). length (all_copies s)) (sym c.self.view_is), all-length old) in
    let new : c.in_step.result ≡ replica_in_step (record old.primary { number = old.next }) old.primary.seen.count =
    c.in_step.ensures ∙ (ap (λ (x : Copy). replica_in_step x c.count-known.result) c.in_ok-copy.ensures ∙ ap (λ (n : ℕ). replica_in_step (record old.primary { number = old.next }) n) c.count-known.ensures) in
    subst (λ (s : Copies). add_copy_row s ≡ answered (replies.Added c.self.inside.next) c.count_anew.new.self) c.self.view_is
    (add-done old c.self.inside.next c.count_anew.new.self few refl
    (c.count_anew.ensures ∙ ap (λ (rs : List Replica). counted (record old { replicas = rs; next = old.next + 1 })) (c.in-Ok.ensures.items ∙ ap (λ (r : Replica). old.replicas ++ r ∷ []) new)))
