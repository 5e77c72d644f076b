use Rattle.std.proofs.Common.{◌≡◌, ℕ, List, Option, Some, None, ◌||◌, ◌==◌, ◌∙◌, ap, sym, subst, is_some}
use Rattle.std.specs.Option.{option_copied, option_copied_mut}
use Rattle.std.specs.List.{list_any}
use Rattle.std.specs.BTreeSet.{BTreeSet}
use Rattle.std.specs.BTreeMap.{BTreeMap, is_at}
use Rattle.std.specs.Ordering.{nat_cmp}
use Rattle.ccr_op.specs.Operation.{id_of}
use Rattle.ccr_store.specs.Kept.{listed, has_listed}
use Rattle.ccr_store.proofs.ByIdLaws.{listed-noted, listed-rewritten, list_at, more_listed, at_err, Writes}
use Rattle.ccr_store.proofs.by_id.note.Goals as goal

pub returns-in_err-insert-clause-err : goal.returns-in_err-insert-clause-err
returns-in_err-insert-clause-err c =
    let found : list_at c.args.ids.now.entries c.in-Some.id.now ≡ Some c.in-Some-get_mut.numbers.now = sym c.get_mut.ensures.value ∙ ap option_copied_mut c.in-Some-get_mut.is in
    at_err c.from_residual.result ((id : List ℕ) (n : ℕ) → listed (c.get_mut.follows.lender c.insert.new.self).entries id n ≡ listed c.args.ids.now.entries id n)
    (listed-rewritten c.in-Some.id.now c.args.ids.now.entries (c.get_mut.follows.lender c.insert.new.self).entries c.in-Some-get_mut.numbers.now c.insert.new.self
    (((c.get_mut.follows.holds c.insert.new.self).3 (ap is_some found)).0) found c.in_err-insert.ensures.err)

pub returns-in-Some-get_mut-clause-ok : goal.returns-in-Some-get_mut-clause-ok
returns-in-Some-get_mut-clause-ok c =
    let own : id_of c.args.op.now.kind ≡ Some c.in-Some.id.now = sym c.id.ensures ∙ ap option_copied c.in-Some.is in
    let found : list_at c.args.ids.now.entries c.in-Some.id.now ≡ Some c.in-Some-get_mut.numbers.now = sym c.get_mut.ensures.value ∙ ap option_copied_mut c.in-Some-get_mut.is in
    listed-noted c.args.op.now c.in-Some.id.now c.args.ids.now.entries (c.get_mut.follows.lender c.insert.new.self).entries c.insert.new.self own
    (((c.get_mut.follows.holds c.insert.new.self).3 (ap is_some found)).0)
    (λ k.
    more_listed c.in-Some-get_mut.numbers.now c.insert.new.self c.seq.result c.in_ok-insert.ensures.updates.0 k
    ∙ (ap (λ (o : Option (BTreeSet ℕ)). has_listed o k || (c.seq.result == k)) (sym found)
    ∙ ap (λ m. has_listed (list_at c.args.ids.now.entries c.in-Some.id.now) k || (m == k)) c.seq.ensures))

pub returns-clause-ok : goal.returns-clause-ok
returns-clause-ok c =
    let own : id_of c.args.op.now.kind ≡ Some c.in_ok-id.id = sym c.id.ensures ∙ (ap option_copied c.in-Some.is ∙ ap Some (sym c.in_ok-id.ensures)) in
    let none : list_at c.args.ids.now.entries c.in-Some.id.now ≡ None = sym c.get_mut.ensures.value ∙ ap option_copied_mut c.in_default-get_mut.is in
    let absent : list_at c.args.ids.now.entries c.in_ok-id.id ≡ None = subst (λ q. list_at c.args.ids.now.entries q ≡ None) (sym c.in_ok-id.ensures) none in
    listed-noted c.args.op.now c.in_ok-id.id c.args.ids.now.entries c.insert-3.new.self.entries c.insert-2.new.self own
    (subst (λ (m : BTreeMap (List ℕ) (BTreeSet ℕ)). Writes c.in_ok-id.id m.entries c.insert-3.new.self.entries (Some c.insert-2.new.self)) c.get_mut.follows.holds-at-none c.in_ok-insert-3.ensures.updates.0)
    (λ k.
    more_listed c.new-numbers.result c.insert-2.new.self c.seq-2.result c.in_ok-insert-2.ensures.updates.0 k
    ∙ (ap (λ (ks : List ℕ). list_any (is_at (nat_cmp k)) ks || (c.seq-2.result == k)) c.new-numbers.ensures.empty
    ∙ (ap (λ (o : Option (BTreeSet ℕ)). has_listed o k || (c.seq-2.result == k)) (sym absent)
    ∙ ap (λ m. has_listed (list_at c.args.ids.now.entries c.in_ok-id.id) k || (m == k)) c.seq-2.ensures)))
