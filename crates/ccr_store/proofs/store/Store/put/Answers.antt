use Rattle.std.proofs.Common.{◌≡◌, ℕ, List, ◌∙◌, ap, subst, ◌&&◌, ◌==◌, not}
use Rattle.ccr_op.specs.Operation.{Operation}
use Rattle.ccr_model.specs.Operations.{has_number, is_about}
use Rattle.ccr_model.specs.Stores.{Store as Stored, held, stored}
use Rattle.ccr_store.specs.Kept.{lists_of, kept_at, listed}
use Rattle.ccr_store.proofs.Changes.{not_held, listed-same, listed-undone, kept-taken, store-taken, kept-left, store-left}
use Rattle.ccr_store.proofs.store.Store.put.Goals as goal

pub invariant_of-self : goal.invariant_of-self
invariant_of-self c = record {
  filed = c.self.invariant.filed;
  lists = listed-same (kept_at c.self.inside.ops.entries) c.self.inside.ids.entries c.note.new.ids.entries c.self.invariant.lists c.in_err-note.ensures.err;
  closed = c.self.invariant.closed;
}

pub keep-requires : goal.keep-requires
keep-requires c =
    not_held (kept_at c.self.inside.ops.entries) c.args.op.seq (lists_of c.self.inside.parts.items) c.self.inside.fresh.keys c.self.invariant.filed
    (ap (λ (s : Stored). has_number (held s) c.args.op.seq) c.self.view_is ∙ c.requires)

pub invariant_of-self-in-Ok : goal.invariant_of-self-in-Ok
invariant_of-self-in-Ok c =
    kept-taken c.args.op c.self.inside.ops.entries c.keep.new.ops.entries c.self.inside.fresh.keys c.keep.new.fresh.keys c.self.inside.parts.items c.self.inside.ids.entries c.note.new.ids.entries
    c.self.invariant c.in-Ok.ensures.ok
    (not_held (kept_at c.self.inside.ops.entries) c.args.op.seq (lists_of c.self.inside.parts.items) c.self.inside.fresh.keys c.self.invariant.filed
    (ap (λ (s : Stored). has_number (held s) c.args.op.seq) c.self.view_is ∙ c.requires))
    c.in_ok-note.ensures.ok

pub returns-in-Ok-clause-ok : goal.returns-in-Ok-clause-ok
returns-in-Ok-clause-ok c =
    store-taken c.args.op c.self.inside.ops.entries c.keep.new.ops.entries c.self.inside.fresh.keys c.keep.new.fresh.keys c.self.inside.parts.items c.self.inside.ids.entries
    c.self.invariant c.in-Ok.ensures.ok
    (not_held (kept_at c.self.inside.ops.entries) c.args.op.seq (lists_of c.self.inside.parts.items) c.self.inside.fresh.keys c.self.invariant.filed
    (ap (λ (s : Stored). has_number (held s) c.args.op.seq) c.self.view_is ∙ c.requires))
    ∙ ap (stored c.args.op) c.self.view_is

pub invariant_of-self-in-Err : goal.invariant_of-self-in-Err
invariant_of-self-in-Err c =
    let given : c.in-Err.refused.value ≡ c.args.op = c.in-Err.ensures.value_returned in
    let taken_off : (id : List ℕ) (q : ℕ) → listed c.release.new.ids.entries id q ≡ (listed c.note.new.ids.entries id q && not (is_about id c.args.op && (c.args.op.seq == q))) =
    subst (λ (op : Operation). (id : List ℕ) (q : ℕ) → listed c.release.new.ids.entries id q ≡ (listed c.note.new.ids.entries id q && not (is_about id op && (op.seq == q)))) given c.release.ensures in
    kept-left c.self.inside.ops.entries c.keep.new.ops.entries c.self.inside.fresh.keys c.keep.new.fresh.keys c.self.inside.parts.items c.self.inside.ids.entries c.release.new.ids.entries
    c.self.invariant c.in-Err.ensures.err
    (listed-undone (kept_at c.self.inside.ops.entries) c.args.op c.self.inside.ids.entries c.note.new.ids.entries c.release.new.ids.entries
    (not_held (kept_at c.self.inside.ops.entries) c.args.op.seq (lists_of c.self.inside.parts.items) c.self.inside.fresh.keys c.self.invariant.filed
    (ap (λ (s : Stored). has_number (held s) c.args.op.seq) c.self.view_is ∙ c.requires))
    c.self.invariant.lists c.in_ok-note.ensures.ok taken_off)

pub returns-in-Err-clause-err : goal.returns-in-Err-clause-err
returns-in-Err-clause-err c =
    store-left c.self.inside.ops.entries c.keep.new.ops.entries c.self.inside.fresh.keys c.keep.new.fresh.keys c.self.inside.parts.items c.in-Err.ensures.err ∙ c.self.view_is
