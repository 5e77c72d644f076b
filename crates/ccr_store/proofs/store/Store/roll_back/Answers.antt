use Rattle.std.proofs.Common.{◌≡◌, ◌-◌, ◌≤◌, nat_lt, Vec, Global, length, sym, ◌∙◌, ap, arith}
use Rattle.ccr_model.specs.Operations.{has_number}
use Rattle.ccr_model.specs.Stores.{Store as Stored, held, sifted}
use Rattle.ccr_model.specs.LeaderRows.{held_from}
use Rattle.ccr_store.specs.Kept.{kept_at, lists_of, store_of, cut_lists, IsKept}
use Rattle.ccr_store.specs.declared.parts.Part.{Part}
use Rattle.ccr_store.proofs.Changes.{length-held}
use Rattle.ccr_store.proofs.Cutting.{kept-cut, view-cut, gone-are, below-held}
use Rattle.ccr_store.proofs.store.Store.roll_back.Goals as goal

pub invariant_of-self : goal.invariant_of-self
invariant_of-self c =
    kept-cut c.self.inside.ops.entries c.drop_from.new.ops.entries c.args.n c.self.inside.parts.items c.cut_parts.new.shorter.items c.self.inside.fresh.keys c.cut_numbers.new.numbers.keys c.self.inside.ids.entries c.drop_from.new.ids.entries
    c.self.invariant c.drop_from.ensures.kept (c.cut_parts.ensures.numbers ∙ ap (λ (v : Vec Part Global). cut_lists c.args.n (lists_of v.items)) c.replace-parts.ensures.value) c.cut_parts.ensures.closed c.cut_numbers.ensures c.drop_from.ensures.indexed

pub returns-clause-gone : goal.returns-clause-gone
returns-clause-gone c =
    let after : IsKept c.drop_from.new.ops.entries c.cut_parts.new.shorter.items c.cut_numbers.new.numbers.keys c.drop_from.new.ids.entries =
    kept-cut c.self.inside.ops.entries c.drop_from.new.ops.entries c.args.n c.self.inside.parts.items c.cut_parts.new.shorter.items c.self.inside.fresh.keys c.cut_numbers.new.numbers.keys c.self.inside.ids.entries c.drop_from.new.ids.entries
    c.self.invariant c.drop_from.ensures.kept (c.cut_parts.ensures.numbers ∙ ap (λ (v : Vec Part Global). cut_lists c.args.n (lists_of v.items)) c.replace-parts.ensures.value) c.cut_parts.ensures.closed c.cut_numbers.ensures c.drop_from.ensures.indexed in
    gone-are c.args.n (c.len-before.result - c.len-2.result) (length c.self.inside.ops.entries) (length c.drop_from.new.ops.entries) (store_of (kept_at c.self.inside.ops.entries) (lists_of c.self.inside.parts.items) c.self.inside.fresh.keys) (store_of (kept_at c.drop_from.new.ops.entries) (lists_of c.cut_parts.new.shorter.items) c.cut_numbers.new.numbers.keys)
    (sym (length-held c.self.inside.ops.entries (lists_of c.self.inside.parts.items) c.self.inside.fresh.keys c.len-before.ensures.ordered c.self.invariant.filed))
    (sym (length-held c.drop_from.new.ops.entries (lists_of c.cut_parts.new.shorter.items) c.cut_numbers.new.numbers.keys c.len-2.ensures.ordered after.filed))
    (view-cut (kept_at c.self.inside.ops.entries) (kept_at c.drop_from.new.ops.entries) c.args.n (lists_of c.self.inside.parts.items) c.cut_parts.new.shorter.items c.self.inside.fresh.keys c.cut_numbers.new.numbers.keys c.self.invariant.filed c.drop_from.ensures.kept (c.cut_parts.ensures.numbers ∙ ap (λ (v : Vec Part Global). cut_lists c.args.n (lists_of v.items)) c.replace-parts.ensures.value) c.cut_numbers.ensures)
    (let was : c.len-before.result ≡ length c.self.inside.ops.entries = c.len-before.ensures.len in let is : c.len-2.result ≡ length c.drop_from.new.ops.entries = c.len-2.ensures.len in let fewer : length c.drop_from.new.ops.entries ≤ length c.self.inside.ops.entries = c.drop_from.ensures.fewer in omega arith)
    ∙ ap (held_from c.args.n) c.self.view_is

pub returns-clause-ok : goal.returns-clause-ok
returns-clause-ok c =
    view-cut (kept_at c.self.inside.ops.entries) (kept_at c.drop_from.new.ops.entries) c.args.n (lists_of c.self.inside.parts.items) c.cut_parts.new.shorter.items c.self.inside.fresh.keys c.cut_numbers.new.numbers.keys c.self.invariant.filed c.drop_from.ensures.kept (c.cut_parts.ensures.numbers ∙ ap (λ (v : Vec Part Global). cut_lists c.args.n (lists_of v.items)) c.replace-parts.ensures.value) c.cut_numbers.ensures
    ∙ ap (sifted (λ op. nat_lt op.seq c.args.n)) c.self.view_is

pub returns-clause-fewer : goal.returns-clause-fewer
returns-clause-fewer c = λ k there.
    let after : IsKept c.drop_from.new.ops.entries c.cut_parts.new.shorter.items c.cut_numbers.new.numbers.keys c.drop_from.new.ids.entries =
    kept-cut c.self.inside.ops.entries c.drop_from.new.ops.entries c.args.n c.self.inside.parts.items c.cut_parts.new.shorter.items c.self.inside.fresh.keys c.cut_numbers.new.numbers.keys c.self.inside.ids.entries c.drop_from.new.ids.entries
    c.self.invariant c.drop_from.ensures.kept (c.cut_parts.ensures.numbers ∙ ap (λ (v : Vec Part Global). cut_lists c.args.n (lists_of v.items)) c.replace-parts.ensures.value) c.cut_parts.ensures.closed c.cut_numbers.ensures c.drop_from.ensures.indexed in
    sym (ap (λ (s : Stored). has_number (held s) k) c.self.view_is)
    ∙ (below-held (kept_at c.self.inside.ops.entries) (kept_at c.drop_from.new.ops.entries) c.args.n (lists_of c.self.inside.parts.items) (lists_of c.cut_parts.new.shorter.items) c.self.inside.fresh.keys c.cut_numbers.new.numbers.keys c.self.invariant.filed after.filed c.drop_from.ensures.kept k there).0

pub returns-clause-low : goal.returns-clause-low
returns-clause-low c = λ k there.
    let after : IsKept c.drop_from.new.ops.entries c.cut_parts.new.shorter.items c.cut_numbers.new.numbers.keys c.drop_from.new.ids.entries =
    kept-cut c.self.inside.ops.entries c.drop_from.new.ops.entries c.args.n c.self.inside.parts.items c.cut_parts.new.shorter.items c.self.inside.fresh.keys c.cut_numbers.new.numbers.keys c.self.inside.ids.entries c.drop_from.new.ids.entries
    c.self.invariant c.drop_from.ensures.kept (c.cut_parts.ensures.numbers ∙ ap (λ (v : Vec Part Global). cut_lists c.args.n (lists_of v.items)) c.replace-parts.ensures.value) c.cut_parts.ensures.closed c.cut_numbers.ensures c.drop_from.ensures.indexed in
    (below-held (kept_at c.self.inside.ops.entries) (kept_at c.drop_from.new.ops.entries) c.args.n (lists_of c.self.inside.parts.items) (lists_of c.cut_parts.new.shorter.items) c.self.inside.fresh.keys c.cut_numbers.new.numbers.keys c.self.invariant.filed after.filed c.drop_from.ensures.kept k there).1
