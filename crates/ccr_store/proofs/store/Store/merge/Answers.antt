use Rattle.std.proofs.Common.{◌≡◌, ◌≤◌, ℕ, List, Some, true, Vec, Global, length, ◌∙◌, ap, sym, subst, arith}
use Rattle.std.specs.BTreeSet.{contains}
use Rattle.std.specs.Ordering.{nat_cmp}
use Rattle.ccr_segment.specs.Segment.{spelling as segment_of_ops}
use Rattle.ccr_model.specs.Stores.{Store as Stored, held, merge_drops, merged, dropped, is_among}
use Rattle.ccr_model.specs.Operations.{has_number}
use Rattle.ccr_store.specs.Kept.{kept_at, ops_of, numbers_of, store_of, times, lists_of, joined_numbers, Ascend, IsKept}
use Rattle.ccr_store.specs.declared.parts.Part.{Part}
use Rattle.ccr_store.proofs.Changes.{indexed-kept}
use Rattle.ccr_store.proofs.Merging.{all_picked, left_of, all-once, drops-are, store-merged, all-read, lists-made, kept-merged, left-within, fewer-held}
use Rattle.ccr_store.proofs.store.Store.merge.Goals as goal

pub drop_all-requires-clause-once : goal.drop_all-requires-clause-once
drop_all-requires-clause-once c =
    let read : c.as_slice-3.result.now ≡ all_picked (contains nat_cmp c.in_ok-chosen.chosen) (lists_of c.self.inside.parts.items) =
    all-read (contains nat_cmp c.in_ok-chosen.chosen) (lists_of c.as_slice.result.now) (lists_of c.self.inside.parts.items) c.in_ok-numbers.numbers.keys c.in_ok-all.all.items c.as_slice-3.result.now
    (ap lists_of c.as_slice.ensures.value) c.in_ok-numbers.ensures c.in_ok-all.ensures.keys c.as_slice-3.ensures.value in
    subst (λ (ns : List ℕ). (q : ℕ) → times q ns ≤ 1) (sym read) (all-once (kept_at c.self.inside.ops.entries) (contains nat_cmp c.in_ok-chosen.chosen) (lists_of c.self.inside.parts.items) c.self.inside.fresh.keys c.self.invariant.filed)

pub part_of-requires : goal.part_of-requires
part_of-requires c =
    left-within (kept_at c.self.inside.ops.entries) (kept_at c.drop_all.new.ops.entries) c.drop_all.new.drops.items c.as_slice-4.result.now c.take_kept.new.left.items c.in_ok-segment_length.field-0 c.drop_all.ensures.without c.take_kept.ensures
    (c.in_ok-segment_length.ensures.ok ∙ ap (λ (ns : List ℕ). length (segment_of_ops (ops_of (kept_at c.self.inside.ops.entries) ns))) (c.as_slice-2.ensures.value ∙ sym c.as_slice-4.ensures.value)) (omega arith)

pub invariant_of-self : goal.invariant_of-self
invariant_of-self c =
    let read : c.as_slice-3.result.now ≡ all_picked (contains nat_cmp c.in_ok-chosen.chosen) (lists_of c.self.inside.parts.items) =
    all-read (contains nat_cmp c.in_ok-chosen.chosen) (lists_of c.as_slice.result.now) (lists_of c.self.inside.parts.items) c.in_ok-numbers.numbers.keys c.in_ok-all.all.items c.as_slice-3.result.now
    (ap lists_of c.as_slice.ensures.value) c.in_ok-numbers.ensures c.in_ok-all.ensures.keys c.as_slice-3.ensures.value in
    let again : c.as_slice-4.result.now ≡ all_picked (contains nat_cmp c.in_ok-chosen.chosen) (lists_of c.self.inside.parts.items) =
    all-read (contains nat_cmp c.in_ok-chosen.chosen) (lists_of c.as_slice.result.now) (lists_of c.self.inside.parts.items) c.in_ok-numbers.numbers.keys c.in_ok-all.all.items c.as_slice-4.result.now
    (ap lists_of c.as_slice.ensures.value) c.in_ok-numbers.ensures c.in_ok-all.ensures.keys c.as_slice-4.ensures.value in
    kept-merged c.self.inside.ops.entries c.drop_all.new.ops.entries (contains nat_cmp c.in_ok-chosen.chosen) c.self.inside.parts.items c.replace-parts.result.items c.join.new.joined.items c.self.inside.fresh.keys c.self.inside.ids.entries c.drop_all.new.ids.entries c.drop_all.new.drops.items c.part_of.result c.take_kept.new.left.items c.as_slice-4.result.now
    c.self.invariant c.drop_all.ensures.without (subst (λ (ns : List ℕ). (q : ℕ) → is_among c.drop_all.new.drops.items q ≡ true → 1 ≤ times q ns) (read ∙ sym again) c.drop_all.ensures.among) (ap (λ (v : Vec Part Global). v.items) c.replace-parts.ensures.value) again
    (subst (Ascend 0) (sym c.as_slice-4.ensures.value) c.in_ok-all.ensures.order) c.take_kept.ensures c.part_of.ensures c.join.ensures c.drop_all.ensures.indexed

pub returns-clause-drops : goal.returns-clause-drops
returns-clause-drops c =
    let read : c.as_slice-3.result.now ≡ all_picked (contains nat_cmp c.in_ok-chosen.chosen) (lists_of c.self.inside.parts.items) =
    all-read (contains nat_cmp c.in_ok-chosen.chosen) (lists_of c.as_slice.result.now) (lists_of c.self.inside.parts.items) c.in_ok-numbers.numbers.keys c.in_ok-all.all.items c.as_slice-3.result.now
    (ap lists_of c.as_slice.ensures.value) c.in_ok-numbers.ensures c.in_ok-all.ensures.keys c.as_slice-3.ensures.value in
    drops-are (kept_at c.self.inside.ops.entries) (contains nat_cmp c.in_ok-chosen.chosen) c.args.picks.now c.args.bound c.args.count (lists_of c.self.inside.parts.items) c.self.inside.fresh.keys c.drop_all.new.drops.items
    c.self.invariant.filed c.in_ok-chosen.ensures
    (subst (λ (ns : List ℕ). c.drop_all.new.drops.items ≡ dropped c.args.bound c.args.count (ops_of (kept_at c.self.inside.ops.entries) (numbers_of (lists_of c.self.inside.parts.items) c.self.inside.fresh.keys)) (ops_of (kept_at c.self.inside.ops.entries) ns)) read
    (c.drop_all.ensures.went (numbers_of (lists_of c.self.inside.parts.items) c.self.inside.fresh.keys)
    (indexed-kept c.self.inside.ops.entries c.self.inside.parts.items c.self.inside.fresh.keys c.self.inside.ids.entries c.self.invariant)))
    ∙ ap (merge_drops c.args.picks.now c.args.bound c.args.count) c.self.view_is

pub returns-clause-ok : goal.returns-clause-ok
returns-clause-ok c =
    let read : c.as_slice-3.result.now ≡ all_picked (contains nat_cmp c.in_ok-chosen.chosen) (lists_of c.self.inside.parts.items) =
    all-read (contains nat_cmp c.in_ok-chosen.chosen) (lists_of c.as_slice.result.now) (lists_of c.self.inside.parts.items) c.in_ok-numbers.numbers.keys c.in_ok-all.all.items c.as_slice-3.result.now
    (ap lists_of c.as_slice.ensures.value) c.in_ok-numbers.ensures c.in_ok-all.ensures.keys c.as_slice-3.ensures.value in
    let again : c.as_slice-4.result.now ≡ all_picked (contains nat_cmp c.in_ok-chosen.chosen) (lists_of c.self.inside.parts.items) =
    all-read (contains nat_cmp c.in_ok-chosen.chosen) (lists_of c.as_slice.result.now) (lists_of c.self.inside.parts.items) c.in_ok-numbers.numbers.keys c.in_ok-all.all.items c.as_slice-4.result.now
    (ap lists_of c.as_slice.ensures.value) c.in_ok-numbers.ensures c.in_ok-all.ensures.keys c.as_slice-4.ensures.value in
    let made : lists_of c.join.new.joined.items ≡ joined_numbers (contains nat_cmp c.in_ok-chosen.chosen) 0 (Some (left_of (kept_at c.drop_all.new.ops.entries) (contains nat_cmp c.in_ok-chosen.chosen) (lists_of c.self.inside.parts.items))) (lists_of c.self.inside.parts.items) =
    lists-made (kept_at c.drop_all.new.ops.entries) (contains nat_cmp c.in_ok-chosen.chosen) c.self.inside.parts.items c.replace-parts.result.items c.join.new.joined.items c.part_of.result c.take_kept.new.left.items c.as_slice-4.result.now
    (length (segment_of_ops (ops_of (kept_at c.drop_all.new.ops.entries) c.take_kept.new.left.items)))
    (ap (λ (v : Vec Part Global). v.items) c.replace-parts.ensures.value) again c.take_kept.ensures c.part_of.ensures c.join.ensures in
    ap (λ (ps : List (List ℕ)). store_of (kept_at c.drop_all.new.ops.entries) ps c.self.inside.fresh.keys) made
    ∙ (store-merged (kept_at c.self.inside.ops.entries) (kept_at c.drop_all.new.ops.entries) (contains nat_cmp c.in_ok-chosen.chosen) c.args.picks.now c.args.bound c.args.count (lists_of c.self.inside.parts.items) c.self.inside.fresh.keys
    c.drop_all.new.drops.items c.self.invariant.filed c.in_ok-chosen.ensures c.drop_all.ensures.without
    (subst (λ (ns : List ℕ). (q : ℕ) → is_among c.drop_all.new.drops.items q ≡ true → 1 ≤ times q ns) read c.drop_all.ensures.among)
    (subst (λ (ns : List ℕ). c.drop_all.new.drops.items ≡ dropped c.args.bound c.args.count (ops_of (kept_at c.self.inside.ops.entries) (numbers_of (lists_of c.self.inside.parts.items) c.self.inside.fresh.keys)) (ops_of (kept_at c.self.inside.ops.entries) ns)) read
    (c.drop_all.ensures.went (numbers_of (lists_of c.self.inside.parts.items) c.self.inside.fresh.keys)
    (indexed-kept c.self.inside.ops.entries c.self.inside.parts.items c.self.inside.fresh.keys c.self.inside.ids.entries c.self.invariant)))
    ∙ ap (merged c.args.picks.now c.args.bound c.args.count) c.self.view_is)

pub returns-clause-fewer : goal.returns-clause-fewer
returns-clause-fewer c = λ n there.
    let read : c.as_slice-3.result.now ≡ all_picked (contains nat_cmp c.in_ok-chosen.chosen) (lists_of c.self.inside.parts.items) =
    all-read (contains nat_cmp c.in_ok-chosen.chosen) (lists_of c.as_slice.result.now) (lists_of c.self.inside.parts.items) c.in_ok-numbers.numbers.keys c.in_ok-all.all.items c.as_slice-3.result.now
    (ap lists_of c.as_slice.ensures.value) c.in_ok-numbers.ensures c.in_ok-all.ensures.keys c.as_slice-3.ensures.value in
    let again : c.as_slice-4.result.now ≡ all_picked (contains nat_cmp c.in_ok-chosen.chosen) (lists_of c.self.inside.parts.items) =
    all-read (contains nat_cmp c.in_ok-chosen.chosen) (lists_of c.as_slice.result.now) (lists_of c.self.inside.parts.items) c.in_ok-numbers.numbers.keys c.in_ok-all.all.items c.as_slice-4.result.now
    (ap lists_of c.as_slice.ensures.value) c.in_ok-numbers.ensures c.in_ok-all.ensures.keys c.as_slice-4.ensures.value in
    let after : IsKept c.drop_all.new.ops.entries c.join.new.joined.items c.self.inside.fresh.keys c.drop_all.new.ids.entries =
    kept-merged c.self.inside.ops.entries c.drop_all.new.ops.entries (contains nat_cmp c.in_ok-chosen.chosen) c.self.inside.parts.items c.replace-parts.result.items c.join.new.joined.items c.self.inside.fresh.keys c.self.inside.ids.entries c.drop_all.new.ids.entries c.drop_all.new.drops.items c.part_of.result c.take_kept.new.left.items c.as_slice-4.result.now
    c.self.invariant c.drop_all.ensures.without (subst (λ (ns : List ℕ). (q : ℕ) → is_among c.drop_all.new.drops.items q ≡ true → 1 ≤ times q ns) (read ∙ sym again) c.drop_all.ensures.among) (ap (λ (v : Vec Part Global). v.items) c.replace-parts.ensures.value) again
    (subst (Ascend 0) (sym c.as_slice-4.ensures.value) c.in_ok-all.ensures.order) c.take_kept.ensures c.part_of.ensures c.join.ensures c.drop_all.ensures.indexed in
    sym (ap (λ (s : Stored). has_number (held s) n) c.self.view_is)
    ∙ fewer-held (kept_at c.self.inside.ops.entries) (kept_at c.drop_all.new.ops.entries) (lists_of c.self.inside.parts.items) (lists_of c.join.new.joined.items) c.self.inside.fresh.keys c.drop_all.new.drops.items
    c.self.invariant.filed after.filed c.drop_all.ensures.without n there
