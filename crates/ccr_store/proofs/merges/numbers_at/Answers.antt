use Rattle.std.proofs.Common.{[], ◌∙◌, ap, sym, arith}
use Rattle.std.specs.BTreeSet.{contains}
use Rattle.std.specs.Ordering.{nat_cmp}
use Rattle.std.proofs.lemmas.List.{get_or_read}
use Rattle.ccr_store.specs.Kept.{Closed, lists_of, with_keys, picked_numbers}
use Rattle.ccr_store.proofs.Turns.{picked-passed, picked-taken, within-lists, numbers-at}
use Rattle.ccr_store.proofs.merges.numbers_at.Goals as goal

pub loop-place-preserved-then-not-contains : goal.loop-place-preserved-then-not-contains
loop-place-preserved-then-not-contains c = record {
  within = omega arith;
  so_far = picked-passed (contains nat_cmp c.args.chosen.now) (lists_of c.args.parts.now) c.loop-place.numbers.keys (with_keys [] (picked_numbers (contains nat_cmp c.args.chosen.now) 0 (lists_of c.args.parts.now))) c.loop-place.place-counter (within-lists c.args.parts.now c.loop-place.place-counter c.loop-place-test.true)
      (sym c.contains.ensures ∙ c.if-not-contains.true) c.loop-place.invariant.so_far;
}

pub loop-place-preserved : goal.loop-place-preserved
loop-place-preserved c = record {
  within = omega arith;
  so_far = picked-taken (contains nat_cmp c.args.chosen.now) (lists_of c.args.parts.now) c.loop-place.numbers.keys c.as_slice.result.now c.insert_all.new.numbers.keys
      (with_keys [] (picked_numbers (contains nat_cmp c.args.chosen.now) 0 (lists_of c.args.parts.now))) c.loop-place.place-counter (within-lists c.args.parts.now c.loop-place.place-counter c.loop-place-test.true)
      (sym c.contains.ensures ∙ c.if-not-contains.false)
      (c.as_slice.ensures ∙ (ap (λ (part : Closed). part.numbers) (get_or_read c.args.parts.now c.loop-place.place-counter c.index-parts-place.result c.loop-place-test.true c.index-parts-place.is record { numbers = []; bytes = 0 }) ∙ numbers-at c.args.parts.now c.loop-place.place-counter))
      c.in_ok-insert_all.ensures c.loop-place.invariant.so_far;
}
