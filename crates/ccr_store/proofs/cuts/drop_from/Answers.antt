use Rattle.std.proofs.Common.{◌≤◌, length, ◌∙◌, arith}
use Rattle.ccr_store.proofs.cuts.drop_from.Goals as goal

pub loop-preserved : goal.loop-preserved
loop-preserved c = record {
  same = λ q low. c.drop_last.ensures.same q low ∙ c.loop.invariant.same q low;
  indexed = λ numbers ix. c.drop_last.ensures.indexed numbers (c.loop.invariant.indexed numbers ix);
  fewer = let step : length c.drop_last.new.ops.entries ≤ length c.loop.ops.entries = c.drop_last.ensures.fewer in let so_far : length c.loop.ops.entries ≤ length c.args.ops.now.entries = c.loop.invariant.fewer in omega arith;
}

pub returns-clause-indexed : goal.returns-clause-indexed
returns-clause-indexed c = λ numbers ix. c.drop_last.ensures.indexed numbers (c.loop.invariant.indexed numbers ix)
