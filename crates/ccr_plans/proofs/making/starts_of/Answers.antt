use Rattle.std.proofs.Common.{◌≡◌, ◌∙◌, ◌+◌, ◌-◌, ◌∷◌, ◌++◌, [], List, ap, arith}
use Rattle.ccr_model.specs.Leaders.{Start}
use Rattle.ccr_plans.specs.Made.{starts_from}
use Rattle.ccr_plans.proofs.Tables.{starts-more}
use Rattle.ccr_plans.proofs.making.starts_of.Goals as goal

pub loop-left-preserved : goal.loop-left-preserved
loop-left-preserved c =
    let some = c.loop-left-test.true in
    let place = c.loop-left.invariant.place in
    record {
      done =
          ap (λ (xs : List Start). xs ++ starts_from c.args.index.now c.args.x.now (c.loop-left.shard + 1) (c.loop-left.left - 1))
          (c.in_ok-push.ensures.items ∙ ap (λ (s : Start). c.loop-left.starts.items ++ s ∷ []) c.in_ok-start.ensures)
          ∙ starts-more c.loop-left.starts.items (starts_from c.args.index.now c.args.x.now 0 c.args.x.now.shards) c.args.index.now c.args.x.now c.loop-left.shard c.loop-left.left some
          c.loop-left.invariant.done;
      place = omega arith;
    }
