use Rattle.std.proofs.Common.{List, Result, Ok, Err, OnErr, ap, refl}
use Rattle.ccr_policy.specs.declared.PartSize.{PartSize}
use Rattle.ccr_policy.specs.Fate.{last_sizes, tier_places}
use Rattle.ccr_policy.proofs.TieredMergePolicy.observe.Goals as goal

on_err : {T E : Type 0} (r : Result T E) (P : Type 0) → P → OnErr r P
on_err (Ok x) P p = tt
on_err (Err e) P p = p

pub returns-in_err-self-clause-err : goal.returns-in_err-self-clause-err
returns-in_err-self-clause-err c = on_err c.from_residual.result _ (λ seen. refl)

pub returns-clause-observed : goal.returns-clause-observed
returns-clause-observed c =
    λ seen. ap (λ (kept : List PartSize). tier_places c.args.self.now.per_tier (last_sizes kept seen)) c.in_ok-self.ensures.items
