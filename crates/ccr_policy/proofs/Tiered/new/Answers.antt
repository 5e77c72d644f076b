use Rattle.std.proofs.Common.{List, ap}
use Rattle.ccr_policy.specs.declared.PartSize.{PartSize}
use Rattle.ccr_policy.specs.Fate.{last_sizes, tier_places}
use Rattle.ccr_policy.proofs.Tiered.new.Goals as goal

pub returns : goal.returns
returns c = λ seen. ap (λ (kept : List PartSize). tier_places c.args.per_tier (last_sizes kept seen)) c.new.ensures.items
