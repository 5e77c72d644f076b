use Rattle.std.proofs.Common.{◌∙◌, sym}
use Rattle.std.specs.Str.{bytes_eq}
use Rattle.std.proofs.lemmas.Iterator.Adapters.{position_from-zero}
use Rattle.ccr_model.specs.Followers.{Follower}
use Rattle.ccr_shard.proofs.lookups.same_name.Goals as goal

pub returns : goal.returns
returns c = c.first_named.ensures ∙ sym (position_from-zero (λ (own : Follower). bytes_eq own.lease c.args.name.now) c.args.followers.now)
