use Rattle.ccr_model.specs.Given.{IsAmong}
use Rattle.ccr_model.specs.Answers.{IsIn}
use Rattle.ccr_law_stores.proofs.ShardsJoined.{fronts_join, joins_two}
use Rattle.ccr_law_stores.proofs.several_shards.fronts_join.Goals as goal

pub returns-clause-given : goal.returns-clause-given
returns-clause-given c = λ given. fronts_join (λ shard. IsAmong (given shard))

pub returns-clause-lines : goal.returns-clause-lines
returns-clause-lines c = λ lines. fronts_join (λ shard. IsIn (lines shard))

pub returns-clause-example : goal.returns-clause-example
returns-clause-example c = joins_two
