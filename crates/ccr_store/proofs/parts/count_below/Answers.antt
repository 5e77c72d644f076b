use Rattle.ccr_store.proofs.Lengths.{found-below, absent-below}
use Rattle.ccr_store.proofs.parts.count_below.Goals as goal

pub returns-in-Ok-clause-front : goal.returns-in-Ok-clause-front
returns-in-Ok-clause-front c = found-below c.args.bound c.in-Ok.at c.args.numbers.now c.requires c.in-Ok.ensures.bound c.in-Ok.ensures.position

pub returns-in-Err-clause-front : goal.returns-in-Err-clause-front
returns-in-Err-clause-front c = absent-below c.args.bound c.in-Err.at c.args.numbers.now c.requires c.in-Err.ensures.position
