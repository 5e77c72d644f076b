use Rattle.ccr_law_tasks.proofs.Calls.{stopped-good, rested-good}
use Rattle.ccr_law_tasks.proofs.task.stops.Goals as goal

pub returns : goal.returns
returns c = λ phase isnt. (λ line begun_at written t. stopped-good line begun_at written t phase isnt, λ line begun_at written t. rested-good line begun_at written t phase isnt)
