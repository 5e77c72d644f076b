use Rattle.ccr_tracker.proofs.Members.{one_form}
use Rattle.ccr_tracker.proofs.equal_by_members.Goals as goal

pub returns : goal.returns
returns c = one_form
