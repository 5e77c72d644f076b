use Rattle.ccr_law_settling_grounds.proofs.Wait.Events.{parked_start, parked_keep}
use Rattle.ccr_law_settling_grounds.proofs.waits.parked.Goals as goal

pub returns : goal.returns
returns c = record { start = parked_start; keep = parked_keep }
