use Rattle.ccr_law_settling_grounds.proofs.Purpose.Events.{purposes_start, purposes_keep}
use Rattle.ccr_law_settling_grounds.proofs.Purpose.Ignoring.{ignores-rightly}
use Rattle.ccr_law_settling_grounds.proofs.requests.purposes.Goals as goal

pub returns : goal.returns
returns c = record { start = purposes_start; keep = purposes_keep; ignore = ignores-rightly }
