use Rattle.ccr_law_messages.proofs.Events.{frames-start}
use Rattle.ccr_law_messages.proofs.law.frames_start.Goals as goal

pub returns : goal.returns
returns c = frames-start
