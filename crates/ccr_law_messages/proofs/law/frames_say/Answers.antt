use Rattle.ccr_law_messages.proofs.Says.{frames-say}
use Rattle.ccr_law_messages.proofs.law.frames_say.Goals as goal

pub returns : goal.returns
returns c = frames-say
