use Rattle.ccr_law_messages.proofs.Events.{frames-keep}
use Rattle.ccr_law_messages.proofs.law.frames_keep.Goals as goal

pub returns : goal.returns
returns c = frames-keep
