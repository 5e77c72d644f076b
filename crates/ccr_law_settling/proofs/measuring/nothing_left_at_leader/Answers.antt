use Rattle.ccr_law_settling.proofs.Measure.LeftAtLeader.{leader_left}
use Rattle.ccr_law_settling.proofs.measuring.nothing_left_at_leader.Goals as goal

pub returns : goal.returns
returns c = record { settled = leader_left }
