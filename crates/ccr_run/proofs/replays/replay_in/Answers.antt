use Rattle.ccr_reports.proofs.HandedIn.{handed_left}
use Rattle.ccr_run.proofs.replays.replay_in.Goals as goal

pub replay_handed-requires-clause-handed : goal.replay_handed-requires-clause-handed
replay_handed-requires-clause-handed g c = handed_left g.P.Chooser.fate c.args.policies.items
