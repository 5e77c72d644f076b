use Rattle.ccr_reports.proofs.HandedIn.{handed_left}
use Rattle.ccr_run.proofs.samples.sample_in.Goals as goal

pub sample_handed-requires-clause-handed : goal.sample_handed-requires-clause-handed
sample_handed-requires-clause-handed g c = handed_left g.P.Chooser.fate c.args.policies.items
