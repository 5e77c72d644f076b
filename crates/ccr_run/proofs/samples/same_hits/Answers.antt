use Rattle.std.proofs.Common.{sym}
use Rattle.ccr_run.proofs.Sameness.{same_hits-differ}
use Rattle.ccr_run.proofs.samples.same_hits.Goals as goal

pub returns-then-a-b : goal.returns-then-a-b
returns-then-a-b c = sym (same_hits-differ c.args.a.now c.args.b.now c.if-a-b.true)
