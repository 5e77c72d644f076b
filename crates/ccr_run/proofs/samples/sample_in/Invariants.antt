use Rattle.std.specs.Prelude.{slice_get}
use Rattle.ccr_model.specs.Policies.{picks_of}
use Rattle.ccr_run.proofs.samples.sample_in.Given as goal

abbrev pub ghosts-sample_handed : goal.ghosts-sample_handed
ghosts-sample_handed g a = record { fates = λ n. picks_of g.P.Chooser.fate (slice_get a.policies.items n) }
