use Rattle.std.specs.Prelude.{slice_get}
use Rattle.ccr_model.specs.Policies.{picks_of}
use Rattle.ccr_run.proofs.replays.replay_in.Given as goal

abbrev pub ghosts-replay_handed : goal.ghosts-replay_handed
ghosts-replay_handed g a = record { fates = λ n. picks_of g.P.Chooser.fate (slice_get a.policies.items n) }
