use Rattle.std.specs.Prelude.{refl}
use Rattle.ccr_model_journals.proofs.Opened.{opened}
use Rattle.ccr_model_journals.proofs.routed_writes_1.Goals as goal

pub returns : goal.returns
unfolding opened
returns c = (refl, (refl, tt))
