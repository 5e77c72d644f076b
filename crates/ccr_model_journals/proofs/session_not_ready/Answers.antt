use Rattle.std.specs.Prelude.{refl}
use Rattle.ccr_model_journals.proofs.Opened.{opened}
use Rattle.ccr_model_journals.proofs.session_not_ready.Goals as goal

pub returns : goal.returns
unfolding opened
returns c = (refl, (refl, (refl, (refl, (refl, (refl, (refl, (refl, (refl, (refl, (refl, (refl, (refl, (refl, (refl, (refl, (refl, (refl, (refl, (refl, (refl, (refl, (refl, tt)))))))))))))))))))))))
