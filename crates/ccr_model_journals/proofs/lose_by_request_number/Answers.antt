use Rattle.std.specs.Prelude.{refl}
use Rattle.ccr_model_journals.proofs.Opened.{opened}
use Rattle.ccr_model_journals.proofs.lose_by_request_number.Goals as goal

pub returns : goal.returns
unfolding opened
returns c = (refl, (refl, (refl, (refl, (refl, (refl, (refl, (refl, (refl, (refl, (refl, (refl, (refl, (refl, (refl, (refl, (refl, (refl, (refl, (refl, (refl, (refl, (refl, (refl, (refl, (refl, (refl, (refl, (refl, (refl, (refl, (refl, (refl, (refl, (refl, tt)))))))))))))))))))))))))))))))))))
