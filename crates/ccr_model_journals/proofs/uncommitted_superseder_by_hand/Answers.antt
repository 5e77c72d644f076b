use Rattle.std.specs.Prelude.{refl}
use Rattle.ccr_model_journals.proofs.Opened.{opened}
use Rattle.ccr_model_journals.proofs.uncommitted_superseder_by_hand.Goals as goal

pub returns : goal.returns
unfolding opened
returns c = (refl, (refl, (refl, (refl, (refl, (refl, (refl, (refl, (refl, (refl, (refl, (refl, (refl, tt)))))))))))))
