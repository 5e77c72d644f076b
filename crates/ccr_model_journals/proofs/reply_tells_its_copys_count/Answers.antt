use Rattle.std.specs.Prelude.{refl}
use Rattle.ccr_model_journals.proofs.Opened.{opened}
use Rattle.ccr_model_journals.proofs.reply_tells_its_copys_count.Goals as goal

pub returns : goal.returns
unfolding opened
returns c = (refl, (refl, (refl, (refl, (refl, (refl, (refl, (refl, (refl, (refl, (refl, (refl, (refl, (refl, (refl, (refl, (refl, (refl, (refl, (refl, (refl, (refl, (refl, (refl, tt))))))))))))))))))))))))
