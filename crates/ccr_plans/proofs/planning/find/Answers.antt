use Rattle.std.proofs.Common.{◌≡◌}
use Rattle.std.proofs.lemmas.Result.{IfOk-weaker}
use Rattle.ccr_meta.specs.Guards.{first_refusal}
use Rattle.ccr_meta.specs.NameGuards.{find_guards}
use Rattle.ccr_plans.proofs.Finding.{IsIn-more, found_err, found_ok}
use Rattle.ccr_plans.proofs.planning.find.Goals as goal

pub returns-clause-err : goal.returns-clause-err
returns-clause-err c = found_err (first_refusal (find_guards c.args.meta.now c.args.index.now)) c.find.result c.find.ensures.answer

pub returns-clause-ok : goal.returns-clause-ok
returns-clause-ok c = found_ok (first_refusal (find_guards c.args.meta.now c.args.index.now)) c.find.result c.find.ensures.answer

pub returns-clause-bounds : goal.returns-clause-bounds
returns-clause-bounds c = IfOk-weaker c.find.result _ _ (λ x h. IsIn-more c.args.meta.now.worlds 64 x.now c.find.ensures.few h) c.find.ensures.within
