use Rattle.std.proofs.Common.{◌≡◌, ◌∙◌, ◌++◌, ap}
use Rattle.ccr_meta.specs.Routing.{name_uuid}
use Rattle.ccr_plans.specs.Made.{index_text}
use Rattle.ccr_plans.proofs.making.uuid_of_index.Goals as goal

pub returns : goal.returns
returns c =
    c.uuid_of.ensures
    ∙ ap name_uuid (c.as_str.ensures.value ∙ (c.in_ok-push_index.ensures ∙ ap (λ xs. xs ++ index_text c.args.index.now) c.in_ok-text.ensures.ok))
