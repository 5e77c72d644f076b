use Rattle.std.proofs.Common.{◌≡◌, ◌∙◌, ◌++◌, ap, append_assoc, codes, decimal, string_bytes}
use Rattle.ccr_meta.specs.Routing.{name_uuid}
use Rattle.ccr_plans.specs.Made.{index_text}
use Rattle.ccr_plans.proofs.making.history_uuid.Goals as goal

pub returns : goal.returns
returns c =
    c.uuid_of.ensures
    ∙ ap name_uuid (c.as_str-2.ensures.value ∙ (c.in_ok-push_str.ensures.bytes
    ∙ (ap (λ xs. xs ++ c.as_str.result.now) (c.in_ok-push_index.ensures ∙ ap (λ xs. xs ++ index_text c.args.index.now) c.in_ok-text.ensures.ok)
    ∙ (ap (λ xs. (codes "history:" ++ index_text c.args.index.now) ++ xs) (c.as_str.ensures.value ∙ c.in_ok-place.ensures.ok)
    ∙ append_assoc (codes "history:") (index_text c.args.index.now) (codes ":" ++ decimal c.args.shard)))))
