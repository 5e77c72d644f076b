use Rattle.std.proofs.Common.{rules, ◌≡◌, ◌++◌, ◌∷◌, [], ◌∙◌, ap, append_assoc}
use Rattle.std.specs.Prelude.{codes}
use Rattle.ccr_meta.specs.Routing.{name_uuid}
use Rattle.ccr_meta.proofs.naming.index_uuid.Goals as goal

pub returns : goal.returns
returns c =
    let index = c.args.index.now in
    let whole : c.as_str-3.result.now ≡ ((codes "index:" ++ index.cluster) ++ 47 ∷ []) ++ index.index = search rules in
    c.uuid_of.ensures ∙ ap name_uuid (simp append_assoc at whole)
