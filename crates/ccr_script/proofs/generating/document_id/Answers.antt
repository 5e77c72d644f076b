use Rattle.std.proofs.Common.{◌≡◌, rules, sym, ap, ◌∙◌}
use Rattle.std.specs.Prelude.{is_some}
use Rattle.std.proofs.lemmas.Bool.{false≢true}
use Rattle.ccr_script.proofs.Made.{whole_id}
use Rattle.ccr_script.proofs.generating.document_id.Goals as goal

pub unreachable-requires : goal.unreachable-requires
unreachable-requires c =
    let whole = whole_id c.args.number c.as_str.result.now (search rules) (search rules) in
    false≢true (ap is_some (sym c.in-None.is ∙ (c.in_ok-id.ensures ∙ whole)))
