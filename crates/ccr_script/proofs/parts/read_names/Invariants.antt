use Rattle.std.proofs.Common.{◌≡◌, drop}
use Rattle.serde_json.specs.Find.{as_str}
use Rattle.serde_json.specs.View.{items_view}
use Rattle.ccr_query.specs.Keys.{each_of}
use Rattle.ccr_query.proofs.Each.{read_before}
use Rattle.ccr_script.proofs.parts.read_names.Given as goal

abbrev pub invariant-loop-item : goal.invariant-loop-item
invariant-loop-item l = each_of as_str (items_view l.items.items) ≡ read_before as_str l.names.items (drop l.item-index l.item-items)
