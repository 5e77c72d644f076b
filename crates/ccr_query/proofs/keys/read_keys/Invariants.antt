use Rattle.std.proofs.Common.{◌≡◌, drop}
use Rattle.serde_json.specs.View.{items_view}
use Rattle.ccr_query.specs.Keys.{key_of_value, each_of}
use Rattle.ccr_query.proofs.Each.{read_before}
use Rattle.ccr_query.proofs.keys.read_keys.Given as goal

abbrev pub invariant-loop-item : goal.invariant-loop-item
invariant-loop-item l = each_of key_of_value (items_view l.items.items) ≡ read_before key_of_value l.keys.items (drop l.item-index l.item-items)
