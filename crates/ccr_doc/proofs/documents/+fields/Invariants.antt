use Rattle.std.proofs.Common.{◌≡◌, ◌++◌, drop}
use Rattle.serde_json.specs.View.{items_view, members_view}
use Rattle.ccr_doc.specs.Fields.{items_fields, members_fields}
use Rattle.ccr_doc.proofs.documents.+fields.Given as goal

abbrev pub invariant-add_items-loop-item : goal.invariant-add_items-loop-item
invariant-add_items-loop-item l =
    l.initial.fields.items ++ items_fields l.name (items_view l.items.items) ≡ l.fields.items ++ items_fields l.name (items_view (drop l.item-index l.item-items))

abbrev pub invariant-add_members-loop-key : goal.invariant-add_members-loop-key
invariant-add_members-loop-key l =
    l.initial.fields.items ++ members_fields l.prefix (members_view l.members.entries) ≡ l.fields.items ++ members_fields l.prefix (members_view l.key-iterator)
