use Rattle.std.proofs.Common.{◌≡◌, drop}
use Rattle.serde_json.specs.View.{items_view, members_view}
use Rattle.ccr_doc.specs.Sources.{items_have_other_number as items_have_other_number_of}
use Rattle.ccr_doc.specs.Sources.{members_have_other_number as members_have_other_number_of}
use Rattle.ccr_doc.proofs.sources.+numbers.Given as goal

abbrev pub invariant-items_have_other_number-loop-item :
    goal.invariant-items_have_other_number-loop-item
invariant-items_have_other_number-loop-item l =
    items_have_other_number_of (items_view l.items.items) ≡ items_have_other_number_of (items_view (drop l.item-index l.item-items))

abbrev pub invariant-members_have_other_number-loop-member :
    goal.invariant-members_have_other_number-loop-member
invariant-members_have_other_number-loop-member l =
    members_have_other_number_of (members_view l.members.entries) ≡ members_have_other_number_of (members_view l.member-iterator)
