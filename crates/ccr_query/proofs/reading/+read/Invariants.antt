use Rattle.std.proofs.Common.{◌≡◌, ◌+◌, ◌*◌, ◌≤◌, Ok, drop}
use Rattle.serde_json.specs.Data.{depth, items_depth, members_depth}
use Rattle.serde_json.specs.View.{view, items_view, members_view}
use Rattle.ccr_query.specs.Bools.{after, no_lists, lists_of, queries_of}
use Rattle.ccr_query.specs.Listed.{lists_in}
use Rattle.ccr_query.proofs.Readings.{trees_onto}
use Rattle.ccr_query.proofs.reading.+read.Given as goal

abbrev pub invariant-read_lists-loop-name : goal.invariant-read_lists-loop-name
invariant-read_lists-loop-name l =
    (lists_of l.levels (members_view l.members.entries) no_lists ≡ lists_of l.levels (members_view l.name-iterator) (lists_in l.lists))
    × (members_depth (members_view l.name-iterator) ≤ members_depth (members_view l.members.entries))

abbrev pub invariant-read_queries-loop-item : goal.invariant-read_queries-loop-item
invariant-read_queries-loop-item l =
    queries_of l.levels (items_view l.items.items) ≡ after (queries_of l.levels (items_view (drop l.item-index l.item-items))) (λ qs. Ok (trees_onto l.queries.items qs))

abbrev pub decreases-read_query : goal.decreases-read_query
decreases-read_query l = 4 * depth (view l.value.now)

abbrev pub decreases-read_bool : goal.decreases-read_bool
decreases-read_bool l = 4 * depth (view l.value.now) + 3

abbrev pub decreases-read_lists : goal.decreases-read_lists
decreases-read_lists l = 4 * members_depth (members_view l.members.now.entries) + 1

abbrev pub decreases-read_list : goal.decreases-read_list
decreases-read_list l = 4 * depth (view l.value.now)

abbrev pub decreases-read_queries : goal.decreases-read_queries
decreases-read_queries l = 4 * items_depth (items_view l.items.now.items) + 1
