-- What calls on the copies come to, where the model has no row on copies alone.
use Rattle.std.specs.Prelude.{ℕ, ◌+◌, List, [], length, Option, Some, None, if◌then◌else◌}
use Rattle.ccr_lease.specs.Leases.{Collection}
use Rattle.ccr_journal.specs.declared.replies.Reply.TheVariants as replies
use Rattle.ccr_model.specs.Outcomes.{Outcome, refused, answered}
use Rattle.ccr_tracker.specs.Numbers.{no_numbers, filled_below}
use Rattle.ccr_model.specs.Stores.{Store, flushed}
use Rattle.ccr_model.specs.Copies.{Copy, Replica, Copies, has_lease}
use Rattle.ccr_model.specs.CopyRows.{not_replica, succeeded, unknown}
use Rattle.ccr_model.specs.LeaderRows.{missing_numbers, as_primary, as_only_copy}
use Rattle.ccr_copies.specs.Leased.{leased}

-- a leader's replica becomes the primary of the next term: it has no gap, and knows nothing of the others
unfoldable pub leader_copies_promote_row : Copies → ℕ → Option Replica → Outcome Copies
leader_copies_promote_row s copy None = refused s (not_replica s copy)
leader_copies_promote_row s copy (Some r) =
    answered (replies.Promoted (s.term + 1) (length (missing_numbers r.copy.seen)))
    (succeeded s copy (as_primary (s.term + 1) r.copy) unknown)

-- a copy that isn't among them becomes the primary of the next term, alone
abbrev pub forced : Copies → Copy → Copies
forced s c = record s { term = s.term + 1; primary = as_only_copy (s.term + 1) c; replicas = [] }

-- the primary alone: what a resync reads of the copies
abbrev pub led_by : Copy → Copies
led_by primary = record { term = 0; primary = primary; replicas = []; next = 0 }

-- the copies, where the primary has these leases
abbrev pub with_leases : Copies → Collection → Copies
with_leases s leases = record s { primary = record s.primary { leases = leases } }

-- the copies, where the primary has a lease of this id: a new one is at its floor
abbrev pub with_new_lease : List ℕ → ℕ → Copies → Copies
with_new_lease id now s = if has_lease id s.primary then s else with_leases s (leased id s.primary.floor now s.primary.leases)

-- the copy, where its open part is closed and its commit count is the global count that it knows
abbrev pub flushed_copy : Copy → Copy
flushed_copy c = record c { store = flushed c.store; commit = c.global }

-- the copy, where it holds what files gave: it counts all numbers below the count as processed, and knows that count
abbrev pub filed_copy : ℕ → Store → Copy → Copy
filed_copy count store c = record c { seen = filled_below no_numbers count; store = store; global = count }
