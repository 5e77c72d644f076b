-- What the truth of the leases says in the words of the theorem, and that merges drop nothing that a lease of the copy retains.
use Rattle.std.proofs.Common.{ℕ, ◌≤◌, ◌<◌, List, [], ◌∷◌, arith}
use Rattle.std.specs.Prelude.{Option, Some, None, nat_lt, IfSome}
use Rattle.std.specs.List.{AllByRecursion}
use Rattle.std.proofs.lemmas.Bool.{ltb-true, and_parts}
use Rattle.ccr_op.specs.Operation.{Operation}
use Rattle.ccr_lease.specs.declared.retention.Lease.{Lease}
use Rattle.ccr_journal.specs.declared.sides.Side.TheVariants as sides
use Rattle.ccr_journal.specs.declared.events.Event.{Event}
use Rattle.ccr_journal.specs.declared.events.Event.TheVariants as events
use Rattle.ccr_journal.specs.declared.replies.Reply.{Reply}
use Rattle.ccr_journal.specs.declared.replies.Reply.TheVariants as replies
use Rattle.ccr_law_base.proofs.Cases.{on_if}
use Rattle.ccr_model.specs.Stores.{held, without_number, is_droppable, dropped, merge_drops, picked_ops}
use Rattle.ccr_model.specs.Copies.{Copy, Replica, copy_of}
use Rattle.ccr_model.specs.CopyRows.{merge_bound, risen_floor}
use Rattle.ccr_model.specs.CopyFacts.{RetainsTruly, IsBehind}
use Rattle.ccr_model.specs.LeaseHistory.{LeaseNote}
use Rattle.ccr_model.specs.Past.{Past}
use Rattle.ccr_model.specs.Headline.{DropsBelowLeases, MergesSafely}
use Rattle.ccr_law_leases.specs.TrueLeases.{AgreeWithNotes, AreBehind, HasTrueLeases, RetainsInAll}
use Rattle.ccr_law_base.proofs.Lists.{All-weaker}
use Rattle.ccr_law_leases.proofs.Collections.{capped-low}

-- ---- what the leases retain

retains-truly : (notes : List LeaseNote) (c : Copy) → AgreeWithNotes notes c.leases.leases c.floor → RetainsTruly notes c
retains-truly notes c agree = record { numbers = agree.numbers; there = agree.there; floor = agree.floor }

pub leases-says : (p : Past) → HasTrueLeases p → RetainsInAll p
leases-says p are = record {
  primary = retains-truly p.notes p.state.leader.copies.primary are.agree;
  replicas = All-weaker (λ (r : Replica). AreBehind p.notes p.state.leader.copies.primary.leases r.copy.leases r.copy.floor) (λ (r : Replica). RetainsTruly p.notes r.copy)
      (λ r own. retains-truly p.notes r.copy own.agree) p.state.leader.copies.replicas are.behind;
  behind = All-weaker (λ (r : Replica). AreBehind p.notes p.state.leader.copies.primary.leases r.copy.leases r.copy.floor)
      (λ (r : Replica). IsBehind p.state.leader.copies.primary.leases r.copy.leases) (λ r own. own.behind) p.state.leader.copies.replicas are.behind;
}

-- ---- merges

-- what a merge drops is below its bound
pub dropped-low : (bound count : ℕ) (ops picked : List Operation) → AllByRecursion (λ (n : ℕ). n < bound) (dropped bound count ops picked)
dropped-low bound count ops [] = tt
dropped-low bound count ops (op ∷ picked) =
    on_if (λ (ns : List ℕ). AllByRecursion (λ (n : ℕ). n < bound) ns) (is_droppable bound count ops op)
    (op.seq ∷ dropped bound count (without_number op.seq ops) picked) (dropped bound count ops picked)
    (λ goes. (ltb-true op.seq bound (and_parts (nat_lt op.seq bound) _ goes).0, dropped-low bound count (without_number op.seq ops) picked))
    (λ stays. dropped-low bound count ops picked)

-- the bound of a merge is at most the number of each of the copy's leases
drops-below : (retention : ℕ) (picks : List ℕ) (c : Copy) → DropsBelowLeases retention picks c
drops-below retention picks c =
    All-weaker (λ (n : ℕ). n < merge_bound retention c) (λ (n : ℕ). AllByRecursion (λ (lease : Lease). n < lease.number) c.leases.leases)
    (λ n low. All-weaker (λ (lease : Lease). merge_bound retention c ≤ lease.number) (λ (lease : Lease). n < lease.number) (λ lease least. omega arith)
    c.leases.leases (capped-low c.leases.leases (risen_floor retention c)))
    (merge_drops picks (merge_bound retention c) c.global c.store) (dropped-low (merge_bound retention c) c.global (held c.store) (picked_ops picks c.store.parts))

drops-if : (retention : ℕ) (picks : List ℕ) (found : Option Copy) → IfSome found (DropsBelowLeases retention picks)
drops-if retention picks None = tt
drops-if retention picks (Some c) = drops-below retention picks c

-- this holds whatever was before
pub merges-safely : (p : Past) (event : Event) (reply : Reply) → MergesSafely p event reply
merges-safely p (events.Merge sides.Leader copy) (replies.Merged floor dropped picks) = drops-if p.state.leader.start.retention picks (copy_of p.state.leader.copies copy)
merges-safely p _ _ = tt
