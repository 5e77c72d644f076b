-- The leader's side of a world: what each group says of it holds at the start and is kept by each fit event, and what follows.
use Rattle.std.specs.List.{AllByRecursion}
use Rattle.std.proofs.Common.{ℕ, ◌+◌, ◌≤◌, ◌^◌, ◌<◌, List, Option, sym, subst}
use Rattle.ccr_op.specs.Operation.{Operation}
use Rattle.ccr_journal.specs.Params.{IsCopyCount}
use Rattle.ccr_journal.specs.declared.events.Event.{Event}
use Rattle.ccr_model.specs.Stores.{held}
use Rattle.ccr_model.specs.Copies.{Copy, Replica, all_copies}
use Rattle.ccr_model.specs.CopyFacts.{HoldsEnough, IsBehind, RetainsTruly}
use Rattle.ccr_model.specs.Leaders.{Start}
use Rattle.ccr_model.specs.Past.{Past, start_past}
use Rattle.ccr_model.specs.Invariants.{IsTrueReplica, IsTrueLeader}
use Rattle.ccr_model.specs.Headline.{Retention}
use Rattle.ccr_law_copies.specs.Cores.{IsLineReplica, IsTrueCore, HasOnward}
use Rattle.ccr_law_base.specs.Events.{past_by}
use Rattle.ccr_law_base.proofs.Lists.{All-weaker, All-both, All-map}
use Rattle.ccr_law_copies.proofs.LeaderEvents.{core-start, core-keeps, core-says}
use Rattle.ccr_law_copies.proofs.HistoryEvents.{histories_start, histories_keep}
use Rattle.ccr_law_copies.proofs.HistorySays.{histories_onward}
use Rattle.ccr_law_leases.specs.TrueLeases.{RetainsInAll}
use Rattle.ccr_law_leases.proofs.Events.{leases-start, leases-keeps}
use Rattle.ccr_law_leases.proofs.Ordering.{order-start, order-keeps}
use Rattle.ccr_law_leases.proofs.Says.{leases-says}
use Rattle.ccr_law_stores.specs.TrueStores.{IsSound, HoldEnough}
use Rattle.ccr_law_stores.proofs.Counting.{count_is}
use Rattle.ccr_law_stores.proofs.StoreEvents.{stores-start, stores-keeps, stores-say, retention-holds}
use Rattle.ccr_law_stores.specs.Searchable.{HoldsOnce}
use Rattle.ccr_law_stores.specs.SearchPlaces.{HoldsForLeader}
use Rattle.ccr_law_stores.specs.Spelled.{IsSpelled}
use Rattle.ccr_law_stores.proofs.SpelledEvents.{small-keeps}
use Rattle.ccr_law_stores.proofs.SpelledSays.{small-start, spelled-says}
use Rattle.ccr_law.specs.Parts.{IsLeading}
use Rattle.ccr_law.proofs.Walks.{IsKept}

pub leading-start : (start : Start) → IsCopyCount start.copies → IsLeading (start_past start)
leading-start start count = record {
  core = core-start start count;
  leases = leases-start start count;
  order = order-start start count;
  stores = stores-start start;
  small = small-start start;
  histories = histories_start start;
}

pub leading-keeps : IsKept IsLeading
leading-keeps p event picks fit short now = record {
  core = core-keeps p event picks now.core;
  leases = leases-keeps p event picks now.leases;
  order = order-keeps p event picks now.order;
  stores = stores-keeps p event picks now.core now.stores;
  small = small-keeps p event picks fit now.core now.stores now.small;
  histories = histories_keep p event picks now.histories;
}

-- what was committed of each history stays
pub leading-onward : (p : Past) (event : Event) (picks : List ℕ) → p.place + 1 < 2 ^ 32 → IsLeading p → HasOnward p (past_by p event picks)
leading-onward p event picks short now = histories_onward p event picks short now.core now.histories

-- ---- the copies

true_replica : (p : Past) (r : Replica) → IsLineReplica p r → HoldsEnough (p.given r.copy.number) 0 r.copy → RetainsTruly p.notes r.copy
    → IsBehind p.state.leader.copies.primary.leases r.copy.leases → IsTrueReplica p r
true_replica p r line store leases behind = record { line = line.line; known = line.known; store = store; leases = leases; behind = behind }

pub true_leader : (p : Past) → IsLeading p → IsTrueLeader p
true_leader p now =
    let s = p.state.leader.copies in
    let core : IsTrueCore p = core-says p now.core in
    let stores : HoldEnough p = stores-say p now.core now.stores in
    let leases : RetainsInAll p = leases-says p now.leases in
    record {
      primary = core.primary;
      copy = core.copy;
      store = stores.primary;
      leases = leases.primary;
      replicas = All-weaker
          (λ (r : Replica). (IsLineReplica p r × HoldsEnough (p.given r.copy.number) 0 r.copy) × (RetainsTruly p.notes r.copy × IsBehind s.primary.leases r.copy.leases))
          (IsTrueReplica p) (λ r all. true_replica p r all.0.0 all.0.1 all.1.0 all.1.1) s.replicas
          (All-both (λ (r : Replica). IsLineReplica p r × HoldsEnough (p.given r.copy.number) 0 r.copy)
          (λ (r : Replica). RetainsTruly p.notes r.copy × IsBehind s.primary.leases r.copy.leases) s.replicas
          (All-both (IsLineReplica p) (λ (r : Replica). HoldsEnough (p.given r.copy.number) 0 r.copy) s.replicas core.replicas stores.replicas)
          (All-both (λ (r : Replica). RetainsTruly p.notes r.copy) (λ (r : Replica). IsBehind s.primary.leases r.copy.leases) s.replicas leases.replicas leases.behind));
      stale = stores.stale;
      ready = core.ready;
    }

-- ---- retention

pub leading-retains : (p : Past) → IsLeading p → Retention p
leading-retains p now = retention-holds p now.leases now.stores

-- ---- the operations can be spelled

pub leading-spells : (p : Past) → p.place < 2 ^ 32 → IsLeading p → IsSpelled p
leading-spells p short now = spelled-says p now.core now.small short

-- ---- searches

holds-once : (ops : ℕ → Option Operation) (c : Copy) → IsSound ops 0 c → HoldsOnce c
holds-once ops c sound n = subst (λ (k : ℕ). k ≤ 1) (sym (count_is n (held c.store))) (sound.store.once n)

pub leading-searchable : (p : Past) → IsLeading p → AllByRecursion (HoldsForLeader p.given) (all_copies p.state.leader.copies)
leading-searchable p now =
    let s = p.state.leader.copies in
    let stores : HoldEnough p = stores-say p now.core now.stores in (
      (stores.primary, holds-once (p.given s.primary.number) s.primary now.stores.own),
      All-map (HoldsForLeader p.given) (λ r. r.copy) s.replicas
          (All-weaker (λ (r : Replica). HoldsEnough (p.given r.copy.number) 0 r.copy × IsSound (p.given r.copy.number) 0 r.copy)
          (λ (r : Replica). HoldsForLeader p.given r.copy) (λ r both. (both.0, holds-once (p.given r.copy.number) r.copy both.1)) s.replicas
          (All-both (λ (r : Replica). HoldsEnough (p.given r.copy.number) 0 r.copy) (λ (r : Replica). IsSound (p.given r.copy.number) 0 r.copy)
          s.replicas stores.replicas now.stores.others)),
    )
