-- All that is stated of the leader's copies, from what each group says.
use Rattle.std.proofs.Common.{List}
use Rattle.ccr_journal.specs.Params.{IsCopyCount}
use Rattle.ccr_journal.specs.declared.journals.Entry.{Entry}
use Rattle.ccr_model.specs.Copies.{Replica}
use Rattle.ccr_model.specs.CopyFacts.{HoldsEnough, RetainsTruly, IsBehind}
use Rattle.ccr_model.specs.Leaders.{Start}
use Rattle.ccr_model.specs.World.{start_state}
use Rattle.ccr_model.specs.Step.{IsLegal}
use Rattle.ccr_model.specs.Past.{Past, start_past, past_of}
use Rattle.ccr_model.specs.Invariants.{IsTrueReplica, IsTrueLeader}
use Rattle.ccr_law_copies.specs.Cores.{IsCore, IsLineReplica, IsTrueCore}
use Rattle.ccr_law_base.proofs.Lists.{All-weaker, All-both}
use Rattle.ccr_law_copies.proofs.LeaderEvents.{core-at, core-says}
use Rattle.ccr_law_leases.specs.TrueLeases.{HasTrueLeases, RetainsInAll}
use Rattle.ccr_law_leases.proofs.Events.{leases-hold}
use Rattle.ccr_law_leases.proofs.Says.{leases-says}
use Rattle.ccr_law_stores.specs.TrueStores.{HasTrueStores, HoldEnough}
use Rattle.ccr_law_stores.proofs.StoreEvents.{stores-at, stores-say}

pub leader-says : (p : Past) → IsCore p → HasTrueLeases p → HasTrueStores p → IsTrueLeader p
leader-says p core leases stores =
    let line : IsTrueCore p = core-says p core in
    let enough : HoldEnough p = stores-say p core stores in
    let retains : RetainsInAll p = leases-says p leases in
    let Enough : Replica → Type 0 = λ r. HoldsEnough (p.given r.copy.number) 0 r.copy in
    let Retains : Replica → Type 0 = λ r. RetainsTruly p.notes r.copy in
    let Behind : Replica → Type 0 = λ r. IsBehind p.state.leader.copies.primary.leases r.copy.leases in
    let replicas : List Replica = p.state.leader.copies.replicas in
    record {
      primary = line.primary;
      copy = line.copy;
      store = enough.primary;
      leases = retains.primary;
      replicas = All-weaker (λ (r : Replica). (IsLineReplica p r × Enough r) × (Retains r × Behind r)) (IsTrueReplica p)
          (λ r all. record { line = all.0.0.line; known = all.0.0.known; store = all.0.1; leases = all.1.0; behind = all.1.1 }) replicas
          (All-both (λ (r : Replica). IsLineReplica p r × Enough r) (λ (r : Replica). Retains r × Behind r) replicas
          (All-both (IsLineReplica p) Enough replicas line.replicas enough.replicas) (All-both Retains Behind replicas retains.replicas retains.behind));
      stale = enough.stale;
      ready = line.ready;
    }

pub leader-at : (start : Start) → IsCopyCount start.copies → (entries : List Entry) → IsLegal (start_state start) entries → IsTrueLeader (past_of (start_past start) entries)
leader-at start count entries legal =
    leader-says (past_of (start_past start) entries) (core-at start count entries legal) (leases-hold start count entries legal) (stores-at start count entries legal)
