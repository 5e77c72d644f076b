-- What a read of a leader's copy brings.
use Rattle.std.specs.Prelude.{slice_get}
use Rattle.std.specs.Option.{option_map}
use Rattle.std.proofs.Common.{◌≡◌, ℕ, ◌<◌, ◌≤◌, ◌==◌, Option, Some, None, List, refl, sym, ◌∙◌, subst, arith}
use Rattle.ccr_op.specs.Operation.{Operation}
use Rattle.ccr_model.specs.Copies.{Copy, Replica, copy_of, replica_of}
use Rattle.ccr_model.specs.LeaderFrames.{read_ops}
use Rattle.ccr_model.specs.FrameFacts.{IsCommitted}
use Rattle.ccr_model.specs.Given.{IsAmong}
use Rattle.ccr_model.specs.Past.{Line, Past}
use Rattle.ccr_law_base.proofs.Cases.{on_if}
use Rattle.ccr_law_copies.specs.Cores.{IsCore}
use Rattle.ccr_law_base.proofs.Lists.{All-weaker, some_equal}
use Rattle.ccr_law_copies.proofs.LeaderRows.{Found, found_in}
use Rattle.ccr_law_copies.proofs.LeaderEvents.{living}
use Rattle.ccr_law_stores.proofs.StoreEvents.{living_stores}
use Rattle.ccr_law_stores.specs.TrueStores.{IsSound, HasTrueStores, Brings, BringsCommitted}
use Rattle.ccr_law_stores.proofs.Runs.{read-brings}
use Rattle.ccr_law_stores.proofs.StoreRows.{IsFit, primary-fit, replica-fit, found-store}

-- what was given below the global count is the line's
pub brings-committed : (line : Line) (ops : ℕ → Option Operation) (c : Copy) (from max_ops max_bytes : ℕ) (xs : List Operation) → c.global ≤ line.cut
    → ((n : ℕ) → n < line.cut → ops n ≡ slice_get line.ops n) → Brings ops from c.global max_ops max_bytes xs → BringsCommitted line from c.global max_ops max_bytes xs
brings-committed line ops c from max_ops max_bytes xs low same ok = record {
  begins = ok.begins;
  ours = All-weaker (λ (op : Operation). IsAmong ops op × (op.seq < c.global)) (IsCommitted line)
      (λ op is. let small : op.seq < c.global = is.1 in record { below = omega arith; same = sym (same op.seq (omega arith)) ∙ is.0 }) xs ok.given;
  number = ok.number;
  size = ok.size;
  some = ok.some;
}

-- a read of a copy, from its floor or above it
pub read-of-leader : (p : Past) (copy : ℕ) (c : Copy) (from max_ops max_bytes : ℕ) → IsCore p → HasTrueStores p → copy_of p.state.leader.copies copy ≡ Some c → c.floor ≤ from
    → BringsCommitted p.line from c.global max_ops max_bytes (read_ops c from max_ops max_bytes)
read-of-leader p copy c from max_ops max_bytes core ok at high =
    on_if (λ (o : Option Copy). o ≡ Some c → BringsCommitted p.line from c.global max_ops max_bytes (read_ops c from max_ops max_bytes))
    (p.state.leader.copies.primary.number == copy) (Some p.state.leader.copies.primary) (option_map {T = Replica} {U = Copy} (λ r. r.copy) (replica_of p.state.leader.copies copy))
    (λ is own. primary-reads (some_equal p.state.leader.copies.primary c own))
    (λ isnt found. replica-reads (replica_of p.state.leader.copies copy) refl found)
    at
  where
    primary-reads : p.state.leader.copies.primary ≡ c → BringsCommitted p.line from c.global max_ops max_bytes (read_ops c from max_ops max_bytes)
    primary-reads is =
        subst (λ (x : Copy). x.floor ≤ from → BringsCommitted p.line from x.global max_ops max_bytes (read_ops x from max_ops max_bytes)) is (λ le.
        let s = p.state.leader.copies in
        let fit : IsFit (p.given s.primary.number) s.primary = primary-fit p.line (p.given s.primary.number) s.primary core.rest.primary in
        brings-committed p.line (p.given s.primary.number) s.primary from max_ops max_bytes (read_ops s.primary from max_ops max_bytes) core.rest.primary.known
        (λ n lt. core.rest.primary.given n)
        (read-brings (p.given s.primary.number) 0 s.primary from max_ops max_bytes fit.whole (omega arith) ok.own.store)) high

    replica-reads : (found : Option Replica) → replica_of p.state.leader.copies copy ≡ found → option_map {T = Replica} {U = Copy} (λ r. r.copy) found ≡ Some c
        → BringsCommitted p.line from c.global max_ops max_bytes (read_ops c from max_ops max_bytes)
    replica-reads None is own = cc
    replica-reads (Some r) is own =
        subst (λ (x : Copy). x.floor ≤ from → BringsCommitted p.line from x.global max_ops max_bytes (read_ops x from max_ops max_bytes)) (some_equal r.copy c own) (λ le.
        let s = p.state.leader.copies in
        let f : Found p.line p.given s.primary.number s.next copy r = found_in p.line p.given s copy r (living p core) is in
        let fit : IsFit (p.given copy) r.copy = replica-fit p.line s.primary.number s.next (p.given copy) r core.rest.primary.full f.replica in
        let own_store : IsSound (p.given copy) 0 r.copy × (r.copy.number ≡ copy) = found-store p.given s copy r is (living_stores p ok) in
        brings-committed p.line (p.given copy) r.copy from max_ops max_bytes (read_ops r.copy from max_ops max_bytes) f.replica.low f.replica.committed
        (read-brings (p.given copy) 0 r.copy from max_ops max_bytes fit.whole (omega arith) own_store.0.store)) high
