-- What holds of the copies of a shard at every place of a legal journal.
use Rattle.std.specs.Prelude.{◌≡◌, ◌⊎◌, ℕ, ◌+◌, ◌≤◌, ◌<◌, Bool, true, nat_lt, max, List, [], ◌∷◌, length, Option, Some, None, is_some, slice_get}
use Rattle.std.specs.List.{AllByRecursion}
use Rattle.ccr_op.specs.Operation.{Operation}
use Rattle.ccr_tracker.specs.Numbers.{has}
use Rattle.ccr_lease.specs.declared.retention.Lease.{Lease}
use Rattle.ccr_lease.specs.Leases.{Collection, supersedes}
use Rattle.ccr_model.specs.Operations.{has_number}
use Rattle.ccr_model.specs.Stores.{held}
use Rattle.ccr_model.specs.Copies.{Copy, Replica, Copies, not_ready, has_lease}
use Rattle.ccr_model.specs.Given.{IsAmong}
use Rattle.ccr_model.specs.Answers.{IsIn, SameView}
use Rattle.ccr_model.specs.LeaseHistory.{LeaseNote, retained, is_unbroken}
use Rattle.ccr_model.specs.Past.{Line}

-- ---- the order of the copies

-- the replicas stand in ascending number, from this one on and below the next copy's
abbrev pub AscendBelow : ℕ → ℕ → List Replica → Type 0
AscendBelow next low [] = low ≤ next
AscendBelow next low (r ∷ rs) = (low ≤ r.copy.number) × AscendBelow next (r.copy.number + 1) rs

abbrev pub Ascend : Copies → Type 0
Ascend s = AscendBelow s.next 0 s.replicas

-- ---- the leader's copies and the line of its history

-- the primary has processed exactly the operations of the line, and no more is committed than the line has
pub record IsLinePrimary (line : Line) (ops : ℕ → Option Operation) (c : Copy) : Type 0 where
  pub given : (n : ℕ) → ops n ≡ slice_get line.ops n
  pub processed : (n : ℕ) → has c.seen n ≡ nat_lt n (length line.ops)
  pub cut : line.cut ≤ length line.ops

-- a leader's copy has processed what it was given: every number below the cut, these as the line has them, and all as the line has them
-- once it was resynced. It knows of no more than the cut.
pub record IsLineCopy (line : Line) (ops : ℕ → Option Operation) (resynced : Bool) (c : Copy) : Type 0 where
  pub processed : (n : ℕ) → has c.seen n ≡ is_some (ops n)
  pub committed : (n : ℕ) → n < line.cut → ops n ≡ slice_get line.ops n
  pub ours : resynced ≡ true → (n : ℕ) (op : Operation) → ops n ≡ Some op → slice_get line.ops n ≡ Some op
  pub global : c.global ≤ line.cut

-- a known count is at most the copy's count, and where it is above 0 the copy was resynced
pub record IsKnownTruly (r : Replica) : Type 0 where
  pub known : r.known ≤ r.copy.seen.count
  pub early : 0 < r.known → r.resynced ≡ true

-- a leader that is ready knows what is committed
abbrev pub KnowsWhenReady : Line → Copies → Type 0
KnowsWhenReady line s = not_ready s ≡ None → s.primary.global ≡ line.cut

-- ---- stores

-- the operations below a number that a copy was given, and those that it holds
abbrev pub IsGivenBelow : ℕ → (ℕ → Option Operation) → Operation → Type 0
IsGivenBelow m ops op = IsAmong ops op × (op.seq < m)

abbrev pub IsHeldBelow : ℕ → Copy → Operation → Type 0
IsHeldBelow m c op = IsIn (held c.store) op × (op.seq < m)

-- what a copy holds serves for what it has processed: the floor and the commit count are at most the global count that it knows, below
-- which it has processed everything; it holds each processed operation at or above its floor, and at or above the count that it was
-- restored with; and from the global count on it shows the documents of all that it has processed
pub record HoldsEnough (ops : ℕ → Option Operation) (restored : ℕ) (c : Copy) : Type 0 where
  pub floor : c.floor ≤ c.global
  pub commit : c.commit ≤ c.global
  pub whole : (n : ℕ) → n < c.global → is_some (ops n) ≡ true
  pub ours : AllByRecursion (IsAmong ops) (held c.store)
  pub kept : (n : ℕ) → max c.floor restored ≤ n → is_some (ops n) ≡ true → has_number (held c.store) n ≡ true
  pub view : (m : ℕ) → c.global ≤ m → SameView (IsHeldBelow m c) (IsGivenBelow m ops)

-- ---- leases

-- a lease in a collection retains no more than its history says; an unbroken lease is in the collection of each copy, and no floor is
-- above what it retains
pub record RetainsTruly (notes : List LeaseNote) (c : Copy) : Type 0 where
  pub numbers : AllByRecursion (λ (lease : Lease). lease.number ≤ retained lease.id notes) c.leases.leases
  pub there : (id : List ℕ) → is_unbroken id notes ≡ true → has_lease id c ≡ true
  pub floor : (id : List ℕ) → is_unbroken id notes ≡ true → c.floor ≤ retained id notes

-- a collection is the primary's, or the primary's supersedes it
abbrev pub IsBehind : Collection → Collection → Type 0
IsBehind primary own = (own ≡ primary) ⊎ (supersedes primary own ≡ true)
