-- What holds of the leader's copies and the line, with the parts that make it pass from each place to the next. Of a copy only its number,
-- what it has processed and the global count that it knows are told, so its store, its floor and its leases may change.
use Rattle.std.specs.Prelude.{take, ◌≡◌, ℕ, ◌≤◌, ◌<◌, ◌+◌, ◌==◌, Bool, true, false, List, [], ◌∷◌, length, Option, Some, is_some, slice_get}
use Rattle.std.specs.List.{AllByRecursion}
use Rattle.ccr_op.specs.Operation.{Operation}
use Rattle.ccr_tracker.specs.Numbers.{Numbers, has, IsCanonical}
use Rattle.ccr_journal.specs.declared.journals.Entry.{Entry}
use Rattle.std.specs.Str.{bytes_eq}
use Rattle.ccr_model.specs.Copies.{Copy, Replica, Copies, least_known}
use Rattle.ccr_model.specs.Leaders.{Leader, history_of_term}
use Rattle.ccr_model.specs.CopyFacts.{IsLinePrimary, IsLineCopy, IsKnownTruly, KnowsWhenReady}
use Rattle.ccr_model.specs.Past.{Line, Past, committed, past_after, line_of}

-- the primary was given the line and has processed just its numbers; it knows of no more than the cut, which is no more than the line has
pub record PrimaryOk (line : Line) (ops : ℕ → Option Operation) (seen : Numbers) (global : ℕ) : Type 0 where
  pub given : (n : ℕ) → ops n ≡ slice_get line.ops n
  pub gapless : seen ≡ record { count = length line.ops; above = [] }
  pub full : line.cut ≤ length line.ops
  pub known : global ≤ line.cut
  pub numbered : (n : ℕ) (op : Operation) → slice_get line.ops n ≡ Some op → op.seq ≡ n

-- a replica is another copy than the primary, of a number before the next. It has processed what it was given, in the one form of such a
-- set; that has the line's operations below the cut, and the line's alone once it was resynced; each operation is told by its number. Its
-- known count is at most its count, 0 unless it was resynced, and at least the cut once it acked.
pub record ReplicaOk (line : Line) (primary next : ℕ) (ops : ℕ → Option Operation) (number : ℕ) (seen : Numbers) (global known : ℕ) (resynced acked : Bool) : Type 0 where
  pub other : (number == primary) ≡ false
  pub old : number < next
  pub ordered : IsCanonical seen
  pub processed : (n : ℕ) → has seen n ≡ is_some (ops n)
  pub committed : (n : ℕ) → n < line.cut → ops n ≡ slice_get line.ops n
  pub ours : resynced ≡ true → (n : ℕ) (op : Operation) → ops n ≡ Some op → slice_get line.ops n ≡ Some op
  pub numbered : (n : ℕ) (op : Operation) → ops n ≡ Some op → op.seq ≡ n
  pub low : global ≤ line.cut
  pub truly : known ≤ seen.count
  pub early : resynced ≡ false → known ≡ 0
  pub late : acked ≡ true → line.cut ≤ known

abbrev pub IsReplica : Line → ℕ → ℕ → (ℕ → Option Operation) → Replica → Type 0
IsReplica line primary next ops r = ReplicaOk line primary next ops r.copy.number r.copy.seen r.copy.global r.known r.resynced r.acked

-- no two replicas are of one number
abbrev pub Apart : List Replica → Type 0
Apart [] = Unit {0}
Apart (r ∷ rs) = AllByRecursion (λ (x : Replica). (x.copy.number == r.copy.number) ≡ false) rs × Apart rs

-- what holds of the copies, where nothing is said of the least known count: `number`, `seen` and `global` are the primary's
pub record Uncounted (line : Line) (given : ℕ → ℕ → Option Operation) (number : ℕ) (seen : Numbers) (global : ℕ) (replicas : List Replica) (next : ℕ) : Type 0 where
  pub old : number < next
  pub primary : PrimaryOk line (given number) seen global
  pub replicas_ok : AllByRecursion (λ (r : Replica). IsReplica line number next (given r.copy.number) r) replicas
  pub apart : Apart replicas

-- the global count that the primary knows is at least the least known count
pub record Core (line : Line) (given : ℕ → ℕ → Option Operation) (number : ℕ) (seen : Numbers) (global : ℕ) (replicas : List Replica) (next : ℕ) : Type 0 where
  pub rest : Uncounted line given number seen global replicas next
  pub counted : least_known seen.count replicas ≤ global

abbrev pub CoreOf : Line → (ℕ → ℕ → Option Operation) → Copies → Type 0
CoreOf line given s = Core line given s.primary.number s.primary.seen s.primary.global s.replicas s.next

-- what holds of the in-sync copies and the line at a place
abbrev pub IsLiving : Past → Type 0
IsLiving p = CoreOf p.line p.given p.state.leader.copies

-- a stale copy is none of the in-sync copies, of a number before the next. It has processed what it was given, in the one form of such a set,
-- all below the global count that it knows, and each operation is told by its number.
pub record StaleOk (ops : ℕ → Option Operation) (primary next : ℕ) (replicas : List Replica) (number : ℕ) (seen : Numbers) (global : ℕ) : Type 0 where
  pub other : (number == primary) ≡ false
  pub aside : AllByRecursion (λ (r : Replica). (r.copy.number == number) ≡ false) replicas
  pub old : number < next
  pub ordered : IsCanonical seen
  pub processed : (n : ℕ) → has seen n ≡ is_some (ops n)
  pub numbered : (n : ℕ) (op : Operation) → ops n ≡ Some op → op.seq ≡ n
  pub whole : (n : ℕ) → n < global → is_some (ops n) ≡ true

abbrev pub AreStale : (ℕ → ℕ → Option Operation) → ℕ → ℕ → List Replica → List Copy → Type 0
AreStale given primary next replicas stale =
    AllByRecursion (λ (c : Copy). StaleOk (given c.number) primary next replicas c.number c.seen c.global) stale

abbrev pub AreStaleOf : (ℕ → ℕ → Option Operation) → Leader → Type 0
AreStaleOf given s = AreStale given s.copies.primary.number s.copies.next s.copies.replicas s.stale

-- the operations of a line are told by their numbers, and no more is committed than there are
pub record IsLine (line : Line) : Type 0 where
  pub full : line.cut ≤ length line.ops
  pub numbered : (n : ℕ) (op : Operation) → slice_get line.ops n ≡ Some op → op.seq ≡ n

-- what was committed of a line is of the other one, too
pub record IsFront (old new : Line) : Type 0 where
  pub cut : old.cut ≤ new.cut
  pub same : take old.cut new.ops ≡ take old.cut old.ops

-- what holds of the leader's copies and the line at a place
pub record IsCore (p : Past) : Type 0 where
  pub rest : Uncounted p.line p.given p.state.leader.copies.primary.number p.state.leader.copies.primary.seen p.state.leader.copies.primary.global p.state.leader.copies.replicas p.state.leader.copies.next
  pub counted : least_known p.state.leader.copies.primary.seen.count p.state.leader.copies.replicas ≤ p.state.leader.copies.primary.global
  pub stale : AreStaleOf p.given p.state.leader
  pub ended : (history : List ℕ) → IsLine (p.ended history)

-- ---- in the words of the model

pub record IsLineReplica (p : Past) (r : Replica) : Type 0 where
  pub line : IsLineCopy p.line (p.given r.copy.number) r.resynced r.copy
  pub known : IsKnownTruly r

-- the leader's copies have the line, as far as they have to, and know no more than is true
pub record IsTrueCore (p : Past) : Type 0 where
  pub primary : IsLinePrimary p.line (p.given p.state.leader.copies.primary.number) p.state.leader.copies.primary
  pub copy : IsLineCopy p.line (p.given p.state.leader.copies.primary.number) true p.state.leader.copies.primary
  pub replicas : AllByRecursion (IsLineReplica p) p.state.leader.copies.replicas
  pub ready : KnowsWhenReady p.line p.state.leader.copies

-- the history isn't the one that a forced promotion would begin now
abbrev pub IsNotNext : Past → List ℕ → Type 0
IsNotNext p history = bytes_eq history (history_of_term p.state.leader.start.history (p.state.leader.copies.term + 1)) ≡ false

-- what was committed of each history stays
abbrev pub HasOnward : Past → Past → Type 0
HasOnward p next = (history : List ℕ) → IsFront (line_of p history) (line_of next history)

-- each entry leaves what was committed of each history before it
abbrev pub KeepsCommitted : Past → List Entry → Type 0
KeepsCommitted p [] = Unit {0}
KeepsCommitted p (entry ∷ entries) =
    ((history : List ℕ) → IsNotNext p history → take (line_of p history).cut (committed (line_of (past_after p entry) history)) ≡ committed (line_of p history))
    × KeepsCommitted (past_after p entry) entries
