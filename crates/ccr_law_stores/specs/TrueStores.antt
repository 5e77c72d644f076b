-- What the copies hold, in a form that each change of a copy keeps. Of the operations that are held it is told which numbers they have, so
-- their order and their parts play no role.
use Rattle.std.specs.Prelude.{◌≡◌, ◌⊎◌, ℕ, ◌≤◌, ◌<◌, ◌+◌, ◌==◌, Bool, true, false, max, List, [], ◌∷◌, length, take, count_by, slice_get, Option, Some, is_some}
use Rattle.std.specs.List.{AllByRecursion}
use Rattle.ccr_op.specs.Operation.{Operation, HasSpelling, id_of}
use Rattle.ccr_op.specs.declared.operation.Kind.{Kind}
use Rattle.ccr_op.specs.declared.operation.Kind.TheVariants.{Index, Delete, NoOp}
use Rattle.ccr_segment.specs.Index.{ops_in}
use Rattle.ccr_segment.specs.Segment.{AscendsFrom, spelling as segment_of_ops}
use Rattle.ccr_wire.specs.Message.{IsRun}
use Rattle.ccr_model.specs.Operations.{has_number}
use Rattle.ccr_model.specs.Tasks.{bytes_of}
use Rattle.ccr_model.specs.Stores.{Store, held}
use Rattle.ccr_model.specs.Copies.{Copy, Replica, Copies}
use Rattle.ccr_model.specs.CopyFacts.{HoldsEnough}
use Rattle.ccr_model.specs.Answers.{IsIn, SameView}
use Rattle.ccr_model.specs.FrameFacts.{IsCommitted, ops_of_session}
use Rattle.ccr_model.specs.Leaders.{Session}
use Rattle.ccr_model.specs.Given.{IsAmong, front_of}
use Rattle.ccr_model.specs.Past.{Line, Past}

-- ---- one copy

-- a greater operation about this id was given, of a number below the count
pub record Passed (ops : ℕ → Option Operation) (count : ℕ) (id : List ℕ) (n : ℕ) : Type 0 where
  pub op : Operation
  pub given : ops op.seq ≡ Some op
  pub about : id_of op.kind ≡ Some id
  pub above : n < op.seq
  pub below : op.seq < count

-- no operation about this id that is held has a smaller number
abbrev pub IsLeast : (ℕ → Option Operation) → (ℕ → Bool) → List ℕ → ℕ → Type 0
IsLeast ops there id n = (op : Operation) → ops op.seq ≡ Some op → there op.seq ≡ true → id_of op.kind ≡ Some id → n ≤ op.seq

-- why an operation of this number and kind isn't needed, where the numbers that are held pass the test `there`
abbrev pub IsNotMissed : (ℕ → Option Operation) → (ℕ → Bool) → ℕ → ℕ → Kind → Type 0
IsNotMissed ops there count n (Index id routing body) = Passed ops count id n
IsNotMissed ops there count n (Delete id routing) = Passed ops count id n ⊎ IsLeast ops there id n
IsNotMissed ops there count n NoOp = Unit {0}

-- 1 where the test holds
abbrev pub one : Bool → ℕ
one true = 1
one false = 0

-- how many of the operations have this number
abbrev pub times : ℕ → List Operation → ℕ
times n [] = 0
times n (x ∷ xs) = one (x.seq == n) + times n xs

-- what a copy holds serves for what it was given: its floor, its commit count and the count that it was restored with are at most the
-- global count that it knows; it holds operations that it was given, each once, all of them at or above its floor and the count that it
-- was restored with, and the others as far as they are missed
pub record StoreOk (ops : ℕ → Option Operation) (restored : ℕ) (xs : List Operation) (floor commit count : ℕ) : Type 0 where
  pub low : floor ≤ count
  pub since : restored ≤ count
  pub closed : commit ≤ count
  pub ours : AllByRecursion (IsAmong ops) xs
  pub once : (n : ℕ) → times n xs ≤ 1
  pub kept : (n : ℕ) → max floor restored ≤ n → is_some (ops n) ≡ true → has_number xs n ≡ true
  pub covered : (n : ℕ) (x : Operation) → ops n ≡ Some x → has_number xs n ≡ false → IsNotMissed ops (has_number xs) count x.seq x.kind

abbrev pub IsTrueStore : (ℕ → Option Operation) → ℕ → Copy → Type 0
IsTrueStore ops restored c = StoreOk ops restored (held c.store) c.floor c.commit c.global

-- each part ascends by number, and so does the part that takes operations
pub record IsSorted (s : Store) : Type 0 where
  pub closed : AllByRecursion (AscendsFrom 0) s.parts
  pub last : AscendsFrom 0 s.open_part

-- what a copy holds serves for what it was given, and each part of it ascends
pub record SortedStoreOk (ops : ℕ → Option Operation) (restored : ℕ) (s : Store) (floor commit count : ℕ) : Type 0 where
  pub store : StoreOk ops restored (held s) floor commit count
  pub sorted : IsSorted s

abbrev pub IsSound : (ℕ → Option Operation) → ℕ → Copy → Type 0
IsSound ops restored c = SortedStoreOk ops restored c.store c.floor c.commit c.global

-- operations are told by their numbers
abbrev pub AreNumbered : (ℕ → Option Operation) → Type 0
AreNumbered ops = (n : ℕ) (op : Operation) → ops n ≡ Some op → op.seq ≡ n

-- ---- a leader's copies

pub record AreTrueStores (given : ℕ → ℕ → Option Operation) (primary : Copy) (replicas : List Replica) : Type 0 where
  pub own : IsSound (given primary.number) 0 primary
  pub others : AllByRecursion (λ (r : Replica). IsSound (given r.copy.number) 0 r.copy) replicas

abbrev pub AreTrueStoresOf : (ℕ → ℕ → Option Operation) → Copies → Type 0
AreTrueStoresOf given s = AreTrueStores given s.primary s.replicas

abbrev pub HasLivingStores : Past → Type 0
HasLivingStores p = AreTrueStoresOf p.given p.state.leader.copies

abbrev pub AreSoundStale : (ℕ → ℕ → Option Operation) → List Copy → Type 0
AreSoundStale given stale = AllByRecursion (λ (c : Copy). IsSound (given c.number) 0 c) stale

-- what each of the leader's copies holds serves for what it was given, and so does what a stale copy holds
pub record HasTrueStores (p : Past) : Type 0 where
  pub own : IsSound (p.given p.state.leader.copies.primary.number) 0 p.state.leader.copies.primary
  pub others : AllByRecursion (λ (r : Replica). IsSound (p.given r.copy.number) 0 r.copy) p.state.leader.copies.replicas
  pub stale : AreSoundStale p.given p.state.leader.stale

-- in the words of the theorem
pub record HoldEnough (p : Past) : Type 0 where
  pub primary : HoldsEnough (p.given p.state.leader.copies.primary.number) 0 p.state.leader.copies.primary
  pub replicas : AllByRecursion (λ (r : Replica). HoldsEnough (p.given r.copy.number) 0 r.copy) p.state.leader.copies.replicas
  pub stale : AllByRecursion (λ (c : Copy). HoldsEnough (p.given c.number) 0 c) p.state.leader.stale

-- ---- sessions and reads

-- operations below a count serve for the first operations of the line, so many: the files of a session, and what a copy holds that was
-- restored from them. This is more than that they show the same documents, and stays where the copy takes and drops operations.
pub record IsTrueHistory (line : Line) (count : ℕ) (xs : List Operation) : Type 0 where
  pub low : count ≤ line.cut
  pub store : StoreOk (front_of count line.ops) count xs 0 0 count

-- operations below a count are committed operations of the line, each once, and show the documents of all of these
pub record ShowsLine (line : Line) (count : ℕ) (xs : List Operation) : Type 0 where
  pub ours : AllByRecursion (λ (op : Operation). IsCommitted line op × (op.seq < count)) xs
  pub once : (n : ℕ) → count_by (λ op. op.seq == n) xs ≤ 1
  pub view : SameView (IsIn xs) (IsIn (take count line.ops))

-- the line's operations can be spelled in bytes
abbrev pub CanBeSpelled : Line → Type 0
CanBeSpelled line = (n : ℕ) (op : Operation) → slice_get line.ops n ≡ Some op → HasSpelling op

-- the files of a session are segments, and their operations serve for the line up to its count
pub record IsTrueSession (line : Line) (session : Session) : Type 0 where
  pub segments : AllByRecursion (λ (file : List ℕ). segment_of_ops (ops_in file) ≡ file) session.files
  pub history : IsTrueHistory line session.count (ops_of_session session)

-- what a read brings: operations that the copy was given, of the numbers from this one on and below the global count, as many as asked
-- and within the bytes that are asked unless it is one operation, and some where there are any
pub record Brings (ops : ℕ → Option Operation) (from global max_ops max_bytes : ℕ) (xs : List Operation) : Type 0 where
  pub begins : IsRun from xs
  pub given : AllByRecursion (λ (op : Operation). IsAmong ops op × (op.seq < global)) xs
  pub number : length xs ≤ max max_ops 1
  pub size : (bytes_of xs ≤ max_bytes) ⊎ (length xs ≡ 1)
  pub some : from < global → 1 ≤ length xs

-- what a read of a leader's copy brings: committed operations of the line besides
pub record BringsCommitted (line : Line) (from global max_ops max_bytes : ℕ) (xs : List Operation) : Type 0 where
  pub begins : IsRun from xs
  pub ours : AllByRecursion (IsCommitted line) xs
  pub number : length xs ≤ max max_ops 1
  pub size : (bytes_of xs ≤ max_bytes) ⊎ (length xs ≡ 1)
  pub some : from < global → 1 ≤ length xs
