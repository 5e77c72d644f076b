-- How a store keeps its operations: each under its number, the numbers of each part, and for each id the numbers of the operations
-- about it.
use Rattle.std.specs.Prelude.{◌≡◌, ℕ, ◌≤◌, ◌+◌, ◌==◌, count_by, Bool, true, false, nat_lt, List, [], ◌∷◌, ◌++◌, length, map, flat_map, filter, Option, Some, None, is_some, MatchOption, cond, if◌then◌else◌}
use Rattle.std.specs.Bool.{MatchBool}
use Rattle.std.specs.Option.{option_map_or, option_or}
use Rattle.std.specs.List.{filter_map, list_any}
use Rattle.std.specs.Map.{lookup}
use Rattle.std.specs.BTreeMap.{is_at}
use Rattle.std.specs.BTreeSet.{BTreeSet, insert_key}
use Rattle.std.specs.Ordering.{nat_cmp}
use Rattle.std.specs.declared.cmp.Ordering.TheVariants.{Less}
use Rattle.std.specs.Cmp.Lexicographic.{slice_cmp}
use Rattle.std.specs.declared.vec.Vec.{Vec}
use Rattle.std.specs.declared.alloc.Global.{Global}
use Rattle.std.specs.List.{AllByRecursion}
use Rattle.ccr_op.specs.Operation.{Operation, id_of}
use Rattle.ccr_policy.specs.declared.PartSize.{PartSize}
use Rattle.ccr_segment.specs.Segment.{spelling as segment_of_ops}
use Rattle.ccr_model.specs.Operations.{is_about, has_number, live, op_at, size_of}
use Rattle.ccr_model.specs.Stores.{Store, is_among, one_part}

-- the operation that is kept under a number
abbrev pub kept_at : List (ℕ × Operation) → ℕ → Option Operation
kept_at ops n = lookup (is_at (nat_cmp n)) ops

-- the operations that these numbers stand for
abbrev pub ops_of : (ℕ → Option Operation) → List ℕ → List Operation
ops_of at numbers = filter_map at numbers

-- the parts that these lists of numbers stand for
abbrev pub parts_of : (ℕ → Option Operation) → List (List ℕ) → List (List Operation)
parts_of at parts = map {A = List ℕ} {B = List Operation} (ops_of at) parts

-- all numbers, those of the open part last
abbrev pub numbers_of : List (List ℕ) → List ℕ → List ℕ
numbers_of parts open_numbers = flat_map {X = List ℕ} {A = ℕ} (λ part. part) parts ++ open_numbers

-- the store that is kept so
abbrev pub store_of : (ℕ → Option Operation) → List (List ℕ) → List ℕ → Store
store_of at parts open_numbers = record { parts = parts_of at parts; open_part = ops_of at open_numbers }

-- the numbers that are listed for an id have this one
abbrev pub has_listed : Option (BTreeSet ℕ) → ℕ → Bool
has_listed numbers n = option_map_or (λ (s : BTreeSet ℕ). list_any (is_at (nat_cmp n)) s.keys) numbers false

abbrev pub listed : List (List ℕ × BTreeSet ℕ) → List ℕ → ℕ → Bool
listed ids id n = has_listed (lookup (is_at (slice_cmp nat_cmp id)) ids) n

-- an operation is kept under this number, and is about this id
abbrev pub keeps_about : (ℕ → Option Operation) → List ℕ → ℕ → Bool
keeps_about at id n = option_map_or (is_about id) (at n) false

abbrev pub one : Bool → ℕ
one true = 1
one false = 0

-- how often a number stands in a list
abbrev pub times : ℕ → List ℕ → ℕ
times n [] = 0
times n (x ∷ xs) = one (x == n) + times n xs

-- each operation is kept under its own number, which stands in exactly one part, and no other number stands in any
pub record IsFiled (at : ℕ → Option Operation) (parts : List (List ℕ)) (open_numbers : List ℕ) : Type 0 where
  pub own : (n : ℕ) (op : Operation) → at n ≡ Some op → op.seq ≡ n
  pub once : (n : ℕ) → times n (numbers_of parts open_numbers) ≡ one (is_some (at n))

-- the numbers that are listed for each id are those of the operations about it
pub record IsListed (at : ℕ → Option Operation) (ids : List (List ℕ × BTreeSet ℕ)) : Type 0 where
  pub about : (id : List ℕ) (n : ℕ) → listed ids id n ≡ keeps_about at id n

-- how many bytes operations take
abbrev pub bytes_of : List Operation → ℕ
bytes_of [] = 0
bytes_of (op ∷ ops) = size_of op + bytes_of ops

-- a closed part: the numbers of its operations, and how many bytes their segment takes
pub record Closed : Type 0 where
  pub numbers : List ℕ
  pub bytes : ℕ

-- how large it is
abbrev pub part_size : Closed → PartSize
part_size part = record { ops = length part.numbers; bytes = part.bytes }

-- the lists of numbers of closed parts
abbrev pub lists_of : List Closed → List (List ℕ)
lists_of parts = map {A = Closed} {B = List ℕ} (λ part. part.numbers) parts

-- the numbers strictly ascend, from least at the earliest
abbrev pub Ascend : ℕ → List ℕ → Type 0
Ascend least [] = Unit {0}
Ascend least (n ∷ ns) = (least ≤ n) × Ascend (n + 1) ns

-- a part has its numbers in order, and the length of its segment
pub record IsClosed (at : ℕ → Option Operation) (part : Closed) : Type 0 where
  pub order : Ascend 0 part.numbers
  pub bytes : part.bytes ≡ length (segment_of_ops (ops_of at part.numbers))

pub record IsKept (ops : List (ℕ × Operation)) (parts : List Closed) (open_numbers : List ℕ) (ids : List (List ℕ × BTreeSet ℕ)) : Type 0 where
  pub filed : IsFiled (kept_at ops) (lists_of parts) open_numbers
  pub lists : IsListed (kept_at ops) ids
  pub closed : AllByRecursion (IsClosed (kept_at ops)) parts

-- the greatest number that is listed for an id, or none
abbrev pub IsGreatest : (ℕ → Bool) → Option ℕ → Type 0
IsGreatest has found = MatchOption found ((n : ℕ) → has n ≡ false) (λ n. (has n ≡ true) × ((k : ℕ) → has k ≡ true → k ≤ n))

-- an operation of a new number was taken into the open part
pub record IsTaken (op : Operation) (old new : List (ℕ × Operation)) (before after : List ℕ) : Type 0 where
  pub puts : (q : ℕ) → kept_at new q ≡ cond (is_at (nat_cmp op.seq) q) (Some op) (kept_at old q)
  pub numbers : after ≡ insert_key nat_cmp before op.seq

-- nothing was taken
pub record IsLeft (old new : List (ℕ × Operation)) (before after : List ℕ) : Type 0 where
  pub same : (q : ℕ) → kept_at new q ≡ kept_at old q
  pub numbers : after ≡ before

-- whether some number passes a test
abbrev pub IsSomeSuch : (ℕ → Bool) → Bool → Type 0
IsSomeSuch test b = MatchBool b ((k : ℕ) × (test k ≡ true)) ((k : ℕ) → test k ≡ false)

-- the lists of ids are those of the operations that are kept, each of which has its number among these
pub record IsIndexed (at : ℕ → Option Operation) (numbers : List ℕ) (ids : List (List ℕ × BTreeSet ℕ)) : Type 0 where
  pub own : (n : ℕ) (op : Operation) → at n ≡ Some op → op.seq ≡ n
  pub covers : (n : ℕ) → is_some (at n) ≡ true → 1 ≤ times n numbers
  pub lists : IsListed at ids

-- what was made of what is kept, where some numbers were dropped
abbrev pub IsWithout : List ℕ → (ℕ → Option Operation) → (ℕ → Option Operation) → Type 0
IsWithout drops old new = (q : ℕ) → new q ≡ (if is_among drops q then None else old q)

-- the numbers of the parts whose places pass a test, the first of which has this place
abbrev pub picked_numbers : (ℕ → Bool) → ℕ → List (List ℕ) → List ℕ
picked_numbers test place [] = []
picked_numbers test place (part ∷ parts) = if test place then part ++ picked_numbers test (place + 1) parts else picked_numbers test (place + 1) parts

-- these keys with more, each at its place in the order
abbrev pub with_keys : List ℕ → List ℕ → List ℕ
with_keys keys [] = keys
with_keys keys (n ∷ more) = with_keys (insert_key nat_cmp keys n) more

-- one part of these numbers, if there are any
abbrev pub part_if_any : Option (List ℕ) → List (List ℕ)
part_if_any None = []
part_if_any (Some []) = []
part_if_any (Some (n ∷ ns)) = (n ∷ ns) ∷ []

-- the parts, where those whose places pass the test are one at the least of these
abbrev pub joined_numbers : (ℕ → Bool) → ℕ → Option (List ℕ) → List (List ℕ) → List (List ℕ)
joined_numbers test place left [] = []
joined_numbers test place left (part ∷ parts) =
    if test place then part_if_any left ++ joined_numbers test (place + 1) None parts
    else part ∷ joined_numbers test (place + 1) left parts

-- one part, if it has any number
abbrev pub closed_if_any : Option Closed → List Closed
closed_if_any None = []
closed_if_any (Some part) = if length part.numbers == 0 then [] else part ∷ []

-- the parts, where those whose places pass the test are one at the least of these
abbrev pub joined_parts : (ℕ → Bool) → ℕ → Option Closed → List Closed → List Closed
joined_parts test place left [] = []
joined_parts test place left (part ∷ parts) =
    if test place then closed_if_any left ++ joined_parts test (place + 1) None parts
    else part ∷ joined_parts test (place + 1) left parts

-- the numbers below a bound
abbrev pub below : ℕ → List ℕ → List ℕ
below bound numbers = filter (λ n. nat_lt n bound) numbers

-- each list cut at a bound; one that this empties goes
abbrev pub cut_lists : ℕ → List (List ℕ) → List (List ℕ)
cut_lists bound [] = []
cut_lists bound (part ∷ parts) = part_if_any (Some (below bound part)) ++ cut_lists bound parts

-- the operations below a count, as a list for each list of numbers that has any
abbrev pub files_of : (ℕ → Option Operation) → ℕ → List (List ℕ) → List (List Operation)
files_of at count [] = []
files_of at count (part ∷ parts) = one_part (filter (λ op. nat_lt op.seq count) (ops_of at part)) ++ files_of at count parts

-- the bytes of files
abbrev pub contents_of : List (Vec ℕ Global) → List (List ℕ)
contents_of files = map {A = Vec ℕ Global} {B = List ℕ} (λ file. file.items) files

-- what is kept below a number, and nothing else
abbrev pub IsBelow : ℕ → (ℕ → Option Operation) → (ℕ → Option Operation) → Type 0
IsBelow bound old new = (q : ℕ) → new q ≡ (if nat_lt q bound then old q else None)

-- the operation of the least number that is held at or above n, or none
abbrev pub IsNext : ℕ → List Operation → Option Operation → Type 0
IsNext n ops found =
    MatchOption found ((k : ℕ) → n ≤ k → has_number ops k ≡ false)
    (λ op. (op_at op.seq ops ≡ Some op) × (n ≤ op.seq) × ((k : ℕ) → n ≤ k → has_number ops k ≡ true → op.seq ≤ k))

-- an id comes after this one; each does where there is none
abbrev pub IsAfter : Option (List ℕ) → List ℕ → Type 0
IsAfter None id = Unit {0}
IsAfter (Some from) id = slice_cmp nat_cmp from id ≡ Less

-- of the ids after this one that have a live document, the operation is the least one's
pub record IsFirstLive (ops : List Operation) (from : Option (List ℕ)) (op : Operation) : Type 0 where
  pub id : List ℕ
  pub about : id_of op.kind ≡ Some id
  pub is_live : live ops id ≡ Some op
  pub after : IsAfter from id
  pub least : (other : List ℕ) → IsAfter from other → slice_cmp nat_cmp other id ≡ Less → live ops other ≡ None

-- the operation of the least id after this one that has a live document, or none
abbrev pub IsNextLive : List Operation → Option (List ℕ) → Option Operation → Type 0
IsNextLive ops from found = MatchOption found ((id : List ℕ) → IsAfter from id → live ops id ≡ None) (IsFirstLive ops from)

-- the live operation about the first of these ids that has one
abbrev pub first_live : List Operation → List (List ℕ) → Option Operation
first_live ops [] = None
first_live ops (id ∷ ids) = option_or (live ops id) (first_live ops ids)

-- a place is among the picks
abbrev pub is_pick : List ℕ → ℕ → Bool
is_pick picks place = list_any (λ pick. pick == place) picks

-- ---- a store from files

-- the numbers of operations
abbrev pub numbers_in : List Operation → List ℕ
numbers_in ops = map {A = Operation} {B = ℕ} (λ op. op.seq) ops

-- the operations of all files
abbrev pub all_of : List (List Operation) → List Operation
all_of files = flat_map {X = List Operation} {A = Operation} (λ file. file) files

-- the closed part of a file's operations
abbrev pub closed_of : List Operation → Closed
closed_of file = record { numbers = numbers_in file; bytes = length (segment_of_ops file) }

-- no number stands twice
abbrev pub AreOnce : List Operation → Type 0
AreOnce ops = (n : ℕ) → count_by (λ op. op.seq == n) ops ≤ 1

-- these operations are kept, each under its number and listed for its id, and no others
pub record IsHolding (all : List Operation) (ops : List (ℕ × Operation)) (ids : List (List ℕ × BTreeSet ℕ)) : Type 0 where
  pub kept : (n : ℕ) → kept_at ops n ≡ op_at n all
  pub lists : IsListed (kept_at ops) ids
