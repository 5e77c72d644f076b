-- Walks over the replicas: what is left of a list, and what a loop over it has found.
use Rattle.std.specs.Prelude.{find, filter, is_some}
use Rattle.std.specs.Option.{option_map, option_map_or}
use Rattle.std.specs.List.{list_all, range_with_len}
use Rattle.std.proofs.Common.{◌≡◌, ℕ, zero, suc, ◌+◌, ◌-◌, ◌<◌, ◌≤◌, ◌==◌, ◌&&◌, Bool, true, false, not, min, max, cond, if◌then◌else◌, Option, Some, None, List, [], ◌∷◌, ◌++◌, length, map, take, drop, refl, sym, ◌∙◌, ap, subst, append_assoc, arith}
use Rattle.ccr_lease.specs.declared.retention.Lease.{Lease}
use Rattle.ccr_op.specs.Operation.{Operation}
use Rattle.ccr_tracker.specs.Numbers.{Numbers, has}
use Rattle.ccr_model.specs.Stores.{Store, capped, merged}
use Rattle.ccr_model.specs.Copies.{Copy, Replica, Copies, greatest, least_known, new_copy, replica_in_step, status_of, statuses_of}
use Rattle.ccr_journal.specs.declared.statuses.CopyStatus.{CopyStatus}
use Rattle.ccr_model.specs.CopyRows.{after_merge, merge_bound, risen_floor}
use Rattle.ccr_model.specs.FollowerRows.{has_all, least_number}
use Rattle.ccr_copies.specs.Changes.{filed_copy}

-- ---- the cap of a number by leases

capped-min : (leases : List Lease) (m n : ℕ) → capped leases (min n m) ≡ min m (capped leases n)
capped-min [] m n = omega arith
capped-min (lease ∷ leases) m n = let rest : capped leases (min n m) ≡ min m (capped leases n) = capped-min leases m n in omega arith

pub capped-turn : (lease : Lease) (rest : List Lease) (all : List Lease) (n least total : ℕ) → all ≡ lease ∷ rest → least ≡ min n lease.number → capped all n ≡ total → capped rest least ≡ total
capped-turn lease rest all n least total is smaller before =
    ap (capped rest) smaller ∙ (capped-min rest lease.number n ∙ sym (ap (λ (ls : List Lease). capped ls n) is) ∙ before)

-- the floor and what is held after a merge are those of the model's copy
pub copy-merged : (retention : ℕ) (picks : List ℕ) (c : Copy) (floor : ℕ) (store : Store) → floor ≡ risen_floor retention c → store ≡ merged picks (merge_bound retention c) c.global c.store
    → ◌≡◌ {A = Copy} (record c { floor = floor; store = store }) (after_merge retention picks c)
copy-merged retention picks c floor store floor_is store_is =
    ap (λ (f : ℕ). record c { floor = f; store = store }) floor_is ∙ ap (λ (s : Store). record c { floor = risen_floor retention c; store = s }) store_is

-- ---- the least known count

known-min : (rs : List Replica) (m n : ℕ) → least_known (min n m) rs ≡ min m (least_known n rs)
known-min [] m n = omega arith
known-min (r ∷ rs) m n = let rest : least_known (min n m) rs ≡ min m (least_known n rs) = known-min rs m n in omega arith

pub known-turn : (r : Replica) (rest all : List Replica) (n least total : ℕ) → all ≡ r ∷ rest → least ≡ min n r.known → least_known n all ≡ total → least_known least rest ≡ total
known-turn r rest all n least total is smaller before =
    ap (λ (k : ℕ). least_known k rest) smaller ∙ (known-min rest r.known n ∙ (sym (ap (λ (rs : List Replica). least_known n rs) is) ∙ before))

-- ---- the greatest floor

abbrev pub floors_of : List Replica → List ℕ
floors_of rs = map {A = Replica} {B = ℕ} (λ r. r.copy.floor) rs

pub greatest-turn : (r : Replica) (rest all : List Replica) (n most total : ℕ) → all ≡ r ∷ rest → most ≡ max n r.copy.floor → greatest (n ∷ floors_of all) ≡ total → greatest (most ∷ floors_of rest) ≡ total
greatest-turn r rest all n most total is larger before =
    grouped ∙ (sym (ap (λ (rs : List Replica). greatest (n ∷ floors_of rs)) is) ∙ before)
  where
    grouped : max most (greatest (floors_of rest)) ≡ max n (max r.copy.floor (greatest (floors_of rest)))
    grouped = let e : most ≡ max n r.copy.floor = larger in omega arith

pub floors-two : (rs : List Replica) → map {A = Copy} {B = ℕ} (λ c. c.floor) (map {A = Replica} {B = Copy} (λ r. r.copy) rs) ≡ floors_of rs
floors-two [] = refl
floors-two (r ∷ rs) = ap (λ (ns : List ℕ). r.copy.floor ∷ ns) (floors-two rs)

drop-whole : {X : Type 0} (n : ℕ) (xs : List X) → n ≡ length xs → drop n xs ≡ []
drop-whole n xs is = ap (λ (k : ℕ). drop k xs) is ∙ all xs
  where
    all : {X : Type 0} (xs : List X) → drop (length xs) xs ≡ []
    all [] = refl
    all (x ∷ xs) = all xs

take-whole : {X : Type 0} (n : ℕ) (xs : List X) → n ≡ length xs → take n xs ≡ xs
take-whole n xs is = ap (λ (k : ℕ). take k xs) is ∙ all xs
  where
    all : {X : Type 0} (xs : List X) → take (length xs) xs ≡ xs
    all [] = refl
    all (x ∷ xs) = ap (λ ys. x ∷ ys) (all xs)

none-behind : {X : Type 0} (xs : List X) → xs ++ [] ≡ xs
none-behind [] = refl
none-behind (x ∷ xs) = ap (λ ys. x ∷ ys) (none-behind xs)

-- a list whose elements were all written over
pub overwritten : {X : Type 0} (len : ℕ) (ys xs : List X) → length ys ≡ length xs → len ≡ length xs → take len (ys ++ drop (length ys) xs) ≡ ys
overwritten len ys xs same whole =
    ap (λ zs. take len (ys ++ zs)) (drop-whole (length ys) xs same)
    ∙ (ap (λ zs. take len zs) (none-behind ys) ∙ take-whole len ys (whole ∙ sym same))

pub map-length : (f : Replica → Replica) (rs : List Replica) → length (map {A = Replica} {B = Replica} f rs) ≡ length rs
map-length f [] = refl
map-length f (r ∷ rs) = ap (λ (n : ℕ). suc n) (map-length f rs)

-- ---- the first of a kind

pub find-turn : {X : Type 0} (test : X → Bool) (x : X) (rest all : List X) (found : Option X) → all ≡ x ∷ rest → test x ≡ false → find test all ≡ found → find test rest ≡ found
find-turn test x rest all found is fails before = sym (ap (λ b. cond b (Some x) (find test rest)) fails) ∙ (sym (ap (λ xs. find test xs) is) ∙ before)

pub find-here : {X : Type 0} (test : X → Bool) (x : X) (rest all : List X) (found : Option X) → all ≡ x ∷ rest → test x ≡ true → find test all ≡ found → found ≡ Some x
find-here test x rest all found is passes before = sym before ∙ (ap (λ xs. find test xs) is ∙ ap (λ b. cond b (Some x) (find test rest)) passes)

abbrev pub copies_of : List Replica → List Copy
copies_of rs = map {A = Replica} {B = Copy} (λ r. r.copy) rs

-- no element fails a test where each passes it
pub none-fails : (test : Copy → Bool) (cs : List Copy) → not (is_some (option_map {T = Copy} {U = ℕ} (λ c. c.number) (find (λ c. not (test c)) cs))) ≡ list_all test cs
none-fails test [] = refl
none-fails test (c ∷ cs) =
    (elim (test c) as (λ b. not (is_some (option_map {T = Copy} {U = ℕ} (λ x. x.number) (cond (not b) (Some c) (find (λ x. not (test x)) cs)))) ≡ (b && list_all test cs)) [
      | true ↦ none-fails test cs
      | false ↦ refl
    ])

pub turned : (a b : Bool) → a ≡ not b → b ≡ not a
turned a true is = sym (ap not is)
turned a false is = sym (ap not is)

-- ---- the least that lacks something

abbrev pub lesser_of : ℕ → Option ℕ → ℕ
lesser_of n other = option_map_or (λ m. min n m) other n

-- the lesser of two numbers that may be there
abbrev pub merged_least : Option ℕ → Option ℕ → Option ℕ
merged_least None later = later
merged_least (Some n) later = Some (lesser_of n later)

pub least-turn : (number : ℕ) (so_far later : Option ℕ) → merged_least (Some (lesser_of number so_far)) later ≡ merged_least so_far (Some (lesser_of number later))
least-turn number None later = refl
least-turn number (Some n) None = let e : min number n ≡ min n number = omega arith in ap (λ (k : ℕ). Some k) e
least-turn number (Some n) (Some m) = let e : min (min number n) m ≡ min n (min number m) = omega arith in ap (λ (k : ℕ). Some k) e

pub least-end : (so_far : Option ℕ) → merged_least so_far None ≡ so_far
least-end None = refl
least-end (Some n) = refl

-- of the copies of these replicas, the least number of one that has not processed each of the operations
abbrev pub least_lacking : List Operation → List Replica → Option ℕ
least_lacking batch rs = least_number (filter (λ (c : Copy). not (has_all batch c)) (copies_of rs))

pub lacking-none : (batch : List Operation) (r : Replica) (rest : List Replica) → has_all batch r.copy ≡ true → least_lacking batch (r ∷ rest) ≡ least_lacking batch rest
lacking-none batch r rest has = ap (λ b. least_number (if not b then r.copy ∷ filter (λ (c : Copy). not (has_all batch c)) (copies_of rest) else filter (λ (c : Copy). not (has_all batch c)) (copies_of rest))) has

pub lacking-one : (batch : List Operation) (r : Replica) (rest : List Replica) → has_all batch r.copy ≡ false → least_lacking batch (r ∷ rest) ≡ Some (lesser_of r.copy.number (least_lacking batch rest))
lacking-one batch r rest has = ap (λ b. least_number (if not b then r.copy ∷ filter (λ (c : Copy). not (has_all batch c)) (copies_of rest) else filter (λ (c : Copy). not (has_all batch c)) (copies_of rest))) has

-- ---- restored replicas

-- the replica, where it is restored from files, as the primary knows
abbrev pub filed : ℕ → Store → Replica → Replica
filed count store r = record r { copy = filed_copy count store r.copy; known = count }

-- ---- a list that grows

pub grows : {X Y : Type 0} (f : X → Y) (x : X) (rest all : List X) (list next : List Y) (y : Y) (total : List Y) → all ≡ x ∷ rest → y ≡ f x → next ≡ list ++ y ∷ []
    → list ++ map {A = X} {B = Y} f all ≡ total → next ++ map {A = X} {B = Y} f rest ≡ total
grows {X} {Y} f x rest all list next y total is made pushed before =
    ap (λ (ys : List Y). ys ++ map {A = X} {B = Y} f rest) (pushed ∙ ap (λ (z : Y). list ++ z ∷ []) made)
    ∙ (append_assoc list (f x ∷ []) (map {A = X} {B = Y} f rest)
    ∙ (sym (ap (λ (xs : List X). list ++ map {A = X} {B = Y} f xs) is) ∙ before))

pub ends : {Y : Type 0} (list total : List Y) → list ++ [] ≡ total → list ≡ total
ends list total e = sym (append_none list) ∙ e
  where
    append_none : {Y : Type 0} (ys : List Y) → ys ++ [] ≡ ys
    append_none [] = refl
    append_none (y ∷ ys) = ap (λ zs. y ∷ zs) (append_none ys)

statuses-two : (rs : List Replica) → map {A = Copy} {B = CopyStatus} status_of (map {A = Replica} {B = Copy} (λ r. r.copy) rs) ≡ map {A = Replica} {B = CopyStatus} (λ r. status_of r.copy) rs
statuses-two [] = refl
statuses-two (r ∷ rs) = ap (λ (xs : List CopyStatus). status_of r.copy ∷ xs) (statuses-two rs)

-- the primary's status, and behind it those of the replicas
pub statuses-are : (s : Copies) (none first all : List CopyStatus) (status : CopyStatus) (rs : List Replica) → none ≡ [] → first ≡ none ++ status ∷ [] → status ≡ status_of s.primary → rs ≡ s.replicas
    → all ≡ first ++ map {A = Replica} {B = CopyStatus} (λ r. status_of r.copy) rs → all ≡ statuses_of s
statuses-are s none first all status rs empty pushed own are is =
    is
    ∙ (ap (λ (xs : List CopyStatus). xs ++ map {A = Replica} {B = CopyStatus} (λ r. status_of r.copy) rs) (pushed ∙ (ap (λ (xs : List CopyStatus). xs ++ status ∷ []) empty ∙ ap (λ (x : CopyStatus). x ∷ []) own))
    ∙ (ap (λ (qs : List Replica). status_of s.primary ∷ map {A = Replica} {B = CopyStatus} (λ r. status_of r.copy) qs) are
    ∙ ap (λ (xs : List CopyStatus). status_of s.primary ∷ xs) (sym (statuses-two s.replicas))))

-- ---- new copies

range-snoc : (from size : ℕ) → range_with_len from (suc size) ≡ range_with_len from size ++ (from + size) ∷ []
range-snoc from zero = let e : from ≡ from + 0 = omega arith in ap (λ (n : ℕ). n ∷ []) e
range-snoc from (suc size) =
    let e : from + 1 + size ≡ from + suc size = omega arith in
    ap (λ (ns : List ℕ). from ∷ ns) (range-snoc (from + 1) size ∙ ap (λ (n : ℕ). range_with_len (from + 1) size ++ n ∷ []) e)

abbrev pub new_replicas : ℕ → List Replica
new_replicas copies = map {A = ℕ} {B = Replica} (λ number. replica_in_step (new_copy number) 0) (range_with_len 1 (copies - 1))

map-append : {X Y : Type 0} (f : X → Y) (xs ys : List X) → map {A = X} {B = Y} f (xs ++ ys) ≡ map {A = X} {B = Y} f xs ++ map {A = X} {B = Y} f ys
map-append f [] ys = refl
map-append f (x ∷ xs) ys = ap (λ zs. f x ∷ zs) (map-append f xs ys)

pub one-more-copy : (number : ℕ) (list next : List Replica) (new : Replica) → 1 ≤ number → list ≡ new_replicas number → new ≡ replica_in_step (new_copy number) 0 → next ≡ list ++ new ∷ []
    → next ≡ new_replicas (number + 1)
one-more-copy number list next new some is made pushed =
    let size : number + 1 - 1 ≡ suc (number - 1) = omega arith in
    let last : 1 + (number - 1) ≡ number = omega arith in
    pushed
    ∙ (ap (λ (rs : List Replica). rs ++ new ∷ []) is
    ∙ (ap (λ (r : Replica). new_replicas number ++ r ∷ []) made
    ∙ (ap (λ (n : ℕ). new_replicas number ++ replica_in_step (new_copy n) 0 ∷ []) (sym last)
    ∙ (sym (map-append {X = ℕ} {Y = Replica} (λ n. replica_in_step (new_copy n) 0) (range_with_len 1 (number - 1)) ((1 + (number - 1)) ∷ []))
    ∙ (ap (λ (ns : List ℕ). map {A = ℕ} {B = Replica} (λ n. replica_in_step (new_copy n) 0) ns) (sym (range-snoc 1 (number - 1)))
    ∙ ap (λ (n : ℕ). map {A = ℕ} {B = Replica} (λ n. replica_in_step (new_copy n) 0) (range_with_len 1 n)) (sym size))))))
