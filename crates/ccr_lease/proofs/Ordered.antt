-- Leases in the order of their ids.
use Rattle.std.proofs.Common.{◌≡◌, ℕ, ◌<◌, ◌≤◌, ◌+◌, Bool, true, false, cond, not, List, [], ◌∷◌, ◌++◌, map, length, Option, Some, None, get_or, inl, inr, refl, sym, ◌∙◌, ap, arith, zero, suc, take, drop, nat_lt, Ok, Err}
use Rattle.std.specs.List.{AllByRecursion, list_any, slice_get, remove, insert}
use Rattle.std.specs.List.Sorted.{IsStrictlySortedBy, IsPartitionedBy}
use Rattle.std.specs.Ordering.{nat_cmp, is_lt, is_eq, ordering_reverse}
use Rattle.std.specs.declared.cmp.Ordering.{Ordering}
use Rattle.std.specs.declared.cmp.Ordering.TheVariants.{Less, Equal, Greater}
use Rattle.std.specs.Cmp.Lexicographic.{slice_cmp}
use Rattle.std.specs.Str.{bytes_eq}
use Rattle.std.specs.Prelude.{slice_set, if◌then◌else◌}
use Rattle.std.proofs.lemmas.Cmp.{nat_list_cmp_total}
use Rattle.std.proofs.lemmas.Bool.{cases_lt, cond_both, lt-ltb, le-ltb}
use Rattle.std.proofs.lemmas.Option.{slice_get_read, slice_get_past}
use Rattle.std.proofs.lemmas.List.Kept.{IsStrictlySortedBy-filter}
use Rattle.std.proofs.lemmas.Map.Text.{is_eq-slice_cmp}
use Rattle.std.proofs.lemmas.Map.Keys.{Less-from_sorted}
use Rattle.ccr_lease.specs.declared.retention.Lease.{Lease}
use Rattle.ccr_lease.specs.Leases.{Collection, after_expiry, by_id, renewed, Ascend, lease_of, place_of, with_lease, expired, unexpired, has_expired, IsPlace, IsGap}
use Rattle.ccr_lease.specs.Faults.{renewal}
use Rattle.ccr_lease.specs.declared.collection.LeaseFault.TheVariants.{LowNumber}
use Rattle.ccr_lease.proofs.Falling.{Falls, Above, filter-above, IsAt-place, none-at-place, other-at-place}

abbrev pub with_leases : ℕ → ℕ → List Lease → Collection
with_leases term version leases = record { term = term; version = version; leases = leases }

-- whether the id of a lease is below this one
abbrev pub is_below : List ℕ → Lease → Bool
is_below id lease = is_lt (slice_cmp nat_cmp lease.id id)

abbrev pub is_of : List ℕ → Lease → Bool
is_of id lease = bytes_eq lease.id id

-- what an order answers, in the two tests
below-Less : (id : List ℕ) (x : Lease) → slice_cmp nat_cmp x.id id ≡ Less → (is_below id x ≡ true) × (is_of id x ≡ false)
below-Less id x e = (ap is_lt e, sym (is_eq-slice_cmp x.id id) ∙ ap is_eq e)

below-Equal : (id : List ℕ) (x : Lease) → slice_cmp nat_cmp x.id id ≡ Equal → (is_below id x ≡ false) × (is_of id x ≡ true)
below-Equal id x e = (ap is_lt e, sym (is_eq-slice_cmp x.id id) ∙ ap is_eq e)

below-Greater : (id : List ℕ) (x : Lease) → slice_cmp nat_cmp x.id id ≡ Greater → (is_below id x ≡ false) × (is_of id x ≡ false)
below-Greater id x e = (ap is_lt e, sym (is_eq-slice_cmp x.id id) ∙ ap is_eq e)

-- what comes after a lease above an id is above it
Greater-after : (id a b : List ℕ) → slice_cmp nat_cmp a id ≡ Greater → slice_cmp nat_cmp a b ≡ Less → slice_cmp nat_cmp b id ≡ Greater
Greater-after id a b h g =
    let back : slice_cmp nat_cmp id a ≡ Less = nat_list_cmp_total.antisymm id a ∙ ap ordering_reverse h in
    let far : slice_cmp nat_cmp id b ≡ Less = nat_list_cmp_total.trans id a b back g in
    nat_list_cmp_total.antisymm b id ∙ ap ordering_reverse far

Greater-after_Equal : (id a b : List ℕ) → slice_cmp nat_cmp a id ≡ Equal → slice_cmp nat_cmp a b ≡ Less → slice_cmp nat_cmp b id ≡ Greater
Greater-after_Equal id a b h g =
    let far : slice_cmp nat_cmp id b ≡ Less = sym (nat_list_cmp_total.congr a id b h) ∙ g in
    nat_list_cmp_total.antisymm b id ∙ ap ordering_reverse far

Above-after : (id : List ℕ) (x : Lease) → ((b : List ℕ) → slice_cmp nat_cmp x.id b ≡ Less → slice_cmp nat_cmp b id ≡ Greater)
    → (xs : List Lease) → AllByRecursion (λ y. by_id x y ≡ Less) xs → Above (is_below id) (is_of id) xs
Above-after id x after [] h = tt
Above-after id x after (y ∷ ys) h = (below-Greater id y (after y.id h.0), Above-after id x after ys h.1)

Falls-ascend : (id : List ℕ) (xs : List Lease) → Ascend xs → Falls (is_below id) (is_of id) xs
unfolding IsStrictlySortedBy
Falls-ascend id [] up = tt
Falls-ascend id (x ∷ xs) up =
    (elim (slice_cmp nat_cmp x.id id) as (λ o. slice_cmp nat_cmp x.id id ≡ o → Falls (is_below id) (is_of id) (x ∷ xs)) [
      | Less ↦ λ e. let t = below-Less id x e in inl (t.0, t.1, Falls-ascend id xs up.1)
      | Equal ↦ λ e. inr ((below-Equal id x e).0, Above-after id x (λ b. Greater-after_Equal id x.id b e) xs up.0)
      | Greater ↦ λ e. inr ((below-Greater id x e).0, Above-after id x (λ b. Greater-after id x.id b e) xs up.0)
    ]) refl

Some-same : {x y : Lease} → Some x ≡ Some y → x ≡ y
Some-same e = cc

Less-lt : (o : Ordering) → is_lt o ≡ true → o ≡ Less
Less-lt Less h = refl
Less-lt Equal h = cc
Less-lt Greater h = cc

-- the leases below an id come first
pub partitioned : (id : List ℕ) (xs : List Lease) → Ascend xs → IsPartitionedBy (is_below id) xs
partitioned id xs up i j d le lt h =
    elim (cases_lt i j) [
      | inl less ↦
          let first : slice_cmp nat_cmp (get_or xs i d).id (get_or xs j d).id ≡ Less = Less-from_sorted by_id xs i j d up less lt in
          ap is_lt (nat_list_cmp_total.trans (get_or xs i d).id (get_or xs j d).id id first (Less-lt _ h))
      | inr more ↦ let e : i ≡ j = omega arith in rw e h
    ]

pub IsPlace-at : (id : List ℕ) (xs : List Lease) (n : ℕ) (lease : Lease) → n ≡ place_of id xs → Ascend xs → n < length xs → lease ≡ get_or xs n lease → bytes_eq lease.id id ≡ true → IsPlace id n xs
IsPlace-at id xs n lease is up lt read e =
    let got : slice_get xs n ≡ Some lease = slice_get_read xs (length xs) n lease refl lt read in
    let got' : slice_get xs (place_of id xs) ≡ Some lease = rw is at got in
    let h = IsAt-place (is_below id) (is_of id) xs lease (Falls-ascend id xs up) got' e in
    let changed : (f : Lease → Lease) → slice_set xs n (f lease) ≡ map {A = Lease} {B = Lease} (λ other. if bytes_eq other.id id then f other else other) xs = λ f. ap (λ k. slice_set xs k (f lease)) is ∙ h.changed f in
    record {
      low = lt;
      found = h.found ∙ sym got;
      changed = λ f other o. let same : other ≡ lease = Some-same (sym o ∙ h.found) in rw same (changed f);
      taken = ap (λ k. remove xs k) is ∙ h.taken;
    }

pub IsGap-past : (id : List ℕ) (xs : List Lease) (n : ℕ) → n ≡ place_of id xs → Ascend xs → n ≤ length xs → length xs ≤ n → IsGap id n xs
IsGap-past id xs n is up low le =
    let got : slice_get xs n ≡ None = slice_get_past xs n le in
    let got' : slice_get xs (place_of id xs) ≡ None = rw is at got in
    record { low = low; none = none-at-place (is_below id) (is_of id) xs (Falls-ascend id xs up) got'; first = is }

pub IsGap-other : (id : List ℕ) (xs : List Lease) (n : ℕ) (lease : Lease) → n ≡ place_of id xs → Ascend xs → n < length xs → lease ≡ get_or xs n lease → bytes_eq lease.id id ≡ false → IsGap id n xs
IsGap-other id xs n lease is up lt read e =
    let got : slice_get xs n ≡ Some lease = slice_get_read xs (length xs) n lease refl lt read in
    let got' : slice_get xs (place_of id xs) ≡ Some lease = rw is at got in
    record { low = omega arith; none = other-at-place (is_below id) (is_of id) xs lease (Falls-ascend id xs up) got' e; first = is }

-- what is read at the place is the lease
pub found_at : (id : List ℕ) (n : ℕ) (xs : List Lease) (lease : Lease) → IsPlace id n xs → lease ≡ get_or xs n lease → lease_of id xs ≡ Some lease
found_at id n xs lease at read =
    let lt : n < length xs = at.low in
    at.found ∙ slice_get_read xs (length xs) n lease refl lt read

pub Ascend-nil : Ascend []
unfolding IsStrictlySortedBy
Ascend-nil = tt

-- a change that leaves the ids alone keeps the order
All-map_ids : (g : Lease → Lease) → ((l : Lease) → (g l).id ≡ l.id) → (x : Lease) (xs : List Lease) → AllByRecursion (λ y. by_id x y ≡ Less) xs → AllByRecursion (λ y. by_id (g x) y ≡ Less) (map g xs)
All-map_ids g same x [] h = tt
All-map_ids g same x (y ∷ ys) h = (ap (λ k. slice_cmp nat_cmp k (g y).id) (same x) ∙ (ap (λ k. slice_cmp nat_cmp x.id k) (same y) ∙ h.0), All-map_ids g same x ys h.1)

Ascend-map : (g : Lease → Lease) → ((l : Lease) → (g l).id ≡ l.id) → (xs : List Lease) → Ascend xs → Ascend (map g xs)
unfolding IsStrictlySortedBy
Ascend-map g same [] up = tt
Ascend-map g same (x ∷ xs) up = (All-map_ids g same x xs up.0, Ascend-map g same xs up.1)

Ascend-renewed : (id : List ℕ) (number stamp : ℕ) (xs : List Lease) → Ascend xs → Ascend (renewed id number stamp xs)
Ascend-renewed id number stamp xs up =
    let g : Lease → Lease = λ other. if bytes_eq other.id id then record other { number = number; stamp = stamp } else other in
    Ascend-map g (λ l. cond_both (bytes_eq l.id id) (record l { number = number; stamp = stamp }) l (λ m. m.id ≡ l.id) (λ _. refl) (λ _. refl)) xs up

-- what stands at the place becomes the renewed lease
renewed-at : (id : List ℕ) (n number stamp : ℕ) (xs : List Lease) (lease : Lease) → IsPlace id n xs → lease ≡ get_or xs n lease
    → slice_set xs n (record { id = lease.id; number = number; stamp = stamp }) ≡ renewed id number stamp xs
renewed-at id n number stamp xs lease at read = at.changed (λ l. record l { number = number; stamp = stamp }) lease (found_at id n xs lease at read)

pub renewed-view : (id : List ℕ) (n number stamp : ℕ) (a b : Collection) → a ≡ b → (lease : Lease) → IsPlace id n a.leases → lease ≡ get_or a.leases n lease
    → with_leases a.term (a.version + 1) (slice_set a.leases n (record { id = lease.id; number = number; stamp = stamp })) ≡ with_leases b.term (b.version + 1) (renewed id number stamp b.leases)
renewed-view id n number stamp a b e lease at read =
    ap (with_leases a.term (a.version + 1)) (renewed-at id n number stamp a.leases lease at read)
    ∙ ap (λ (c : Collection). with_leases c.term (c.version + 1) (renewed id number stamp c.leases)) e

-- the answer to a renewal of a lease that stands
pub renewal-low : (number : ℕ) (o : Option Lease) (lease : Lease) → o ≡ Some lease → number < lease.number → Err (LowNumber lease.number) ≡ renewal number o
renewal-low number o lease e lt = let t : nat_lt number lease.number ≡ true = lt-ltb number lease.number lt in rw e (rw t refl)

pub renewal-ok : (number : ℕ) (o : Option Lease) (lease : Lease) → o ≡ Some lease → lease.number ≤ number → Ok tt ≡ renewal number o
renewal-ok number o lease e le = let t : nat_lt number lease.number ≡ false = le-ltb number lease.number le in rw e (rw t refl)

pub Ascend-either : (b : Bool) (xs ys : List Lease) → Ascend xs → Ascend ys → Ascend (cond b xs ys)
Ascend-either true xs ys h k = h
Ascend-either false xs ys h k = k

pub Ascend-taken : (id : List ℕ) (n : ℕ) (xs : List Lease) → IsPlace id n xs → Ascend xs → Ascend (remove xs n)
Ascend-taken id n xs at up = rw at.taken (IsStrictlySortedBy-filter by_id (λ lease. not (bytes_eq lease.id id)) xs up)

pub Ascend-changed : (id : List ℕ) (n number stamp : ℕ) (xs : List Lease) (lease : Lease) → IsPlace id n xs → lease ≡ get_or xs n lease → Ascend xs
    → Ascend (slice_set xs n (record { id = lease.id; number = number; stamp = stamp }))
Ascend-changed id n number stamp xs lease at read up = rw (renewed-at id n number stamp xs lease at read) (Ascend-renewed id number stamp xs up)

pub Ascend-unexpired : (now period : ℕ) (xs : List Lease) → Ascend xs → Ascend (unexpired now period xs)
Ascend-unexpired now period xs up = IsStrictlySortedBy-filter by_id (λ lease. not (has_expired now period lease)) xs up

-- whether any has expired shows in what is told
pub expired_none : (now period : ℕ) (xs : List Lease) → length (expired now period xs) ≡ 0 → list_any (has_expired now period) xs ≡ false
expired_none now period [] h = refl
expired_none now period (x ∷ xs) h =
    (elim (has_expired now period x) as (λ b. has_expired now period x ≡ b → list_any (has_expired now period) (x ∷ xs) ≡ false) [
      | true ↦ λ e. let no : suc (length (expired now period xs)) ≡ 0 = rw e at h in absurd (omega arith)
      | false ↦ λ e. let h' : length (expired now period xs) ≡ 0 = rw e at h in rw e (expired_none now period xs h')
    ]) refl

expired_some : (now period : ℕ) (xs : List Lease) → 0 < length (expired now period xs) → list_any (has_expired now period) xs ≡ true
expired_some now period [] h = absurd (omega arith)
expired_some now period (x ∷ xs) h =
    (elim (has_expired now period x) as (λ b. has_expired now period x ≡ b → list_any (has_expired now period) (x ∷ xs) ≡ true) [
      | true ↦ λ e. rw e
      | false ↦ λ e. let h' : 0 < length (expired now period xs) = rw e at h in rw e (expired_some now period xs h')
    ]) refl

pub after_expiry-some : (now period : ℕ) (c : Collection) (ys : List Lease) → ys ≡ unexpired now period c.leases → 0 < length (expired now period c.leases)
    → record { term = c.term; version = c.version + 1; leases = ys } ≡ after_expiry now period c
after_expiry-some now period c ys e some =
    let any = expired_some now period c.leases some in
    rw any (ap (λ xs. let d : Collection = record { term = c.term; version = c.version + 1; leases = xs } in d) e)

-- what holds of each lease holds of each with one more
All-insert : (R : Lease → Type 0) (lease : Lease) → R lease → (n : ℕ) (xs : List Lease) → AllByRecursion R xs → AllByRecursion R (take n xs ++ lease ∷ drop n xs)
All-insert R lease r zero xs h = (r, h)
All-insert R lease r (suc n) [] h = (r, tt)
All-insert R lease r (suc n) (x ∷ xs) h = (h.0, All-insert R lease r n xs h.1)

-- what is after one that is greater is greater
All-after : (lease x : Lease) → slice_cmp nat_cmp lease.id x.id ≡ Less → (xs : List Lease) → AllByRecursion (λ y. by_id x y ≡ Less) xs → AllByRecursion (λ y. by_id lease y ≡ Less) xs
All-after lease x e [] h = tt
All-after lease x e (y ∷ ys) h = (nat_list_cmp_total.trans lease.id x.id y.id e h.0, All-after lease x e ys h.1)

Ascend-with_lease : (lease : Lease) (xs : List Lease) → Ascend xs → lease_of lease.id xs ≡ None → Ascend (with_lease lease xs)
unfolding IsStrictlySortedBy
Ascend-with_lease lease [] up none = (tt, tt)
Ascend-with_lease lease (x ∷ xs) up none =
    (elim (slice_cmp nat_cmp x.id lease.id) as (λ o. slice_cmp nat_cmp x.id lease.id ≡ o → Ascend (with_lease lease (x ∷ xs))) [
      | Less ↦ λ e.
          let t = below-Less lease.id x e in
          let b = t.0 in
          let a = t.1 in
          let none' : lease_of lease.id xs ≡ None = rw a at none in
          rw b (All-insert (λ y. by_id x y ≡ Less) lease e (place_of lease.id xs) xs up.0, Ascend-with_lease lease xs up.1 none')
      | Equal ↦ λ e. let t = below-Equal lease.id x e in let a = t.1 in let no : Some x ≡ None = rw a at none in cc
      | Greater ↦ λ e.
          let t = below-Greater lease.id x e in
          let b = t.0 in
          let rest = filter-above (is_below lease.id) (is_of lease.id) xs (Above-after lease.id x (λ k. Greater-after lease.id x.id k e) xs up.0) in
          let first : place_of lease.id (x ∷ xs) ≡ 0 = rw b (rw rest) in
          let less : slice_cmp nat_cmp lease.id x.id ≡ Less = nat_list_cmp_total.antisymm lease.id x.id ∙ ap ordering_reverse e in
          rw first ((less, All-after lease x less xs up.0), up)
    ]) refl

pub Ascend-added : (lease : Lease) (n : ℕ) (xs : List Lease) → IsGap lease.id n xs → Ascend xs → Ascend (insert xs n lease)
Ascend-added lease n xs gap up = let e = gap.first in rw e (Ascend-with_lease lease xs up gap.none)
