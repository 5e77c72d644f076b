-- First matches in lists of reads and writes, by their places.
use Rattle.std.proofs.Common.{◌≡◌, ℕ, ◌<◌, ◌≤◌, ◌+◌, ◌-◌, ◌==◌, nat_lt, zero, suc, Bool, true, false, cond, if◌then◌else◌, List, [], ◌∷◌, ◌++◌, length, take, drop, get_or, set, map, Some, None, refl, sym, ◌∙◌, ap, subst, arith}
use Rattle.std.specs.List.{position_from, remove, insert, fold, filter}
use Rattle.ccr_model.specs.Requests.{on_its_way, is_due}
use Rattle.ccr_model.specs.Tasks.{Read, Write, changed_read, changed_write, without_read, without_write, by_request}
use Rattle.ccr_task.specs.Ordering.{place_after}

-- a change of the first element that passes the test
record IsChange {X : Type 0} (test : X → Bool) (f : X → X) (change : List X → List X) : Type 0 where
  none : change [] ≡ []
  some : (x : X) (xs : List X) → change (x ∷ xs) ≡ (if test x then f x ∷ xs else x ∷ change xs)

record IsRemoval {X : Type 0} (test : X → Bool) (change : List X → List X) : Type 0 where
  none : change [] ≡ []
  some : (x : X) (xs : List X) → change (x ∷ xs) ≡ (if test x then xs else x ∷ change xs)

unchanged : {X : Type 0} (test : X → Bool) (f : X → X) (change : List X → List X) (is : IsChange test f change) (k : ℕ) (xs : List X) → position_from test k xs ≡ None → change xs ≡ xs
unchanged test f change is k [] none = is.none
unchanged {X} test f change is k (x ∷ xs) none =
    is.some x xs ∙ (elim (test x) as (λ b. cond b (Some k) (position_from test (k + 1) xs) ≡ None → (if b then f x ∷ xs else x ∷ change xs) ≡ x ∷ xs) [
      | true ↦ λ found. cc
      | false ↦ λ rest. ap (λ (ys : List X). x ∷ ys) (unchanged test f change is (k + 1) xs rest)
    ]) none

unremoved : {X : Type 0} (test : X → Bool) (change : List X → List X) (is : IsRemoval test change) (k : ℕ) (xs : List X) → position_from test k xs ≡ None → change xs ≡ xs
unremoved test change is k [] none = is.none
unremoved {X} test change is k (x ∷ xs) none =
    is.some x xs ∙ (elim (test x) as (λ b. cond b (Some k) (position_from test (k + 1) xs) ≡ None → (if b then xs else x ∷ change xs) ≡ x ∷ xs) [
      | true ↦ λ found. cc
      | false ↦ λ rest. ap (λ (ys : List X). x ∷ ys) (unremoved test change is (k + 1) xs rest)
    ]) none

-- what stands at a place that was found, and how much is left to it
record IsChanged {X : Type 0} (f : X → X) (xs ys : List X) (k i : ℕ) (d : X) : Type 0 where
  reached : k ≤ i
  is : ys ≡ set xs (i - k) (f (get_or xs (i - k) d))

record IsRemoved {X : Type 0} (xs ys : List X) (k i : ℕ) : Type 0 where
  reached : k ≤ i
  is : ys ≡ remove xs (i - k)

changed : {X : Type 0} (test : X → Bool) (f : X → X) (change : List X → List X) (is : IsChange test f change) (k i : ℕ) (d : X) (xs : List X) → position_from test k xs ≡ Some i → IsChanged f xs (change xs) k i d
changed test f change is k i d [] found = absurd (cc)
changed {X} test f change is k i d (x ∷ xs) found =
    subst (λ (ys : List X). IsChanged f (x ∷ xs) ys k i d) (sym (is.some x xs))
    ((elim (test x) as (λ b. cond b (Some k) (position_from test (k + 1) xs) ≡ Some i → IsChanged f (x ∷ xs) (if b then f x ∷ xs else x ∷ change xs) k i d) [
      | true ↦ λ here.
          let same : k ≡ i = cc in
          let none : i - k ≡ 0 = omega arith in
          record { reached = omega arith; is = ap (λ (n : ℕ). set (x ∷ xs) n (f (get_or (x ∷ xs) n d))) (sym none) }
      | false ↦ λ later.
          let rest = changed test f change is (k + 1) i d xs later in
          let low : k + 1 ≤ i = rest.reached in
          let one_more : i - k ≡ suc (i - (k + 1)) = omega arith in
          record { reached = omega arith; is = ap (λ (ys : List X). x ∷ ys) rest.is ∙ ap (λ (n : ℕ). set (x ∷ xs) n (f (get_or (x ∷ xs) n d))) (sym one_more) }
    ]) found)

removed : {X : Type 0} (test : X → Bool) (change : List X → List X) (is : IsRemoval test change) (k i : ℕ) (xs : List X) → position_from test k xs ≡ Some i → IsRemoved xs (change xs) k i
removed test change is k i [] found = absurd (cc)
removed {X} test change is k i (x ∷ xs) found =
    subst (λ (ys : List X). IsRemoved (x ∷ xs) ys k i) (sym (is.some x xs))
    ((elim (test x) as (λ b. cond b (Some k) (position_from test (k + 1) xs) ≡ Some i → IsRemoved (x ∷ xs) (if b then xs else x ∷ change xs) k i) [
      | true ↦ λ here.
          let same : k ≡ i = cc in
          let none : i - k ≡ 0 = omega arith in
          record { reached = omega arith; is = ap (λ (n : ℕ). remove (x ∷ xs) n) (sym none) }
      | false ↦ λ later.
          let rest = removed test change is (k + 1) i xs later in
          let low : k + 1 ≤ i = rest.reached in
          let one_more : i - k ≡ suc (i - (k + 1)) = omega arith in
          record { reached = omega arith; is = ap (λ (ys : List X). x ∷ ys) rest.is ∙ ap (λ (n : ℕ). remove (x ∷ xs) n) (sym one_more) }
    ]) found)

within : {X : Type 0} (test : X → Bool) (k i : ℕ) (xs : List X) → position_from test k xs ≡ Some i → (k ≤ i) × (i < k + length xs)
within test k i [] found = absurd (cc)
within test k i (x ∷ xs) found =
    (elim (test x) as (λ b. cond b (Some k) (position_from test (k + 1) xs) ≡ Some i → (k ≤ i) × (i < k + suc (length xs))) [
      | true ↦ λ here. let same : k ≡ i = cc in (omega arith, omega arith)
      | false ↦ λ later. let rest : (k + 1 ≤ i) × (i < k + 1 + length xs) = within test (k + 1) i xs later in
          let low : k + 1 ≤ i = rest.0 in let high : i < k + 1 + length xs = rest.1 in (omega arith, omega arith)
    ]) found

-- ---- reads

pub place-within : (request i : ℕ) (reads : List Read) → position_from (λ (r : Read). r.request == request) 0 reads ≡ Some i → i < length reads
place-within request i reads found = let w : (0 ≤ i) × (i < 0 + length reads) = within (λ (r : Read). r.request == request) 0 i reads found in let high : i < 0 + length reads = w.1 in omega arith

change_of_reads : (request : ℕ) (f : Read → Read) → IsChange (λ (r : Read). r.request == request) f (changed_read request f)
change_of_reads request f = record { none = refl; some = λ x xs. refl }

removal_of_reads : (request : ℕ) → IsRemoval (λ (r : Read). r.request == request) (without_read request)
removal_of_reads request = record { none = refl; some = λ x xs. refl }

pub read-unchanged : (request : ℕ) (f : Read → Read) (reads : List Read) → position_from (λ (r : Read). r.request == request) 0 reads ≡ None → changed_read request f reads ≡ reads
read-unchanged request f reads none = unchanged _ f (changed_read request f) (change_of_reads request f) 0 reads none

pub read-unremoved : (request : ℕ) (reads : List Read) → position_from (λ (r : Read). r.request == request) 0 reads ≡ None → without_read request reads ≡ reads
read-unremoved request reads none = unremoved _ (without_read request) (removal_of_reads request) 0 reads none

from_zero : (i : ℕ) → i - 0 ≡ i
from_zero i = omega arith

pub read-changed : (request i : ℕ) (f : Read → Read) (reads : List Read) (d : Read) → position_from (λ (r : Read). r.request == request) 0 reads ≡ Some i → changed_read request f reads ≡ set reads i (f (get_or reads i d))
read-changed request i f reads d found =
    (changed _ f (changed_read request f) (change_of_reads request f) 0 i d reads found).is ∙ ap (λ (n : ℕ). set reads n (f (get_or reads n d))) (from_zero i)

pub read-removed : (request i : ℕ) (reads : List Read) → position_from (λ (r : Read). r.request == request) 0 reads ≡ Some i → without_read request reads ≡ remove reads i
read-removed request i reads found =
    (removed _ (without_read request) (removal_of_reads request) 0 i reads found).is ∙ ap (λ (n : ℕ). remove reads n) (from_zero i)

-- ---- writes

pub write-within : (number i : ℕ) (writes : List Write) → position_from (λ (w : Write). w.number == number) 0 writes ≡ Some i → i < length writes
write-within number i writes found = let w : (0 ≤ i) × (i < 0 + length writes) = within (λ (x : Write). x.number == number) 0 i writes found in let high : i < 0 + length writes = w.1 in omega arith

change_of_writes : (number : ℕ) (f : Write → Write) → IsChange (λ (w : Write). w.number == number) f (changed_write number f)
change_of_writes number f = record { none = refl; some = λ x xs. refl }

removal_of_writes : (number : ℕ) → IsRemoval (λ (w : Write). w.number == number) (without_write number)
removal_of_writes number = record { none = refl; some = λ x xs. refl }

pub write-unchanged : (number : ℕ) (f : Write → Write) (writes : List Write) → position_from (λ (w : Write). w.number == number) 0 writes ≡ None → changed_write number f writes ≡ writes
write-unchanged number f writes none = unchanged _ f (changed_write number f) (change_of_writes number f) 0 writes none

pub write-unremoved : (number : ℕ) (writes : List Write) → position_from (λ (w : Write). w.number == number) 0 writes ≡ None → without_write number writes ≡ writes
write-unremoved number writes none = unremoved _ (without_write number) (removal_of_writes number) 0 writes none

pub write-changed : (number i : ℕ) (f : Write → Write) (writes : List Write) (d : Write) → position_from (λ (w : Write). w.number == number) 0 writes ≡ Some i → changed_write number f writes ≡ set writes i (f (get_or writes i d))
write-changed number i f writes d found =
    (changed _ f (changed_write number f) (change_of_writes number f) 0 i d writes found).is ∙ ap (λ (n : ℕ). set writes n (f (get_or writes n d))) (from_zero i)

pub write-removed : (number i : ℕ) (writes : List Write) → position_from (λ (w : Write). w.number == number) 0 writes ≡ Some i → without_write number writes ≡ remove writes i
write-removed number i writes found =
    (removed _ (without_write number) (removal_of_writes number) 0 i writes found).is ∙ ap (λ (n : ℕ). remove writes n) (from_zero i)

-- a write that is due is sent again
abbrev pub sent_if_due : ℕ → Write → Write
sent_if_due now w = if is_due now w.progress then record w { progress = on_its_way } else w

-- ---- in the order of request numbers

pub insert-behind : (r : Read) (reads : List Read) → insert reads (place_after r.request reads) r ≡ by_request r reads
insert-behind r [] = refl
insert-behind r (x ∷ reads) =
    (elim (nat_lt r.request x.request) as (λ b. insert (x ∷ reads) (if b then 0 else suc (place_after r.request reads)) r ≡ (if b then r ∷ x ∷ reads else x ∷ by_request r reads)) [
      | true ↦ refl
      | false ↦ ap (λ (ys : List Read). x ∷ ys) (insert-behind r reads)
    ])

pub place_after-le : (request : ℕ) (reads : List Read) → place_after request reads ≤ length reads
place_after-le request [] = omega arith
place_after-le request (x ∷ reads) =
    let rest : place_after request reads ≤ length reads = place_after-le request reads in
    (elim (nat_lt request x.request) as (λ b. (if b then 0 else suc (place_after request reads)) ≤ suc (length reads)) [ true ↦ omega arith | false ↦ omega arith ])

mapped_at : (f : Write → Write) (xs : List Write) (i : ℕ) (d v : Write) → i < length xs → v ≡ f (get_or (map f (take i xs) ++ drop i xs) i d)
    → set (map f (take i xs) ++ drop i xs) i v ≡ map f (take (suc i) xs) ++ drop (suc i) xs
mapped_at f [] i d v within is = absurd (omega arith)
mapped_at f (x ∷ xs) zero d v within is = ap (λ (y : Write). y ∷ xs) is
mapped_at f (x ∷ xs) (suc i) d v within is = let lt : i < length xs = omega arith in ap (λ (ys : List Write). f x ∷ ys) (mapped_at f xs i d v lt is)

pub mapped-turn : (f : Write → Write) (xs ys : List Write) (i : ℕ) (d v : Write) → i < length xs → ys ≡ map f (take i xs) ++ drop i xs → v ≡ f (get_or ys i d)
    → set ys i v ≡ map f (take (i + 1) xs) ++ drop (i + 1) xs
mapped-turn f xs ys i d v within so_far is =
    let next : i + 1 ≡ suc i = omega arith in
    ap (λ (zs : List Write). set zs i v) so_far
    ∙ (mapped_at f xs i d v within (is ∙ ap (λ (zs : List Write). f (get_or zs i d)) so_far) ∙ ap (λ (n : ℕ). map f (take n xs) ++ drop n xs) (sym next))

abbrev pub ordered_from : ℕ → List Read → List Read → List Read
ordered_from now due reads = fold {A = Read} {B = List Read} (λ rest r. by_request r rest) due (filter (λ (r : Read). is_due now r.progress) reads)

-- one more read that is due is put into its place
pub due-turn : (now : ℕ) (r copy : Read) (whole reads due new : List Read) (place : ℕ) (total : List Read) → whole ≡ r ∷ reads → is_due now r.progress ≡ true → copy ≡ r → place ≡ place_after r.request due
    → new ≡ insert due place copy → ordered_from now due whole ≡ total → ordered_from now new reads ≡ total
due-turn now r copy whole reads due new place total split is same at put before =
    let placed : new ≡ by_request r due = put ∙ (ap (λ (x : Read). insert due place x) same ∙ (ap (λ (n : ℕ). insert due n r) at ∙ insert-behind r due)) in
    ap (λ (xs : List Read). ordered_from now xs reads) placed
    ∙ (sym (ap (λ (b : Bool). fold {A = Read} {B = List Read} (λ rest x. by_request x rest) due (if b then r ∷ filter (λ (x : Read). is_due now x.progress) reads else filter (λ (x : Read). is_due now x.progress) reads)) is)
    ∙ (ap (λ (xs : List Read). ordered_from now due xs) (sym split) ∙ before))
