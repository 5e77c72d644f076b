-- Copies with the same numbers are there under the same numbers, and copies with the same leases lack the same leases.
use Rattle.std.specs.Prelude.{is_some, find, if◌then◌else◌}
use Rattle.std.specs.Option.{option_map}
use Rattle.std.specs.List.{list_any, list_all}
use Rattle.std.proofs.Common.{◌≡◌, ℕ, ◌==◌, ◌||◌, Bool, true, false, cond, Option, Some, None, List, [], ◌∷◌, map, refl, ap, sym, ◌∙◌}
use Rattle.std.proofs.lemmas.List.Folds.{list_all-map}
use Rattle.ccr_lease.specs.Leases.{Collection, lease_of}
use Rattle.ccr_law_base.proofs.Cases.{on_if}
use Rattle.ccr_law_base.proofs.Lists.{some_equal, found-any}
use Rattle.ccr_model.specs.Copies.{Copy, Replica, Copies, replica_of, copy_of, all_copies, replaced, changed_replica, changed_at}
use Rattle.ccr_model.specs.LeaderRows.{all_hold}

abbrev pub copies_in : List Replica → List Copy
copies_in rs = map {A = Replica} {B = Copy} (λ r. r.copy) rs

abbrev pub replica_numbers : List Replica → List ℕ
replica_numbers rs = map {A = Copy} {B = ℕ} (λ c. c.number) (copies_in rs)

-- some replica has this number
abbrev pub is_among : ℕ → List Replica → Bool
is_among copy rs = list_any (λ n. n == copy) (replica_numbers rs)

abbrev pub numbers_of : Copies → List ℕ
numbers_of s = map {A = Copy} {B = ℕ} (λ c. c.number) (all_copies s)

abbrev pub collections_of : Copies → List Collection
collections_of s = map {A = Copy} {B = Collection} (λ c. c.leases) (all_copies s)

-- ---- what is told of a copy by its number, and of all by their leases

mapped_some : {X Y : Type 0} (f : X → Y) (o : Option X) → is_some (option_map f o) ≡ is_some o
mapped_some f None = refl
mapped_some f (Some x) = refl

any_number : (copy : ℕ) (rs : List Replica) → list_any (λ r. r.copy.number == copy) rs ≡ is_among copy rs
any_number copy [] = refl
any_number copy (r ∷ rs) = ap (λ b. (r.copy.number == copy) || b) (any_number copy rs)

-- a copy is there where its number is among those of the copies
pub there_by_numbers : (s : Copies) (copy : ℕ) → is_some (copy_of s copy) ≡ list_any (λ n. n == copy) (numbers_of s)
there_by_numbers s copy =
    let rest : is_some (option_map {T = Replica} {U = Copy} (λ r. r.copy) (replica_of s copy)) ≡ is_among copy s.replicas =
    mapped_some (λ r. r.copy) (replica_of s copy) ∙ found-any (λ r. r.copy.number == copy) s.replicas ∙ any_number copy s.replicas in
    elim (s.primary.number == copy) as (λ b. is_some (if b then Some s.primary else option_map {T = Replica} {U = Copy} (λ r. r.copy) (replica_of s copy))
    ≡ (b || is_among copy s.replicas)) [ true ↦ refl | false ↦ rest ]

pub held_by_collections : (s : Copies) (id : List ℕ) → all_hold id s ≡ list_all (λ (c : Collection). is_some (lease_of id c.leases)) (collections_of s)
held_by_collections s id = sym (list_all-map (λ (c : Collection). is_some (lease_of id c.leases)) (λ (c : Copy). c.leases) (all_copies s))

pub same_there : (s t : Copies) → numbers_of t ≡ numbers_of s → (copy : ℕ) → is_some (copy_of t copy) ≡ is_some (copy_of s copy)
same_there s t same copy = there_by_numbers t copy ∙ ap (list_any (λ n. n == copy)) same ∙ sym (there_by_numbers s copy)

pub same_held : (s t : Copies) → collections_of t ≡ collections_of s → (id : List ℕ) → all_hold id t ≡ all_hold id s
same_held s t same id = held_by_collections t id ∙ ap (list_all (λ (c : Collection). is_some (lease_of id c.leases))) same ∙ sym (held_by_collections s id)

-- a copy stays there where its number stays among those of the copies
pub stays_there : (s t : Copies) (copy : ℕ) → (list_any (λ n. n == copy) (numbers_of s) ≡ true → list_any (λ n. n == copy) (numbers_of t) ≡ true)
    → is_some (copy_of s copy) ≡ true → is_some (copy_of t copy) ≡ true
stays_there s t copy numbers there = there_by_numbers t copy ∙ numbers (sym (there_by_numbers s copy) ∙ there)

-- ---- changes that leave what is read of each copy

-- a replica takes the place of the one that was found
pub same_replaced : {Y : Type 0} (read : Copy → Y) (copy : ℕ) (old new : Replica) (rs : List Replica) → find (λ r. r.copy.number == copy) rs ≡ Some old
    → read new.copy ≡ read old.copy
    → map read (copies_in (replaced copy new rs)) ≡ map read (copies_in rs)
same_replaced read copy old new [] found same = refl
same_replaced read copy old new (r ∷ rs) found same =
    let whole : List _ = map read (copies_in (r ∷ rs)) in
    elim (r.copy.number == copy) as (λ b. cond b (Some r) (find (λ r. r.copy.number == copy) rs) ≡ Some old
    → map read (copies_in (if b then new ∷ rs else r ∷ replaced copy new rs)) ≡ whole) [
      | true ↦ λ at. ap (λ y. y ∷ map read (copies_in rs)) (same ∙ ap (λ (x : Replica). read x.copy) (sym (some_equal r old at)))
      | false ↦ λ at. ap (λ ys. read r.copy ∷ ys) (same_replaced read copy old new rs at same)
    ] found

same_changed_replica : {Y : Type 0} (read : Copy → Y) (copy : ℕ) (change : Copy → Copy) → ((c : Copy) → read (change c) ≡ read c) → (rs : List Replica)
    → map read (copies_in (changed_replica copy change rs)) ≡ map read (copies_in rs)
same_changed_replica read copy change same [] = refl
same_changed_replica read copy change same (r ∷ rs) =
    on_if (λ (xs : List Replica). map read (copies_in xs) ≡ map read (copies_in (r ∷ rs))) (r.copy.number == copy) _ _
    (λ is. ap (λ y. y ∷ map read (copies_in rs)) (same r.copy))
    (λ isnt. ap (λ ys. read r.copy ∷ ys) (same_changed_replica read copy change same rs))

pub same_changed : {Y : Type 0} (read : Copy → Y) (copy : ℕ) (change : Copy → Copy) (s : Copies) → ((c : Copy) → read (change c) ≡ read c)
    → map read (all_copies (changed_at copy change s)) ≡ map read (all_copies s)
same_changed read copy change s same =
    on_if (λ (t : Copies). map read (all_copies t) ≡ map read (all_copies s)) (s.primary.number == copy) _ _
    (λ is. ap (λ y. y ∷ map read (copies_in s.replicas)) (same s.primary))
    (λ isnt. ap (λ ys. read s.primary ∷ ys) (same_changed_replica read copy change same s.replicas))
