-- A merge drops nothing that a lease of the copy retains.
use Rattle.std.specs.List.{AllByRecursion, list_any}
use Rattle.std.specs.Prelude.{find, nat_le, IfSome}
use Rattle.std.specs.Option.{option_map}
use Rattle.std.proofs.Common.{◌≡◌, ℕ, ◌<◌, ◌≤◌, ◌==◌, ◌||◌, min, inl, inr, Bool, true, false, if◌then◌else◌, Option, Some, None, List, [], ◌∷◌, refl, sym, ◌∙◌, ap, subst, arith}
use Rattle.std.proofs.lemmas.Bool.Decides.{nat_tests}
use Rattle.ccr_lease.specs.declared.retention.Lease.{Lease}
use Rattle.ccr_op.specs.Operation.{Operation}
use Rattle.ccr_model.specs.Stores.{held, merge_drops, is_among, merged, capped, picked_ops}
use Rattle.ccr_model.specs.Copies.{Copy, Replica, Copies, replica_of, copy_of, changed_replica, changed_at}
use Rattle.ccr_model.specs.CopyRows.{risen_floor, merge_bound, after_merge, merge_row}
use Rattle.ccr_model.specs.LeaderRows.{leader_merge}
use Rattle.ccr_model.specs.Answers.{IsIn}
use Rattle.ccr_model.specs.Given.{IsAmong}
use Rattle.ccr_model.specs.Past.{Past}
use Rattle.ccr_model.specs.Headline.{is_leased, held_at, KeepsLeased}
use Rattle.ccr_law_base.proofs.Cases.{on_if}
use Rattle.ccr_law_base.proofs.Lists.{All-in, All-weaker, some_equal}
use Rattle.ccr_law_leases.proofs.Says.{dropped-low}
use Rattle.ccr_law_stores.specs.TrueStores.{times, IsTrueStore, HasTrueStores, IsSound}
use Rattle.ccr_law_stores.proofs.Counting.{has-in, in-given, times_some, has_by_times}
use Rattle.ccr_law_stores.proofs.Merging.{times-without_numbers, times-merged, All-merged}

-- what a lease retains is not below the bound of a merge
leased-high : (leases : List Lease) (n k : ℕ) → list_any (λ lease. nat_le lease.number k) leases ≡ true → capped leases n ≤ k
leased-high [] n k is = absurd (cc)
leased-high (lease ∷ leases) n k is =
    (elim (nat_le lease.number k) as (λ (b : Bool). nat_le lease.number k ≡ b → (b || list_any (λ x. nat_le x.number k) leases) ≡ true → min lease.number (capped leases n) ≤ k) [
      | true ↦ λ own all. let low : lease.number ≤ k = grind (arith, nat_tests) in omega arith
      | false ↦ λ other all. let rest : capped leases n ≤ k = leased-high leases n k all in omega arith
    ]) refl is

not-among : (bound : ℕ) (ns : List ℕ) (k : ℕ) → bound ≤ k → AllByRecursion (λ (n : ℕ). n < bound) ns → is_among ns k ≡ false
not-among bound [] k high low = refl
not-among bound (n ∷ ns) k high low =
    let below : n < bound = low.0 in
    let other : (n == k) ≡ false = grind (arith, nat_tests) in
    let rest : is_among ns k ≡ false = not-among bound ns k high low.1 in
    rw other rest

-- what holds of each member holds of all
each-in : {X : Type 0} (P : X → Type 0) (xs : List X) → ((x : X) → IsIn xs x → P x) → AllByRecursion P xs
each-in P [] holds = tt
each-in P (x ∷ xs) holds = (holds x (inl refl), each-in P xs (λ y there. holds y (inr there)))

-- what the copy holds serves for what it was given
pub record HasStore (c : Copy) : Type 0 where
  pub ops : ℕ → Option Operation
  pub restored : ℕ
  pub store : IsTrueStore ops restored c

-- an operation that a lease of the copy retains stays
pub merge-keeps : (retention : ℕ) (picks : List ℕ) (c : Copy) → HasStore c → (op : Operation) → IsIn (held c.store) op → is_leased c op ≡ true
    → IsIn (held (after_merge retention picks c).store) op
merge-keeps retention picks c has op there leased =
    let bound : ℕ = merge_bound retention c in
    let drops : List ℕ = merge_drops picks bound c.global c.store in
    let xs : List Operation = held c.store in
    let ys : List Operation = held (merged picks bound c.global c.store) in
    let own : has.ops op.seq ≡ Some op = All-in (IsAmong has.ops) xs op has.store.ours there in
    let high : bound ≤ op.seq = leased-high c.leases.leases (risen_floor retention c) op.seq leased in
    let none : is_among drops op.seq ≡ false
    = not-among bound drops op.seq high (dropped-low bound c.global xs (picked_ops picks c.store.parts)) in
    let some : 1 ≤ times op.seq xs = times_some xs op.seq (has-in xs op there) in
    let same : times op.seq ys ≡ times op.seq xs
    = times-merged picks bound c.global c.store op.seq (has.store.once op.seq) ∙ (times-without_numbers drops op.seq xs ∙ ap (λ (b : Bool). if b then 0 else times op.seq xs) none) in
    in-given has.ops ys op (All-merged (IsAmong has.ops) picks bound c.global c.store has.store.ours) own (has_by_times ys op.seq (omega arith))

-- ---- the copies of a side

-- what holds of each copy holds of the one of a number
pub each-copy : (P : Copy → Type 0) (s : Copies) (copy : ℕ) → P s.primary → AllByRecursion (λ (r : Replica). P r.copy) s.replicas → IfSome (copy_of s copy) P
each-copy P s copy own others =
    on_if (λ (o : Option Copy). IfSome o P) (s.primary.number == copy) (Some s.primary) (option_map {T = Replica} {U = Copy} (λ r. r.copy) (replica_of s copy))
    (λ is. own) (λ isnt. in-replicas s.replicas others)
  where
    in-replicas : (rs : List Replica) → AllByRecursion (λ (r : Replica). P r.copy) rs → IfSome (option_map {T = Replica} {U = Copy} (λ r. r.copy) (find (λ r. r.copy.number == copy) rs)) P
    in-replicas [] all = tt
    in-replicas (r ∷ rs) all =
        on_if (λ (o : Option Replica). IfSome (option_map {T = Replica} {U = Copy} (λ r. r.copy) o) P) (r.copy.number == copy) (Some r) (find (λ r. r.copy.number == copy) rs)
        (λ is. all.0) (λ isnt. in-replicas rs all.1)

-- the copy of a number after a merge of it
merged-replica : (retention : ℕ) (picks : List ℕ) (copy : ℕ) (rs : List Replica) (c : Copy)
    → option_map {T = Replica} {U = Copy} (λ r. r.copy) (find (λ r. r.copy.number == copy) rs) ≡ Some c
    → option_map {T = Replica} {U = Copy} (λ r. r.copy) (find (λ r. r.copy.number == copy) (changed_replica copy (after_merge retention picks) rs)) ≡ Some (after_merge retention picks c)
merged-replica retention picks copy [] c found = absurd (cc)
merged-replica retention picks copy (r ∷ rs) c found =
    (elim (r.copy.number == copy) as (λ (b : Bool). (r.copy.number == copy) ≡ b
    → option_map {T = Replica} {U = Copy} (λ r. r.copy) (if b then Some r else find (λ r. r.copy.number == copy) rs) ≡ Some c
    → option_map {T = Replica} {U = Copy} (λ r. r.copy) (find (λ r. r.copy.number == copy)
    (if b then record r { copy = after_merge retention picks r.copy } ∷ rs else r ∷ changed_replica copy (after_merge retention picks) rs)) ≡ Some (after_merge retention picks c)) [
      | true ↦ λ is own. rw is (ap (λ (x : Copy). Some (after_merge retention picks x)) (some_equal r.copy c own))
      | false ↦ λ isnt own. rw isnt (merged-replica retention picks copy rs c own)
    ]) refl found

merged-copy : (retention : ℕ) (picks : List ℕ) (s : Copies) (copy : ℕ) (c : Copy) → copy_of s copy ≡ Some c
    → copy_of (changed_at copy (after_merge retention picks) s) copy ≡ Some (after_merge retention picks c)
merged-copy retention picks s copy c found =
    (elim (s.primary.number == copy) as (λ (b : Bool). (s.primary.number == copy) ≡ b
    → (if b then Some s.primary else option_map {T = Replica} {U = Copy} (λ r. r.copy) (replica_of s copy)) ≡ Some c
    → copy_of (if b then record s { primary = after_merge retention picks s.primary } else record s { replicas = changed_replica copy (after_merge retention picks) s.replicas }) copy
    ≡ Some (after_merge retention picks c)) [
      | true ↦ λ is own. rw is (ap (λ (x : Copy). Some (after_merge retention picks x)) (some_equal s.primary c own))
      | false ↦ λ isnt own. rw isnt (merged-replica retention picks copy s.replicas c own)
    ]) refl found

merged-held : (retention : ℕ) (picks : List ℕ) (s : Copies) (copy : ℕ) (c : Copy) → copy_of s copy ≡ Some c
    → held_at (changed_at copy (after_merge retention picks) s) copy ≡ held (after_merge retention picks c).store
merged-held retention picks s copy c found = rw (merged-copy retention picks s copy c found) refl

row-keeps : (s : Copies) (retention copy : ℕ) (picks : List ℕ) (found : Option Copy) → copy_of s copy ≡ found → IfSome found HasStore
    → IfSome found (λ c. AllByRecursion (λ (op : Operation). is_leased c op ≡ true → IsIn (held_at (merge_row s retention copy picks found).next copy) op) (held c.store))
unfolding merge_row
row-keeps s retention copy picks None at has = tt
row-keeps s retention copy picks (Some c) at has =
    each-in (λ (op : Operation). is_leased c op ≡ true → IsIn (held_at (changed_at copy (after_merge retention picks) s) copy) op) (held c.store)
    (λ op there leased. subst (λ (ys : List Operation). IsIn ys op) (sym (merged-held retention picks s copy c at)) (merge-keeps retention picks c has op there leased))

-- a merge of a copy, where what each copy holds serves
pub merge-leased : (s : Copies) (retention copy : ℕ) (picks : List ℕ) → HasStore s.primary → AllByRecursion (λ (r : Replica). HasStore r.copy) s.replicas
    → KeepsLeased s (merge_row s retention copy picks (copy_of s copy)).next copy
merge-leased s retention copy picks own others = row-keeps s retention copy picks (copy_of s copy) refl (each-copy HasStore s copy own others)

-- a merge of a leader's copy
pub leader-leased : (p : Past) (copy : ℕ) (picks : List ℕ) → HasTrueStores p → KeepsLeased p.state.leader.copies (leader_merge p.state.leader copy picks).next.copies copy
leader-leased p copy picks ok =
    let s : Copies = p.state.leader.copies in
    merge-leased s p.state.leader.start.retention copy picks (record { ops = p.given s.primary.number; restored = 0; store = ok.own.store })
    (All-weaker (λ (r : Replica). IsSound (p.given r.copy.number) 0 r.copy) (λ (r : Replica). HasStore r.copy)
    (λ r sound. record { ops = p.given r.copy.number; restored = 0; store = sound.store }) s.replicas ok.others)
