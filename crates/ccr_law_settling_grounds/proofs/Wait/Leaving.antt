-- Where a copy leaves or is lost, the polls at the others wait at copies that are there.
use Rattle.std.specs.Prelude.{filter}
use Rattle.std.proofs.Common.{◌≡◌, ℕ, ◌==◌, ◌||◌, not, Bool, true, false, Some, List, [], ◌∷◌, map, refl, ap, arith}
use Rattle.std.proofs.lemmas.Bool.Decides.{nat_tests}
use Rattle.ccr_op.specs.declared.operation.Kind.TheVariants.{NoOp}
use Rattle.ccr_law_base.proofs.Cases.{on_if}
use Rattle.ccr_law_base.proofs.Lists.{All-every, All-find}
use Rattle.ccr_model.specs.Copies.{Copy, Replica, Copies, replica_of, taking, without, counted}
use Rattle.ccr_model.specs.CopyRows.{succeeded, unknown}
use Rattle.ccr_model.specs.Leaders.{Poll}
use Rattle.ccr_model.specs.LeaderRows.{filled, as_primary, missing_numbers}
use Rattle.ccr_law_base.proofs.Tests.{or-more, or_true, other_turned}
use Rattle.ccr_law_settling_grounds.specs.Parked.{ArePollsThere}
use Rattle.ccr_law_settling_grounds.proofs.Wait.Alike.{replica_numbers, is_among, stays_there}
use Rattle.ccr_law_settling_grounds.proofs.Wait.Staying.{polls_pass}
use Rattle.std.proofs.lemmas.Bool.{not-true}

unequal_to_equal : (a b c : ℕ) → (a == b) ≡ true → (c == b) ≡ false → (a == c) ≡ false
unequal_to_equal a b c same other = grind (arith, nat_tests)

both_equal : (a b c : ℕ) → (a == c) ≡ true → (b == c) ≡ true → (a == b) ≡ true
both_equal a b c first second = grind (arith, nat_tests)

or_second : (a b : Bool) → a ≡ false → (a || b) ≡ true → b ≡ true
or_second true b isnt passes = absurd cc
or_second false b isnt passes = passes

-- a replica of another number than the one that leaves is still there
others_stay : (k copy : ℕ) (rs : List Replica) → (k == copy) ≡ false → is_among k rs ≡ true → is_among k (without copy rs) ≡ true
others_stay k copy [] other found = found
others_stay k copy (r ∷ rs) other found =
    on_if (λ (xs : List Replica). is_among k xs ≡ true) (r.copy.number == copy) rs (r ∷ without copy rs)
    (λ is. or_second (r.copy.number == k) (is_among k rs) (unequal_to_equal r.copy.number copy k is other) found)
    (λ isnt. or-more (r.copy.number == k) (is_among k rs) (is_among k (without copy rs)) (others_stay k copy rs other) found)

pub polls_after_leaving : (s : Copies) (copy : ℕ) (polls : List Poll) → ArePollsThere s polls
    → ArePollsThere (counted record s { replicas = without copy s.replicas }) (filter (λ p. not (p.copy == copy)) polls)
polls_after_leaving s copy polls all =
    let next : Copies = counted record s { replicas = without copy s.replicas } in
    polls_pass s next (λ p. not (p.copy == copy)) polls
    (λ p passes there. stays_there s next p.copy (or-more (s.primary.number == p.copy) (is_among p.copy s.replicas)
    (is_among p.copy (without copy s.replicas)) (others_stay p.copy copy s.replicas (not-true (p.copy == copy) passes))) there) all

-- ---- promotions

filled_number : (term : ℕ) (numbers : List ℕ) (c : Copy) → (filled term numbers c).number ≡ c.number
filled_number term [] c = refl
filled_number term (n ∷ numbers) c = filled_number term numbers (taking c n (Some record { seq = n; term = term; version = 0; kind = NoOp }))

unknown_numbers : (rs : List Replica) → replica_numbers (map {A = Replica} {B = Replica} unknown rs) ≡ replica_numbers rs
unknown_numbers [] = refl
unknown_numbers (r ∷ rs) = ap (λ ns. r.copy.number ∷ ns) (unknown_numbers rs)

-- the replica that takes over has the number, or another one does
promoted_or_other : (k copy number : ℕ) (rs : List Replica) → (number == copy) ≡ true → is_among k rs ≡ true → ((number == k) || is_among k (without copy rs)) ≡ true
promoted_or_other k copy number rs is among =
    elim (k == copy) as (λ b. (k == copy) ≡ b → ((number == k) || is_among k (without copy rs)) ≡ true) [
      | true ↦ λ own. let same : (number == k) ≡ true = both_equal number k copy is own in rw same refl
      | false ↦ λ other. rw (others_stay k copy rs other among) (or_true (number == k))
    ] refl

pub polls_after_promotion : (s : Copies) (term copy : ℕ) (r : Replica) (polls : List Poll) → replica_of s copy ≡ Some r → ArePollsThere s polls
    → ArePollsThere (succeeded s copy (as_primary term r.copy) unknown) (filter (λ p. not (p.copy == s.primary.number)) polls)
polls_after_promotion s term copy r polls found all =
    let next : Copies = succeeded s copy (as_primary term r.copy) unknown in
    let number : (r.copy.number == copy) ≡ true =
    (All-find (λ (x : Replica). Unit {0}) (λ x. x.copy.number == copy) s.replicas r (All-every (λ (x : Replica). Unit {0}) (λ x. tt) s.replicas) found).1 in
    polls_pass s next (λ p. not (p.copy == s.primary.number)) polls
    (λ p passes there. stays_there s next p.copy (λ before.
    let other : (s.primary.number == p.copy) ≡ false = other_turned p.copy s.primary.number (not-true (p.copy == s.primary.number) passes) in
    let among : is_among p.copy s.replicas ≡ true = or_second (s.primary.number == p.copy) (is_among p.copy s.replicas) other before in
    rw (filled_number term (missing_numbers r.copy.seen) r.copy)
    (rw (unknown_numbers (without copy s.replicas)) (promoted_or_other p.copy copy r.copy.number s.replicas number among))) there) all
