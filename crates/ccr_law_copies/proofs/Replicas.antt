-- Lemmas on lists of replicas: that they stay apart, what each was given, and the least known count.
use Rattle.std.specs.List.{AllByRecursion}
use Rattle.std.specs.Prelude.{find}
use Rattle.std.proofs.Common.{◌≡◌, ℕ, ◌≤◌, ◌==◌, min, true, false, if◌then◌else◌, Option, Some, List, [], ◌∷◌, ◌++◌, map, refl, sym, ◌∙◌, ap, subst, arith}
use Rattle.std.proofs.lemmas.Bool.Decides.{nat_tests}
use Rattle.ccr_op.specs.Operation.{Operation}
use Rattle.ccr_model.specs.Copies.{Copy, Replica, replaced, without, changed_replica, least_known}
use Rattle.ccr_model.specs.Given.{gave}
use Rattle.ccr_law_base.proofs.Cases.{on_if}
use Rattle.ccr_law_copies.specs.Cores.{Apart}
use Rattle.ccr_law_base.proofs.Lists.{All-weaker, All-push, All-map, All-replaced, All-without, All-changed, some_equal}
use Rattle.std.proofs.lemmas.Bool.{eqb-true}

-- ---- what a copy was given

pub gave-same : (given : ℕ → ℕ → Option Operation) (copy : ℕ) (ops : ℕ → Option Operation) (k : ℕ) → (k == copy) ≡ true → gave given copy ops k ≡ ops
gave-same given copy ops k is = rw is refl

pub gave-other : (given : ℕ → ℕ → Option Operation) (copy : ℕ) (ops : ℕ → Option Operation) (k : ℕ) → (k == copy) ≡ false → gave given copy ops k ≡ given k
gave-other given copy ops k isnt = rw isnt refl

-- a copy that is none of the replicas was given these operations
pub given-aside : (P Q : (ℕ → Option Operation) → Replica → Type 0) (given : ℕ → ℕ → Option Operation) (copy : ℕ) (ops : ℕ → Option Operation)
    → ((o : ℕ → Option Operation) (r : Replica) → P o r → Q o r) → (rs : List Replica) → AllByRecursion (λ (r : Replica). (r.copy.number == copy) ≡ false) rs
    → AllByRecursion (λ (r : Replica). P (given r.copy.number) r) rs → AllByRecursion (λ (r : Replica). Q (gave given copy ops r.copy.number) r) rs
given-aside P Q given copy ops keep [] others all = tt
given-aside P Q given copy ops keep (r ∷ rs) others all = (
  subst (λ (o : ℕ → Option Operation). Q o r) (sym (gave-other given copy ops r.copy.number others.0)) (keep (given r.copy.number) r all.0),
  given-aside P Q given copy ops keep rs others.1 all.1,
)

-- one replica alone changed, and it alone was given something
pub replaced-alone : (P Q : (ℕ → Option Operation) → Replica → Type 0) (given : ℕ → ℕ → Option Operation) (copy : ℕ) (ops : ℕ → Option Operation) (new : Replica)
    → new.copy.number ≡ copy → Q ops new → ((o : ℕ → Option Operation) (r : Replica) → P o r → Q o r) → (rs : List Replica) → Apart rs
    → AllByRecursion (λ (r : Replica). P (given r.copy.number) r) rs → AllByRecursion (λ (r : Replica). Q (gave given copy ops r.copy.number) r) (replaced copy new rs)
replaced-alone P Q given copy ops new number made keep [] apart all = tt
replaced-alone P Q given copy ops new number made keep (r ∷ rs) apart all =
    on_if (AllByRecursion (λ (r : Replica). Q (gave given copy ops r.copy.number) r)) (r.copy.number == copy) (new ∷ rs) (r ∷ replaced copy new rs)
    (λ is. (
      subst (λ (o : ℕ → Option Operation). Q o new) (sym (gave-same given copy ops new.copy.number (grind (arith, nat_tests)))) made,
      given-aside P Q given copy ops keep rs
          (All-weaker (λ (x : Replica). (x.copy.number == r.copy.number) ≡ false) (λ (x : Replica). (x.copy.number == copy) ≡ false)
          (λ x isnt. subst (λ (k : ℕ). (x.copy.number == k) ≡ false) (eqb-true r.copy.number copy is) isnt) rs apart.0)
          all.1,
    ))
    (λ isnt. (
      subst (λ (o : ℕ → Option Operation). Q o r) (sym (gave-other given copy ops r.copy.number isnt)) (keep (given r.copy.number) r all.0),
      replaced-alone P Q given copy ops new number made keep rs apart.1 all.1,
    ))

-- ---- replicas apart

pub Apart-replaced : (copy : ℕ) (new : Replica) (rs : List Replica) → new.copy.number ≡ copy → Apart rs → Apart (replaced copy new rs)
Apart-replaced copy new [] number apart = tt
Apart-replaced copy new (r ∷ rs) number apart =
    on_if Apart (r.copy.number == copy) (new ∷ rs) (r ∷ replaced copy new rs)
    (λ is. (
      All-weaker (λ (x : Replica). (x.copy.number == r.copy.number) ≡ false) (λ (x : Replica). (x.copy.number == new.copy.number) ≡ false)
          (λ x isnt. subst (λ (k : ℕ). (x.copy.number == k) ≡ false) (eqb-true r.copy.number copy is ∙ sym number) isnt) rs apart.0,
      apart.1,
    ))
    (λ isnt. (
      All-replaced (λ (x : Replica). (x.copy.number == r.copy.number) ≡ false) copy new rs (grind (arith, nat_tests)) apart.0,
      Apart-replaced copy new rs number apart.1,
    ))

pub Apart-without : (copy : ℕ) (rs : List Replica) → Apart rs → Apart (without copy rs)
Apart-without copy [] apart = tt
Apart-without copy (r ∷ rs) apart =
    on_if Apart (r.copy.number == copy) rs (r ∷ without copy rs) (λ is. apart.1)
    (λ isnt. (All-without (λ (x : Replica). (x.copy.number == r.copy.number) ≡ false) copy rs apart.0, Apart-without copy rs apart.1))

-- the replica that left is none of the others
pub others-without : (copy : ℕ) (rs : List Replica) → Apart rs → AllByRecursion (λ (r : Replica). (r.copy.number == copy) ≡ false) (without copy rs)
others-without copy [] apart = tt
others-without copy (r ∷ rs) apart =
    on_if (AllByRecursion (λ (r : Replica). (r.copy.number == copy) ≡ false)) (r.copy.number == copy) rs (r ∷ without copy rs)
    (λ is. All-weaker (λ (x : Replica). (x.copy.number == r.copy.number) ≡ false) (λ (x : Replica). (x.copy.number == copy) ≡ false)
    (λ x isnt. subst (λ (k : ℕ). (x.copy.number == k) ≡ false) (eqb-true r.copy.number copy is) isnt) rs apart.0)
    (λ isnt. (isnt, others-without copy rs apart.1))

-- a change that keeps the numbers
pub Apart-map : (change : Replica → Replica) → ((r : Replica) → (change r).copy.number ≡ r.copy.number) → (rs : List Replica) → Apart rs
    → Apart (map {A = Replica} {B = Replica} change rs)
Apart-map change same [] apart = tt
Apart-map change same (r ∷ rs) apart = (
  All-map (λ (x : Replica). (x.copy.number == (change r).copy.number) ≡ false) change rs
      (All-weaker (λ (x : Replica). (x.copy.number == r.copy.number) ≡ false) (λ (x : Replica). ((change x).copy.number == (change r).copy.number) ≡ false)
      (λ x isnt. rw (same x, same r) isnt) rs apart.0),
  Apart-map change same rs apart.1,
)

pub Apart-push : (rs : List Replica) (new : Replica) → AllByRecursion (λ (r : Replica). (new.copy.number == r.copy.number) ≡ false) rs → Apart rs → Apart (rs ++ new ∷ [])
Apart-push [] new others apart = (tt, tt)
Apart-push (r ∷ rs) new others apart =
    (All-push (λ (x : Replica). (x.copy.number == r.copy.number) ≡ false) rs new apart.0 others.0, Apart-push rs new others.1 apart.1)

pub Apart-changed : (copy : ℕ) (change : Copy → Copy) → ((c : Copy) → (change c).number ≡ c.number) → (rs : List Replica) → Apart rs → Apart (changed_replica copy change rs)
Apart-changed copy change same [] apart = tt
Apart-changed copy change same (r ∷ rs) apart =
    on_if Apart (r.copy.number == copy) (record r { copy = change r.copy } ∷ rs) (r ∷ changed_replica copy change rs)
    (λ is. (
      All-weaker (λ (x : Replica). (x.copy.number == r.copy.number) ≡ false) (λ (x : Replica). (x.copy.number == (change r.copy).number) ≡ false)
          (λ x isnt. rw (same r.copy) isnt) rs apart.0,
      apart.1,
    ))
    (λ isnt. (
      All-changed (λ (x : Replica). (x.copy.number == r.copy.number) ≡ false) (λ (x : Replica). (x.copy.number == r.copy.number) ≡ false) copy change
          (λ x h. h) (λ x is h. rw (same x.copy) h) rs apart.0,
      Apart-changed copy change same rs apart.1,
    ))

-- ---- the least known count

pub least_known-primary : (count : ℕ) (rs : List Replica) → least_known count rs ≤ count
least_known-primary count [] = omega arith
least_known-primary count (r ∷ rs) = let rest : least_known count rs ≤ count = least_known-primary count rs in omega arith

pub least_known-each : (count : ℕ) (rs : List Replica) → AllByRecursion (λ (r : Replica). least_known count rs ≤ r.known) rs
least_known-each count [] = tt
least_known-each count (r ∷ rs) = (
  omega arith,
  All-weaker (λ (x : Replica). least_known count rs ≤ x.known) (λ (x : Replica). min r.known (least_known count rs) ≤ x.known)
      (λ x le. omega arith) rs (least_known-each count rs),
)

pub least_known-bound : (bound count : ℕ) (rs : List Replica) → bound ≤ count → AllByRecursion (λ (r : Replica). bound ≤ r.known) rs → bound ≤ least_known count rs
least_known-bound bound count [] le all = le
least_known-bound bound count (r ∷ rs) le all =
    let first : bound ≤ r.known = all.0 in let rest : bound ≤ least_known count rs = least_known-bound bound count rs le all.1 in omega arith

pub least_known-replaced : (count copy : ℕ) (r new : Replica) (rs : List Replica) → find (λ x. x.copy.number == copy) rs ≡ Some r → new.known ≡ r.known
    → least_known count (replaced copy new rs) ≡ least_known count rs
least_known-replaced count copy r new [] found same = cc
least_known-replaced count copy r new (x ∷ xs) found same =
    (elim (x.copy.number == copy) as (λ b. (if b then Some x else find (λ y. y.copy.number == copy) xs) ≡ Some r
    → least_known count (if b then new ∷ xs else x ∷ replaced copy new xs) ≡ min x.known (least_known count xs)) [
      | true ↦ λ at. ap (λ (k : ℕ). min k (least_known count xs)) (same ∙ sym (ap (λ (y : Replica). y.known) (some_equal x r at)))
      | false ↦ λ at. ap (min x.known) (least_known-replaced count copy r new xs at same)
    ]) found

pub least_known-changed : (count copy : ℕ) (change : Copy → Copy) (rs : List Replica) → least_known count (changed_replica copy change rs) ≡ least_known count rs
least_known-changed count copy change [] = refl
least_known-changed count copy change (r ∷ rs) =
    on_if (λ (xs : List Replica). least_known count xs ≡ min r.known (least_known count rs)) (r.copy.number == copy)
    (record r { copy = change r.copy } ∷ rs) (r ∷ changed_replica copy change rs)
    (λ is. refl) (λ isnt. ap (min r.known) (least_known-changed count copy change rs))
