-- An expiry drops each lease whose period is over, and no other.
use Rattle.std.specs.List.{AllByRecursion, list_any}
use Rattle.std.specs.Prelude.{filter}
use Rattle.std.proofs.Common.{◌≡◌, inl, inr, ℕ, ◌+◌, ◌<◌, ◌≤◌, not, Bool, true, false, nat_lt, List, [], ◌∷◌, refl, sym, subst, arith}
use Rattle.std.proofs.lemmas.Bool.Decides.{nat_tests}
use Rattle.ccr_lease.specs.declared.retention.Lease.{Lease}
use Rattle.ccr_lease.specs.Leases.{Collection, has_expired, unexpired}
use Rattle.ccr_model.specs.Answers.{IsIn}
use Rattle.ccr_model.specs.LeaderRows.{expire_row}
use Rattle.ccr_law_base.proofs.Cases.{on_if}
use Rattle.ccr_law_base.proofs.Lists.{All-weaker, All-filter, All-filter_test}
use Rattle.ccr_law_leases.specs.Expiries.{ExpiresRightly, ExpiriesAreRight}
use Rattle.std.proofs.lemmas.Bool.{not-true}
use Rattle.ccr_law_base.proofs.Tests.{or_first, or_second}

kept_in : (test : Lease → Bool) (leases : List Lease) (lease : Lease) → IsIn leases lease → test lease ≡ true → IsIn (filter test leases) lease
kept_in test [] lease there is = there
kept_in test (x ∷ leases) lease (inl same) is =
    let passes : test x ≡ true = subst (λ (y : Lease). test y ≡ true) (sym same) is in
    rw passes (inl same)
kept_in test (x ∷ leases) lease (inr later) is =
    on_if (λ (xs : List Lease). IsIn xs lease) (test x) (x ∷ filter test leases) (filter test leases)
    (λ yes_x. inr (kept_in test leases lease later is)) (λ no_x. kept_in test leases lease later is)

none_any : (test : Lease → Bool) (leases : List Lease) → list_any test leases ≡ false → AllByRecursion (λ (lease : Lease). test lease ≡ false) leases
none_any test [] none = tt
none_any test (x ∷ leases) none = (or_first (test x) (list_any test leases) none, none_any test leases (or_second (test x) (list_any test leases) none))

within : (now period : ℕ) (lease : Lease) → now ≤ lease.stamp + period → not (has_expired now period lease) ≡ true
within now period lease le = let isnt : nat_lt (lease.stamp + period) now ≡ false = grind (arith, nat_tests) in rw isnt refl

not_over : (now end : ℕ) → nat_lt end now ≡ false → ¬ (end < now)
not_over now end isnt lt = let is : nat_lt end now ≡ true = grind (arith, nat_tests) in cc

all_in : (leases : List Lease) → AllByRecursion (IsIn leases) leases
all_in [] = tt
all_in (x ∷ leases) = (inl refl, All-weaker (IsIn leases) (IsIn (x ∷ leases)) (λ y there. inr there) leases (all_in leases))

pub expires-rightly : ExpiriesAreRight
unfolding expire_row
expires-rightly s picks =
    on_if (λ (c : Collection). ExpiresRightly s c.leases) (list_any (has_expired now period) c.leases) (record c { version = c.version + 1; leases = unexpired now period c.leases }) c
    (λ some. record {
      kept = λ lease there le. kept_in (λ (x : Lease). not (has_expired now period x)) c.leases lease there (within now period lease le);
      gone = All-weaker (λ (x : Lease). not (has_expired now period x) ≡ true) (λ (x : Lease). ¬ (x.stamp + period < now))
          (λ x is. not_over now (x.stamp + period) (not-true (has_expired now period x) is)) (unexpired now period c.leases)
          (All-filter_test (λ (x : Lease). not (has_expired now period x)) c.leases);
      old = All-filter (IsIn c.leases) (λ (x : Lease). not (has_expired now period x)) c.leases (all_in c.leases);
    })
    (λ none. record {
      kept = λ lease there le. there;
      gone = All-weaker (λ (x : Lease). has_expired now period x ≡ false) (λ (x : Lease). ¬ (x.stamp + period < now)) (λ x is. not_over now (x.stamp + period) is) c.leases
          (none_any (has_expired now period) c.leases none);
      old = all_in c.leases;
    })
  where
    c : Collection
    c = s.leader.copies.primary.leases

    now : ℕ
    now = s.leader.now

    period : ℕ
    period = s.leader.start.period
