-- What the changes of copies make of the claims on what they hold and on the order in their parts.
use Rattle.std.proofs.Common.{◌≡◌, ℕ, ◌<◌, ◌==◌, ◌||◌, Bool, true, false, if◌then◌else◌, Option, Some, None, is_some, List, [], ◌∷◌, refl, ◌∙◌, ap}
use Rattle.ccr_op.specs.Operation.{Operation}
use Rattle.ccr_tracker.specs.Numbers.{has}
use Rattle.ccr_model.specs.Stores.{flushed}
use Rattle.ccr_model.specs.Copies.{Copy, taking, knowing}
use Rattle.ccr_model.specs.CopyRows.{merge_bound, after_merge}
use Rattle.ccr_model.specs.LeaderRows.{filled, end_of, missing_numbers}
use Rattle.ccr_model.specs.Given.{or_else, gaining, plugged}
use Rattle.ccr_law_copies.proofs.CopyChanges.{gained-some}
use Rattle.ccr_law_copies.proofs.Sets.{has-marked}
use Rattle.ccr_law_stores.specs.TrueStores.{IsTrueStore, IsSorted, IsSound, AreNumbered}
use Rattle.ccr_law_stores.proofs.Merging.{copy-merges}
use Rattle.ccr_law_stores.proofs.StoreChanges.{numbered-gaining, copy-takes_found, copy-flushes, copy-knows, copy-plugged, gap_op}
use Rattle.ccr_law_stores.proofs.Sorting.{sorted-taking, sorted-flushed, sorted-merged}

pub sound-takes_found : (ops : ℕ → Option Operation) (restored : ℕ) (c : Copy) (seq : ℕ) (op : Operation) (o : Option Operation) → AreNumbered ops → op.seq ≡ seq
    → ((n : ℕ) → has c.seen n ≡ is_some (ops n)) → ((n : ℕ) → n < c.global → is_some (ops n) ≡ true) → (has c.seen seq ≡ false → o ≡ Some op)
    → IsSound ops restored c → IsSound (gaining ops seq (Some op)) restored (taking c seq o)
sound-takes_found ops restored c seq op o numbered number processed whole found ok =
    let new : IsTrueStore (gaining ops seq (Some op)) restored (taking c seq o) = copy-takes_found ops restored c seq op o numbered number processed whole found ok.store in
    record { store = new; sorted = sorted-taking c seq o new.once ok.sorted }

pub sound-takes : (ops : ℕ → Option Operation) (restored : ℕ) (c : Copy) (seq : ℕ) (op : Operation) → AreNumbered ops → op.seq ≡ seq
    → ((n : ℕ) → has c.seen n ≡ is_some (ops n)) → ((n : ℕ) → n < c.global → is_some (ops n) ≡ true)
    → IsSound ops restored c → IsSound (gaining ops seq (Some op)) restored (taking c seq (Some op))
sound-takes ops restored c seq op numbered number processed whole ok = sound-takes_found ops restored c seq op (Some op) numbered number processed whole (λ isnt. refl) ok

pub sound-knows : (ops : ℕ → Option Operation) (restored : ℕ) (c : Copy) (global : ℕ) → IsSound ops restored c → IsSound ops restored (knowing global c)
sound-knows ops restored c global ok = record { store = copy-knows ops restored c global ok.store; sorted = ok.sorted }

pub sound-flushes : (ops : ℕ → Option Operation) (restored : ℕ) (c : Copy) → IsSound ops restored c
    → IsSound ops restored (record c { store = flushed c.store; commit = c.global })
sound-flushes ops restored c ok = record { store = copy-flushes ops restored c ok.store; sorted = sorted-flushed c.store ok.sorted }

pub sound-merges : (ops : ℕ → Option Operation) (restored retention : ℕ) (picks : List ℕ) (c : Copy) → IsSound ops restored c → IsSound ops restored (after_merge retention picks c)
sound-merges ops restored retention picks c ok = record {
  store = copy-merges ops restored retention picks c ok.store;
  sorted = sorted-merged picks (merge_bound retention c) c.global c.store ok.store.once ok.sorted;
}

pub sorted-filled : (term : ℕ) (numbers : List ℕ) (ops : ℕ → Option Operation) (restored : ℕ) (c : Copy) → AreNumbered ops
    → ((n : ℕ) → has c.seen n ≡ is_some (ops n)) → ((n : ℕ) → n < c.global → is_some (ops n) ≡ true)
    → IsSound ops restored c → IsSorted (filled term numbers c).store
sorted-filled term [] ops restored c numbered processed whole ok = ok.sorted
sorted-filled term (n ∷ numbers) ops restored c numbered processed whole ok =
    sorted-filled term numbers (gaining ops n (Some (gap_op term n))) restored (taking c n (Some (gap_op term n)))
    (numbered-gaining ops n (gap_op term n) refl numbered)
    (λ k. has-marked c.seen n k ∙ (ap (λ (b : Bool). b || (n == k)) (processed k) ∙ gained-some (ops k) k n (gap_op term n)))
    (λ k lt. more (ops k) (if k == n then Some (gap_op term n) else None) (whole k lt))
    (sound-takes ops restored c n (gap_op term n) numbered refl processed whole ok)
  where
    more : (o later : Option Operation) → is_some o ≡ true → is_some (or_else o later) ≡ true
    more None later is = cc
    more (Some x) later is = refl

pub sound-plugged : (term : ℕ) (ops : ℕ → Option Operation) (restored : ℕ) (c : Copy) → AreNumbered ops
    → ((n : ℕ) → has c.seen n ≡ is_some (ops n)) → ((n : ℕ) → n < c.global → is_some (ops n) ≡ true)
    → IsSound ops restored c → IsSound (plugged ops term (end_of c.seen)) restored (filled term (missing_numbers c.seen) c)
sound-plugged term ops restored c numbered processed whole ok = record {
  store = copy-plugged term ops restored c numbered processed whole ok.store;
  sorted = sorted-filled term (missing_numbers c.seen) ops restored c numbered processed whole ok;
}
