-- the policies that are handed in
use Rattle.std.proofs.Common.{◌≡◌, ◌≢◌, ℕ, suc, ◌+◌, ◌-◌, List, [], ◌∷◌, map, ap, sym, subst, arith}
use Rattle.std.specs.Prelude.{slice_get}
use Rattle.ccr_policy.specs.declared.PartSize.{PartSize}
use Rattle.ccr_model.specs.Policies.{picks_of}
use Rattle.ccr_playing.specs.declared.statuses.Status.{Status}
use Rattle.ccr_playing.specs.declared.statuses.Status.TheVariants as ends
use Rattle.ccr_playing.specs.Tells.{AreTold}
use Rattle.ccr_worlds.specs.Fated.{Fate, AreLeft}

left_from : {B : Type 0} (fate : B → Fate) (fates : ℕ → Fate) (n : ℕ) (bs : List B)
    → ((k : ℕ) (seen : List (List PartSize)) → fates (n + k) seen ≡ picks_of fate (slice_get bs k) seen) → AreLeft fates n (map fate bs)
left_from fate fates n [] are = λ m le seen.
    let same : n + (m - n) ≡ m = omega arith in
    subst (λ i. fates i seen ≡ []) same (are (m - n) seen)
left_from fate fates n (b ∷ bs) are = (
  λ seen. let same : n + 0 ≡ n = omega arith in sym (subst (λ i. fates i seen ≡ fate b seen) same (are 0 seen)),
  left_from fate fates (n + 1) bs (λ k seen. let same : n + suc k ≡ n + 1 + k = omega arith in subst (λ i. fates i seen ≡ picks_of fate (slice_get bs k) seen) same (are (suc k) seen)),
)

-- before any world is made, those are left that were handed in, each for the world of its place
pub handed_left : {B : Type 0} (fate : B → Fate) (bs : List B) → AreLeft (λ n. picks_of fate (slice_get bs n)) 0 (map fate bs)
handed_left fate bs = left_from fate (λ n. picks_of fate (slice_get bs n)) 0 bs (λ k seen. let same : 0 + k ≡ k = omega arith in ap (λ i. picks_of fate (slice_get bs i) seen) same)

-- a run of some form ends as none of no form
pub is_no_usage : (status : Status) (reads reads' writes writes' : ℕ) → AreTold status reads reads' writes writes' → status ≢ ends.Usage
is_no_usage status reads reads' writes writes' told e = subst (λ s. AreTold s reads reads' writes writes') e told
