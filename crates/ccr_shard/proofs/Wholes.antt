-- lemmas on copies that have all, on gaps, and on messages in flight
use Rattle.std.proofs.Common.{◌≡◌, ℕ, zero, suc, ◌+◌, ◌<◌, Bool, true, false, not, ◌&&◌, List, [], ◌∷◌, map, length, Some, refl, sym, ◌∙◌, ap, arith, add-one}
use Rattle.std.specs.Prelude.{slice_get, IsTrue, ◌↔◌, ◌==◌}
use Rattle.std.proofs.lemmas.Bool.Decides.{nat_tests}
use Rattle.ccr_tracker.specs.Numbers.{has, HasGap, AscendsFrom}
use Rattle.ccr_model.specs.Operations.{is_empty}
use Rattle.ccr_model.specs.Copies.{Replica}
use Rattle.ccr_model.specs.Settled.{is_whole}
use Rattle.ccr_shard.specs.Wholes.{are_whole_from}

whole_step : (count : ℕ) (rs : List Replica) (place : ℕ) (r : Replica) → Some r ≡ slice_get rs place
    → are_whole_from place count rs ≡ (is_whole count r.copy && are_whole_from (suc place) count rs)
whole_step count [] place r at = absurd (cc)
whole_step count (x ∷ rs) zero r at =
    let same : r ≡ x = cc in
    ap (λ (y : Replica). is_whole count y.copy && are_whole_from 0 count rs) (sym same)
whole_step count (x ∷ rs) (suc place) r at = whole_step count rs place r at

-- the replica at a place and those behind it
pub whole_next : (count : ℕ) (rs : List Replica) (place : ℕ) (r : Replica) (b : Bool) → Some r ≡ slice_get rs place → b ≡ is_whole count r.copy
    → are_whole_from place count rs ≡ (b && are_whole_from (place + 1) count rs)
whole_next count rs place r b at is =
    whole_step count rs place r at
    ∙ ap (λ (n : ℕ). is_whole count r.copy && are_whole_from n count rs) (sym (add-one place))
    ∙ ap (λ (t : Bool). t && are_whole_from (place + 1) count rs) (sym is)

-- whether there is a gap tells whether numbers stand above the count
pub gap_is : (count : ℕ) (above : List ℕ) (b : Bool) → AscendsFrom (count + 1) above → (IsTrue b ↔ HasGap (record { count = count; above = above })) → b ≡ not (is_empty above)
gap_is count [] true ascends gap =
    let found : HasGap (record { count = count; above = [] }) = gap.0 refl in
    let n : ℕ = found.0 in
    let low : count < n = found.1 in
    let there : has (record { count = count; above = [] }) n ≡ true = found.2 in
    absurd (grind (arith, nat_tests))
gap_is count [] false ascends gap = refl
gap_is count (x ∷ above) true ascends gap = refl
gap_is count (x ∷ above) false ascends gap =
    let low : count < x = omega (arith, ascends.0) in
    let there : has (record { count = count; above = x ∷ above }) x ≡ true = grind (arith, nat_tests) in
    let is : false ≡ true = gap.1 (x, low, there) in
    absurd (cc)

-- a list is empty where its length is 0
pub none_left : {X Y : Type 0} (f : X → Y) (xs : List X) → (length xs == 0) ≡ is_empty (map f xs)
none_left f [] = refl
none_left f (x ∷ xs) = grind (arith, nat_tests)
