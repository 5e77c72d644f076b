-- What the policies pick, from the lists of sizes that they have seen, the oldest first.
use Rattle.std.specs.Prelude.{ℕ, ◌-◌, ◌==◌, Bool, min, nat_le, List, [], ◌∷◌, length, map, filter, find, count_by, Option, None, Some}
use Rattle.std.specs.List.{range_with_len, enumerate_from}
use Rattle.std.specs.Option.{option_map_or}
use Rattle.std.specs.Int.{w64, leading_zeros}
use Rattle.ccr_policy.specs.declared.PartSize.{PartSize}

-- the list that was seen last, or `kept` where none was
abbrev pub last_sizes : List PartSize → List (List PartSize) → List PartSize
last_sizes kept [] = kept
last_sizes kept (sizes ∷ seen) = last_sizes sizes seen

-- how many parts were seen last
abbrev pub parts_seen : ℕ → List (List PartSize) → ℕ
parts_seen kept [] = kept
parts_seen kept (sizes ∷ seen) = parts_seen (length sizes) seen

-- the first `most` places of that many parts
abbrev pub first_places : ℕ → ℕ → List ℕ
first_places most parts = range_with_len 0 (min most parts)

-- the number of binary digits
abbrev pub binary_digits : ℕ → ℕ
binary_digits ops = 64 - leading_zeros w64 ops

-- how many parts are in the tier
abbrev pub parts_in : ℕ → List PartSize → ℕ
parts_in tier sizes = count_by (λ part. binary_digits part.ops == tier) sizes

-- the places of the parts in the tier
abbrev pub places_in : ℕ → List PartSize → List ℕ
places_in tier sizes = map (λ entry. entry.0) (filter (λ entry. binary_digits entry.1.ops == tier) (enumerate_from 0 sizes))

-- the least of the tiers below `tiers` that has at least that many parts
unfoldable pub least_tier : ℕ → ℕ → List PartSize → Option ℕ
least_tier tiers per_tier sizes = find (λ tier. nat_le per_tier (parts_in tier sizes)) (range_with_len 0 tiers)

-- the places of the parts in that tier: a number of 64 bits has less than 65 digits
unfoldable pub tier_places : ℕ → List PartSize → List ℕ
tier_places per_tier sizes = option_map_or (λ tier. places_in tier sizes) (least_tier 65 per_tier sizes) []
