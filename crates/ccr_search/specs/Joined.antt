-- What the answers of several shards come to as one.
use Rattle.std.specs.Prelude.{◌≡◌, ℕ, ℤ, pos, negsuc, suc, ◌-◌, ◌==◌, if◌then◌else◌, Bool, true, false, Option, Some, ◌<◌, List, [], ◌∷◌, map, drop, slice_get}
use Rattle.std.specs.List.{AllByRecursion, flat_map}
use Rattle.std.specs.Ordering.{is_lt}
use Rattle.ccr_doc.specs.declared.scalars.Scalar.{Scalar}
use Rattle.ccr_query.specs.Answers.{HitsOfShard}
use Rattle.ccr_query.specs.Sorting.{hit_cmp}
use Rattle.ccr_query.specs.declared.answers.Hit.{Hit}
use Rattle.ccr_query.specs.declared.sorting.SortKey.{SortKey}
use Rattle.ccr_model.specs.Answers.{AreInOrder}
use Rattle.ccr_model.specs.Searches.{fields_of_hit, sorted_hits}
use Rattle.ccr_model.specs.SeveralShards.{JoinedAnswer}
use Rattle.ccr_search.specs.Ranks.{values_in}
use Rattle.ccr_search.specs.declared.fronts.Front.{Front}
use Rattle.ccr_search.specs.declared.joining.Answer.{Answer}

-- the checkpoint of a count is the count less 1, and the count is one more
abbrev pub checkpoint_of : ℕ → ℤ
checkpoint_of count = if count == 0 then negsuc 0 else pos (count - 1)

abbrev pub count_of : ℤ → ℕ
count_of (pos n) = suc n
count_of (negsuc n) = 0

-- what an answer says, by counts
abbrev pub said_by : Answer → JoinedAnswer
said_by a = record { counts = map {A = ℤ} {B = ℕ} count_of a.checkpoints.items; gaps = a.gaps.items; hits = a.hits.items; total = a.total }

-- each shard's hits stand in order, and none twice
abbrev pub AreInOrderEach : List SortKey → List HitsOfShard → Type 0
AreInOrderEach keys parts = AllByRecursion (λ (part : HitsOfShard). AreInOrder keys part.hits) parts

-- ---- fronts

-- the hits that each front still has
abbrev pub rests_in : List Front → List (List Hit)
rests_in fronts = map {A = Front} {B = List Hit} (λ front. front.hits.now) fronts

-- all of them, sorted together
abbrev pub sorted_rests : List SortKey → List (List Hit) → List Hit
sorted_rests keys rests = sorted_hits keys (flat_map {X = List Hit} {A = Hit} (λ rest. rest) rests)

abbrev pub AreSorted : List SortKey → List (List Hit) → Type 0
AreSorted keys rests = AllByRecursion (AreInOrder keys) rests

-- the values beside a front are those of its first hit
abbrev pub AreFirstValues : List SortKey → List Hit → List (Option Scalar) → Type 0
AreFirstValues keys [] values = Unit {0}
AreFirstValues keys (hit ∷ hits) values = values ≡ values_in keys (fields_of_hit hit)

abbrev pub IsValued : List SortKey → Front → Type 0
IsValued keys front = AreFirstValues keys front.hits.now front.values.items

abbrev pub AreValued : List SortKey → List Front → Type 0
AreValued keys fronts = AllByRecursion (IsValued keys) fronts

-- the first has a hit, which stands before that of the other, if it has one
abbrev pub leads : List SortKey → List Hit → List Hit → Bool
leads keys [] other = false
leads keys (hit ∷ hits) [] = true
leads keys (hit ∷ hits) (x ∷ others) = is_lt (hit_cmp keys hit.id (fields_of_hit hit) x.id (fields_of_hit x))

-- of the first n lists no one leads the one at this place, which leads each before it that has a hit
pub record IsFirstOf (keys : List SortKey) (lists : List (List Hit)) (n place : ℕ) : Type 0 where
  pub first : List Hit
  pub there : slice_get lists place ≡ Some first
  pub none_leads : (at : ℕ) (list : List Hit) → at < n → slice_get lists at ≡ Some list → leads keys list first ≡ false
  pub before : (at : ℕ) (hit : Hit) (hits : List Hit) → at < place → slice_get lists at ≡ Some (hit ∷ hits) → leads keys first (hit ∷ hits) ≡ true

-- the first of these hits was taken, if there is one, and the others are left
pub record IsTaken (keys : List SortKey) (old new : List (List Hit)) (taken : Option Hit) : Type 0 where
  pub sorted : AreSorted keys new
  pub first : taken ≡ slice_get (sorted_rests keys old) 0
  pub left : sorted_rests keys new ≡ drop 1 (sorted_rests keys old)

-- so many of these hits were passed over, or all of them
pub record IsSkipped (keys : List SortKey) (old new : List (List Hit)) (n : ℕ) : Type 0 where
  pub sorted : AreSorted keys new
  pub left : sorted_rests keys new ≡ drop n (sorted_rests keys old)
