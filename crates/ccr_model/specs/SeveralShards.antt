-- What a search of several shards has to answer, over a set of operations for each of them.
use Rattle.std.specs.Prelude.{◌≡◌, ◌⊎◌, ◌↔◌, ℕ, ◌<◌, Bool, List, [], ◌∷◌, length, map, take, drop, slice_get, Some, IsTrue}
use Rattle.std.specs.List.{AllByRecursion}
use Rattle.std.specs.declared.cmp.Ordering.TheVariants.{Less, Equal}
use Rattle.ccr_op.specs.Operation.{Operation}
use Rattle.ccr_query.specs.Queries.{Tree}
use Rattle.ccr_query.specs.Sorting.{hit_cmp}
use Rattle.ccr_query.specs.declared.answers.Hit.{Hit}
use Rattle.ccr_query.specs.declared.sorting.SortKey.{SortKey}
use Rattle.ccr_model.specs.Searches.{fields_of_hit}
use Rattle.ccr_model.specs.Answers.{IsIn, IsCount, HasAbove, IsHit}

-- a hit, and the shard that has it
pub record ShardHit : Type 0 where
  pub shard : ℕ
  pub hit : Hit

-- the count of each shard's copy and whether it has a gap, by shard; hits; and how many there are in all
pub record JoinedAnswer : Type 0 where
  pub counts : List ℕ
  pub gaps : List Bool
  pub hits : List Hit
  pub total : ℕ

-- the keys tell them apart, then the ids, and then the shards
abbrev pub StandsBefore : List SortKey → ShardHit → ShardHit → Type 0
StandsBefore keys a b =
    (hit_cmp keys a.hit.id (fields_of_hit a.hit) b.hit.id (fields_of_hit b.hit) ≡ Less)
    ⊎ ((hit_cmp keys a.hit.id (fields_of_hit a.hit) b.hit.id (fields_of_hit b.hit) ≡ Equal) × (a.shard < b.shard))

abbrev pub StandInOrder : List SortKey → List ShardHit → Type 0
StandInOrder keys [] = Unit {0}
StandInOrder keys (at ∷ all) = AllByRecursion (StandsBefore keys at) all × StandInOrder keys all

-- one of so many shards has the document, and the query holds on it
pub record IsHitOfShard (shards : ℕ) (sets : ℕ → Operation → Type 0) (query : Tree) (at : ShardHit) : Type 0 where
  pub shard : at.shard < shards
  pub hit : IsHit (sets at.shard) query at.hit

-- all hits in order, of which the answer has those from a place on, at most so many, and tells how many there are
pub record IsAnswerOf (shards : ℕ) (sets : ℕ → Operation → Type 0) (query : Tree) (keys : List SortKey) (from size : ℕ) (answer : JoinedAnswer) : Type 0 where
  pub all : List ShardHit
  pub ordered : StandInOrder keys all
  pub exact : (at : ShardHit) → IsIn all at ↔ IsHitOfShard shards sets query at
  pub hits : answer.hits ≡ map {A = ShardHit} {B = Hit} (λ at. at.hit) (take size (drop from all))
  pub total : answer.total ≡ length all
  pub each : (length answer.counts ≡ shards) × (length answer.gaps ≡ shards)
  pub count : (shard count : ℕ) → slice_get answer.counts shard ≡ Some count → IsCount (sets shard) count
  pub gap : (shard count : ℕ) (gap : Bool) → slice_get answer.counts shard ≡ Some count → slice_get answer.gaps shard ≡ Some gap
      → IsTrue gap ↔ HasAbove (sets shard) count
