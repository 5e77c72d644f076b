-- What the answers of several shards come to as one.
use Rattle.std.specs.Prelude.{◌≡◌, ℕ, ◌+◌, Bool, true, false, List, [], ◌∷◌, length, map, take, drop, slice_get, Some, None}
use Rattle.std.specs.List.{flat_map, sum}
use Rattle.ccr_op.specs.Operation.{Operation}
use Rattle.ccr_query.specs.Answers.{HitsOfShard}
use Rattle.ccr_query.specs.Queries.{Tree}
use Rattle.ccr_query.specs.declared.answers.Hit.{Hit}
use Rattle.ccr_query.specs.declared.sorting.SortKey.{SortKey}
use Rattle.ccr_model.specs.Searches.{sorted_hits}
use Rattle.ccr_model.specs.Answers.{IsAnswer}
use Rattle.ccr_model.specs.SeveralShards.{JoinedAnswer, IsAnswerOf}

-- what a shard tells of its answer: the count of its copy and whether it has a gap, its first hits, and how many there are in all
pub record FrontOfShard : Type 0 where
  pub count : ℕ
  pub gap : Bool
  pub hits : List Hit
  pub total : ℕ

-- the front of an answer, at most so many hits
abbrev pub front_of : ℕ → HitsOfShard → FrontOfShard
front_of most answer = record { count = answer.count; gap = answer.gap; hits = take most answer.hits; total = length answer.hits }

-- the hits of all shards, sorted together, from a place on, at most so many; those that neither keys nor ids tell apart stay in the order of
-- their shards. Counts and gaps are told by shard, and the totals are summed
abbrev pub joined : List SortKey → ℕ → ℕ → List FrontOfShard → JoinedAnswer
joined keys from size shards = record {
  counts = map {A = FrontOfShard} {B = ℕ} (λ shard. shard.count) shards;
  gaps = map {A = FrontOfShard} {B = Bool} (λ shard. shard.gap) shards;
  hits = take size (drop from (sorted_hits keys (flat_map {X = FrontOfShard} {A = Hit} (λ shard. shard.hits) shards)));
  total = sum (map {A = FrontOfShard} {B = ℕ} (λ shard. shard.total) shards);
}

-- ---- the law, over a set of operations for each shard

-- where each shard answers truly, the fronts of their answers, as long as place and size together, come to what a search of them all has to answer
abbrev pub FrontsJoin : (ℕ → Operation → Type 0) → Type 0
FrontsJoin sets =
    (query : Tree) (keys : List SortKey) (answers : List HitsOfShard)
    → ((shard : ℕ) (answer : HitsOfShard) → slice_get answers shard ≡ Some answer → IsAnswer (sets shard) query keys answer)
    → (from size : ℕ) → IsAnswerOf (length answers) sets query keys from size (joined keys from size (map (front_of (from + size)) answers))

-- ---- an example

abbrev pub hit_of : ℕ → ℕ → Hit
hit_of id body = record { id = id ∷ []; routing = None; body = body ∷ [] }

-- the second and the third of six hits in two shards, the first two hits being of one id
abbrev pub JoinsTwo : Type 0
JoinsTwo =
    joined [] 1 2 (map (front_of 3) (
    record { count = 2; gap = false; hits = hit_of 1 0 ∷ hit_of 3 0 ∷ [] }
    ∷ record { count = 5; gap = true; hits = hit_of 1 9 ∷ hit_of 2 9 ∷ hit_of 4 9 ∷ hit_of 5 9 ∷ [] } ∷ []))
    ≡ record { counts = 2 ∷ 5 ∷ []; gaps = false ∷ true ∷ []; hits = hit_of 1 9 ∷ hit_of 2 9 ∷ []; total = 6 }
