-- What a search of one copy has to answer, over a set of operations.
use Rattle.std.specs.Prelude.{◌≡◌, ◌⊎◌, ◌↔◌, ℕ, ◌≤◌, ◌<◌, true, List, [], ◌∷◌, Option, Some, IsTrue}
use Rattle.std.specs.List.{AllByRecursion}
use Rattle.std.specs.declared.cmp.Ordering.TheVariants.{Less}
use Rattle.ccr_op.specs.Operation.{Operation, id_of}
use Rattle.ccr_op.specs.declared.operation.Kind.TheVariants.{Index}
use Rattle.ccr_query.specs.Answers.{HitsOfShard}
use Rattle.ccr_query.specs.Queries.{Tree, holds}
use Rattle.ccr_query.specs.Sorting.{hit_cmp}
use Rattle.ccr_query.specs.declared.answers.Hit.{Hit}
use Rattle.ccr_query.specs.declared.sorting.SortKey.{SortKey}
use Rattle.ccr_model.specs.Searches.{fields_of_hit}

-- y is one of the list
abbrev pub IsIn : {X : Type 0} → List X → X → Type 0
IsIn [] y = ⊥
IsIn (x ∷ xs) y = (x ≡ y) ⊎ IsIn xs y

-- a set of operations has one of the number n
abbrev pub HasNumber : (Operation → Type 0) → ℕ → Type 0
HasNumber S n = (op : Operation) × S op × (op.seq ≡ n)

-- the count of a set is the least number that it doesn't have
pub record IsCount (S : Operation → Type 0) (count : ℕ) : Type 0 where
  pub below : (n : ℕ) → n < count → HasNumber S n
  pub absent : ¬ HasNumber S count

-- a set has a gap behind its count where it has a greater number
abbrev pub HasAbove : (Operation → Type 0) → ℕ → Type 0
HasAbove S count = (op : Operation) × S op × (count < op.seq)

-- a set has exactly the numbers below a count
abbrev pub HasExactlyBelow : (Operation → Type 0) → ℕ → Type 0
HasExactlyBelow S count = (n : ℕ) → HasNumber S n ↔ (n < count)

-- of the operations of a set about this id, the one of greatest number puts this source in place, with this routing
pub record IsLive (S : Operation → Type 0) (id : List ℕ) (routing : Option (List ℕ)) (body : List ℕ) : Type 0 where
  pub op : Operation
  pub is_in : S op
  pub puts : op.kind ≡ Index id routing body
  pub greatest : (other : Operation) → S other → id_of other.kind ≡ Some id → other.seq ≤ op.seq

-- two sets show the same documents
abbrev pub SameView : (Operation → Type 0) → (Operation → Type 0) → Type 0
SameView S T = (id : List ℕ) (routing : Option (List ℕ)) (body : List ℕ) → IsLive S id routing body ↔ IsLive T id routing body

-- the hits stand in the order of the keys and then of the ids, and none twice
abbrev pub AreInOrder : List SortKey → List Hit → Type 0
AreInOrder keys [] = Unit {0}
AreInOrder keys (hit ∷ hits) =
    AllByRecursion (λ (later : Hit). hit_cmp keys hit.id (fields_of_hit hit) later.id (fields_of_hit later) ≡ Less) hits × AreInOrder keys hits

-- the document is live in a set, and the query holds on it
pub record IsHit (S : Operation → Type 0) (query : Tree) (hit : Hit) : Type 0 where
  pub live : IsLive S hit.id hit.routing hit.body
  pub holds : holds query (fields_of_hit hit) ≡ true

-- what a search answers over a set of operations
pub record IsAnswer (S : Operation → Type 0) (query : Tree) (keys : List SortKey) (answer : HitsOfShard) : Type 0 where
  pub count : IsCount S answer.count
  pub gap : IsTrue answer.gap ↔ HasAbove S answer.count
  pub ordered : AreInOrder keys answer.hits
  pub exact : (hit : Hit) → IsIn answer.hits hit ↔ IsHit S query hit
