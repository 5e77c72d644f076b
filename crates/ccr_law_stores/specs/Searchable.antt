-- What a search of one copy answers, over what the copy was given and over the leader's line.
use Rattle.std.specs.Prelude.{◌≡◌, ℕ, ◌≤◌, ◌==◌, Bool, true, List, take, slice_get, count_by, Option, Some, is_some}
use Rattle.ccr_op.specs.Operation.{Operation}
use Rattle.ccr_tracker.specs.Numbers.{has, IsCanonical}
use Rattle.ccr_query.specs.Queries.{Tree}
use Rattle.ccr_query.specs.declared.sorting.SortKey.{SortKey}
use Rattle.ccr_model.specs.Stores.{held}
use Rattle.ccr_model.specs.Copies.{Copy}
use Rattle.ccr_model.specs.Searches.{search_of}
use Rattle.ccr_model.specs.Given.{IsAmong}
use Rattle.ccr_model.specs.Answers.{IsIn, IsAnswer, HasExactlyBelow}
use Rattle.ccr_model.specs.Past.{Line}
use Rattle.ccr_model.specs.CopyFacts.{IsLineCopy, HoldsEnough}
use Rattle.ccr_model.specs.Invariants.{IsTrueFollowerCopy}
use Rattle.ccr_model.specs.Headline.{AnswersBy}

-- no number stands twice in what a copy holds
abbrev pub HoldsOnce : Copy → Type 0
HoldsOnce c = (n : ℕ) → count_by (λ op. op.seq == n) (held c.store) ≤ 1

-- each operation is told by its number
abbrev pub AreNumbered : (ℕ → Option Operation) → Type 0
AreNumbered ops = (n : ℕ) (op : Operation) → ops n ≡ Some op → op.seq ≡ n

-- each operation is the line's of its number
abbrev pub AreOfLine : List Operation → (ℕ → Option Operation) → Type 0
AreOfLine line ops = (n : ℕ) (op : Operation) → ops n ≡ Some op → slice_get line n ≡ Some op

-- a copy has processed what it was given, in the one form of such a set, and holds enough of it, nothing twice
pub record IsSearchable (ops : ℕ → Option Operation) (restored : ℕ) (c : Copy) : Type 0 where
  pub store : HoldsEnough ops restored c
  pub processed : (n : ℕ) → has c.seen n ≡ is_some (ops n)
  pub ordered : IsCanonical c.seen
  pub numbered : AreNumbered ops
  pub once : HoldsOnce c

-- ---- the laws

-- a search answers over what the copy was given
abbrev pub AnswersOverGiven : Type 0
AnswersOverGiven =
    (ops : ℕ → Option Operation) (restored : ℕ) (c : Copy) → IsSearchable ops restored c
    → (query : Tree) (keys : List SortKey) → IsAnswer (IsAmong ops) query keys (search_of c query keys)

-- where that is exactly the line's operations below a count, the answer is the line's at that count
abbrev pub AnswersOverLine : Type 0
AnswersOverLine =
    (line : List Operation) (ops : ℕ → Option Operation) (restored : ℕ) (c : Copy) → IsSearchable ops restored c → AreOfLine line ops
    → (n : ℕ) → HasExactlyBelow (IsAmong ops) n
    → (query : Tree) (keys : List SortKey) → IsAnswer (IsIn (take n line)) query keys (search_of c query keys)

-- a leader's copy answers by both, by the line where it was resynced
abbrev pub LeaderAnswers : Type 0
LeaderAnswers =
    (line : Line) (ops : ℕ → Option Operation) (resynced : Bool) (c : Copy) → IsLineCopy line ops resynced c → HoldsEnough ops 0 c
    → IsCanonical c.seen → AreNumbered ops → HoldsOnce c
    → (query : Tree) (keys : List SortKey) → AnswersBy line ops (resynced ≡ true) query keys (search_of c query keys)

-- a follower's copy always answers by both
abbrev pub FollowerAnswers : Type 0
FollowerAnswers =
    (line : Line) (given : ℕ → ℕ → Option Operation) (restored : ℕ) (c : Copy) → IsTrueFollowerCopy line given restored c
    → IsCanonical c.seen → HoldsOnce c
    → (query : Tree) (keys : List SortKey) → AnswersBy line (given c.number) (Unit {0}) query keys (search_of c query keys)
