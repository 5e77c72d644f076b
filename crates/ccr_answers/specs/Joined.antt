-- What a search over several shards found, and its text.
use Rattle.std.specs.Prelude.{ℕ, false, List, [], ◌∷◌, ◌++◌, length, map, Option, None, Some, codes, decimal}
use Rattle.std.specs.List.{AllByRecursion}
use Rattle.std.specs.Option.{option_map_or}
use Rattle.ccr_query.specs.Answers.{HitsOfShard}
use Rattle.ccr_query.specs.declared.sorting.SortKey.{SortKey}
use Rattle.ccr_journal.specs.declared.replies.Refusal.{Refusal}
use Rattle.ccr_journal.specs.declared.replies.Reply.{Reply}
use Rattle.ccr_journal.specs.declared.replies.Reply.TheVariants as reply
use Rattle.ccr_model.specs.Answers.{AreInOrder}
use Rattle.ccr_model.specs.SeveralShards.{JoinedAnswer}
use Rattle.ccr_law_stores.specs.ShardsJoined.{FrontOfShard, joined}
use Rattle.ccr_search.specs.Joined.{checkpoint_of}
use Rattle.ccr_search.specs.Printed.{checkpoint_text, hit_text, listed, truth_text}
use Rattle.ccr_answers.specs.Words.{refusal_text}

-- ---- the answers of several shards as one

-- what a shard answered to a search; any other reply tells of no hit
abbrev pub answer_in : Reply → HitsOfShard
answer_in (reply.Found answer) = answer
answer_in _ = record { count = 0; gap = false; hits = [] }

-- all that a shard answered, none of its hits left out
abbrev pub whole : HitsOfShard → FrontOfShard
whole answer = record { count = answer.count; gap = answer.gap; hits = answer.hits; total = length answer.hits }

-- the count of each shard's copy and whether it has a gap; the hits of all shards by the keys, then by their ids, then by shard, of which there are so
-- many from a place on; and how many there are in all
abbrev pub found : List SortKey → ℕ → ℕ → List Reply → JoinedAnswer
found keys from size told = joined keys from size (map whole (map answer_in told))

-- the hits of the reply stand in the order of the keys and then of their ids, none twice, where it tells of any
abbrev pub IsOrderedBy : List SortKey → Reply → Type 0
IsOrderedBy keys (reply.Found answer) = AreInOrder keys answer.hits
IsOrderedBy keys _ = Unit {0}

abbrev pub AreOrderedBy : List SortKey → List Reply → Type 0
AreOrderedBy keys told = AllByRecursion (λ reply. IsOrderedBy keys reply) told

-- ---- its text

-- as a search's answer is written
abbrev pub joined_text : JoinedAnswer → List ℕ
joined_text a =
    codes "{\"checkpoints\":[" ++ listed checkpoint_text (map checkpoint_of a.counts) ++ codes "],\"gaps\":[" ++ listed truth_text a.gaps
    ++ codes "],\"hits\":[" ++ listed hit_text a.hits ++ codes "],\"total\":" ++ decimal a.total ++ codes "}"

-- the first refusal
abbrev pub refusal_in : List Reply → Option Refusal
refusal_in [] = None
refusal_in (reply.Refused why ∷ told) = Some why
refusal_in (_ ∷ told) = refusal_in told

abbrev pub found_text : List SortKey → ℕ → ℕ → List Reply → List ℕ
found_text keys from size told = option_map_or refusal_text (refusal_in told) (joined_text (found keys from size told))
