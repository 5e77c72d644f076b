-- The text of an answer: one JSON object without spaces, its members in this order.
use Rattle.std.specs.Prelude.{ℕ, ℤ, Bool, true, false, Option, Some, None, List, [], ◌++◌, map, codes, decimal}
use Rattle.std.specs.Fmt.{signed_decimal}
use Rattle.std.specs.List.{join_with_byte}
use Rattle.serde_json.specs.Data.{string}
use Rattle.serde_json.specs.Written.{compact_text}
use Rattle.ccr_query.specs.declared.answers.Hit.{Hit}
use Rattle.ccr_search.specs.declared.joining.Answer.{Answer}

-- a checkpoint in decimal digits
unfoldable pub checkpoint_text : ℤ → List ℕ
checkpoint_text checkpoint = signed_decimal checkpoint

unfoldable pub truth_text : Bool → List ℕ
truth_text true = codes "true"
truth_text false = codes "false"

-- an id as a JSON string
abbrev pub id_text : List ℕ → List ℕ
id_text id = compact_text (string id)

-- where a hit was routed by another text than its id
abbrev pub routing_text : Option (List ℕ) → List ℕ
routing_text None = []
routing_text (Some routing) = codes ",\"routing\":" ++ id_text routing

-- the source stands as it was kept
unfoldable pub hit_text : Hit → List ℕ
hit_text hit = codes "{\"id\":" ++ id_text hit.id ++ routing_text hit.routing ++ codes ",\"source\":" ++ hit.body ++ codes "}"

-- with commas between
abbrev pub listed : {X : Type 0} → (X → List ℕ) → List X → List ℕ
listed {X = X} text xs = join_with_byte 44 (map {A = X} {B = List ℕ} text xs)

unfoldable pub answer_text : Answer → List ℕ
answer_text a =
    codes "{\"checkpoints\":[" ++ listed checkpoint_text a.checkpoints.items ++ codes "],\"gaps\":[" ++ listed truth_text a.gaps.items
    ++ codes "],\"hits\":[" ++ listed hit_text a.hits.items ++ codes "],\"total\":" ++ decimal a.total ++ codes "}"
