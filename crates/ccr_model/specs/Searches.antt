-- What a search of one copy finds.
use Rattle.std.specs.Prelude.{false, not, ◌==◌, if◌then◌else◌, List, [], ◌∷◌, filter, filter_map, Option, Some, None, Ok, Err}
use Rattle.std.specs.Option.{option_map_or}
use Rattle.std.specs.List.{fold}
use Rattle.std.specs.Ordering.{is_lt}
use Rattle.ccr_op.specs.Operation.{Operation}
use Rattle.ccr_op.specs.declared.operation.Kind.TheVariants.{Index, Delete, NoOp}
use Rattle.ccr_doc.specs.Sources.{document_of}
use Rattle.ccr_doc.specs.declared.documents.Field.{Field}
use Rattle.ccr_query.specs.Answers.{HitsOfShard}
use Rattle.ccr_query.specs.Queries.{Tree, holds}
use Rattle.ccr_query.specs.Sorting.{hit_cmp}
use Rattle.ccr_query.specs.declared.answers.Hit.{Hit}
use Rattle.ccr_query.specs.declared.sorting.SortKey.{SortKey}
use Rattle.ccr_model.specs.Operations.{is_empty, greatest_about}
use Rattle.ccr_model.specs.Stores.{held}
use Rattle.ccr_model.specs.Copies.{Copy}

-- the document that an operation puts in place, where no operation of a greater number is about its id
abbrev pub live_hit : List Operation → Operation → Option Hit
live_hit ops op = elim op.kind as (λ _. Option Hit) [
  | Index id routing body ↦ if option_map_or (λ last. last.seq == op.seq) (greatest_about ops id) false then Some (record { id = id; routing = routing; body = body }) else None
  | Delete id routing ↦ None
  | NoOp ↦ None
]

-- the live documents of a set of operations
abbrev pub live_hits : List Operation → List Hit
live_hits ops = filter_map (live_hit ops) ops

-- the fields of a hit's source
abbrev pub fields_of_hit : Hit → List Field
fields_of_hit hit = elim (document_of hit.body) as (λ _. List Field) [ Ok fields ↦ fields | Err fault ↦ [] ]

-- the hit stands before those that the keys, and then the ids, put behind it
abbrev pub with_hit : List SortKey → Hit → List Hit → List Hit
with_hit keys hit [] = hit ∷ []
with_hit keys hit (x ∷ hits) =
    if is_lt (hit_cmp keys hit.id (fields_of_hit hit) x.id (fields_of_hit x)) then hit ∷ x ∷ hits else x ∷ with_hit keys hit hits

abbrev pub sorted_hits : List SortKey → List Hit → List Hit
sorted_hits keys hits = fold {A = Hit} {B = List Hit} (λ rest hit. with_hit keys hit rest) [] hits

-- the documents of a copy that the query holds on, in order, with its count and whether it has a gap
abbrev pub search_of : Copy → Tree → List SortKey → HitsOfShard
search_of c query keys = record {
  count = c.seen.count;
  gap = not (is_empty c.seen.above);
  hits = sorted_hits keys (filter (λ hit. holds query (fields_of_hit hit)) (live_hits (held c.store)));
}
