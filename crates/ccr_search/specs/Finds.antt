-- What a search of one store finds.
use Rattle.std.specs.Prelude.{◌≡◌, ◌↔◌, ℕ, ◌≤◌, ◌==◌, true, if◌then◌else◌, List, [], count_by, Option, Some, None, Ok, Err}
use Rattle.ccr_op.specs.Operation.{Operation}
use Rattle.ccr_op.specs.declared.operation.Kind.TheVariants.{Index, Delete, NoOp}
use Rattle.ccr_doc.specs.Sources.{document_of}
use Rattle.ccr_doc.specs.declared.documents.Field.{Field}
use Rattle.ccr_doc.specs.declared.scalars.Scalar.{Scalar}
use Rattle.ccr_query.specs.Queries.{Tree, holds}
use Rattle.ccr_query.specs.declared.answers.Hit.{Hit}
use Rattle.ccr_query.specs.declared.sorting.SortKey.{SortKey}
use Rattle.ccr_model.specs.Operations.{live}
use Rattle.ccr_model.specs.Searches.{fields_of_hit}
use Rattle.ccr_model.specs.Answers.{IsIn, AreInOrder}
use Rattle.ccr_search.specs.Ranks.{values_in}

-- no number stands twice
abbrev pub AreOnce : List Operation → Type 0
AreOnce ops = (n : ℕ) → count_by (λ op. op.seq == n) ops ≤ 1

-- the greatest operation about the hit's id puts the hit in place, and the query holds on it
pub record IsFound (ops : List Operation) (query : Tree) (hit : Hit) : Type 0 where
  pub op : Operation
  pub is_live : live ops hit.id ≡ Some op
  pub puts : op.kind ≡ Index hit.id hit.routing hit.body
  pub holds : holds query (fields_of_hit hit) ≡ true

-- these hits and no others are found, in the order of the keys and then of their ids, and none twice
pub record AreFound (ops : List Operation) (query : Tree) (keys : List SortKey) (hits : List Hit) : Type 0 where
  pub ordered : AreInOrder keys hits
  pub exact : (hit : Hit) → IsIn hits hit ↔ IsFound ops query hit

-- the document that an operation puts in place
abbrev pub hit_of : Operation → Option Hit
hit_of op = elim op.kind as (λ _. Option Hit) [
  | Index id routing body ↦ Some (record { id = id; routing = routing; body = body })
  | Delete id routing ↦ None
  | NoOp ↦ None
]

-- a hit, where the query holds on it
abbrev pub kept_hit : Tree → Hit → Option Hit
kept_hit query hit = if holds query (fields_of_hit hit) then Some hit else None

-- the fields of a source; one that is no document has none
abbrev pub fields_of_source : List ℕ → List Field
fields_of_source source = elim (document_of source) as (λ _. List Field) [ Ok fields ↦ fields | Err fault ↦ [] ]

-- the values of a document for each key, where the query holds on it
abbrev pub values_if_held : Tree → List SortKey → List Field → Option (List (Option Scalar))
values_if_held query keys fields = if holds query fields then Some (values_in keys fields) else None

-- neither the query nor the keys tell these fields from any others
abbrev pub StandForAny : Tree → List SortKey → List Field → Type 0
StandForAny query keys own = (fields : List Field) → (holds query own ≡ holds query fields) × (values_in keys own ≡ values_in keys fields)
