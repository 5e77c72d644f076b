-- Values of queries, of sort orders and of writes.
use Rattle.std.specs.Prelude.{◌≡◌, true, false, pos, [], ◌∷◌, Some, None}
use Rattle.std.specs.declared.cmp.Ordering.TheVariants.{Less, Greater}
use Rattle.std.specs.Ordering.{is_ge}
use Rattle.ccr_op.specs.declared.operation.Kind.TheVariants.{Delete}
use Rattle.ccr_doc.specs.declared.scalars.Scalar.TheVariants as scalars
use Rattle.ccr_doc.specs.declared.sources.BadSource.TheVariants as faults
use Rattle.ccr_query.specs.declared.conditions.Condition.TheVariants as conditions
use Rattle.ccr_query.specs.declared.sorting.SortOrder.TheVariants.{Asc, Desc}
use Rattle.ccr_query.specs.Conditions.{meets_bound}
use Rattle.ccr_query.specs.Queries.{condition, bool, trees_of, holds}
use Rattle.ccr_query.specs.Sorting.{value_cmp}
use Rattle.ccr_journal.specs.declared.requests.WriteRequest.{WriteRequest}
use Rattle.ccr_journal.specs.declared.replies.Reply.TheVariants as replies
use Rattle.ccr_journal.specs.declared.replies.Refusal.TheVariants as refusals
use Rattle.ccr_model.specs.LeaderRows.{write_row, kind_of_request}
use Rattle.ccr_model_values.specs.Words.{below, copy, shard}

-- one of `should` is needed only where `must` and `filter` are empty; a bound is met by values of its kind alone; descending is the other way
pub record AreAsked : Type 0 where
  pub not_needed : holds (bool (trees_of (condition conditions.MatchAll ∷ [])) (trees_of []) (trees_of (condition (conditions.Exists (97 ∷ [])) ∷ [])) (trees_of [])) [] ≡ true
  pub needed : holds (bool (trees_of []) (trees_of []) (trees_of (condition (conditions.Exists (97 ∷ [])) ∷ [])) (trees_of [])) [] ≡ false
  pub met : meets_bound is_ge (scalars.Number (pos 3)) (Some (scalars.Number (pos 3))) ≡ true
  pub not_met : meets_bound is_ge (scalars.Number (pos 2)) (Some (scalars.Number (pos 3))) ≡ false
  pub another_kind : meets_bound is_ge (scalars.Text []) (Some (scalars.Number (pos 3))) ≡ false
  pub ascending : value_cmp Asc (scalars.Number (pos 2)) (scalars.Number (pos 3)) ≡ Less
  pub descending : value_cmp Desc (scalars.Number (pos 2)) (scalars.Number (pos 3)) ≡ Greater

-- a write that expects another operation than the document's, which there is none of
abbrev pub request : WriteRequest
request = record { id = 97 ∷ []; routing = None; body = None; create = false; expect = Some (9, 1) }

-- a bad source is told before a conflict; a delete has the routing of its request
pub record AreWritten : Type 0 where
  pub bad : (write_row (shard (copy 6 (below 5) [] 5 0 0 []) []) request (Some faults.NotJson) None).reply ≡ replies.Refused (refusals.BadSource faults.NotJson)
  pub conflict : (write_row (shard (copy 6 (below 5) [] 5 0 0 []) []) request None None).reply ≡ replies.Refused (refusals.Conflict None)
  pub routed : kind_of_request (97 ∷ []) (Some (98 ∷ [])) None ≡ Delete (97 ∷ []) (Some (98 ∷ []))
