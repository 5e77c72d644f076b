-- How copies change: on both sides, and by the promotion of a follower's replica.
use Rattle.std.specs.Prelude.{◌≡◌, true, false, [], ◌∷◌, Some, None}
use Rattle.ccr_journal.specs.declared.replies.Reply.TheVariants as replies
use Rattle.ccr_journal.specs.declared.replies.Refusal.TheVariants as refusals
use Rattle.ccr_model.specs.Copies.{Copy, Replica, Copies, new_copy, not_ready, knowing}
use Rattle.ccr_model.specs.CopyRows.{replicate_row, after_ack, taking_leases, sync_row, add_copy_row, merge_row, follower_promote_row}
use Rattle.ccr_model_values.specs.Words.{op, below, gapped, lease, leases, copy, replica, shard}

-- the primary 6 has 5 numbers and one above a gap, and knows of 3 on all; the replica 4 has 2, and was known to have 4
abbrev pub first : Copy
first = copy 6 (gapped 5 (7 ∷ [])) (op 3 ∷ op 4 ∷ op 7 ∷ []) 3 2 1 (lease 97 2 0 ∷ [])

abbrev pub second : Copy
second = copy 4 (below 2) (op 1 ∷ []) 1 0 0 []

abbrev pub waiting : Replica
waiting = replica second 4 true false

abbrev pub state : Copies
state = shard first (waiting ∷ [])

-- a new shard's copies have leases of term 1 and version 0; a global count that is learnt never lowers the known one
pub record AreNew : Type 0 where
  pub collection : (new_copy 2).leases ≡ leases 1 0 []
  pub higher : (knowing 5 second).global ≡ 5
  pub lower : (knowing 1 first).global ≡ 3

-- a leader is ready where each replica was resynced and then acked
pub record AreReady : Type 0 where
  pub acked_alone : not_ready (shard first (replica second 4 false true ∷ [])) ≡ Some 4
  pub resynced_alone : not_ready (shard first (replica second 4 true false ∷ [])) ≡ Some 4
  pub both : not_ready (shard first (replica second 4 true true ∷ [])) ≡ None

-- a replica takes what the primary has processed, also above a gap, and learns the global count
pub record Replicate : Type 0 where
  pub above_gap : (replicate_row state 4 7 (Some waiting)).reply ≡ replies.Done
  pub in_gap : (replicate_row state 4 5 (Some waiting)).reply ≡ replies.Refused (refusals.NoOperation 5)
  pub taken : (replicate_row state 4 7 (Some waiting)).next.replicas ≡ replica (copy 4 (gapped 2 (7 ∷ [])) (op 1 ∷ op 7 ∷ []) 3 0 0 []) 4 true false ∷ []

-- an ack tells the count that the replica has, be it less than was known
pub record Ack : Type 0 where
  pub known : (after_ack state 4 waiting).replicas ≡ replica second 2 true true ∷ []

-- a sync teaches the global count and the leases where these supersede; it is no ack, and leaves the floor
pub record Sync : Type 0 where
  pub learnt : (sync_row state 4 (Some waiting)).next.replicas ≡ replica (copy 4 (below 2) (op 1 ∷ []) 3 0 0 []) 4 true false ∷ []
  pub older : (taking_leases (record first { leases = leases 3 5 (lease 97 2 0 ∷ []) }) second).leases ≡ leases 3 6 []
  pub newer : (taking_leases (record first { leases = leases 3 7 (lease 97 2 0 ∷ []) }) second).leases ≡ leases 3 7 (lease 97 2 0 ∷ [])

-- a new copy has all that the primary has, its open part, floor and commit count as well; it is known at the primary's count, and the global
-- count is worked out: the least of 5, 4 and 5
pub record AddCopy : Type 0 where
  pub told : (add_copy_row state).reply ≡ replies.Added 7
  pub replicas : (add_copy_row state).next.replicas ≡ waiting ∷ replica (record first { number = 7 }) 5 true true ∷ []
  pub global : (add_copy_row state).next.primary.global ≡ 4
  pub next : (add_copy_row state).next.next ≡ 8

-- a merge by the retention setting
pub record Merge : Type 0 where
  pub floor : (merge_row (shard (copy 6 (below 9) [] 7 0 6 []) []) 2 6 [] (Some (copy 6 (below 9) [] 7 0 6 []))).reply ≡ replies.Merged 5 0 []

-- a follower's new primary knows the counts that the other copies have, and these go on as they were
pub record PromoteAtFollower : Type 0 where
  pub told : (follower_promote_row (shard first (replica second 2 true true ∷ replica (copy 5 (below 4) [] 1 0 0 []) 1 true true ∷ [])) 4 (Some (replica second 2 true true))).reply ≡ replies.Promoted 4 0
  pub replicas : (follower_promote_row (shard first (replica second 2 true true ∷ replica (copy 5 (below 4) [] 1 0 0 []) 1 true true ∷ [])) 4 (Some (replica second 2 true true))).next.replicas ≡ replica (copy 5 (below 4) [] 1 0 0 []) 4 true true ∷ []
