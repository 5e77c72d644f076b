-- What a promotion, a forced promotion, a resync and the loss of a copy make of the leader's side.
use Rattle.std.specs.Prelude.{◌≡◌, ℕ, true, false, List, [], ◌∷◌, map, Some, None}
use Rattle.ccr_op.specs.Operation.{Operation}
use Rattle.ccr_wire.specs.declared.content.Content.TheVariants as contents
use Rattle.ccr_journal.specs.declared.replies.Reply.TheVariants as replies
use Rattle.ccr_journal.specs.declared.replies.Refusal.TheVariants as refusals
use Rattle.ccr_model.specs.Copies.{Copy, Replica, Copies}
use Rattle.ccr_model.specs.Leaders.{Leader, Session, history_of_term, with_stale}
use Rattle.ccr_model.specs.LeaderRows.{end_of, missing_numbers, as_primary, as_only_copy, leader_promote_row, force_promote_row, resync_row, leader_fail_copy}
use Rattle.ccr_model_values.specs.Words.{op, op_of_term, below, gapped, lease, leases, copy, replica, shard, uuid, leader, poll, kept, message}

-- the numbers below the greatest processed one that are not processed
pub record AreMissing : Type 0 where
  pub end_above_gap : end_of (gapped 2 (4 ∷ 6 ∷ [])) ≡ 7
  pub end_without_gap : end_of (below 3) ≡ 3
  pub missing : missing_numbers (gapped 2 (4 ∷ 6 ∷ [])) ≡ 2 ∷ 3 ∷ 5 ∷ []
  pub nothing : missing_numbers (below 3) ≡ []

-- a copy with a gap: it has processed 0, 1 and 3, and knows that all have 1
abbrev pub gappy : Copy
gappy = copy 4 (gapped 2 (3 ∷ [])) (op 0 ∷ op 1 ∷ op 3 ∷ []) 1 0 0 (lease 97 0 950 ∷ [])

-- the gap is filled by a no-op of the new term
abbrev pub whole : List Operation
whole = op 0 ∷ op 1 ∷ op_of_term 4 2 ∷ op 3 ∷ []

abbrev pub lost : Copy
lost = copy 6 (below 4) [] 2 1 1 []

-- a leader with a session, a kept request, and three polls: one at the primary 6 and two at the replica 4
abbrev pub session : Session
session = record { number = 3; count = 1; files = []; activity = 990 }

abbrev pub busy : Copies → Leader
busy copies = record (leader copies) {
  stale = copy 1 (below 1) [] 0 0 0 [] ∷ gappy ∷ [];
  sessions = session ∷ [];
  kept = kept 5 97 true ∷ [];
  polls = poll 9 7 6 4 ∷ poll 9 8 4 3 ∷ poll 1 2 4 3 ∷ [];
}

abbrev pub replica_of_gappy : Replica
replica_of_gappy = replica gappy 2 true true

abbrev pub before : Leader
before = busy (shard lost (replica_of_gappy ∷ []))

-- a promoted replica has no gap, and its leases are of the new term at the version that they had; sessions and kept requests end, as do the
-- polls at the lost copy, and session numbers go on
pub record Promote : Type 0 where
  pub primary : as_primary 4 gappy ≡ record (copy 4 (below 4) whole 1 0 0 []) { leases = leases 4 6 (lease 97 0 950 ∷ []) }
  pub told : (leader_promote_row before 4 (Some replica_of_gappy)).reply ≡ replies.Promoted 4 1
  pub sessions_end : (leader_promote_row before 4 (Some replica_of_gappy)).next.sessions ≡ []
  pub session_numbers : (leader_promote_row before 4 (Some replica_of_gappy)).next.next_session ≡ 4
  pub requests_end : (leader_promote_row before 4 (Some replica_of_gappy)).next.kept ≡ []
  pub polls_left : (leader_promote_row before 4 (Some replica_of_gappy)).next.polls ≡ poll 9 8 4 3 ∷ poll 1 2 4 3 ∷ []

-- the leader that begins with the gappy copy alone
abbrev pub forced : Leader
forced = record (busy (record {
  term = 4;
  primary = record (copy 4 (below 4) whole 4 0 0 []) { leases = leases 4 0 [] };
  replicas = [];
  next = 7;
})) { history = uuid (0 ∷ 8 ∷ []); stale = []; sessions = []; kept = []; polls = [] }

-- a stale copy that is promoted by force has no gap, all that it has is committed, and its collection is empty: of the new term, and version 0.
-- The history is the first one's number and 3 more in term 4. Other copies, stale or not, sessions, kept requests and polls end.
pub record ForcePromote : Type 0 where
  pub primary : as_only_copy 4 gappy ≡ record (copy 4 (below 4) whole 4 0 0 []) { leases = leases 4 0 [] }
  pub told : (force_promote_row before 4 (Some gappy)).reply ≡ replies.Forced 4 1
  pub next : (force_promote_row before 4 (Some gappy)).next ≡ forced
  pub unknown : (force_promote_row before 5 None).reply ≡ replies.Refused (refusals.NoStale 5)

abbrev pub last_uuid : List ℕ
last_uuid = 255 ∷ 255 ∷ 255 ∷ 255 ∷ 255 ∷ 255 ∷ 255 ∷ 255 ∷ 255 ∷ 255 ∷ 255 ∷ 255 ∷ 255 ∷ 255 ∷ 255 ∷ 255 ∷ []

-- the history of a term: the first is that of term 1; of the 128 bits each later term's is one more, and 0 follows on the last
pub record HaveHistories : Type 0 where
  pub first : history_of_term (uuid (5 ∷ 255 ∷ [])) 1 ≡ uuid (5 ∷ 255 ∷ [])
  pub later : history_of_term (uuid (5 ∷ 255 ∷ [])) 3 ≡ uuid (6 ∷ 1 ∷ [])
  pub round : history_of_term last_uuid 2 ≡ uuid (0 ∷ 0 ∷ [])

abbrev pub stale_copy : ℕ → Copy
stale_copy number = copy number (below 0) [] 0 0 0 []

abbrev pub stale_copies : List ℕ → List Copy
stale_copies copies = map {A = ℕ} {B = Copy} stale_copy copies

-- eight stale copies are kept, in ascending number: of nine that of least number is forgotten, be it the one that just left
pub record AreStale : Type 0 where
  pub order : with_stale (stale_copy 3) (stale_copies (1 ∷ 5 ∷ [])) ≡ stale_copies (1 ∷ 3 ∷ 5 ∷ [])
  pub eight : with_stale (stale_copy 9) (stale_copies (1 ∷ 2 ∷ 3 ∷ 4 ∷ 5 ∷ 6 ∷ 7 ∷ [])) ≡ stale_copies (1 ∷ 2 ∷ 3 ∷ 4 ∷ 5 ∷ 6 ∷ 7 ∷ 9 ∷ [])
  pub ninth : with_stale (stale_copy 9) (stale_copies (1 ∷ 2 ∷ 3 ∷ 4 ∷ 5 ∷ 6 ∷ 7 ∷ 8 ∷ [])) ≡ stale_copies (2 ∷ 3 ∷ 4 ∷ 5 ∷ 6 ∷ 7 ∷ 8 ∷ 9 ∷ [])
  pub least_ninth : with_stale (stale_copy 1) (stale_copies (2 ∷ 3 ∷ 4 ∷ 5 ∷ 6 ∷ 7 ∷ 8 ∷ 9 ∷ [])) ≡ stale_copies (2 ∷ 3 ∷ 4 ∷ 5 ∷ 6 ∷ 7 ∷ 8 ∷ 9 ∷ [])

-- a replica of an earlier term: it knows of 1 on all copies, and has 0 to 3 of its own; the primary knows of 2, and has 0 to 4
abbrev pub old : Replica
old = replica (copy 4 (below 4) (op_of_term 2 0 ∷ op_of_term 2 1 ∷ op_of_term 2 2 ∷ op_of_term 2 3 ∷ []) 1 0 0 (lease 98 1 0 ∷ [])) 0 false false

abbrev pub resyncing : Copies
resyncing = shard (copy 6 (below 5) (op 0 ∷ op 1 ∷ op 2 ∷ op 3 ∷ op 4 ∷ []) 2 1 1 (lease 97 2 0 ∷ [])) (old ∷ [])

-- from the greater global count on its operations are replaced by the primary's: 2 go and 3 come. It is resynced, not acked; what is known of it,
-- its own global count and its leases stay.
pub record Resync : Type 0 where
  pub told : (resync_row resyncing 4 (Some old)).reply ≡ replies.Resynced 2 3
  pub replicas : (resync_row resyncing 4 (Some old)).next.replicas
      ≡ replica (copy 4 (below 5) (op_of_term 2 0 ∷ op_of_term 2 1 ∷ op 2 ∷ op 3 ∷ op 4 ∷ []) 1 0 0 (lease 98 1 0 ∷ [])) 0 true false ∷ []

-- a leader of three copies where the replica 4 alone lacks the lease of a kept request
abbrev pub leased : ℕ → Copy
leased number = copy number (below 0) [] 0 number 0 (lease 97 0 950 ∷ [])

abbrev pub lacking : Replica
lacking = replica (stale_copy 4) 0 true true

abbrev pub keeping : Leader
keeping = busy (shard (leased 6) (lacking ∷ replica (leased 5) 0 true true ∷ []))

-- the copy that leaves is kept as stale and its polls end; the request is answered with the greatest floor of the copies that are left
pub record FailCopy : Type 0 where
  pub told : (leader_fail_copy keeping 4).reply ≡ replies.Done
  pub copies : (leader_fail_copy keeping 4).next.copies ≡ shard (leased 6) (replica (leased 5) 0 true true ∷ [])
  pub polls_left : (leader_fail_copy keeping 4).next.polls ≡ poll 9 7 6 4 ∷ []
  pub requests_left : (leader_fail_copy keeping 4).next.kept ≡ []
  pub sent : (leader_fail_copy (record keeping { kept = kept 5 97 false ∷ kept 6 98 false ∷ [] }) 4).sent ≡ message 5 (contents.LeaseAdded 6) ∷ []
  pub kept_still : (leader_fail_copy (record keeping { kept = kept 5 97 false ∷ kept 6 98 false ∷ [] }) 4).next.kept ≡ kept 6 98 false ∷ []
