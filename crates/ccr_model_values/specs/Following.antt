-- What a follower's events come to.
use Rattle.std.specs.Prelude.{◌≡◌, ℕ, true, false, List, [], ◌∷◌, Some}
use Rattle.ccr_op.specs.Operation.{Operation}
use Rattle.ccr_wire.specs.declared.content.Content.TheVariants as contents
use Rattle.ccr_op.specs.Sameness.{same_operations}
use Rattle.ccr_journal.specs.declared.sides.Phase.TheVariants as phases
use Rattle.ccr_journal.specs.declared.replies.Reply.TheVariants as replies
use Rattle.ccr_journal.specs.declared.replies.Refusal.TheVariants as refusals
use Rattle.ccr_model.specs.Requests.{on_its_way}
use Rattle.ccr_model.specs.Copies.{Copies}
use Rattle.ccr_model.specs.Tasks.{Task, Read, Write}
use Rattle.ccr_model.specs.Followers.{Follower, replicating}
use Rattle.ccr_model.specs.FollowerRows.{Sent, hear_read, follower_clock_row, new_in, has_all, lacks, apply_row, written_row, pause_row, restart_row, resume_row, follower_merge}
use Rattle.ccr_model_values.specs.Words.{op, op_of_term, index_of, gapped, below, read, write, params, task, copy, replica, shard, follower}

-- the primary 6 lacks 2 and has 3, the replica 4 lacks 0, and the replica 5, which was not acked, lacks 3
abbrev pub three : Copies
three = shard (copy 6 (gapped 2 (3 ∷ [])) [] 1 0 1 [])
    (replica (copy 4 (gapped 0 (1 ∷ 2 ∷ 3 ∷ [])) [] 1 0 0 []) 0 true true ∷ replica (copy 5 (below 3) [] 1 0 0 []) 3 true false ∷ [])

abbrev pub asked : Read
asked = read 3 5 8 3 on_its_way

abbrev pub batch : List Operation
batch = op 1 ∷ op 3 ∷ []

abbrev pub written : Write
written = write 2 batch on_its_way

-- an active task that had two losses in a row, reads, and has one write outstanding
abbrev pub active : Task
active = task (params 100 10000) 2 8 (asked ∷ []) (op 9 ∷ []) (written ∷ [])

abbrev pub sent : Sent
sent = record { task = active; write = written }

abbrev pub here : Follower
here = follower (replicating active) three

-- a task that stops has no reads and no buffer; the count of losses is 0 where it was told so, and stays where it was paused
abbrev pub stopped_by : ℕ → Task → Task
stopped_by retry t = record t { retry = retry; reads = []; buffer = [] }

pub record Stop : Type 0 where
  pub missing : (hear_read here active asked (contents.ReadMissing 5 7)).next.work ≡ replicating (record (stopped_by 0 active) { phase = phases.Missing })
  pub other_history : (hear_read here active asked (contents.ReadHistory (7 ∷ []))).next.work ≡ replicating (record (stopped_by 0 active) { phase = phases.History })
  pub paused : (pause_row here (Some active)).next ≡ record here { work = replicating (record (stopped_by 2 active) { phase = phases.Paused }) }

-- the batch of a later epoch is applied where it is the write's, and the kept epoch stays; that of an earlier one is refused. What is new is
-- counted by the numbers that are processed, also above a gap.
pub record Apply : Type 0 where
  pub later : (apply_row here 5 2 batch (Some sent)).reply ≡ replies.Applied 0
  pub epoch_left : (apply_row here 5 2 batch (Some sent)).next.epoch ≡ 3
  pub earlier : (apply_row here 2 2 batch (Some sent)).reply ≡ replies.Refused (refusals.OldEpoch 3)
  pub other_batch : (apply_row here 3 2 (op 1 ∷ []) (Some sent)).reply ≡ replies.Refused (refusals.NoBatch 2)
  pub new : new_in (gapped 1 (3 ∷ [])) (op 0 ∷ op 1 ∷ op 3 ∷ op 5 ∷ []) ≡ 2

-- two batches are the same where their operations are, with terms and versions
pub record AreSame : Type 0 where
  pub same : same_operations batch batch ≡ true
  pub term : same_operations (op 1 ∷ []) (op_of_term 2 1 ∷ []) ≡ false
  pub version : same_operations (index_of 1 97 ∷ []) (record (index_of 1 97) { version = 2 } ∷ []) ≡ false
  pub number : same_operations (op 1 ∷ []) (op 2 ∷ []) ≡ false
  pub longer : same_operations batch (op 1 ∷ []) ≡ false

-- a write ends once each copy has all its operations, be it acked or not; the least copy that lacks one is told
pub record End : Type 0 where
  pub each : has_all batch (copy 6 (below 3) [] 1 0 0 []) ≡ false
  pub least : lacks (op 0 ∷ op 2 ∷ []) three ≡ Some 4
  pub not_acked : (written_row here 2 (Some sent)).reply ≡ replies.Refused (refusals.NotWritten 5)
  pub ended : (written_row (record here { copies = record three { replicas = [] } }) 2 (Some sent)).reply ≡ replies.Done

-- the task of the next epoch begins at what the primary knows to be on all copies, under the next request number, and the renewals stand; one
-- that is paused isn't restarted, and one that is active isn't resumed
pub record Restart : Type 0 where
  pub next : (restart_row here (Some active)).next ≡ record here {
    epoch = 4;
    work = replicating (record (stopped_by 0 active) { epoch = 4; next_request = 10; next = 1; known = 1; reads = read 9 1 1 5 on_its_way ∷ []; next_write = 0; writes = [] });
  }
  pub sent_on : (restart_row here (Some active)).sent ≡ record { follower = []; request = 9; content = contents.ReadRequest [] 1 5 1000 60000 } ∷ []
  pub paused : (restart_row here (Some (record active { phase = phases.Paused }))).reply ≡ replies.Refused refusals.NotActive
  pub not_paused : (resume_row here (Some active)).reply ≡ replies.Refused refusals.NotPaused

-- a follower's clock is what was read last; it merges with the leader's retention setting
pub record GoOn : Type 0 where
  pub clock : (follower_clock_row here 900).next.now ≡ 900
  pub floor : (follower_merge (record here { copies = shard (copy 6 (below 9) [] 7 0 6 []) [] }) 6 []).reply ≡ replies.Merged 5 0 []
