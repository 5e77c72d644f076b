-- Deliveries, new followers, and when a world is settled.
use Rattle.std.specs.Prelude.{◌≡◌, true, false, List, [], ◌∷◌, Some, None}
use Rattle.ccr_wire.specs.declared.content.Content.TheVariants as contents
use Rattle.ccr_journal.specs.declared.replies.Reply.TheVariants as replies
use Rattle.ccr_journal.specs.declared.replies.Refusal.TheVariants as refusals
use Rattle.ccr_journal.specs.declared.sides.Phase.TheVariants as phases
use Rattle.ccr_model.specs.Outcomes.{within}
use Rattle.ccr_model.specs.Requests.{on_its_way}
use Rattle.ccr_model.specs.Copies.{Copies}
use Rattle.ccr_model.specs.LeaderRows.{with_copies}
use Rattle.ccr_model.specs.Restores.{leasing}
use Rattle.ccr_model.specs.Tasks.{Task}
use Rattle.ccr_model.specs.Followers.{Follower, restoring, replicating}
use Rattle.ccr_model.specs.World.{State, deliver_row, follow_row}
use Rattle.ccr_model.specs.Settled.{is_whole, is_follower_settled, is_settled}
use Rattle.ccr_model_values.specs.Words.{op, read, write, params, task, below, copy, replica, shard, uuid, leader, message, follower}

-- a shard whose copies have 5 numbers and know them
abbrev pub copies : Copies
copies = shard (copy 6 (below 5) [] 5 0 0 []) (replica (copy 4 (below 5) [] 5 0 0 []) 5 true true ∷ [])

-- the same, where the replica doesn't know of the last
abbrev pub behind : Copies
behind = shard (copy 6 (below 5) [] 5 0 0 []) (replica (copy 4 (below 5) [] 4 0 0 []) 5 true true ∷ [])

abbrev pub idle : Task
idle = task (params 100 10000) 0 5 (read 8 5 5 5 on_its_way ∷ []) [] []

abbrev pub following : Task → Copies → Follower
following t own = follower (replicating t) own

abbrev pub world : List Follower → State
world followers = record { leader = leader copies; followers = followers; flight = [] }

abbrev pub one : Follower
one = following idle copies

-- a delivery needs a message and then a copy of the leader, also where the message goes to a follower
pub record Deliver : Type 0 where
  pub neither : (deliver_row (world []) 2 9 false None None).reply ≡ replies.Refused (refusals.NoFrame 2)
  pub no_copy : (deliver_row (world []) 2 9 false (Some (message 5 (contents.SessionGone 3))) None).reply ≡ replies.Refused (refusals.NoCopy 9)

-- what a part of a side sends goes out
pub record Send : Type 0 where
  pub sent : (within (with_copies (leader copies)) (record { reply = replies.Done; next = behind; sent = message 5 (contents.SessionGone 3) ∷ [] })).sent
      ≡ message 5 (contents.SessionGone 3) ∷ []

-- a new follower has the leader's history, which needn't be the first, and its retention setting; it asks for its lease under request 0, and its
-- clock and epoch are 0. A name that is there is told before that there are too many.
abbrev pub newcomer : Follower
newcomer = record {
  lease = 98 ∷ [];
  history = 8 ∷ [];
  params = params 100 10000;
  retention = 2;
  now = 0;
  work = restoring (record {
    lease = 98 ∷ [];
    follower = uuid (0 ∷ 1 ∷ []);
    history = 8 ∷ [];
    chunk_size = 1048576;
    max_retry_delay = 500;
    next_request = 1;
    retry = 0;
    stage = leasing (record { request = 0; progress = on_its_way });
  });
  lease_requests = [];
  epoch = 0;
  copies = record { term = 1; primary = record (copy 0 (below 0) [] 0 0 0 []) { leases = record { term = 1; version = 0; leases = [] } }; replicas = []; next = 1 };
}

pub record Follow : Type 0 where
  pub made : (follow_row (world (one ∷ [])) (params 100 10000) 1 (98 ∷ []) None).next.followers ≡ one ∷ newcomer ∷ []
  pub asks : (follow_row (world (one ∷ [])) (params 100 10000) 1 (98 ∷ []) None).sent ≡ record { follower = uuid (0 ∷ 1 ∷ []); request = 0; content = contents.LeaseAdd (98 ∷ []) } ∷ []
  pub same_name : (follow_row (world (one ∷ one ∷ one ∷ one ∷ one ∷ one ∷ one ∷ one ∷ [])) (params 100 10000) 1 (97 ∷ []) (Some 3)).reply
      ≡ replies.Refused (refusals.SameName 3)
  pub too_many : (follow_row (world (one ∷ one ∷ one ∷ one ∷ one ∷ one ∷ one ∷ one ∷ [])) (params 100 10000) 1 (98 ∷ []) None).reply ≡ replies.Refused refusals.TooMany

-- a copy is whole at a count where it has processed all below it, and knows just that count
pub record AreWhole : Type 0 where
  pub whole : is_whole 5 (copy 4 (below 5) [] 5 0 0 []) ≡ true
  pub more : is_whole 5 (copy 4 (below 6) [] 5 0 0 []) ≡ true
  pub fewer : is_whole 5 (copy 4 (below 4) [] 5 0 0 []) ≡ false
  pub knows_fewer : is_whole 5 (copy 4 (below 5) [] 4 0 0 []) ≡ false
  pub knows_more : is_whole 5 (copy 4 (below 5) [] 6 0 0 []) ≡ false

-- a follower is settled out of its bootstrap with nothing to write, and where it is active, with the leader's history and whole copies
pub record AreSettled : Type 0 where
  pub active : is_follower_settled (8 ∷ []) 5 one ≡ true
  pub buffer : is_follower_settled (8 ∷ []) 5 (following (record idle { buffer = op 5 ∷ [] }) copies) ≡ false
  pub writes : is_follower_settled (8 ∷ []) 5 (following (record idle { writes = write 3 (op 5 ∷ []) on_its_way ∷ [] }) copies) ≡ false
  pub replica_behind : is_follower_settled (8 ∷ []) 5 (following idle behind) ≡ false
  pub old_history : is_follower_settled (9 ∷ []) 5 one ≡ false
  pub paused : is_follower_settled (9 ∷ []) 5 (following (record idle { phase = phases.Paused }) behind) ≡ true
  pub bootstrap : is_follower_settled (8 ∷ []) 5 newcomer ≡ false

-- a world is settled where its leader is ready, its copies are whole, nothing is in flight, and its followers are settled
pub record IsSettled : Type 0 where
  pub settled : is_settled (world (one ∷ [])) ≡ true
  pub flight : is_settled (record (world (one ∷ [])) { flight = message 5 (contents.SessionGone 3) ∷ [] }) ≡ false
  pub leader_behind : is_settled (record (world (one ∷ [])) { leader = leader behind }) ≡ false
  pub follower_behind : is_settled (world (one ∷ following idle behind ∷ [])) ≡ false
  pub not_ready : is_settled (record (world []) { leader = leader (shard (copy 6 (below 5) [] 5 0 0 []) (replica (copy 4 (below 5) [] 5 0 0 []) 5 true false ∷ [])) }) ≡ false
