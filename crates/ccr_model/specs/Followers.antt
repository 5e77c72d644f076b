-- A follower's side of a shard world.
use Rattle.std.specs.Prelude.{ℕ, List, [], map}
use Rattle.std.specs.Int.{w128, to_be_bytes}
use Rattle.ccr_op.specs.Operation.{Operation}
use Rattle.ccr_tracker.specs.Numbers.{no_numbers, filled_below}
use Rattle.ccr_journal.specs.declared.params.ParamValues.{ParamValues}
use Rattle.ccr_journal.specs.declared.sides.Phase.{Phase}
use Rattle.ccr_model.specs.Copies.{Copy, Replica, Copies, new_copies}
use Rattle.ccr_model.specs.Requests.{Sending}
use Rattle.ccr_model.specs.Tasks.{Task, started}
use Rattle.ccr_model.specs.Restores.{Restore, restore_started, phase_of, Fetch, files_of}

-- what a follower does: its bootstrap, or its task, which stays when it is stopped
pub data Work : Type 0 where
  restoring : Restore → Work
  replicating : Task → Work

-- its lease id, the history that it follows, its parameters and the leader's retention; its clock; its work; the numbers of the renewals and
-- removals that stand; the epoch that is kept, which is 0 in the bootstrap; its copies
pub record Follower : Type 0 where
  pub lease : List ℕ
  pub history : List ℕ
  pub params : ParamValues
  pub retention : ℕ
  pub now : ℕ
  pub work : Work
  pub lease_requests : List ℕ
  pub epoch : ℕ
  pub copies : Copies

-- the UUID of the follower of a number: that number in 128 bits
abbrev pub uuid_of : ℕ → List ℕ
uuid_of f = to_be_bytes w128 f

abbrev pub phase_of_work : Work → Phase
phase_of_work (restoring s) = phase_of s.stage
phase_of_work (replicating t) = t.phase

-- a new follower of this number asks for its lease
abbrev pub new_follower : ℕ → ParamValues → ℕ → List ℕ → List ℕ → ℕ → Sending Follower
new_follower f params copies lease history retention =
    let begun = restore_started lease (uuid_of f) history params.chunk_size params.max_retry_delay in
    record {
      next = record {
        lease = lease;
        history = history;
        params = params;
        retention = retention;
        now = 0;
        work = restoring begun.next;
        lease_requests = [];
        epoch = 0;
        copies = new_copies copies;
      };
      sent = begun.sent;
    }

-- a copy that was restored from files: it counts all numbers below the session's count as processed, and knows that count
abbrev pub restored_copy : ℕ → List (List Operation) → Copy → Copy
restored_copy count files c = record c {
  seen = filled_below no_numbers count;
  store = record { parts = files; open_part = [] };
  global = count;
}

-- each copy is restored, and the primary knows that of each
abbrev pub restored : ℕ → List (List Operation) → Copies → Copies
restored count files s = record s {
  primary = restored_copy count files s.primary;
  replicas = map {A = Replica} {B = Replica} (λ r. record r { copy = restored_copy count files r.copy; known = count }) s.replicas;
}

-- the bootstrap is over: the copies are restored, and the task of epoch 1 starts at the session's count
abbrev pub bootstrapped : Follower → Restore → Fetch → Sending Follower
bootstrapped s r f =
    let begun = started s.params f.count 1 f.history r.follower r.next_request in
    record {
      next = record s {
        work = replicating begun.next;
        epoch = 1;
        copies = restored f.count (files_of r.chunk_size f) s.copies;
      };
      sent = begun.sent;
    }
