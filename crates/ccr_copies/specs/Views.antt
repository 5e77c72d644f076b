-- What a look at a copy shows.
use Rattle.std.specs.Prelude.{ℕ, true, ◌==◌, Option, Some, if◌then◌else◌}
use Rattle.ccr_model.specs.Copies.{Replica, Copies, replica_of, replica_in_step}
use Rattle.ccr_copies.specs.declared.copy_view.CopyView.{CopyView}

-- an in-sync copy with what the primary knows of it: its own known count is its count, and it always counts as resynced and acked
abbrev pub member_of : Copies → ℕ → Option Replica
member_of s copy = if s.primary.number == copy then Some (replica_in_step s.primary s.primary.seen.count) else replica_of s copy

-- the copy that is shown
abbrev pub shown : CopyView → Replica
shown v = record {
  copy = record {
    number = v.number;
    seen = v.seen.now;
    store = v.store.now;
    global = v.global;
    floor = v.floor;
    commit = v.commit;
    leases = v.leases.now;
  };
  known = v.known;
  resynced = v.resynced;
  acked = v.acked;
}
