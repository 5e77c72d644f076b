use Rattle.std.specs.Prelude.{refl}
use Rattle.ccr_model.specs.LeaderFrames.{chunk_row, lease_add_row, lease_remove_row, lease_renew_row, read_row, session_open_row}
use Rattle.ccr_model.specs.LeaderRows.{leader_clock_row}
use Rattle.ccr_model_values.proofs.messages_tell.Goals as goal

pub returns-clause-reads_tell : goal.returns-clause-reads_tell
unfolding chunk_row leader_clock_row lease_add_row lease_remove_row lease_renew_row read_row session_open_row
returns-clause-reads_tell c = record {
  missing = refl;
  missing_sent = refl;
  at_primary = refl;
  brought = refl;
  other = refl;
}

pub returns-clause-reads_wait : goal.returns-clause-reads_wait
unfolding chunk_row leader_clock_row lease_add_row lease_remove_row lease_renew_row read_row session_open_row
returns-clause-reads_wait c = record {
  below_floor = refl;
  other = refl;
  parked = refl;
  again = refl;
}

pub returns-clause-kept_tell : goal.returns-clause-kept_tell
unfolding chunk_row leader_clock_row lease_add_row lease_remove_row lease_renew_row read_row session_open_row
returns-clause-kept_tell c = record {
  existed = refl;
  added = refl;
  behind = refl;
  after_message = refl;
}

pub returns-clause-leases_tell : goal.returns-clause-leases_tell
unfolding chunk_row leader_clock_row lease_add_row lease_remove_row lease_renew_row read_row session_open_row
returns-clause-leases_tell c = record {
  existed = refl;
  added = refl;
  not_ready = refl;
  too_low = refl;
}

pub returns-clause-sessions_tell : goal.returns-clause-sessions_tell
unfolding chunk_row leader_clock_row lease_add_row lease_remove_row lease_renew_row read_row session_open_row
returns-clause-sessions_tell c = record {
  opened = refl;
  next = refl;
  told = refl;
  not_ready = refl;
  gone = refl;
  part = refl;
  active = refl;
}

pub returns-clause-clocks_fall : goal.returns-clause-clocks_fall
unfolding chunk_row leader_clock_row lease_add_row lease_remove_row lease_renew_row read_row session_open_row
returns-clause-clocks_fall c = record {
  falls = refl;
  begins = record {
    now = refl;
    next_session = refl;
    history = refl;
    next_copy = refl;
    term = refl;
  };
}
