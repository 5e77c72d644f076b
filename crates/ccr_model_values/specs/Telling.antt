-- What the leader's messages tell, and what it keeps of those that come to it.
use Rattle.std.specs.Prelude.{◌≡◌, ℕ, true, false, [], ◌∷◌, Some, None}
use Rattle.ccr_wire.specs.declared.content.Content.TheVariants as contents
use Rattle.ccr_wire.specs.declared.kind.LeaseResult.TheVariants as results
use Rattle.ccr_journal.specs.declared.replies.Heard.TheVariants as heard
use Rattle.ccr_journal.specs.declared.replies.Reply.TheVariants as replies
use Rattle.ccr_model.specs.Copies.{Copy}
use Rattle.ccr_model.specs.Leaders.{Leader, Session, new_leader}
use Rattle.ccr_model.specs.LeaderRows.{lease_answer, with_due_answers, leader_clock_row}
use Rattle.ccr_model.specs.LeaderFrames.{read_row, answer_or_keep, lease_add_row, lease_renew_row, session_open_row, chunk_row, leader_receive}
use Rattle.ccr_model_values.specs.Words.{op, below, lease, copy, replica, shard, leader, poll, kept, message}

-- the primary 6 has the floor 1 and the replica 4 the floor 3, both know of 5; both have the lease 97
abbrev pub first : Copy
first = copy 6 (below 6) (op 1 ∷ op 2 ∷ op 3 ∷ op 4 ∷ op 5 ∷ []) 5 1 1 (lease 97 1 950 ∷ [])

abbrev pub second : Copy
second = copy 4 (below 6) (op 3 ∷ op 4 ∷ op 5 ∷ []) 5 3 4 (lease 97 1 950 ∷ [])

abbrev pub here : Leader
here = leader (shard first (replica second 6 true true ∷ []))

-- a new leader's clock, sessions and requests begin at 0, with none
pub record IsNew (l : Leader) : Type 0 where
  pub now : l.now ≡ 0
  pub next_session : l.next_session ≡ 0
  pub history : l.history ≡ 5 ∷ []
  pub next_copy : l.copies.next ≡ 2
  pub term : l.copies.term ≡ 1

-- a read is judged by the floor of its copy, and the answer tells that floor; one of another history is told the leader's; else it is told where
-- it begins, and the global count that the copy knows
pub record ReadsTell : Type 0 where
  pub missing : (read_row here (poll 9 7 4 2) 4 (Some second)).reply ≡ replies.Heard (heard.Missing 2 3)
  pub missing_sent : (read_row here (poll 9 7 4 2) 4 (Some second)).sent ≡ message 7 (contents.ReadMissing 2 3) ∷ []
  pub at_primary : (read_row here (poll 9 7 6 2) 6 (Some first)).reply ≡ replies.Heard heard.Done
  pub brought : (read_row here (poll 9 7 4 3) 4 (Some second)).sent ≡ message 7 (contents.ReadReply 3 5 (op 3 ∷ op 4 ∷ [])) ∷ []
  pub other : (read_row (record here { history = 7 ∷ [] }) (poll 9 7 4 2) 4 (Some second)).sent ≡ message 7 (contents.ReadHistory (7 ∷ [])) ∷ []

-- a copy whose floor is above the count that it knows
abbrev pub merged_copy : Copy
merged_copy = copy 4 (below 6) [] 3 5 5 []

-- a read below the floor never waits, nor does one of another history; one that comes again is parked again
pub record ReadsWait : Type 0 where
  pub below_floor : (read_row here (poll 9 7 4 4) 4 (Some merged_copy)).reply ≡ replies.Heard (heard.Missing 4 5)
  pub other : (read_row (record here { history = 7 ∷ [] }) (poll 9 7 4 5) 4 (Some second)).reply ≡ replies.Heard heard.History
  pub parked : (read_row here (poll 9 7 4 5) 4 (Some second)).next.polls ≡ record (poll 9 7 4 5) { parked = 900 } ∷ []
  pub again : (read_row (record here { polls = poll 9 7 4 5 ∷ [] }) (poll 9 7 4 5) 4 (Some second)).next.polls ≡ poll 9 7 4 5 ∷ poll 9 7 4 5 ∷ []

-- a request that was kept is answered Exists where the lease was there when it came, and else LeaseAdded, both with the greatest floor; it is
-- answered behind the event's own messages
pub record KeptTell : Type 0 where
  pub existed : lease_answer here.copies (kept 5 97 true) ≡ message 5 (contents.LeaseAnswer results.Exists 3)
  pub added : lease_answer here.copies (kept 5 97 false) ≡ message 5 (contents.LeaseAdded 3)
  pub behind : (with_due_answers (record { reply = replies.Done; next = record here { kept = kept 5 97 true ∷ kept 6 97 false ∷ [] }; sent = message 8 (contents.SessionGone 2) ∷ [] })).sent
      ≡ message 8 (contents.SessionGone 2) ∷ message 5 (contents.LeaseAnswer results.Exists 3) ∷ message 6 (contents.LeaseAdded 3) ∷ []
  pub after_message : (leader_receive (record here { kept = kept 5 97 true ∷ [] }) 6 (message 8 (contents.LeaseRemove (98 ∷ [])))).sent
      ≡ message 8 (contents.LeaseAnswer results.NotFound 0) ∷ message 5 (contents.LeaseAnswer results.Exists 3) ∷ []

-- so is one that is answered at once; a leader that isn't ready tells the least copy that is not; a renewal that is too low changes nothing
pub record LeasesTell : Type 0 where
  pub existed : (answer_or_keep here (kept 5 97 true) None).sent ≡ message 5 (contents.LeaseAnswer results.Exists 3) ∷ []
  pub added : (answer_or_keep here (kept 5 97 false) None).sent ≡ message 5 (contents.LeaseAdded 3) ∷ []
  pub not_ready : (lease_add_row here (9 ∷ []) 5 (97 ∷ []) (Some 4)).sent ≡ message 5 (contents.NotReady 4) ∷ []
  pub too_low : (lease_renew_row here (9 ∷ []) 5 (97 ∷ []) 0 (Some (lease 97 1 950))).next ≡ here

abbrev pub session : ℕ → ℕ → Session
session number activity = record { number = number; count = 2; files = (10 ∷ 11 ∷ 12 ∷ []) ∷ (20 ∷ 21 ∷ 22 ∷ []) ∷ []; activity = activity }

abbrev pub sessions : Leader
sessions = record here { sessions = session 2 900 ∷ session 3 950 ∷ [] }

-- a new session stands behind the others, of the global count that the primary knows, and active now; it has no file where no operation is below
abbrev pub opening : Leader
opening = record sessions { copies = shard (record first { global = 0 }) [] }

pub record SessionsTell : Type 0 where
  pub opened : (session_open_row opening (9 ∷ []) 5 None).next.sessions ≡ session 2 900 ∷ session 3 950 ∷ record { number = 4; count = 0; files = []; activity = 1000 } ∷ []
  pub next : (session_open_row opening (9 ∷ []) 5 None).next.next_session ≡ 5
  pub told : (session_open_row opening (9 ∷ []) 5 None).sent ≡ message 5 (contents.SessionOpened 4 (8 ∷ []) 0 []) ∷ []
  pub not_ready : (session_open_row sessions (9 ∷ []) 5 (Some 4)).sent ≡ message 5 (contents.NotReady 4) ∷ []
  pub gone : (chunk_row sessions (9 ∷ []) 5 7 1 0 2 None).sent ≡ message 5 (contents.SessionGone 7) ∷ []
  pub part : (chunk_row sessions (9 ∷ []) 5 3 1 1 9 (Some (session 3 950))).sent ≡ message 5 (contents.ChunkReply 3 1 1 (21 ∷ 22 ∷ [])) ∷ []
  pub active : (chunk_row sessions (9 ∷ []) 5 3 1 1 9 (Some (session 3 950))).next.sessions ≡ session 2 900 ∷ session 3 1000 ∷ []

-- a clock is what was read last, be it less than before; so a poll that came then waits longer
pub record ClocksFall : Type 0 where
  pub falls : (leader_clock_row here 900).next.now ≡ 900
  pub begins : IsNew (new_leader (record { copies = 2; history = 5 ∷ []; period = 100; retention = 0 }))
