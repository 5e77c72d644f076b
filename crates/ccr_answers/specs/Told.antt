-- The text of one reply.
use Rattle.std.specs.Prelude.{ℕ, ◌==◌, Bool, List, [], ◌∷◌, ◌++◌, codes, decimal}
use Rattle.std.specs.List.{before_first, after_first, join_by}
use Rattle.ccr_lease.specs.declared.retention.Lease.{Lease}
use Rattle.ccr_wire.specs.declared.kind.LeaseResult.{LeaseResult}
use Rattle.ccr_wire.specs.declared.kind.LeaseResult.TheVariants as result
use Rattle.ccr_journal.specs.declared.replies.Heard.{Heard}
use Rattle.ccr_journal.specs.declared.replies.Heard.TheVariants as heard
use Rattle.ccr_journal.specs.declared.replies.Reply.{Reply}
use Rattle.ccr_journal.specs.declared.replies.Reply.TheVariants as reply
use Rattle.ccr_journal.specs.declared.replies.Wrote.{Wrote}
use Rattle.ccr_journal.specs.declared.statuses.CopyStatus.{CopyStatus}
use Rattle.ccr_journal.specs.declared.statuses.FollowerStatus.{FollowerStatus}
use Rattle.ccr_answers.specs.Words.{checkpoint, phase_word, refusal_text, result_word}

-- ---- writes

abbrev pub wrote_text : ℕ → Wrote → List ℕ
wrote_text shard w =
    codes "written shard=" ++ (decimal shard ++ (codes " seq=" ++ (decimal w.seq ++ (codes " term=" ++ (decimal w.term
    ++ (codes " version=" ++ (decimal w.version ++ (codes " result=" ++ result_word w.result))))))))

-- ---- messages

abbrev pub lease_text : LeaseResult → ℕ → List ℕ
lease_text result.Ok number = codes "lease Ok number=" ++ decimal number
lease_text result.Exists number = codes "lease Exists number=" ++ decimal number
lease_text result.NotFound number = codes "lease NotFound"
lease_text result.LowNumber number = codes "lease LowNumber number=" ++ decimal number

abbrev pub heard_text : Heard → List ℕ
heard_text heard.Done = codes "ok"
heard_text heard.Parked = codes "parked"
heard_text heard.Empty = codes "empty"
heard_text (heard.Missing from floor) = codes "missing from=" ++ (decimal from ++ (codes " floor=" ++ decimal floor))
heard_text heard.History = codes "history"
heard_text (heard.Lease result number) = lease_text result number
heard_text (heard.Waiting copy) = codes "waiting copy=" ++ decimal copy
heard_text (heard.NotReady copy) = codes "NotReady copy=" ++ decimal copy
heard_text heard.Gone = codes "gone"
heard_text heard.Ignored = codes "ignored"
heard_text heard.StoppedMissing = codes "stopped Missing"
heard_text heard.StoppedHistory = codes "stopped HistoryChanged"

-- ---- how a shard stands

abbrev pub copy_text : CopyStatus → List ℕ
copy_text c =
    decimal c.copy ++ (codes ":" ++ (checkpoint c.count ++ (codes ":" ++ (checkpoint c.global ++ (codes ":" ++ (decimal c.floor ++ (codes ":" ++ decimal c.held)))))))

-- the primary stands first, behind a star
abbrev pub copies_text : List CopyStatus → List ℕ
copies_text copies = codes "*" ++ join_by copy_text (codes ",") copies

abbrev pub is_slash : ℕ → Bool
is_slash byte = byte == 47

-- the follower's cluster and index, with which the lease's id begins
abbrev pub holder_text : List ℕ → List ℕ
holder_text id = before_first is_slash id ++ (codes "/" ++ before_first is_slash (after_first is_slash id))

abbrev pub kept_text : Lease → List ℕ
kept_text lease = holder_text lease.id ++ (codes ":" ++ (decimal lease.number ++ (codes ":" ++ decimal lease.stamp)))

abbrev pub leases_text : List Lease → List ℕ
leases_text [] = codes "-"
leases_text (lease ∷ leases) = join_by kept_text (codes ",") (lease ∷ leases)

abbrev pub leader_text : ℕ → ℕ → List CopyStatus → List Lease → List ℕ
leader_text shard term copies leases =
    codes "shard=" ++ (decimal shard ++ (codes " term=" ++ (decimal term ++ (codes " copies=" ++ (copies_text copies ++ (codes " leases=" ++ leases_text leases))))))

abbrev pub follower_text : ℕ → FollowerStatus → List ℕ
follower_text shard s =
    codes "shard=" ++ (decimal shard ++ (codes " phase=" ++ (phase_word s.phase ++ (codes " epoch=" ++ (decimal s.epoch
    ++ (codes " term=" ++ (decimal s.term ++ (codes " copies=" ++ (copies_text s.copies ++ (codes " reads=" ++ (decimal s.reads
    ++ (codes " buffer=" ++ (decimal s.buffer ++ (codes " writes=" ++ decimal s.writes))))))))))))))

-- ---- the text of a reply, in the world of this shard

abbrev pub text_of : ℕ → Reply → List ℕ
text_of shard (reply.Written wrote) = wrote_text shard wrote
text_of shard (reply.Acked global) = codes "acked global=" ++ checkpoint global
text_of shard (reply.Promoted term filled) = codes "promoted term=" ++ (decimal term ++ (codes " filled=" ++ decimal filled))
text_of shard (reply.Forced term filled) = codes "forced term=" ++ (decimal term ++ (codes " filled=" ++ decimal filled))
text_of shard (reply.Resynced dropped taken) = codes "resynced dropped=" ++ (decimal dropped ++ (codes " taken=" ++ decimal taken))
text_of shard (reply.Added copy) = codes "added copy=" ++ decimal copy
text_of shard (reply.Flushed commit) = codes "flushed commit=" ++ decimal commit
text_of shard (reply.Merged floor dropped picks) = codes "merged floor=" ++ (decimal floor ++ (codes " dropped=" ++ decimal dropped))
text_of shard (reply.Heard heard) = heard_text heard
text_of shard (reply.Applied new) = codes "applied new=" ++ decimal new
text_of shard (reply.LeaderStatus term copies leases) = leader_text shard term copies leases
text_of shard (reply.FollowerStatus status) = follower_text shard status
text_of shard reply.Settled = codes "settled"
text_of shard (reply.Refused why) = refusal_text why
text_of shard _ = codes "ok"
