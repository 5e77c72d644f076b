-- What a message comes to for a follower.
use Rattle.std.specs.Bool.{OnFalse}
use Rattle.std.specs.List.{list_any}
use Rattle.std.specs.Prelude.{filter, count_by}
use Rattle.std.proofs.Common.{rules, ◌≡◌, ℕ, ◌<◌, ◌≤◌, ◌==◌, Bool, true, false, not, if◌then◌else◌, Option, Some, None, List, [], ◌∷◌, refl, sym, ◌∙◌, ap, subst}
use Rattle.ccr_op.specs.Operation.{Operation}
use Rattle.ccr_wire.specs.Message.{Frame}
use Rattle.ccr_wire.specs.declared.content.Content.{Content}
use Rattle.ccr_wire.specs.declared.content.Content.TheVariants as contents
use Rattle.ccr_journal.specs.declared.sides.Phase.TheVariants as phases
use Rattle.ccr_journal.specs.declared.replies.Reply.TheVariants as replies
use Rattle.ccr_journal.specs.declared.replies.Heard.{Heard}
use Rattle.ccr_journal.specs.declared.replies.Heard.TheVariants as heard
use Rattle.ccr_segment.specs.declared.restored.Restored.{Restored}
use Rattle.ccr_model.specs.Operations.{has_number}
use Rattle.ccr_model.specs.Stores.{held}
use Rattle.ccr_model.specs.Outcomes.{Outcome, answered}
use Rattle.ccr_model.specs.Requests.{Sending, quiet}
use Rattle.ccr_model.specs.Tasks.{Task, Read, after_reply, filled_if_active, read_sent, stopped}
use Rattle.ccr_model.specs.Restores.{Restore, Stage, leasing, opening, fetching, Fetch, is_complete, ends_restore, restore_hears}
use Rattle.ccr_model.specs.Followers.{Follower, Work, restoring, replicating, bootstrapped}
use Rattle.ccr_model.specs.FollowerRows.{does, follower_receive_row, hear_read, ignored, restore_done, restore_ended, restore_heard, task_heard, work_hears}
use Rattle.ccr_restore.specs.Finishing.{has_all, IsFinished, IsRestored}
use Rattle.ccr_restore.specs.Hearing.{Answer, answer, taken, hears}
use Rattle.ccr_task.specs.Takes.{Takes}
use Rattle.ccr_task.specs.declared.task.Taken.{Taken}
use Rattle.ccr_task.specs.declared.task.Taken.TheVariants as takens
use Rattle.ccr_task.specs.declared.task.Stopped.TheVariants as stops
use Rattle.ccr_following.specs.Ending.{AreFilesRight, EndsRightly}
use Rattle.ccr_following.specs.Finished.{follows}
use Rattle.ccr_following.specs.Hearings.{hearing_of, ignores, restore_goes, restore_heard_by, read_goes, work_heard_by}
use Rattle.ccr_following.specs.Works.{Stepped, begins, ended}
use Rattle.ccr_following.specs.declared.hearing.Hearing.{Hearing}
use Rattle.ccr_following.specs.declared.hearing.Hearing.TheVariants.{GoesOn, Ended, Fetched}
use Rattle.ccr_following.proofs.Stepping.{doing}

-- ---- the bootstrap

-- what a bootstrap's answer stands for
abbrev pub heard_so : Answer → Stepped Hearing
heard_so a = record { next = restoring a.next; told = hearing_of a.heard (has_all a.next) a.sent }

restore-by : (now : ℕ) (m : Frame) (r : Restore) → restore_heard_by now m r ≡ heard_so (hears r now m)
restore-by now m r = tests (ends_restore r m) (restore_hears r now m)
  where
    tests : (b : Bool) (found : Option (Sending Restore)) → (if b then record { next = restoring r; told = Ended } else restore_goes r found)
        ≡ heard_so (if b then answer heard.StoppedHistory (quiet r) else taken r found)
    tests true found = refl
    tests false None = refl
    tests false (Some done) = refl

pub restore-heard : (now : ℕ) (m : Frame) (r next : Restore) (told : Heard) (sent : List Frame) (complete : Bool) (hearing : Hearing)
    → hears r now m ≡ record { heard = told; next = next; sent = sent } → complete ≡ has_all next → hearing ≡ hearing_of told complete sent
    → restore_heard_by now m r ≡ record { next = restoring next; told = hearing }
restore-heard now m r next told sent complete hearing is all by =
    let goal : Hearing → Stepped Hearing = λ (h : Hearing). record { next = restoring next; told = h } in
    restore-by now m r ∙ (ap heard_so is ∙ (ap (λ (b : Bool). goal (hearing_of told b sent)) (sym all) ∙ ap goal (sym by)))

-- ---- the task

abbrev pub taken_so : Taken → Hearing
taken_so (takens.Kept asks) = GoesOn heard.Done asks
taken_so takens.Ignored = GoesOn heard.Ignored []
taken_so (takens.Stopped (stops.Missing from floor)) = GoesOn heard.StoppedMissing []
taken_so (takens.Stopped (stops.HistoryChanged found)) = GoesOn heard.StoppedHistory []
taken_so (takens.Stopped stops.Paused) = GoesOn heard.Ignored []

abbrev reached : Task → Hearing → Stepped Hearing
reached t h = record { next = replicating t; told = h }

joined : (t new : Task) (a b : Hearing) → new ≡ t → b ≡ a → reached t a ≡ reached new b
joined t new a b same told = ap (λ (x : Task). reached x a) (sym same) ∙ ap (λ (h : Hearing). reached new h) (sym told)

ignored-goes : (t : Task) (taken : Taken) (new : Task) → (taken ≡ takens.Ignored) × (new ≡ t) → reached t (GoesOn heard.Ignored []) ≡ reached new (taken_so taken)
ignored-goes t taken new takes = joined t new (GoesOn heard.Ignored []) (taken_so taken) takes.1 (ap taken_so takes.0)

pub takes-goes : (t : Task) (content : Content) (found : Option Read) (taken : Taken) (new : Task) → Takes t content found taken new → read_goes t content found ≡ reached new (taken_so taken)
takes-goes t content None taken new takes = ignored-goes t taken new takes
takes-goes t (contents.ReadReply from global ops) (Some r) taken new takes =
    let done : Sending Task = filled_if_active (after_reply t r global ops) in
    joined done.next new (GoesOn heard.Done done.sent) (taken_so taken) takes.1 (ap taken_so takes.0)
takes-goes t (contents.ReadMissing from floor) (Some r) taken new takes =
    joined (stopped phases.Missing (record t { retry = 0 })) new (GoesOn heard.StoppedMissing []) (taken_so taken) takes.1 (ap taken_so takes.0)
takes-goes t (contents.ReadHistory history) (Some r) taken new takes =
    joined (stopped phases.History (record t { retry = 0 })) new (GoesOn heard.StoppedHistory []) (taken_so taken) takes.1 (ap taken_so takes.0)
takes-goes t (contents.ReadRequest history from max_ops max_bytes timeout) (Some r) taken new takes = ignored-goes t taken new takes
takes-goes t (contents.LeaseAdd id) (Some r) taken new takes = ignored-goes t taken new takes
takes-goes t (contents.LeaseAdded number) (Some r) taken new takes = ignored-goes t taken new takes
takes-goes t (contents.LeaseRenew id number) (Some r) taken new takes = ignored-goes t taken new takes
takes-goes t (contents.LeaseRemove id) (Some r) taken new takes = ignored-goes t taken new takes
takes-goes t (contents.LeaseAnswer outcome number) (Some r) taken new takes = ignored-goes t taken new takes
takes-goes t contents.SessionOpen (Some r) taken new takes = ignored-goes t taken new takes
takes-goes t (contents.SessionOpened session history count sizes) (Some r) taken new takes = ignored-goes t taken new takes
takes-goes t (contents.ChunkRequest session file offset size) (Some r) taken new takes = ignored-goes t taken new takes
takes-goes t (contents.ChunkReply session file offset bytes) (Some r) taken new takes = ignored-goes t taken new takes
takes-goes t (contents.SessionGone session) (Some r) taken new takes = ignored-goes t taken new takes
takes-goes t (contents.NotReady copy) (Some r) taken new takes = ignored-goes t taken new takes

-- a task never tells that it was paused
pub never-paused : (t : Task) (content : Content) (found : Option Read) (new : Task) → Takes t content found (takens.Stopped stops.Paused) new → ⊥
never-paused t content None new takes = let e : takens.Stopped stops.Paused ≡ takens.Ignored = takes.0 in cc
never-paused t (contents.ReadReply from global ops) (Some r) new takes = let done : Sending Task = filled_if_active (after_reply t r global ops) in let e : takens.Stopped stops.Paused ≡ takens.Kept done.sent = takes.0 in cc
never-paused t (contents.ReadMissing from floor) (Some r) new takes = let e : takens.Stopped stops.Paused ≡ takens.Stopped (stops.Missing from floor) = takes.0 in cc
never-paused t (contents.ReadHistory history) (Some r) new takes = let e : takens.Stopped stops.Paused ≡ takens.Stopped (stops.HistoryChanged history) = takes.0 in cc
never-paused t content (Some r) new takes = let e : takens.Stopped stops.Paused ≡ takens.Ignored = search rules in cc

-- ---- the follower

-- what a follower makes of what its work heard
abbrev pub hears_by : Follower → Work → Hearing → Outcome Follower
hears_by s next (GoesOn told sent) = record { reply = replies.Heard told; next = doing s next; sent = sent }
hears_by s next Ended = answered (replies.Heard heard.StoppedHistory) (doing s (ended s.params next))
hears_by s next Fetched = follows (doing s next) next

abbrev hears_to : Follower → Stepped Hearing → Outcome Follower
hears_to s o = hears_by s o.next o.told

done-by : (s : Follower) (r next : Restore) (sent : List Frame) (stage : Stage) → let done : Sending Restore = record { next = record next { stage = stage }; sent = sent } in
    restore_done (doing s (restoring r)) done ≡ hears_to (doing s (restoring r)) (record { next = restoring done.next; told = if has_all done.next then Fetched else GoesOn heard.Done done.sent })
done-by s r next sent (leasing a) = refl
done-by s r next sent (opening a) = refl
done-by s r next sent (fetching f) = test (is_complete next.chunk_size f)
  where
    done : Sending Restore
    done = record { next = record next { stage = fetching f }; sent = sent }

    test : (b : Bool) → (if b then does (replies.Heard heard.Done) (λ n. n) (bootstrapped (doing s (restoring r)) (record next { stage = fetching f }) f)
        else does (replies.Heard heard.Done) (λ (x : Restore). record s { work = restoring x }) (record { next = record next { stage = fetching f }; sent = sent }))
        ≡ hears_to (doing s (restoring r)) (record { next = restoring (record next { stage = fetching f }); told = if b then Fetched else GoesOn heard.Done sent })
    test true = refl
    test false = refl

restore-to : (s : Follower) (r : Restore) (found : Option (Sending Restore)) → restore_heard (doing s (restoring r)) found ≡ hears_to (doing s (restoring r)) (restore_goes r found)
restore-to s r None = refl
restore-to s r (Some done) = done-by s r done.next done.sent done.next.stage

read-to : (s : Follower) (t : Task) (content : Content) (found : Option Read) → task_heard (doing s (replicating t)) t content found ≡ hears_to (doing s (replicating t)) (read_goes t content found)
read-to s t content None = refl
read-to s t (contents.ReadReply from global ops) (Some r) = refl
read-to s t (contents.ReadMissing from floor) (Some r) = refl
read-to s t (contents.ReadHistory history) (Some r) = refl
read-to s t (contents.ReadRequest history from max_ops max_bytes timeout) (Some r) = refl
read-to s t (contents.LeaseAdd id) (Some r) = refl
read-to s t (contents.LeaseAdded number) (Some r) = refl
read-to s t (contents.LeaseRenew id number) (Some r) = refl
read-to s t (contents.LeaseRemove id) (Some r) = refl
read-to s t (contents.LeaseAnswer outcome number) (Some r) = refl
read-to s t contents.SessionOpen (Some r) = refl
read-to s t (contents.SessionOpened session history count sizes) (Some r) = refl
read-to s t (contents.ChunkRequest session file offset size) (Some r) = refl
read-to s t (contents.ChunkReply session file offset bytes) (Some r) = refl
read-to s t (contents.SessionGone session) (Some r) = refl
read-to s t (contents.NotReady copy) (Some r) = refl

work-to : (s : Follower) (m : Frame) (w : Work) → work_hears (doing s w) m ≡ hears_to (doing s w) (work_heard_by s.now m w)
work-to s m (restoring r) = tests (ends_restore r m)
  where
    tests : (b : Bool) → (if b then restore_ended (doing s (restoring r)) r else restore_heard (doing s (restoring r)) (restore_hears r s.now m))
        ≡ hears_to (doing s (restoring r)) (if b then record { next = restoring r; told = Ended } else restore_goes r (restore_hears r s.now m))
    tests true = refl
    tests false = restore-to s r (restore_hears r s.now m)
work-to s m (replicating t) = read-to s t m.content (read_sent t m.request)

-- an answer to a request about the lease
pub receive-answered : (s : Follower) (m : Frame) (left : List ℕ) (sent : List Frame) → true ≡ list_any (λ n. n == m.request) s.lease_requests
    → left ≡ filter (λ n. not (n == m.request)) s.lease_requests → sent ≡ []
    → follower_receive_row s m ≡ record { reply = replies.Heard heard.Done; next = record s { lease_requests = left }; sent = sent }
unfolding follower_receive_row
receive-answered s m left sent stood is none =
    let to : List ℕ → List Frame → Outcome Follower = λ ns ms. record { reply = replies.Heard heard.Done; next = record s { lease_requests = ns }; sent = ms } in
    rw (sym stood) (ap (λ (ns : List ℕ). to ns []) (sym is) ∙ ap (λ (ms : List Frame). to left ms) (sym none))

-- any other message
pub receive-heard : (s : Follower) (m : Frame) (next : Work) (hearing : Hearing) (told : Outcome Follower) → false ≡ list_any (λ n. n == m.request) s.lease_requests
    → work_heard_by s.now m s.work ≡ record { next = next; told = hearing } → hears_by s next hearing ≡ told → follower_receive_row s m ≡ told
unfolding follower_receive_row
receive-heard s m next hearing told other is comes = rw (sym other) (work-to s m s.work ∙ (ap (hears_to s) is ∙ comes))

-- any other message, where the requests that stand are the same
pub receive-left : (s : Follower) (m : Frame) (number : ℕ) (left : List ℕ) (next : Work) (hearing : Hearing) (told : Outcome Follower) → number ≡ m.request
    → false ≡ list_any (λ n. n == number) s.lease_requests → left ≡ s.lease_requests → work_heard_by s.now m s.work ≡ record { next = next; told = hearing }
    → hears_by (record s { lease_requests = left }) next hearing ≡ told → follower_receive_row s m ≡ told
receive-left s m number left next hearing told numbered other same is comes =
    receive-heard s m next hearing told (other ∙ ap (λ (x : ℕ). list_any (λ n. n == x) s.lease_requests) numbered) is
    (ap (λ (ns : List ℕ). hears_by (record s { lease_requests = ns }) next hearing) (sym same) ∙ comes)

-- an answer to a request about the lease, by the message's number
pub receive-stood : (s : Follower) (m : Frame) (number : ℕ) (left : List ℕ) (sent : List Frame) → number ≡ m.request → true ≡ list_any (λ n. n == number) s.lease_requests
    → left ≡ filter (λ n. not (n == number)) s.lease_requests → sent ≡ []
    → follower_receive_row s m ≡ record { reply = replies.Heard heard.Done; next = record s { lease_requests = left }; sent = sent }
receive-stood s m number left sent numbered stood is none =
    receive-answered s m left sent (stood ∙ ap (λ (x : ℕ). list_any (λ n. n == x) s.lease_requests) numbered)
    (is ∙ ap (λ (x : ℕ). filter (λ n. not (n == x)) s.lease_requests) numbered) none

pub ended-comes : (s : Follower) (next after : Work) (sent : List Frame) → after ≡ ended s.params next → sent ≡ []
    → hears_by s next Ended ≡ record { reply = replies.Heard heard.StoppedHistory; next = doing s after; sent = sent }
ended-comes s next after sent is none =
    ap (λ (w : Work). answered (replies.Heard heard.StoppedHistory) (doing s w)) (sym is)
    ∙ ap (λ (ms : List Frame). record { reply = replies.Heard heard.StoppedHistory; next = doing s after; sent = ms }) (sym none)

pub on-false : (b : Bool) (P : Type 0) → OnFalse b P → b ≡ false → P
on-false true P holds is = absurd (cc)
on-false false P holds is = holds
