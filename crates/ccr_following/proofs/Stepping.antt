-- What the rows of a follower come to, by the steps of its work.
use Rattle.std.specs.Option.{option_map}
use Rattle.std.specs.Prelude.{slice_get, filter}
use Rattle.std.specs.List.{list_any}
use Rattle.std.proofs.Common.{◌≡◌, ℕ, ◌+◌, ◌==◌, Bool, true, false, not, nat_lt, min, if◌then◌else◌, Option, Some, None, Result, Ok, Err, IfOk, List, [], ◌∷◌, ◌++◌, refl, sym, ◌∙◌, ap, subst}
use Rattle.ccr_op.specs.Operation.{Operation}
use Rattle.ccr_wire.specs.Message.{Frame}
use Rattle.ccr_wire.specs.declared.content.Content.{Content}
use Rattle.ccr_wire.specs.declared.content.Content.TheVariants as contents
use Rattle.ccr_journal.specs.declared.params.ParamValues.{ParamValues}
use Rattle.ccr_journal.specs.declared.sides.Phase.{Phase}
use Rattle.ccr_journal.specs.declared.sides.Phase.TheVariants as phases
use Rattle.ccr_journal.specs.declared.statuses.CopyStatus.{CopyStatus}
use Rattle.ccr_journal.specs.declared.statuses.FollowerStatus.{FollowerStatus}
use Rattle.ccr_journal.specs.declared.replies.Reply.{Reply}
use Rattle.ccr_journal.specs.declared.replies.Reply.TheVariants as replies
use Rattle.ccr_journal.specs.declared.replies.Heard.TheVariants as heard
use Rattle.ccr_journal.specs.declared.replies.Refusal.{Refusal}
use Rattle.ccr_journal.specs.declared.replies.Refusal.TheVariants.{NoRequest, NoBatch, OldEpoch, NotWritten, NotActive, Bootstrapping, NotPaused}
use Rattle.ccr_model.specs.Outcomes.{Outcome, refused, answered, guarded, within}
use Rattle.ccr_model.specs.Requests.{Sending}
use Rattle.ccr_model.specs.Tasks.{Task, Read, Write, is_active, least_from, sent_reads, started, stopped, write_sent}
use Rattle.ccr_model.specs.Restores.{Restore, sent_requests}
use Rattle.ccr_model.specs.Copies.{statuses_of}
use Rattle.ccr_model.specs.Followers.{Follower, Work, restoring, replicating, phase_of_work}
use Rattle.ccr_model.specs.FollowerRows.{loads, Sent, sent_write, is_other, is_paused, lacks, task_of, lose_row, bootstrap_lost, task_lost, tick_row, follower_clock_row, lose_write_row, take_row, apply_row, applied, new_in, written_row, write_done, renew_row, pause_row, resume_row, restart_row, unfollow_row, task_anew, lease_request, status_of_follower, follower_status_row}
use Rattle.ccr_follower.specs.Engine.{Engine, engine_apply_row}
use Rattle.ccr_following.specs.Works.{Stepped, AreDrawn, request_lost, read_lost_if, lost_at, work_ticked, write_lost_if, lost_write, batch_of, write_ended_if, ended_write, asks, asks_nothing, renews, unfollows, pauses, is_active_work, is_paused_work, history_of, begins}
use Rattle.ccr_following.specs.After.{after}
use Rattle.ccr_following.specs.declared.told.Told.{Told}
use Rattle.ccr_following.specs.Refusals.{not_applied, not_written}

-- what a row comes to at a view, it comes to at what is viewed
pub seen : (row : Follower → Outcome Follower) (view old : Follower) (o : Outcome Follower) → view ≡ old → row view ≡ o → row old ≡ o
seen row view old o is at = subst (λ (s : Follower). row s ≡ o) is at

-- what is told of an outcome is told of one that is the same
pub so : {E : Type 0} (r : Result Told E) (new : Follower) (o p : Outcome Follower) → p ≡ o → IfOk r (λ (told : Told). o ≡ after told new) → IfOk r (λ (told : Told). p ≡ after told new)
so (Ok told) new o p same is = same ∙ is
so (Err e) new o p same is = tt

-- a step that told what is the same
pub turned : {X : Type 0} (o : Stepped X) (next : Work) (a b : X) → o ≡ record { next = next; told = a } → a ≡ b → o ≡ record { next = next; told = b }
turned {X} o next a b is same = is ∙ ap (λ (x : X). record { next = next; told = x }) same

-- what stands of the old follower stands of its view
pub drawn-seen : (view old : Follower) → view ≡ old → AreDrawn old.work old.lease_requests → AreDrawn view.work view.lease_requests
drawn-seen view old is drawn = subst (λ (s : Follower). AreDrawn s.work s.lease_requests) (sym is) drawn

-- a follower with another work
abbrev pub doing : Follower → Work → Follower
doing s work = record s { work = work }

-- an event that is answered so; what it sends is empty
pub says : (reply : Reply) (next : Follower) (sent : List Frame) (o : Outcome Follower) → o ≡ answered reply next → sent ≡ [] → o ≡ record { reply = reply; next = next; sent = sent }
says reply next sent o is none = is ∙ ap (λ (ms : List Frame). record { reply = reply; next = next; sent = ms }) (sym none)

-- ---- a step that is done or refused

abbrev pub done_or : Refusal → Follower → Stepped Bool → Outcome Follower
done_or why s o = if o.told then answered replies.Done (doing s o.next) else refused (doing s o.next) why

done : (why : Refusal) (s : Follower) (step : Stepped Bool) (next : Work) (sent : List Frame) (o : Outcome Follower) → o ≡ done_or why s step
    → step ≡ record { next = next; told = true } → sent ≡ [] → o ≡ record { reply = replies.Done; next = doing s next; sent = sent }
done why s step next sent o by is none = says replies.Done (doing s next) sent o (by ∙ ap (done_or why s) is) none

not_done : (why : Refusal) (s : Follower) (step : Stepped Bool) (next : Work) (o told : Outcome Follower) → o ≡ done_or why s step
    → step ≡ record { next = next; told = false } → refused (doing s next) why ≡ told → o ≡ told
not_done why s step next o told by is refuses = by ∙ (ap (done_or why s) is ∙ refuses)

-- ---- losses and retries

lose-with : (s : Follower) (at : ℕ) (w : Work) → lose_row (doing s w) at ≡ done_or (NoRequest at) (doing s w) (lost_at s.now at w)
unfolding lose_row
lose-with s at (restoring r) = found (slice_get (sent_requests r.stage) at)
  where
    found : (o : Option ℕ) → bootstrap_lost (doing s (restoring r)) r at o ≡ done_or (NoRequest at) (doing s (restoring r)) (request_lost r s.now o)
    found None = refl
    found (Some request) = refl
lose-with s at (replicating t) = found (slice_get (sent_reads t) at)
  where
    found : (o : Option Read) → task_lost (doing s (replicating t)) t at o ≡ done_or (NoRequest at) (doing s (replicating t)) (read_lost_if t s.now o)
    found None = refl
    found (Some r) = refl

pub lose-done : (s : Follower) (at : ℕ) (next : Work) (sent : List Frame) → lost_at s.now at s.work ≡ record { next = next; told = true } → sent ≡ []
    → lose_row s at ≡ record { reply = replies.Done; next = doing s next; sent = sent }
lose-done s at next sent is none = done (NoRequest at) s (lost_at s.now at s.work) next sent (lose_row s at) (lose-with s at s.work) is none

pub lose-refused : (s : Follower) (at : ℕ) (next : Work) (told : Outcome Follower) → lost_at s.now at s.work ≡ record { next = next; told = false }
    → refused (doing s next) (NoRequest at) ≡ told → lose_row s at ≡ told
lose-refused s at next told is refuses = not_done (NoRequest at) s (lost_at s.now at s.work) next (lose_row s at) told (lose-with s at s.work) is refuses

-- a step that sends
abbrev pub sends : Follower → Stepped (List Frame) → Outcome Follower
sends s o = record { reply = replies.Done; next = doing s o.next; sent = o.told }

tick-with : (s : Follower) (w : Work) → tick_row (doing s w) ≡ sends (doing s w) (work_ticked s.now w)
unfolding tick_row
tick-with s (restoring r) = refl
tick-with s (replicating t) = refl

pub tick-done : (s : Follower) (next : Work) (sent : List Frame) → work_ticked s.now s.work ≡ record { next = next; told = sent }
    → tick_row s ≡ record { reply = replies.Done; next = doing s next; sent = sent }
tick-done s next sent is = tick-with s s.work ∙ ap (sends s) is

pub clock-done : (s : Follower) (now : ℕ) (sent : List Frame) → sent ≡ [] → follower_clock_row s now ≡ record { reply = replies.Done; next = record s { now = now }; sent = sent }
unfolding follower_clock_row
clock-done s now sent none = says replies.Done (record s { now = now }) sent (answered replies.Done (record s { now = now })) refl none

-- ---- writes

lose_write-with : (s : Follower) (number : ℕ) (w : Work) → lose_write_row (doing s w) number (sent_write w number) ≡ done_or (NoBatch number) (doing s w) (lost_write s.now number w)
unfolding lose_write_row
lose_write-with s number (restoring r) = refl
lose_write-with s number (replicating t) = found (write_sent t number)
  where
    found : (o : Option Write) → lose_write_row (doing s (replicating t)) number (option_map {T = Write} {U = Sent} (λ w. record { task = t; write = w }) o)
        ≡ done_or (NoBatch number) (doing s (replicating t)) (write_lost_if t s.now o)
    found None = refl
    found (Some w) = refl

pub lose_write-done : (s : Follower) (number : ℕ) (next : Work) (sent : List Frame) → lost_write s.now number s.work ≡ record { next = next; told = true } → sent ≡ []
    → lose_write_row s number (sent_write s.work number) ≡ record { reply = replies.Done; next = doing s next; sent = sent }
lose_write-done s number next sent is none =
    done (NoBatch number) s (lost_write s.now number s.work) next sent (lose_write_row s number (sent_write s.work number)) (lose_write-with s number s.work) is none

pub lose_write-refused : (s : Follower) (number : ℕ) (next : Work) (told : Outcome Follower) → lost_write s.now number s.work ≡ record { next = next; told = false }
    → refused (doing s next) (NoBatch number) ≡ told → lose_write_row s number (sent_write s.work number) ≡ told
lose_write-refused s number next told is refuses =
    not_done (NoBatch number) s (lost_write s.now number s.work) next (lose_write_row s number (sent_write s.work number)) told (lose_write-with s number s.work) is refuses

-- what a take comes to, by the batch
abbrev took : Follower → ℕ → Option (List Operation) → Outcome Follower
took s number None = refused s (NoBatch number)
took s number (Some batch) = answered (replies.Took batch) s

take-by : (s : Follower) (number : ℕ) (found : Option Sent) → take_row s number found ≡ took s number (option_map {T = Sent} {U = List Operation} (λ w. w.write.batch) found)
unfolding take_row
take-by s number None = refl
take-by s number (Some w) = refl

pub take-done : (s : Follower) (number : ℕ) (batch : List Operation) (sent : List Frame) → Some batch ≡ batch_of s.work number → sent ≡ []
    → take_row s number (sent_write s.work number) ≡ record { reply = replies.Took batch; next = s; sent = sent }
take-done s number batch sent is none =
    says (replies.Took batch) s sent (take_row s number (sent_write s.work number)) (take-by s number (sent_write s.work number) ∙ ap (took s number) (sym is)) none

pub take-refused : (s : Follower) (number : ℕ) (told : Outcome Follower) → None ≡ batch_of s.work number → refused s (NoBatch number) ≡ told → take_row s number (sent_write s.work number) ≡ told
take-refused s number told is refuses = take-by s number (sent_write s.work number) ∙ (ap (took s number) (sym is) ∙ refuses)

-- ---- a write's end

abbrev ends_or : Follower → Option Refusal → Outcome Follower → Outcome Follower
ends_or s None o = o
ends_or s (Some why) o = refused s why

-- what the end of a write comes to where nothing is against it
abbrev ending : Follower → Option Sent → Outcome Follower
ending s None = refused s (NoBatch 0)
ending s (Some w) = write_done s w None

written-by : (s : Follower) (number : ℕ) (found : Option Sent) → written_row s number found ≡ ends_or s (not_written s number found) (ending s found)
unfolding written_row
written-by s number None = refl
written-by s number (Some w) = lacked (lacks w.write.batch s.copies)
  where
    lacked : (o : Option ℕ) → write_done s w o ≡ ends_or s (option_map {T = ℕ} {U = Refusal} (λ copy. NotWritten copy) o) (write_done s w None)
    lacked None = refl
    lacked (Some copy) = refl

pub written-refused : (s : Follower) (number : ℕ) (why : Refusal) (told : Outcome Follower) → Some why ≡ not_written s number (sent_write s.work number) → refused s why ≡ told
    → written_row s number (sent_write s.work number) ≡ told
written-refused s number why told is refuses =
    written-by s number (sent_write s.work number) ∙ (ap (λ (o : Option Refusal). ends_or s o (ending s (sent_write s.work number))) (sym is) ∙ refuses)

abbrev sent_by : Option (List Frame) → List Frame
sent_by None = []
sent_by (Some sent) = sent

abbrev ended_to : Follower → Stepped (Option (List Frame)) → Outcome Follower
ended_to s o = record { reply = replies.Done; next = doing s o.next; sent = sent_by o.told }

ending-by : (s : Follower) (number : ℕ) (w next : Work) (sent : List Frame) → ended_write number w ≡ record { next = next; told = Some sent }
    → ending (doing s w) (sent_write w number) ≡ record { reply = replies.Done; next = doing s next; sent = sent }
ending-by s number (restoring r) next sent is =
    let none : None ≡ Some sent = ap (λ (o : Stepped (Option (List Frame))). o.told) is in absurd (cc)
ending-by s number (replicating t) next sent is = found (write_sent t number) is
  where
    found : (o : Option Write) → write_ended_if t o ≡ record { next = next; told = Some sent }
        → ending (doing s (replicating t)) (option_map {T = Write} {U = Sent} (λ w. record { task = t; write = w }) o) ≡ record { reply = replies.Done; next = doing s next; sent = sent }
    found None ends = let none : None ≡ Some sent = ap (λ (x : Stepped (Option (List Frame))). x.told) ends in absurd (cc)
    found (Some w) ends = ap (ended_to s) ends

pub written-done : (s : Follower) (number : ℕ) (next : Work) (sent : List Frame) → None ≡ not_written s number (sent_write s.work number)
    → ended_write number s.work ≡ record { next = next; told = Some sent }
    → written_row s number (sent_write s.work number) ≡ record { reply = replies.Done; next = doing s next; sent = sent }
written-done s number next sent is ends =
    written-by s number (sent_write s.work number)
    ∙ (ap (λ (o : Option Refusal). ends_or s o (ending s (sent_write s.work number))) (sym is) ∙ ending-by s number s.work next sent ends)

-- ---- operations that are taken

abbrev pub engine_of : Follower → Engine
engine_of s = record { retention = s.retention; epoch = s.epoch; copies = s.copies }

abbrev pub with_engine : Follower → Engine → Follower
with_engine s e = record s { retention = e.retention; epoch = e.epoch; copies = e.copies }

-- what an application comes to where nothing is against it
abbrev taking : Follower → List Operation → Outcome Follower
taking s batch = answered (replies.Applied (new_in s.copies.primary.seen batch)) (record s { copies = applied batch s.copies })

apply-by : (s : Follower) (epoch number : ℕ) (batch : List Operation) (found : Option Sent) → apply_row s epoch number batch found ≡ ends_or s (not_applied s epoch number batch found) (taking s batch)
unfolding apply_row guarded
apply-by s epoch number batch found = tests (nat_lt epoch s.epoch) (is_other batch found)
  where
    tests : (a b : Bool) → (if a then refused s (OldEpoch s.epoch) else (if b then refused s (NoBatch number) else taking s batch))
        ≡ ends_or s (if a then Some (OldEpoch s.epoch) else (if b then Some (NoBatch number) else None)) (taking s batch)
    tests true b = refl
    tests false true = refl
    tests false false = refl

pub apply-refused : (s : Follower) (epoch number : ℕ) (batch : List Operation) (found : Option Sent) (why : Refusal) (told : Outcome Follower)
    → Some why ≡ not_applied s epoch number batch found → refused s why ≡ told → apply_row s epoch number batch found ≡ told
apply-refused s epoch number batch found why told is refuses =
    apply-by s epoch number batch found ∙ (ap (λ (o : Option Refusal). ends_or s o (taking s batch)) (sym is) ∙ refuses)

first-false : (a : Bool) (x : Refusal) (more : Option Refusal) → None ≡ (if a then Some x else more) → a ≡ false
first-false true x more is = absurd (cc)
first-false false x more is = refl

engine-takes : (e : Engine) (epoch : ℕ) (batch : List Operation) → nat_lt epoch e.epoch ≡ false
    → engine_apply_row e epoch batch ≡ answered (replies.Applied (new_in e.copies.primary.seen batch)) (record e { copies = applied batch e.copies })
unfolding engine_apply_row guarded
engine-takes e epoch batch later = rw later refl

pub apply-done : (s : Follower) (epoch number : ℕ) (batch : List Operation) (found : Option Sent) (new : ℕ) (next : Engine) (sent : List Frame)
    → None ≡ not_applied s epoch number batch found → engine_apply_row (engine_of s) epoch batch ≡ answered (replies.Applied new) next → sent ≡ []
    → apply_row s epoch number batch found ≡ record { reply = replies.Applied new; next = with_engine s next; sent = sent }
apply-done s epoch number batch found new next sent is applies none =
    let later : nat_lt epoch s.epoch ≡ false = first-false (nat_lt epoch s.epoch) (OldEpoch s.epoch) (if is_other batch found then Some (NoBatch number) else None) is in
    let same : answered (replies.Applied (new_in s.copies.primary.seen batch)) (record (engine_of s) { copies = applied batch s.copies }) ≡ answered (replies.Applied new) next
    = sym (engine-takes (engine_of s) epoch batch later) ∙ applies in
    says (replies.Applied new) (with_engine s next) sent (apply_row s epoch number batch found)
    (apply-by s epoch number batch found ∙ (ap (λ (o : Option Refusal). ends_or s o (taking s batch)) (sym is) ∙ ap (λ (o : Outcome Engine). within (with_engine s) o) same)) none

-- ---- lease requests

-- a step that asks the leader, and refuses where it asks nothing
abbrev pub asks_or : Refusal → Follower → Work → Option Frame → Outcome Follower
asks_or why s next None = refused (doing s next) why
asks_or why s next (Some m) = record { reply = replies.Done; next = record s { work = next; lease_requests = s.lease_requests ++ m.request ∷ [] }; sent = m ∷ [] }

abbrev asks_by : Refusal → Follower → Stepped (Option Frame) → Outcome Follower
asks_by why s o = asks_or why s o.next o.told

renew-with : (s : Follower) (w : Work) → renew_row (doing s w) (task_of w) ≡ asks_by NotActive (doing s w) (renews s.lease s.copies.primary.global w)
unfolding renew_row guarded
renew-with s (restoring r) = refl
renew-with s (replicating t) = test (is_active t.phase)
  where
    test : (b : Bool) → (if not b then refused (doing s (replicating t)) NotActive else lease_request (doing s (replicating t)) t (contents.LeaseRenew s.lease (min s.copies.primary.global (least_from t.next t.reads))))
        ≡ asks_by NotActive (doing s (replicating t)) (if b then asks t (contents.LeaseRenew s.lease (min s.copies.primary.global (least_from t.next t.reads))) else asks_nothing (replicating t))
    test true = refl
    test false = refl

pub renew-by : (s : Follower) (next : Work) (asked : Option Frame) (told : Outcome Follower) → renews s.lease s.copies.primary.global s.work ≡ record { next = next; told = asked }
    → asks_or NotActive s next asked ≡ told → renew_row s (task_of s.work) ≡ told
renew-by s next asked told is comes = renew-with s s.work ∙ (ap (asks_by NotActive s) is ∙ comes)

unfollow-with : (s : Follower) (w : Work) → unfollow_row (doing s w) (task_of w) ≡ asks_by NotPaused (doing s w) (unfollows s.lease w)
unfolding unfollow_row guarded
unfollow-with s (restoring r) = refl
unfollow-with s (replicating t) = test (is_active t.phase)
  where
    test : (b : Bool) → (if b then refused (doing s (replicating t)) NotPaused else lease_request (doing s (replicating t)) (record t { phase = phases.Unfollowed }) (contents.LeaseRemove s.lease))
        ≡ asks_by NotPaused (doing s (replicating t)) (if b then asks_nothing (replicating t) else asks (record t { phase = phases.Unfollowed }) (contents.LeaseRemove s.lease))
    test true = refl
    test false = refl

pub unfollow-by : (s : Follower) (next : Work) (asked : Option Frame) (told : Outcome Follower) → unfollows s.lease s.work ≡ record { next = next; told = asked }
    → asks_or NotPaused s next asked ≡ told → unfollow_row s (task_of s.work) ≡ told
unfollow-by s next asked told is comes = unfollow-with s s.work ∙ (ap (asks_by NotPaused s) is ∙ comes)

-- ---- pauses and restarts

pause-with : (s : Follower) (w : Work) → pause_row (doing s w) (task_of w) ≡ done_or Bootstrapping (doing s w) (pauses w)
unfolding pause_row
pause-with s (restoring r) = refl
pause-with s (replicating t) = test (is_active t.phase)
  where
    test : (b : Bool) → answered replies.Done (if b then doing s (replicating (stopped phases.Paused t)) else doing s (replicating t))
        ≡ answered replies.Done (doing s (replicating (if b then stopped phases.Paused t else t)))
    test true = refl
    test false = refl

pub pause-done : (s : Follower) (next : Work) (sent : List Frame) → pauses s.work ≡ record { next = next; told = true } → sent ≡ []
    → pause_row s (task_of s.work) ≡ record { reply = replies.Done; next = doing s next; sent = sent }
pause-done s next sent is none = done Bootstrapping s (pauses s.work) next sent (pause_row s (task_of s.work)) (pause-with s s.work) is none

pub pause-refused : (s : Follower) (next : Work) (told : Outcome Follower) → pauses s.work ≡ record { next = next; told = false }
    → refused (doing s next) Bootstrapping ≡ told → pause_row s (task_of s.work) ≡ told
pause-refused s next told is refuses = not_done Bootstrapping s (pauses s.work) next (pause_row s (task_of s.work)) told (pause-with s s.work) is refuses

-- what a task's start anew comes to
abbrev pub StartsAnew : Follower → Work → Outcome Follower → Type 0
StartsAnew s w told = (t : Task) → w ≡ replicating t → task_anew s t ≡ told

pub so-anew : {E : Type 0} (r : Result Told E) (new s : Follower) (p : Outcome Follower) → ((o : Outcome Follower) → StartsAnew s s.work o → p ≡ o)
    → IfOk r (λ (told : Told). StartsAnew s s.work (after told new)) → IfOk r (λ (told : Told). p ≡ after told new)
so-anew (Ok told) new s p by is = by (after told new) is
so-anew (Err e) new s p by is = tt

resume-with : (s : Follower) (w : Work) (told : Outcome Follower) → is_paused_work w ≡ true → StartsAnew (doing s w) w told → resume_row (doing s w) (task_of w) ≡ told
unfolding resume_row guarded
resume-with s (restoring r) told is anew = absurd (cc)
resume-with s (replicating t) told is anew = rw is (anew t refl)

pub resume-done : (s : Follower) (told : Outcome Follower) → is_paused_work s.work ≡ true → StartsAnew s s.work told → resume_row s (task_of s.work) ≡ told
resume-done s told is anew = resume-with s s.work told is anew

resume-not : (s : Follower) (w : Work) → is_paused_work w ≡ false → resume_row (doing s w) (task_of w) ≡ refused (doing s w) NotPaused
unfolding resume_row guarded
resume-not s (restoring r) isnt = refl
resume-not s (replicating t) isnt = rw isnt refl

pub resume-refused : (s : Follower) (told : Outcome Follower) → is_paused_work s.work ≡ false → refused s NotPaused ≡ told → resume_row s (task_of s.work) ≡ told
resume-refused s told isnt refuses = resume-not s s.work isnt ∙ refuses

restart-with : (s : Follower) (w : Work) (told : Outcome Follower) → is_active_work w ≡ true → StartsAnew (doing s w) w told → restart_row (doing s w) (task_of w) ≡ told
unfolding restart_row guarded
restart-with s (restoring r) told is anew = absurd (cc)
restart-with s (replicating t) told is anew = rw is (anew t refl)

pub restart-done : (s : Follower) (told : Outcome Follower) → is_active_work s.work ≡ true → StartsAnew s s.work told → restart_row s (task_of s.work) ≡ told
restart-done s told is anew = restart-with s s.work told is anew

restart-not : (s : Follower) (w : Work) → is_active_work w ≡ false → restart_row (doing s w) (task_of w) ≡ refused (doing s w) NotActive
unfolding restart_row guarded
restart-not s (restoring r) isnt = refl
restart-not s (replicating t) isnt = rw isnt refl

pub restart-refused : (s : Follower) (told : Outcome Follower) → is_active_work s.work ≡ false → refused s NotActive ≡ told → restart_row s (task_of s.work) ≡ told
restart-refused s told isnt refuses = restart-not s s.work isnt ∙ refuses

-- a task that starts anew in an epoch
abbrev anew_to : Follower → ℕ → Stepped (List Frame) → Outcome Follower
anew_to s epoch o = record { reply = replies.Done; next = record s { work = o.next; epoch = epoch }; sent = o.told }

pub anew-done : (s : Follower) (t : Task) (next : Work) (sent : List Frame) → s.work ≡ replicating t
    → begins s.params s.copies.primary.global (s.epoch + 1) (history_of s.work) s.work ≡ record { next = next; told = sent }
    → task_anew s t ≡ record { reply = replies.Done; next = record s { work = next; epoch = s.epoch + 1 }; sent = sent }
anew-done s t next sent works is =
    let same : task_anew s t ≡ anew_to s (s.epoch + 1) (begins s.params s.copies.primary.global (s.epoch + 1) (history_of s.work) s.work)
    = ap (λ (w : Work). anew_to s (s.epoch + 1) (begins s.params s.copies.primary.global (s.epoch + 1) (history_of w) w)) (sym works) in
    same ∙ ap (anew_to s (s.epoch + 1)) is

-- ---- status

pub status-is : (s : Follower) (phase : Phase) (epoch term : ℕ) (copies : List CopyStatus) (load : ℕ × ℕ × ℕ) → phase ≡ phase_of_work s.work → epoch ≡ s.epoch → term ≡ s.copies.term
    → copies ≡ statuses_of s.copies → load ≡ loads s.work
    → record { phase = phase; epoch = epoch; term = term; copies = copies; reads = load.0; buffer = load.1; writes = load.2 } ≡ status_of_follower s
status-is s phase epoch term copies load phased kept named told loaded =
    let to : Phase → ℕ → ℕ → List CopyStatus → ℕ × ℕ × ℕ → FollowerStatus = λ p e t cs l.
    record { phase = p; epoch = e; term = t; copies = cs; reads = l.0; buffer = l.1; writes = l.2 } in
    ap (λ (p : Phase). to p epoch term copies load) phased
    ∙ (ap (λ (e : ℕ). to (phase_of_work s.work) e term copies load) kept
    ∙ (ap (λ (t : ℕ). to (phase_of_work s.work) s.epoch t copies load) named
    ∙ (ap (λ (cs : List CopyStatus). to (phase_of_work s.work) s.epoch s.copies.term cs load) told
    ∙ ap (λ (l : ℕ × ℕ × ℕ). to (phase_of_work s.work) s.epoch s.copies.term (statuses_of s.copies) l) loaded)))

pub status-done : (s : Follower) (status : FollowerStatus) (sent : List Frame) → status ≡ status_of_follower s → sent ≡ []
    → follower_status_row s ≡ record { reply = replies.FollowerStatus status; next = s; sent = sent }
unfolding follower_status_row
status-done s status sent is none =
    says (replies.FollowerStatus status) s sent (answered (replies.FollowerStatus (status_of_follower s)) s)
    (ap (λ (x : FollowerStatus). answered (replies.FollowerStatus x) s) (sym is)) none
