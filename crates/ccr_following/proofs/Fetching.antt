-- The end of a bootstrap: what was fetched is right, and what the follower is after it.
use Rattle.std.specs.Prelude.{count_by}
use Rattle.std.proofs.Common.{◌≡◌, ℕ, ◌<◌, ◌≤◌, ◌==◌, Bool, true, false, if◌then◌else◌, Option, Some, None, List, [], ◌∷◌, refl, sym, ◌∙◌, ap, subst}
use Rattle.ccr_op.specs.Operation.{Operation}
use Rattle.ccr_wire.specs.Message.{Frame}
use Rattle.ccr_wire.specs.declared.content.Content.{Content}
use Rattle.ccr_wire.specs.declared.content.Content.TheVariants as contents
use Rattle.ccr_journal.specs.declared.params.ParamValues.{ParamValues}
use Rattle.ccr_journal.specs.declared.replies.Reply.TheVariants as replies
use Rattle.ccr_journal.specs.declared.replies.Heard.TheVariants as heard
use Rattle.ccr_segment.specs.declared.restored.Restored.{Restored}
use Rattle.ccr_model.specs.Operations.{has_number}
use Rattle.ccr_model.specs.Stores.{held}
use Rattle.ccr_model.specs.Outcomes.{Outcome}
use Rattle.ccr_model.specs.Requests.{Sending}
use Rattle.ccr_model.specs.Tasks.{Task, Read, read_sent}
use Rattle.ccr_model.specs.Restores.{Restore, Stage, leasing, opening, fetching, Fetch, files_of, ends_restore, restore_hears, restore_started}
use Rattle.ccr_model.specs.Followers.{Follower, Work, restoring, replicating, new_follower, restored, uuid_of}
use Rattle.ccr_restore.specs.Finishing.{has_all, IsFinished, IsRestored}
use Rattle.ccr_follower.specs.Engine.{Engine, new_engine, with_copies as with_engine_copies}
use Rattle.ccr_following.specs.Ending.{AreFilesRight, EndsRightly}
use Rattle.ccr_following.specs.Finished.{IsFetched, IsFetchedRightly, IsRestoredBy, IsStageRight, follows}
use Rattle.ccr_following.specs.Hearings.{read_goes, restore_goes, work_heard_by}
use Rattle.ccr_following.specs.Works.{Stepped, begins}
use Rattle.ccr_following.specs.declared.hearing.Hearing.{Hearing}
use Rattle.ccr_following.specs.declared.hearing.Hearing.TheVariants.{GoesOn, Ended, Fetched}
use Rattle.ccr_following.proofs.Stepping.{doing, engine_of, with_engine}

-- ---- a message that brings the last part

abbrev is_fetched : Hearing → Bool
is_fetched (GoesOn told sent) = false
is_fetched Ended = false
is_fetched Fetched = true

read-goes_on : (t : Task) (content : Content) (found : Option Read) → is_fetched (read_goes t content found).told ≡ false
read-goes_on t content None = refl
read-goes_on t (contents.ReadReply from global ops) (Some r) = refl
read-goes_on t (contents.ReadMissing from floor) (Some r) = refl
read-goes_on t (contents.ReadHistory history) (Some r) = refl
read-goes_on t (contents.ReadRequest history from max_ops max_bytes timeout) (Some r) = refl
read-goes_on t (contents.LeaseAdd id) (Some r) = refl
read-goes_on t (contents.LeaseAdded number) (Some r) = refl
read-goes_on t (contents.LeaseRenew id number) (Some r) = refl
read-goes_on t (contents.LeaseRemove id) (Some r) = refl
read-goes_on t (contents.LeaseAnswer outcome number) (Some r) = refl
read-goes_on t contents.SessionOpen (Some r) = refl
read-goes_on t (contents.SessionOpened session history count sizes) (Some r) = refl
read-goes_on t (contents.ChunkRequest session file offset size) (Some r) = refl
read-goes_on t (contents.ChunkReply session file offset bytes) (Some r) = refl
read-goes_on t (contents.SessionGone session) (Some r) = refl
read-goes_on t (contents.NotReady copy) (Some r) = refl

task-goes_on : (t : Task) (content : Content) (found : Option Read) (next : Work) → read_goes t content found ≡ record { next = next; told = Fetched } → ⊥
task-goes_on t content found next is =
    let both : false ≡ true = sym (read-goes_on t content found) ∙ ap (λ (o : Stepped Hearing). is_fetched o.told) is in absurd (cc)

-- what the last part leaves is right, by the stage
at-stage : (s : Follower) (m : Frame) (r : Restore) (done : Sending Restore) → EndsRightly (doing s (restoring r)) m → restore_hears r s.now m ≡ Some done
    → (stage : Stage) → done.next.stage ≡ stage → has_all (record done.next { stage = stage }) ≡ true → IsStageRight done.next.chunk_size stage
at-stage s m r done rightly found (leasing a) at all = absurd (cc)
at-stage s m r done rightly found (opening a) at all = absurd (cc)
at-stage s m r done rightly found (fetching f) at all = rightly r done f refl found at all

whole-told : (b : Bool) (sent : List Frame) → (if b then Fetched else GoesOn heard.Done sent) ≡ Fetched → b ≡ true
whole-told true sent is = refl
whole-told false sent is = absurd (cc)

at-found : (s : Follower) (m : Frame) (r : Restore) (next : Work) → EndsRightly (doing s (restoring r)) m → (found : Option (Sending Restore)) → restore_hears r s.now m ≡ found
    → restore_goes r found ≡ record { next = next; told = Fetched } → IsFetchedRightly next
at-found s m r next rightly None found is =
    let both : GoesOn heard.Ignored [] ≡ Fetched = ap (λ (o : Stepped Hearing). o.told) is in absurd (cc)
at-found s m r next rightly (Some done) found is =
    let all : has_all done.next ≡ true = whole-told (has_all done.next) done.sent (ap (λ (o : Stepped Hearing). o.told) is) in
    let after : restoring done.next ≡ next = ap (λ (o : Stepped Hearing). o.next) is in
    subst IsFetchedRightly after (at-stage s m r done rightly found done.next.stage refl all)

at-work : (s : Follower) (m : Frame) (w next : Work) → EndsRightly (doing s w) m → work_heard_by s.now m w ≡ record { next = next; told = Fetched } → IsFetchedRightly next
at-work s m (restoring r) next rightly is = tests (ends_restore r m) is
  where
    tests : (b : Bool) → (if b then record { next = restoring r; told = Ended } else restore_goes r (restore_hears r s.now m)) ≡ record { next = next; told = Fetched } → IsFetchedRightly next
    tests true ends = let both : Ended ≡ Fetched = ap (λ (o : Stepped Hearing). o.told) ends in absurd (cc)
    tests false goes = at-found s m r next rightly (restore_hears r s.now m) refl goes
at-work s m (replicating t) next rightly is = absurd (task-goes_on t m.content (read_sent t m.request) next is)

pub fetched-rightly : (s : Follower) (m : Frame) (next : Work) → EndsRightly s m → work_heard_by s.now m s.work ≡ record { next = next; told = Fetched } → IsFetchedRightly next
fetched-rightly s m next rightly is = at-work s m s.work next rightly is

-- ---- what was fetched

stage-finished : (chunk_size : ℕ) (stage : Stage) → IsStageRight chunk_size stage → IsFinished chunk_size stage
stage-finished chunk_size (leasing a) right = right
stage-finished chunk_size (opening a) right = right
stage-finished chunk_size (fetching f) right = right.finished

pub right-fetched : (w : Work) → IsFetchedRightly w → IsFetched w
right-fetched (restoring r) right = stage-finished r.chunk_size r.stage right
right-fetched (replicating t) right = right

-- no number stands twice in the files, and all are below the count
pub record AreInstallable (files : List (List Operation)) (count : ℕ) : Type 0 where
  pub once : (n : ℕ) → count_by (λ (op : Operation). op.seq == n) (held (record { parts = files; open_part = [] })) ≤ 1
  pub below : (n : ℕ) → has_number (held (record { parts = files; open_part = [] })) n ≡ true → n < count

stage-installable : (chunk_size : ℕ) (stage : Stage) (x : Restored) → IsStageRight chunk_size stage → IsRestored chunk_size stage x → AreInstallable x.files x.count
stage-installable chunk_size (leasing a) x right is = absurd right
stage-installable chunk_size (opening a) x right is = absurd right
stage-installable chunk_size (fetching f) x right is =
    subst (λ (y : Restored). AreInstallable y.files y.count) (sym is) (record { once = right.once; below = right.below })

work-installable : (w : Work) (x : Restored) → IsFetchedRightly w → IsRestoredBy w x → AreInstallable x.files x.count
work-installable (restoring r) x right is = stage-installable r.chunk_size r.stage x right is
work-installable (replicating t) x right is = absurd right

pub installable : (w : Work) (x : Restored) (files : List (List Operation)) → IsFetchedRightly w → IsRestoredBy w x → files ≡ x.files → AreInstallable files x.count
installable w x files right is same = subst (λ (fs : List (List Operation)). AreInstallable fs x.count) (sym same) (work-installable w x right is)

-- ---- the follower after it

-- the follower that was restored from these, with its first task
abbrev begun : Follower → ℕ → List (List Operation) → Stepped (List Frame) → Outcome Follower
begun s count files o = record {
  reply = replies.Heard heard.Done;
  next = record s { work = o.next; epoch = 1; copies = restored count files s.copies };
  sent = o.told;
}

abbrev begun_from : Follower → Work → Restored → Outcome Follower
begun_from s w x = begun s x.count x.files (begins s.params x.count 1 x.history w)

stage-begun : (s : Follower) (r : Restore) (stage : Stage) (x : Restored) → IsRestored r.chunk_size stage x
    → follows (doing s (restoring (record r { stage = stage }))) (restoring (record r { stage = stage })) ≡ begun_from s (restoring (record r { stage = stage })) x
stage-begun s r (leasing a) x is = absurd is
stage-begun s r (opening a) x is = absurd is
stage-begun s r (fetching f) x is = ap (begun_from s (restoring (record r { stage = fetching f }))) (sym is)

work-begun : (s : Follower) (w : Work) (x : Restored) → IsRestoredBy w x → follows (doing s w) w ≡ begun_from s w x
work-begun s (restoring r) x is = stage-begun s r r.stage x is
work-begun s (replicating t) x is = absurd is

pub following-done : (s : Follower) (x : Restored) (files : List (List Operation)) (installed kept : Engine) (next : Work) (sent : List Frame) → IsRestoredBy s.work x → files ≡ x.files
    → installed ≡ with_engine_copies (engine_of s) (restored x.count files s.copies) → kept ≡ record installed { epoch = 1 }
    → begins s.params x.count 1 x.history s.work ≡ record { next = next; told = sent }
    → follows s s.work ≡ record { reply = replies.Heard heard.Done; next = record (with_engine s kept) { work = next }; sent = sent }
following-done s x files installed kept next sent is same install keeps begins_so =
    let to : Engine → Outcome Follower = λ e. record { reply = replies.Heard heard.Done; next = record (with_engine s e) { work = next }; sent = sent } in
    work-begun s s.work x is
    ∙ (ap (begun s x.count x.files) begins_so
    ∙ (ap (λ (fs : List (List Operation)). begun s x.count fs (record { next = next; told = sent })) (sym same)
    ∙ (ap (λ (e : Engine). to (record e { epoch = 1 })) (sym install) ∙ ap to (sym keeps))))

-- ---- a new follower

pub new-done : (f : ℕ) (params : ParamValues) (copies : ℕ) (lease history : List ℕ) (retention : ℕ) (own uuid : List ℕ) (r : Restore) (message : Frame) (engine : Engine) (sent : List Frame)
    → own ≡ lease → uuid ≡ uuid_of f
    → restore_started own uuid history params.chunk_size params.max_retry_delay ≡ record { next = r; sent = message ∷ [] }
    → engine ≡ new_engine copies retention → sent ≡ message ∷ []
    → new_follower f params copies lease history retention ≡ record {
      next = record {
        lease = lease;
        history = history;
        params = params;
        retention = engine.retention;
        now = 0;
        work = restoring r;
        lease_requests = [];
        epoch = engine.epoch;
        copies = engine.copies;
      };
      sent = sent;
    }
new-done f params copies lease history retention own uuid r message engine sent same named is made one =
    let to : Sending Restore → Engine → List Frame → Sending Follower = λ b e ms. record {
      next = record {
        lease = lease;
        history = history;
        params = params;
        retention = e.retention;
        now = 0;
        work = restoring b.next;
        lease_requests = [];
        epoch = e.epoch;
        copies = e.copies;
      };
      sent = ms;
    } in
    let first : Sending Restore = record { next = r; sent = message ∷ [] } in
    let start : restore_started lease (uuid_of f) history params.chunk_size params.max_retry_delay ≡ first
    = ap (λ (l : List ℕ). restore_started l (uuid_of f) history params.chunk_size params.max_retry_delay) (sym same)
    ∙ (ap (λ (u : List ℕ). restore_started own u history params.chunk_size params.max_retry_delay) (sym named) ∙ is) in
    ap (λ (b : Sending Restore). to b (new_engine copies retention) b.sent) start
    ∙ (ap (λ (e : Engine). to first e (message ∷ [])) (sym made) ∙ ap (λ (ms : List Frame). to first engine ms) (sym one))
