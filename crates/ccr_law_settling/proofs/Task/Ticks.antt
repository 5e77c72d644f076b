-- Settling by a tick lowers the measure.
use Rattle.std.specs.List.{AllByRecursion, list_any}
use Rattle.std.specs.Str.{bytes_eq}
use Rattle.std.specs.Prelude.{slice_get, filter}
use Rattle.std.specs.Option.{option_map_or}
use Rattle.std.proofs.Common.{◌≡◌, ◌⊎◌, inl, inr, ℕ, ◌+◌, ◌<◌, ◌≤◌, ◌==◌, ◌&&◌, ◌||◌, Bool, true, false, nat_lt, ◌-◌, if◌then◌else◌, Option, Some, None, List, [], ◌++◌, length, map, refl, sym, ◌∙◌, ap, subst, arith}
use Rattle.std.proofs.lemmas.List.Folds.{list_any-append}
use Rattle.ccr_wire.specs.Message.{Frame}
use Rattle.ccr_model.specs.Requests.{Progress, is_due, Sending, quiet, followed_by}
use Rattle.ccr_model.specs.Tasks.{Task, Read, Write, is_active, may_read, all_sent_again, in_order_of_request, due_writes_sent, due_reads_sent, filled_if_active}
use Rattle.ccr_model.specs.TaskFacts.{IsSaturated}
use Rattle.ccr_model.specs.Followers.{Follower, Work, restoring, replicating, uuid_of}
use Rattle.ccr_model.specs.FollowerRows.{is_bootstrapping, tick_row}
use Rattle.ccr_model.specs.World.{State, for_follower, at_follower}
use Rattle.ccr_model.specs.Settling.{may_be_answered, waits_in, may_tick}
use Rattle.ccr_model.specs.Past.{Past, WrittenBatch, line_of}
use Rattle.ccr_law_base.proofs.Cases.{on_if}
use Rattle.ccr_law_base.proofs.Lists.{All-weaker, All-filter_test, some_equal}
use Rattle.ccr_law_copies.specs.Cores.{IsCore}
use Rattle.ccr_law_messages.specs.Saying.{AreGoodReads}
use Rattle.ccr_law_messages.specs.Saying as saying
use Rattle.ccr_law_messages.specs.TrueFrames.{own_of, setting, scene_of, HasTrueFrames}
use Rattle.ccr_law_messages.proofs.ReadLists.{AreListed, all-listed, filter-listed, order-listed}
use Rattle.ccr_law_tasks.specs.GoodFollowers.{IsGoodWork, HasGoodTasks}
use Rattle.ccr_law_tasks.proofs.WriteLists.{length-mapped}
use Rattle.ccr_law_settling.specs.Measure.{total, passing, IsLower}
use Rattle.ccr_law_settling.proofs.Measure.Syncing.{carries}
use Rattle.ccr_law_settling.proofs.Measure.LostRequests.{All-in_order}
use Rattle.ccr_law_settling.proofs.Measure.Filling.{write_amount}
use Rattle.ccr_law_settling.proofs.Measure.Repeating.{each_carried}
use Rattle.ccr_law_settling.proofs.Measure.Ticking.{sending, Resends, resends_lower, sent_may_come}
use Rattle.ccr_law_settling.proofs.Measure.Framing.{same_name, asking_lowers}
use Rattle.ccr_law_settling.specs.TaskLowering.{TicksLower}
use Rattle.ccr_law_settling.proofs.Task.TickReads.{as_many_in_order, some_due, NoneHeld, Repeats, again_repeats, again_named}
use Rattle.ccr_law_settling.proofs.Task.TickWrites.{put_on_way, has_due_write, same_amounts, writes_lighter}
use Rattle.ccr_law_settling.proofs.Task.TickFills.{filled_nothing, still_saturated}
use Rattle.std.proofs.lemmas.List.{append-nil}

-- ---- a task whose reads were sent again

-- what the rest of a tick does to a task
abbrev rest_of_tick : ℕ → Task → Sending Task
rest_of_tick now after = filled_if_active (due_writes_sent now after)

-- the task with other reads, and with the writes that were due on their way
abbrev ticked_to : ℕ → Task → ℕ → List Read → Task
ticked_to now t next_request reads = record t { next_request = next_request; reads = reads; writes = map (put_on_way now) t.writes }

rest_is : (now : ℕ) (t : Task) (next_request : ℕ) (reads : List Read) (done : Sending Task) → done.next ≡ record t { next_request = next_request; reads = reads }
    → length reads ≡ length t.reads → (NoneHeld t.reads → NoneHeld reads) → (is_active t.phase ≡ true → IsSaturated t)
    → followed_by done (rest_of_tick now) ≡ record { next = ticked_to now t next_request reads; sent = done.sent }
rest_is now t next_request reads done is same held saturated =
    ap (λ (rest : Sending Task). record { next = rest.next; sent = done.sent ++ rest.sent }) nothing
    ∙ ap (λ (sent : List Frame). record { next = ticked_to now t next_request reads; sent = sent }) (append-nil done.sent)
  where
    nothing : rest_of_tick now done.next ≡ quiet (ticked_to now t next_request reads)
    nothing =
        ap (rest_of_tick now) is
        ∙ filled_nothing (ticked_to now t next_request reads)
        (λ active. still_saturated t next_request reads (map (put_on_way now) t.writes) same (length-mapped (put_on_way now) t.writes) held (saturated active))

lighter : (sent new_reads new_writes many some old_reads old_writes : ℕ) → sent + new_reads + many ≤ old_reads → new_writes + some ≤ old_writes → 1 ≤ many + some
    → sent + (new_reads + new_writes) < old_reads + old_writes
lighter sent new_reads new_writes many some old_reads old_writes a b c = omega arith

task_resends : (count_of : List ℕ → ℕ) (s : State) (f : ℕ) (base : Follower) (t : Task) (many : ℕ) (done : Sending Task) → (is_active t.phase ≡ true → IsSaturated t)
    → Repeats s.leader.sessions (may_be_answered (sending s done.sent) (uuid_of f)) base.now t many done
    → 1 ≤ many + (if has_due_write base.now t.writes then 1 else 0)
    → Resends count_of s f (record base { work = replicating t }) (replicating (followed_by done (rest_of_tick base.now)).next) (followed_by done (rest_of_tick base.now)).sent
task_resends count_of s f base t many done saturated repeats some =
    subst (λ (x : Sending Task). Resends count_of s f (record base { work = replicating t }) (replicating x.next) x.sent)
    (sym (rest_is base.now t repeats.next_request repeats.reads done repeats.is repeats.as_many repeats.held saturated))
    (record {
      plain = repeats.plain;
      busy = repeats.busy;
      rank = omega arith;
      lacks =
          (let sizes : total (λ (r : Read). r.to - r.from) repeats.reads ≡ total (λ (r : Read). r.to - r.from) t.reads = repeats.same (λ from to. to - from) in
          let writes : total write_amount (map (put_on_way base.now) t.writes) ≡ total write_amount t.writes = same_amounts base.now t.writes in
          omega arith);
      peeks =
          (let same : passing (λ (r : Read). (r.from == r.to) && nat_lt r.from t.next) repeats.reads ≡ passing (λ (r : Read). (r.from == r.to) && nat_lt r.from t.next) t.reads
          = repeats.same (λ from to. if (from == to) && nat_lt from t.next then 1 else 0) in
          omega arith);
      weight = lighter _ _ _ many _ _ _ repeats.weight (writes_lighter base.now t.writes) some;
    })

-- ---- which reads are sent again

either : (a b : Bool) → (a || b) ≡ true → (a ≡ true) ⊎ (b ≡ true)
either true b is = inl refl
either false b is = inr is

tick_resends : (count_of : List ℕ → ℕ) (s : State) (f : ℕ) (base : Follower) (t : Task) → bytes_eq t.follower (uuid_of f) ≡ true → AreGoodReads t.next_request t.reads → (is_active t.phase ≡ true → IsSaturated t)
    → list_any (is_due base.now) (waits_in (replicating t)) ≡ true
    → Resends count_of s f (record base { work = replicating t }) (replicating (followed_by (due_reads_sent base.now t) (rest_of_tick base.now)).next)
    (followed_by (due_reads_sent base.now t) (rest_of_tick base.now)).sent
tick_resends count_of s f base t named good saturated due =
    on_if
    (λ (done : Sending Task). Resends count_of s f (record base { work = replicating t }) (replicating (followed_by done (rest_of_tick base.now)).next) (followed_by done (rest_of_tick base.now)).sent)
    (may_read t) (all_sent_again dues t) (quiet t)
    (λ may. task_resends count_of s f base t (length dues) (all_sent_again dues t) saturated repeats
    (some_of (either (list_any (is_due base.now) progresses) (has_due_write base.now t.writes) (reads_or_writes may))))
    (λ maynt. task_resends count_of s f base t 0 (quiet t) saturated (again_repeats s.leader.sessions _ base.now [] t none_listed tt tt) (one_write (writes_alone maynt)))
  where
    is_due_now : Read → Bool
    is_due_now r = is_due base.now r.progress

    dues : List Read
    dues = in_order_of_request (filter is_due_now t.reads)

    progresses : List Progress
    progresses = map {A = Read} {B = Progress} (λ r. r.progress) t.reads

    write_progresses : List Progress
    write_progresses = map {A = Write} {B = Progress} (λ w. w.progress) t.writes

    waits_where : Bool → Bool
    waits_where b = list_any (is_due base.now) ((if b then progresses else []) ++ write_progresses)

    reads_or_writes : may_read t ≡ true → (list_any (is_due base.now) progresses || has_due_write base.now t.writes) ≡ true
    reads_or_writes may = sym (list_any-append (is_due base.now) progresses write_progresses) ∙ subst (λ (b : Bool). waits_where b ≡ true) may due

    writes_alone : may_read t ≡ false → has_due_write base.now t.writes ≡ true
    writes_alone maynt = subst (λ (b : Bool). waits_where b ≡ true) maynt due

    one_write : has_due_write base.now t.writes ≡ true → 1 ≤ 0 + (if has_due_write base.now t.writes then 1 else 0)
    one_write any = rw any (omega arith)

    some_of : (list_any (is_due base.now) progresses ≡ true) ⊎ (has_due_write base.now t.writes ≡ true) → 1 ≤ length dues + (if has_due_write base.now t.writes then 1 else 0)
    some_of (inl any) =
        let as_many : length dues ≡ length (filter is_due_now t.reads) = as_many_in_order (filter is_due_now t.reads) in
        let some : 1 ≤ length (filter is_due_now t.reads) = some_due base.now t.reads any in
        omega arith
    some_of (inr any) = let some : 1 ≤ 0 + (if has_due_write base.now t.writes then 1 else 0) = one_write any in omega arith

    sent : List Frame
    sent = (all_sent_again dues t).sent

    may_come : ℕ → Bool
    may_come = may_be_answered (sending s sent) (uuid_of f)

    come : AllByRecursion (λ (m : Frame). may_come m.request ≡ true) sent
    come = All-weaker (λ (m : Frame). list_any (carries (uuid_of f) m.request) sent ≡ true) (λ (m : Frame). may_come m.request ≡ true)
        (λ m is. sent_may_come s (uuid_of f) m.request sent is) sent (each_carried (uuid_of f) sent (again_named (uuid_of f) dues t named))

    repeats : Repeats s.leader.sessions may_come base.now t (length dues) (all_sent_again dues t)
    repeats = again_repeats s.leader.sessions may_come base.now dues t
        (order-listed t.next_request t.reads (filter is_due_now t.reads)
        (filter-listed t.next_request is_due_now t.reads t.reads (all-listed t.next_request t.reads good)))
        (All-in_order (λ (r : Read). is_due_now r ≡ true) (filter is_due_now t.reads) [] tt (All-filter_test is_due_now t.reads))
        come

    none_listed : AreListed t.next_request t.reads []
    none_listed = record { there = tt; drawn = tt; some = tt; apart = tt }

-- ---- the event

task_lower : (count_of : List ℕ → ℕ) (s : State) (f : ℕ) (base : Follower) (t : Task) → slice_get s.followers f ≡ Some (record base { work = replicating t }) → bytes_eq t.follower (uuid_of f) ≡ true
    → AreGoodReads t.next_request t.reads → (is_active t.phase ≡ true → IsSaturated t) → list_any (is_due base.now) (waits_in (replicating t)) ≡ true
    → IsLower count_of (at_follower s f (tick_row (record base { work = replicating t }))).next s
unfolding tick_row
task_lower count_of s f base t there named good saturated due =
    resends_lower count_of s f (record base { work = replicating t }) _ _ there (tick_resends count_of s f base t named good saturated due)

work_lower : (count_of : List ℕ → ℕ) (p : Past) (f : ℕ) (base : Follower) (work : Work) (begun_at : ℕ) (written : List WrittenBatch) → slice_get p.state.followers f ≡ Some (record base { work = work })
    → saying.IsGoodWork (setting (scene_of p) f (own_of (record base { work = work }))) work → IsGoodWork (line_of p base.history) begun_at written base.epoch work
    → (is_bootstrapping work ≡ true → IsLower count_of (at_follower p.state f (tick_row (record base { work = work }))).next p.state)
    → list_any (is_due base.now) (waits_in work) ≡ true → IsLower count_of (at_follower p.state f (tick_row (record base { work = work }))).next p.state
work_lower count_of p f base (restoring r) begun_at written there good epoch boots due = boots refl
work_lower count_of p f base (replicating t) begun_at written there good task boots due =
    task_lower count_of p.state f base t there (same_name t.follower (uuid_of f) good.named) good.reads task.0.saturated due

pub ticks_lower : (count_of : List ℕ → ℕ) (p : Past) → IsCore p → HasTrueFrames p → HasGoodTasks p → TicksLower count_of p.state
ticks_lower count_of p core frames tasks f may picks = by (slice_get p.state.followers f) refl may
  where
    by : (o : Option Follower) → slice_get p.state.followers f ≡ o → option_map_or may_tick o false ≡ true → IsLower count_of (for_follower p.state f tick_row o).next p.state
    by None there is = cc
    by (Some own) there is =
        work_lower count_of p f own own.work (p.followers f).begun_at (p.followers f).written there (frames.messages.works f own there).work (tasks.followers.made f own there).work boots is
      where
        boots : is_bootstrapping own.work ≡ true → IsLower count_of (at_follower p.state f (tick_row own)).next p.state
        boots bootstraps =
            subst (λ (o : Option Follower). IsLower count_of (for_follower p.state f tick_row o).next p.state) there
            ((asking_lowers count_of p core frames).tick f (λ x at. subst (λ (y : Follower). is_bootstrapping y.work ≡ true) (some_equal own x (sym there ∙ at)) bootstraps) may picks)
