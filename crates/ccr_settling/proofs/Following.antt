-- What is left to do at a follower.
use Rattle.std.specs.List.{AllByRecursion, list_any}
use Rattle.std.specs.Option.{option_map, option_map_or}
use Rattle.std.proofs.Common.{◌≡◌, ℕ, zero, suc, ◌+◌, ◌<◌, ◌≤◌, ◌==◌, ◌&&◌, ◌||◌, not, min, nat_lt, nat_le, Bool, true, false, Option, Some, None, is_some, is_none, List, [], ◌∷◌, length, filter_map, find, slice_get, IfSome, refl, sym, ap, subst, ◌∙◌, arith}
use Rattle.std.proofs.lemmas.Bool.Decides.{nat_tests}
use Rattle.ccr_op.specs.Operation.{Operation}
use Rattle.ccr_op.specs.Sameness.{same_operations}
use Rattle.ccr_op.proofs.Sameness.{same_operations-equal, same_operations-self}
use Rattle.ccr_journal.specs.declared.sides.Side.TheVariants as sides
use Rattle.ccr_journal.specs.declared.events.Event.{Event}
use Rattle.ccr_journal.specs.declared.events.Event.TheVariants as events
use Rattle.ccr_changes.specs.Waits.{waits_for}
use Rattle.ccr_model.specs.Copies.{Copy, Copies}
use Rattle.ccr_model.specs.Requests.{Progress, on_its_way, waiting, held_back, is_due, is_sent}
use Rattle.ccr_model.specs.Tasks.{Task, Read, Write, write_sent, sent_reads}
use Rattle.ccr_model.specs.Restores.{sent_requests}
use Rattle.ccr_model.specs.Leaders.{Poll}
use Rattle.ccr_model.specs.Followers.{Follower, Work, restoring, replicating, uuid_of}
use Rattle.ccr_model.specs.FollowerRows.{Sent, sent_write, task_of, has_all, lacks}
use Rattle.ccr_model.specs.Settling.{least_of, time_of, may_apply, may_end, may_tick, request_at, waits_in, waits_until}
use Rattle.ccr_settling.specs.Still.{Acts, IsApplied, IsStillGoing, is_unpolled}
use Rattle.ccr_settling.specs.Served.{Serves}

-- ---- what is due

-- something is due exactly where the least time until which something waits has come
pub due_by_least : (now : ℕ) (ps : List Progress) → list_any (is_due now) ps ≡ option_map_or (λ t. nat_le t now) (least_of (filter_map time_of ps)) false
due_by_least now [] = refl
due_by_least now (on_its_way ∷ ps) = due_by_least now ps
due_by_least now (held_back ∷ ps) = due_by_least now ps
due_by_least now (waiting until ∷ ps) = ap (λ b. nat_le until now || b) (due_by_least now ps) ∙ by (least_of (filter_map time_of ps))
  where
    by : (o : Option ℕ) → (nat_le until now || option_map_or (λ t. nat_le t now) o false) ≡ nat_le (option_map_or (λ m. min until m) o until) now
    by None = grind (arith, nat_tests)
    by (Some m) = grind (arith, nat_tests)

pub due-some : (s : Follower) (until now : ℕ) → Some until ≡ waits_until s.work → now ≡ s.now → nat_le until now ≡ may_tick s
due-some s until now is same =
    sym (due_by_least s.now (waits_in s.work) ∙ ap (λ (o : Option ℕ). option_map_or (λ t. nat_le t s.now) o false) (sym is) ∙ ap (λ (n : ℕ). nat_le until n) (sym same))

pub due-none : (s : Follower) → None ≡ waits_until s.work → false ≡ may_tick s
due-none s is = sym (due_by_least s.now (waits_in s.work) ∙ ap (λ (o : Option ℕ). option_map_or (λ t. nat_le t s.now) o false) (sym is))

-- ---- writes

no-task-writes : (w : Work) (write : ℕ) → task_of w ≡ None → sent_write w write ≡ None
no-task-writes (restoring r) write none = refl
no-task-writes (replicating t) write none = cc

sent-of-task : (w : Work) (t : Task) (write : ℕ) → task_of w ≡ Some t → sent_write w write ≡ option_map {T = Write} {U = Sent} (λ x. record { task = t; write = x }) (write_sent t write)
sent-of-task (restoring r) t write is = cc
sent-of-task (replicating own) t write is = let e : own ≡ t = cc in ap (λ (x : Task). sent_write (replicating x) write) e

pub no-task-ends : (s : Follower) → task_of s.work ≡ None → (write : ℕ) → IsStillGoing s write
no-task-ends s none write = ap (λ (o : Option Sent). may_end s o) (no-task-writes s.work write none)

pub no-task-applies : (s : Follower) → task_of s.work ≡ None → (write : ℕ) → IsApplied s write
no-task-applies s none write epoch batch = ap (λ (o : Option Sent). may_apply s epoch batch o) (no-task-writes s.work write none)

batch-of : (o : Option Write) (batch : List Operation) → option_map {T = Write} {U = List Operation} (λ w. w.batch) o ≡ Some batch → (w : Write) × (o ≡ Some w) × (w.batch ≡ batch)
batch-of None batch is = cc
batch-of (Some w) batch is = (w, refl, cc)

none-sent : (o : Option Write) → option_map {T = Write} {U = List Operation} (λ w. w.batch) o ≡ None → o ≡ None
none-sent None is = refl
none-sent (Some w) is = cc

sent-batch : (w : Work) (t : Task) (write : ℕ) (batch : List Operation) → task_of w ≡ Some t → option_map {T = Write} {U = List Operation} (λ x. x.batch) (write_sent t write) ≡ Some batch
    → (sent : Sent) × (sent_write w write ≡ Some sent) × (sent.write.batch ≡ batch)
sent-batch w t write batch task is =
    let found : (x : Write) × (write_sent t write ≡ Some x) × (x.batch ≡ batch) = batch-of (write_sent t write) batch is in
    (record { task = t; write = found.0 }, sent-of-task w t write task ∙ ap (λ (o : Option Write). option_map {T = Write} {U = Sent} (λ x. record { task = t; write = x }) o) found.1, found.2)

none-of-task : (w : Work) (t : Task) (write : ℕ) → task_of w ≡ Some t → option_map {T = Write} {U = List Operation} (λ x. x.batch) (write_sent t write) ≡ None → sent_write w write ≡ None
none-of-task w t write task is =
    sent-of-task w t write task ∙ ap (λ (o : Option Write). option_map {T = Write} {U = Sent} (λ x. record { task = t; write = x }) o) (none-sent (write_sent t write) is)

pub unsent-goes : (s : Follower) (t : Task) (write : ℕ) → task_of s.work ≡ Some t → option_map {T = Write} {U = List Operation} (λ x. x.batch) (write_sent t write) ≡ None → IsStillGoing s write
unsent-goes s t write task is = ap (λ (o : Option Sent). may_end s o) (none-of-task s.work t write task is)

pub unsent-applies : (s : Follower) (t : Task) (write : ℕ) → task_of s.work ≡ Some t → option_map {T = Write} {U = List Operation} (λ x. x.batch) (write_sent t write) ≡ None → IsApplied s write
unsent-applies s t write task is epoch batch = ap (λ (o : Option Sent). may_apply s epoch batch o) (none-of-task s.work t write task is)

ends-by : (s : Follower) (t : Task) (write : ℕ) (batch : List Operation) → task_of s.work ≡ Some t
    → option_map {T = Write} {U = List Operation} (λ x. x.batch) (write_sent t write) ≡ Some batch → may_end s (sent_write s.work write) ≡ is_none (lacks batch s.copies)
ends-by s t write batch task is =
    let sent : (x : Sent) × (sent_write s.work write ≡ Some x) × (x.write.batch ≡ batch) = sent-batch s.work t write batch task is in
    ap (λ (o : Option Sent). may_end s o) sent.1 ∙ ap (λ (b : List Operation). is_none (lacks b s.copies)) sent.2

pub lacked-goes : (s : Follower) (t : Task) (write : ℕ) (batch : List Operation) → task_of s.work ≡ Some t
    → option_map {T = Write} {U = List Operation} (λ x. x.batch) (write_sent t write) ≡ Some batch → is_some (lacks batch s.copies) ≡ true → IsStillGoing s write
lacked-goes s t write batch task is lacking = ends-by s t write batch task is ∙ by (lacks batch s.copies) lacking
  where
    by : (o : Option ℕ) → is_some o ≡ true → is_none o ≡ false
    by None is = cc
    by (Some n) is = refl

pub ends : (s : Follower) (t : Task) (f write : ℕ) (batch : List Operation) → task_of s.work ≡ Some t
    → option_map {T = Write} {U = List Operation} (λ x. x.batch) (write_sent t write) ≡ Some batch → is_some (lacks batch s.copies) ≡ false → (polls : List Poll) → Acts f polls s (events.Written f write)
ends s t f write batch task is none polls = (refl, ends-by s t write batch task is ∙ by (lacks batch s.copies) none)
  where
    by : (o : Option ℕ) → is_some o ≡ false → is_none o ≡ true
    by None is = refl
    by (Some n) is = cc

pub applies : (s : Follower) (t : Task) (f epoch write : ℕ) (batch : List Operation) → task_of s.work ≡ Some t
    → option_map {T = Write} {U = List Operation} (λ x. x.batch) (write_sent t write) ≡ Some batch → has_all batch s.copies.primary ≡ false → epoch ≡ s.epoch
    → (polls : List Poll) → Acts f polls s (events.Apply f epoch write batch)
applies s t f epoch write batch task is lacking kept polls =
    let sent : (x : Sent) × (sent_write s.work write ≡ Some x) × (x.write.batch ≡ batch) = sent-batch s.work t write batch task is in
    let same : same_operations sent.0.write.batch batch ≡ true = subst (λ (b : List Operation). same_operations sent.0.write.batch b ≡ true) sent.2 (same_operations-self sent.0.write.batch) in
    let here : (epoch == s.epoch) ≡ true = grind (arith, nat_tests) in
    (refl, ap (λ (o : Option Sent). may_apply s epoch batch o) sent.1 ∙ all (epoch == s.epoch) (same_operations sent.0.write.batch batch) (has_all batch s.copies.primary) here same lacking)
  where
    all : (a b c : Bool) → a ≡ true → b ≡ true → c ≡ false → (a && b && not c) ≡ true
    all true true false x y z = refl
    all true true true x y z = cc
    all true false c x y z = cc
    all false b c x y z = cc

pub had-applies : (s : Follower) (t : Task) (write : ℕ) (batch : List Operation) → task_of s.work ≡ Some t
    → option_map {T = Write} {U = List Operation} (λ x. x.batch) (write_sent t write) ≡ Some batch → has_all batch s.copies.primary ≡ true → IsApplied s write
had-applies s t write batch task is had epoch other =
    let sent : (x : Sent) × (sent_write s.work write ≡ Some x) × (x.write.batch ≡ batch) = sent-batch s.work t write batch task is in
    ap (λ (o : Option Sent). may_apply s epoch other o) sent.1 ∙ by sent.0.write.batch sent.2 (same_operations sent.0.write.batch other) refl
  where
    nothing : (a b : Bool) → (a && b && not true) ≡ false
    nothing true true = refl
    nothing true false = refl
    nothing false b = refl

    by : (b : List Operation) → b ≡ batch → (t : Bool) → same_operations b other ≡ t → ((epoch == s.epoch) && same_operations b other && not (has_all other s.copies.primary)) ≡ false
    by b same true alike =
        let e : has_all other s.copies.primary ≡ true = subst (λ (x : List Operation). has_all x s.copies.primary ≡ true) (sym same ∙ same_operations-equal b other alike) had in
        rw e (nothing (epoch == s.epoch) (same_operations b other))
    by b same false apart = rw apart (none (epoch == s.epoch))
      where
        none : (a : Bool) → (a && false && not (has_all other s.copies.primary)) ≡ false
        none true = refl
        none false = refl

-- whether the primary has processed a batch, as it was asked
pub has-all-at : (s : Follower) (asked batch : List Operation) (primary : Copy) (copies : Copies) (answer value : Bool) → asked ≡ batch → primary ≡ copies.primary → copies ≡ s.copies
    → answer ≡ has_all asked primary → answer ≡ value → has_all batch s.copies.primary ≡ value
has-all-at s asked batch primary copies answer value same own its is told =
    ap (λ (ops : List Operation). has_all ops s.copies.primary) (sym same) ∙ ap (λ (c : Copy). has_all asked c) (sym (own ∙ ap (λ (x : Copies). x.primary) its)) ∙ sym is ∙ told

-- ---- writes by their places

at-number : (P : ℕ → Type 0) (o : Option Write) (write : ℕ) → option_map {T = Write} {U = ℕ} (λ w. w.number) o ≡ Some write → P write → IfSome o (λ w. P w.number)
at-number P None write is holds = tt
at-number P (Some w) write is holds = let e : write ≡ w.number = cc in subst P e holds

pub at-no-place : (P : ℕ → Type 0) (o : Option Write) → option_map {T = Write} {U = ℕ} (λ w. w.number) o ≡ None → IfSome o (λ w. P w.number)
at-no-place P None is = tt
at-no-place P (Some w) is = cc

pub goes-at : (s : Follower) (o : Option Write) (write : ℕ) → option_map {T = Write} {U = ℕ} (λ w. w.number) o ≡ Some write → IsStillGoing s write → IfSome o (λ w. IsStillGoing s w.number)
goes-at s o write is going = at-number (IsStillGoing s) o write is going

pub applied-at : (s : Follower) (o : Option Write) (write : ℕ) → option_map {T = Write} {U = ℕ} (λ w. w.number) o ≡ Some write → IsApplied s write → IfSome o (λ w. IsApplied s w.number)
applied-at s o write is applied = at-number (IsApplied s) o write is applied

-- what holds of the numbers of the writes at the places below one
abbrev pub NumbersBelow : ℕ → (ℕ → Type 0) → List Write → Type 0
NumbersBelow n P writes = (i : ℕ) → i < n → IfSome (slice_get writes i) (λ w. P w.number)

pub numbers-none : (P : ℕ → Type 0) (writes : List Write) → NumbersBelow 0 P writes
numbers-none P writes i lt = absurd (omega (arith, lt))

pub numbers-push : (P : ℕ → Type 0) (writes : List Write) (n : ℕ) → NumbersBelow n P writes → IfSome (slice_get writes n) (λ w. P w.number) → NumbersBelow (n + 1) P writes
numbers-push P writes n before this i lt = by (nat_lt i n) refl
  where
    by : (b : Bool) → nat_lt i n ≡ b → IfSome (slice_get writes i) (λ w. P w.number)
    by true is = before i (grind (arith, nat_tests))
    by false is = let e : i ≡ n = grind (arith, nat_tests) in subst (λ m. IfSome (slice_get writes m) (λ w. P w.number)) (sym e) this

each-number : (P : ℕ → Type 0) (writes : List Write) → ((i : ℕ) → i < length writes → IfSome (slice_get writes i) (λ w. P w.number)) → AllByRecursion (λ (w : Write). P w.number) writes
each-number P [] all = tt
each-number P (w ∷ writes) all = (all 0 (omega arith), each-number P writes (λ i lt. all (suc i) (omega (arith, lt))))

-- a write that was sent is one of the writes, and has the number
sent-number : (P : ℕ → Type 0) (test : Write → Bool) (write : ℕ) (writes : List Write) (w : Write) → AllByRecursion (λ (x : Write). P x.number) writes
    → ((x : Write) → test x ≡ true → x.number ≡ write) → find test writes ≡ Some w → P write
sent-number P test write [] w all named is = cc
sent-number P test write (x ∷ writes) w all named is = by (test x) refl (λ e. sent-number P test write writes w all.1 named e)
  where
    by : (b : Bool) → test x ≡ b → (find test writes ≡ Some w → P write) → P write
    by true hit later = subst P (named x hit) all.0
    by false miss later = later (sym (rw miss refl) ∙ is)

-- what holds of each number of a write, and of those of none, holds of all
pub each-write : (P : ℕ → Type 0) (s : Follower) (t : Task) (n : ℕ) → task_of s.work ≡ Some t → ((write : ℕ) → sent_write s.work write ≡ None → P write)
    → length t.writes ≤ n → NumbersBelow n P t.writes → (write : ℕ) → P write
each-write P s t n task none far below write = by (write_sent t write) refl
  where
    all : AllByRecursion (λ (w : Write). P w.number) t.writes
    all = each-number P t.writes (λ i lt. below i (omega arith))

    first : (a b : Bool) → (a && b) ≡ true → a ≡ true
    first true b is = refl
    first false b is = cc

    by : (o : Option Write) → write_sent t write ≡ o → P write
    by None is = none write (sent-of-task s.work t write task ∙ ap (λ (o : Option Write). option_map {T = Write} {U = Sent} (λ x. record { task = t; write = x }) o) is)
    by (Some w) is =
        sent-number P (λ x. (x.number == write) && is_sent x.progress) write t.writes w all
        (λ x hit. let e : (x.number == write) ≡ true = first (x.number == write) (is_sent x.progress) hit in grind (arith, nat_tests)) is

pub each-goes : (s : Follower) (t : Task) (n : ℕ) → task_of s.work ≡ Some t → length t.writes ≤ n → NumbersBelow n (IsStillGoing s) t.writes → (write : ℕ) → IsStillGoing s write
each-goes s t n task far below = each-write (IsStillGoing s) s t n task (λ write none. ap (λ (o : Option Sent). may_end s o) none) far below

pub each-applied : (s : Follower) (t : Task) (n : ℕ) → task_of s.work ≡ Some t → length t.writes ≤ n → NumbersBelow n (IsApplied s) t.writes → (write : ℕ) → IsApplied s write
each-applied s t n task far below = each-write (IsApplied s) s t n task (λ write none epoch batch. ap (λ (o : Option Sent). may_apply s epoch batch o) none) far below

-- ---- requests

-- the requests at the places below one are awaited
abbrev pub AwaitedBelow : ℕ → List Poll → ℕ → Work → Type 0
AwaitedBelow n polls f work = (at : ℕ) → at < n → is_unpolled polls f work at ≡ false

pub awaited-none : (polls : List Poll) (f : ℕ) (work : Work) → AwaitedBelow 0 polls f work
awaited-none polls f work at lt = absurd (omega (arith, lt))

pub awaited-push : (polls : List Poll) (f : ℕ) (work : Work) (n request : ℕ) → AwaitedBelow n polls f work → request_at work n ≡ Some request
    → list_any (waits_for (uuid_of f) request) polls ≡ true → AwaitedBelow (n + 1) polls f work
awaited-push polls f work n request before is waits at lt = by (nat_lt at n) refl
  where
    by : (b : Bool) → nat_lt at n ≡ b → is_unpolled polls f work at ≡ false
    by true low = before at (grind (arith, nat_tests))
    by false high =
        let e : at ≡ n = grind (arith, nat_tests) in
        subst (λ (m : ℕ). is_unpolled polls f work m ≡ false) (sym e) (rw is (rw waits refl))

beyond : {A : Type 0} → (xs : List A) (n k : ℕ) → n ≤ k → slice_get xs n ≡ None → slice_get xs k ≡ None
beyond [] n k le is = refl
beyond (x ∷ xs) zero k le is = cc
beyond (x ∷ xs) (suc n) zero le is = absurd (omega (arith, le))
beyond (x ∷ xs) (suc n) (suc k) le is = beyond xs n k (omega (arith, le)) is

none-mapped : (o : Option Read) → option_map {T = Read} {U = ℕ} (λ r. r.request) o ≡ None → o ≡ None
none-mapped None is = refl
none-mapped (Some r) is = cc

past-last : (w : Work) (n k : ℕ) → n ≤ k → request_at w n ≡ None → request_at w k ≡ None
past-last (restoring r) n k le is = beyond (sent_requests r.stage) n k le is
past-last (replicating t) n k le is =
    ap (λ (o : Option Read). option_map {T = Read} {U = ℕ} (λ r. r.request) o) (beyond (sent_reads t) n k le (none-mapped (slice_get (sent_reads t) n) is))

pub awaited-all : (polls : List Poll) (f : ℕ) (work : Work) (n : ℕ) → AwaitedBelow n polls f work → request_at work n ≡ None → (at : ℕ) → is_unpolled polls f work at ≡ false
awaited-all polls f work n before last at = by (nat_lt at n) refl
  where
    by : (b : Bool) → nat_lt at n ≡ b → is_unpolled polls f work at ≡ false
    by true low = before at (grind (arith, nat_tests))
    by false high = let e : request_at work at ≡ None = past-last work n at (grind (arith, nat_tests)) last in rw e refl

pub loses : (polls : List Poll) (f at request : ℕ) (s : Follower) → request_at s.work at ≡ Some request → list_any (waits_for (uuid_of f) request) polls ≡ false
    → Acts f polls s (events.Lose f at)
loses polls f at request s is none = (refl, rw is (rw none refl))

-- ---- copies

pub serves-acts : (f : ℕ) (polls : List Poll) (s : Follower) (event : Event) → Serves (sides.Follower f) s.copies event → Acts f polls s event
serves-acts f polls s (events.Written g write) serves = absurd serves
serves-acts f polls s (events.Apply g epoch write batch) serves = absurd serves
serves-acts f polls s (events.Tick g) serves = absurd serves
serves-acts f polls s (events.Lose g at) serves = absurd serves
serves-acts f polls s event serves = serves
