-- Where nothing may be done and no clock may be set, the reads of an active task with nothing to write are all on their way, and each may still be answered.
use Rattle.std.specs.List.{AllByRecursion, fold}
use Rattle.std.specs.Prelude.{slice_get, find, filter, filter_map}
use Rattle.std.specs.Option.{option_map, option_map_or}
use Rattle.std.proofs.Common.{◌≡◌, ℕ, ◌≤◌, ◌==◌, ◌&&◌, not, nat_lt, Bool, true, false, if◌then◌else◌, Option, Some, None, List, [], ◌∷◌, ◌++◌, map, length, refl, ◌∙◌, subst, arith}
use Rattle.std.proofs.lemmas.Bool.Decides.{nat_tests}
use Rattle.ccr_journal.specs.Params.{AreInRange}
use Rattle.ccr_model.specs.Requests.{Progress, on_its_way, waiting, held_back, is_sent}
use Rattle.ccr_model.specs.Tasks.{Task, Read, Write, may_read, has_budget, is_held, by_request, sent_reads}
use Rattle.ccr_model.specs.Followers.{Follower, Work, replicating, uuid_of}
use Rattle.ccr_model.specs.World.{State}
use Rattle.ccr_model.specs.Settling.{time_of, least_of, waits_until, request_at, may_be_answered, may_lose}
use Rattle.ccr_law_base.proofs.Cases.{on_if}
use Rattle.ccr_law_base.proofs.Lists.{All-weaker, All-both, All-append_front, All-map_back, All-places}
use Rattle.ccr_law_leases.proofs.Finding.{All-unfilter}
use Rattle.ccr_law_messages.specs.Asking.{ReadsApart}
use Rattle.ccr_law_messages.proofs.Finds.{find-skips, find-takes}
use Rattle.ccr_law_messages.proofs.ReadLists.{answers_to, none-answers}
use Rattle.std.proofs.lemmas.Bool.{not-false}
use Rattle.ccr_law_base.proofs.Tests.{other_turned, itself}

-- ---- each read is on its way

pub may_read_anew : (t : Task) → AreInRange t.params → t.buffer ≡ [] → may_read t ≡ true
may_read_anew t ranges empty = rw empty (both t.params.max_write_buffer_count t.params.max_write_buffer_size ranges.max_write_buffer_count.some ranges.max_write_buffer_size.some)
  where
    both : (count size : ℕ) → 1 ≤ count → 1 ≤ size → (nat_lt 0 count && nat_lt 0 size) ≡ true
    both count size some much =
        let first : nat_lt 0 count ≡ true = grind (arith, nat_tests) in
        let second : nat_lt 0 size ≡ true = grind (arith, nat_tests) in
        rw first second

none_timed : (xs : List Progress) → least_of (filter_map time_of xs) ≡ None → AllByRecursion (λ (p : Progress). time_of p ≡ None) xs
none_timed [] none = tt
none_timed (on_its_way ∷ xs) none = (refl, none_timed xs none)
none_timed (waiting until ∷ xs) none = absurd cc
none_timed (held_back ∷ xs) none = (refl, none_timed xs none)

untimed_sent : (r : Read) (p : Progress) → time_of p ≡ None → is_held (record r { progress = p }) ≡ false → is_sent p ≡ true
untimed_sent r on_its_way untimed free = refl
untimed_sent r (waiting until) untimed free = absurd cc
untimed_sent r held_back untimed free = absurd cc

abbrev pub AreSent : List Read → Type 0
AreSent reads = AllByRecursion (λ (r : Read). is_sent r.progress ≡ true) reads

pub all_sent : (t : Task) → may_read t ≡ true → waits_until (replicating t) ≡ None → AllByRecursion (λ (r : Read). is_held r ≡ false) t.reads → AreSent t.reads
all_sent t may none held =
    let progress : List Progress = map {A = Read} {B = Progress} (λ r. r.progress) t.reads in
    let others : List Progress = map {A = Write} {B = Progress} (λ w. w.progress) t.writes in
    let timed : AllByRecursion (λ (p : Progress). time_of p ≡ None) (progress ++ others)
    = none_timed (progress ++ others) (subst (λ (b : Bool). least_of (filter_map time_of ((if b then progress else []) ++ others)) ≡ None) may none) in
    All-weaker (λ (r : Read). (time_of r.progress ≡ None) × (is_held r ≡ false)) (λ (r : Read). is_sent r.progress ≡ true) (λ r both. untimed_sent r r.progress both.0 both.1) t.reads
    (All-both (λ (r : Read). time_of r.progress ≡ None) (λ (r : Read). is_held r ≡ false) t.reads
    (All-map_back (λ (p : Progress). time_of p ≡ None) (λ (r : Read). r.progress) t.reads (All-append_front (λ (p : Progress). time_of p ≡ None) progress others timed)) held)

-- ---- the read that is found by its number

pub each_found : (reads : List Read) → ReadsApart reads → AreSent reads → AllByRecursion (λ (r : Read). find (answers_to r.request) reads ≡ Some r) reads
each_found [] apart sent = tt
each_found (r ∷ reads) apart sent = (
  find-takes (answers_to r.request) r reads (rw (itself r.request) sent.0),
  All-weaker (λ (x : Read). ((x.request == r.request) ≡ false) × (find (answers_to x.request) reads ≡ Some x)) (λ (x : Read). find (answers_to x.request) (r ∷ reads) ≡ Some x)
      (λ x both. find-skips (answers_to x.request) r reads (none-answers x.request r (other_turned x.request r.request both.0)) ∙ both.1) reads
      (All-both (λ (x : Read). (x.request == r.request) ≡ false) (λ (x : Read). find (answers_to x.request) reads ≡ Some x) reads apart.0 (each_found reads apart.1 sent.1)),
)

-- ---- each place

-- what holds of each read in the order of the requests holds of each read
by_request_back : (P : Read → Type 0) (r : Read) (rs : List Read) → AllByRecursion P (by_request r rs) → P r × AllByRecursion P rs
by_request_back P r [] all = (all.0, tt)
by_request_back P r (x ∷ rs) all =
    on_if (λ (ys : List Read). AllByRecursion P ys → P r × AllByRecursion P (x ∷ rs)) (nat_lt r.request x.request) (r ∷ x ∷ rs) (x ∷ by_request r rs)
    (λ is these. (these.0, these.1)) (λ isnt these. let rest : P r × AllByRecursion P rs = by_request_back P r rs these.1 in (rest.0, (these.0, rest.1))) all

folded_back : (P : Read → Type 0) (done rs : List Read) → AllByRecursion P (fold {A = Read} {B = List Read} (λ rest r. by_request r rest) done rs) → AllByRecursion P done × AllByRecursion P rs
folded_back P done [] all = (all, tt)
folded_back P done (r ∷ rs) all =
    let rest : AllByRecursion P (by_request r done) × AllByRecursion P rs = folded_back P (by_request r done) rs all in
    let both : P r × AllByRecursion P done = by_request_back P r done rest.0 in
    (both.1, (both.0, rest.1))

of_all_sent : (P : Read → Type 0) (t : Task) → AreSent t.reads → AllByRecursion P (sent_reads t) → AllByRecursion P t.reads
of_all_sent P t sent all =
    All-weaker (λ (r : Read). (is_sent r.progress ≡ true) × (is_sent r.progress ≡ true → P r)) P (λ r both. both.1 both.0) t.reads
    (All-both (λ (r : Read). is_sent r.progress ≡ true) (λ (r : Read). is_sent r.progress ≡ true → P r) t.reads sent
    (All-unfilter P (λ (r : Read). is_sent r.progress) t.reads (folded_back P [] (filter (λ r. is_sent r.progress) t.reads) all).1))

-- ---- each may be answered

pub each_answerable : (s : State) (f : ℕ) (own : Follower) (t : Task) → slice_get s.followers f ≡ Some own → own.work ≡ replicating t → AreSent t.reads
    → ((at : ℕ) → may_lose s f at ≡ false) → AllByRecursion (λ (r : Read). may_be_answered s (uuid_of f) r.request ≡ true) t.reads
each_answerable s f own t there is sent none =
    of_all_sent (λ (r : Read). may_be_answered s (uuid_of f) r.request ≡ true) t sent
    (All-places (λ (r : Read). may_be_answered s (uuid_of f) r.request ≡ true) (sent_reads t)
    (λ at r found. not-false (may_be_answered s (uuid_of f) r.request)
    (subst (λ (o : Option Read). option_map_or (λ (request : ℕ). not (may_be_answered s (uuid_of f) request)) (option_map {T = Read} {U = ℕ} (λ r. r.request) o) false ≡ false) found
    (subst (λ (w : Work). option_map_or (λ (request : ℕ). not (may_be_answered s (uuid_of f) request)) (request_at w at) false ≡ false) is
    (subst (λ (o : Option Follower). option_map_or (λ (x : Follower). option_map_or (λ (request : ℕ). not (may_be_answered s (uuid_of f) request)) (request_at x.work at) false) o false ≡ false) there
    (none at))))))

-- ---- there is a read

pub some_read : (t : Task) → AreInRange t.params → may_read t ≡ true → (has_budget t ≡ true → 1 ≤ length t.reads) → 1 ≤ length t.reads
some_read t ranges may one = by t.reads (λ few. one (rw may (and_true (nat_lt (length t.reads) t.params.max_outstanding_read_requests) few)))
  where
    and_true : (a : Bool) → a ≡ true → (a && true) ≡ true
    and_true true is = refl
    and_true false is = absurd cc

    by : (reads : List Read) → (nat_lt (length reads) t.params.max_outstanding_read_requests ≡ true → 1 ≤ length reads) → 1 ≤ length reads
    by [] budget = let some : 1 ≤ t.params.max_outstanding_read_requests = ranges.max_outstanding_read_requests.some in budget (grind (arith, nat_tests))
    by (r ∷ reads) budget = omega arith
