-- The copies of a follower whose active task has nothing to write and reads from the history's count on alone: where nothing may be done with them, they are whole.
use Rattle.std.specs.List.{AllByRecursion, list_all, filter, count_by, flat_map}
use Rattle.std.specs.Option.{option_map_or}
use Rattle.std.proofs.Common.{◌≡◌, ℕ, ◌+◌, ◌≤◌, ◌<◌, ◌==◌, ◌&&◌, not, nat_lt, nat_le, Bool, true, false, Option, Some, List, [], ◌∷◌, map, refl, sym, ◌∙◌, ap, subst, arith}
use Rattle.std.proofs.lemmas.Bool.{lt-ltb, ltb-false}
use Rattle.std.proofs.lemmas.Bool.Decides.{nat_tests}
use Rattle.ccr_op.specs.Operation.{Operation}
use Rattle.ccr_tracker.specs.Numbers.{Numbers, has}
use Rattle.ccr_lease.specs.Leases.{supersedes}
use Rattle.ccr_model.specs.Copies.{Copy, Replica, Copies, all_copies, least_known}
use Rattle.ccr_model.specs.Tasks.{Task, Read}
use Rattle.ccr_model.specs.Settled.{is_whole}
use Rattle.ccr_model.specs.Settling.{may_ack, may_sync, for_replica}
use Rattle.ccr_model.specs.Past.{Line, WrittenBatch}
use Rattle.ccr_model.specs.TaskFacts.{StandsOnce, is_in_read, times_at, times_in, batches_of, written_in}
use Rattle.ccr_model.specs.Invariants.{HasProcessed}
use Rattle.ccr_law_base.proofs.Lists.{All-append, All-filter}
use Rattle.ccr_law_copies.proofs.Sets.{has-below, count_reaches}
use Rattle.ccr_law_leases.proofs.Finding.{the-found}
use Rattle.ccr_law_tasks.proofs.Sums.{one_if, count-cons}
use Rattle.ccr_law_followers.specs.TrueCopies.{CopyOk, ReplicaOk, FollowerOk}
use Rattle.ccr_law_settling.specs.FollowersLeft.{HasNothingToWrite}
use Rattle.ccr_law_settling.proofs.Left.ByNumber.{each_found}
use Rattle.ccr_law_base.proofs.Tests.{or_first}

-- ---- the write of each number of the epoch ended

-- no read is for a number below all that they ask for
none_in_reads : (count n : ℕ) (reads : List Read) → n < count → AllByRecursion (λ (r : Read). count ≤ r.from) reads → count_by (is_in_read n) reads ≡ 0
none_in_reads count n [] low all = omega arith
none_in_reads count n (r ∷ reads) low all =
    let whole : count_by (is_in_read n) (r ∷ reads) ≡ one_if (is_in_read n r) + count_by (is_in_read n) reads = count-cons (is_in_read n) r reads in
    let here : one_if (is_in_read n r) ≡ 0 = ap one_if (outside r.from r.to all.0) in
    let rest : count_by (is_in_read n) reads ≡ 0 = none_in_reads count n reads low all.1 in
    omega arith
  where
    below : (a b : ℕ) → a < b → nat_le b a ≡ false
    below a b less = grind (arith, nat_tests)

    outside : (from to : ℕ) → count ≤ from → (nat_le from n && nat_lt n to) ≡ false
    outside from to late = rw (below n from (omega arith)) refl

-- each number from where the epoch began to below the count is among the operations
abbrev pub EachEnded : ℕ → ℕ → List Operation → Type 0
EachEnded begun_at count ops = (n : ℕ) → begun_at ≤ n → n < count → 1 ≤ times_in n ops

pub each_ended : (t : Task) (begun_at count : ℕ) (written : List WrittenBatch) → HasNothingToWrite t → AllByRecursion (λ (r : Read). count ≤ r.from) t.reads → t.next ≡ count
    → StandsOnce t begun_at written → EachEnded begun_at count (written_in t.epoch written)
each_ended t begun_at count written none late asked once n begun low =
    let all : times_at t written n ≡ one_if (nat_lt n t.next) = once n begun in
    let one : one_if (nat_lt n t.next) ≡ 1 = ap one_if (lt-ltb n t.next (omega arith)) in
    let reads : count_by (is_in_read n) t.reads ≡ 0 = none_in_reads count n t.reads low late in
    let buffer : times_in n t.buffer ≡ 0 = ap (times_in n) none.buffer in
    let writes : times_in n (batches_of t.writes) ≡ 0 = ap (λ ws. times_in n (batches_of ws)) none.writes in
    omega arith

-- ---- a copy has the numbers of what was written

all_of_batches : (P : Operation → Type 0) (written : List WrittenBatch) → AllByRecursion (λ (w : WrittenBatch). AllByRecursion P w.batch) written
    → AllByRecursion P (flat_map {X = WrittenBatch} {A = Operation} (λ w. w.batch) written)
all_of_batches P [] all = tt
all_of_batches P (w ∷ written) all = All-append P w.batch (flat_map {X = WrittenBatch} {A = Operation} (λ w. w.batch) written) all.0 (all_of_batches P written all.1)

has_each : (seen : Numbers) (n : ℕ) (ops : List Operation) → AllByRecursion (λ (op : Operation). has seen op.seq ≡ true) ops → 1 ≤ times_in n ops → has seen n ≡ true
has_each seen n [] all some = absurd (omega arith)
has_each seen n (op ∷ ops) all some = by (has_each seen n ops all.1) (op.seq == n) refl (count-cons {X = Operation} (λ op. op.seq == n) op ops)
  where
    by : (1 ≤ times_in n ops → has seen n ≡ true) → (b : Bool) → (op.seq == n) ≡ b → times_in n (op ∷ ops) ≡ one_if b + times_in n ops → has seen n ≡ true
    by rest true is whole = let e : op.seq ≡ n = grind (arith, nat_tests) in subst (λ (m : ℕ). has seen m ≡ true) e all.0
    by rest false isnt whole = rest (omega arith)

-- ---- how far a copy counts

abbrev pub GivenTo : Type 0
GivenTo = ℕ → Option Operation

pub copy_reaches : (line : Line) (ops : GivenTo) (restored epoch begun_at count : ℕ) (written : List WrittenBatch) (next : ℕ) (c : Copy) → CopyOk line ops restored written next c
    → begun_at ≤ c.seen.count → EachEnded begun_at count (written_in epoch written) → count ≤ c.seen.count
copy_reaches line ops restored epoch begun_at count written next c ok begun ended = count_reaches c.seen count ok.ordered (λ n low. by n low (nat_lt n begun_at) refl)
  where
    taken : AllByRecursion (λ (op : Operation). has c.seen op.seq ≡ true) (written_in epoch written)
    taken = all_of_batches (λ (op : Operation). has c.seen op.seq ≡ true) (filter (λ w. w.epoch == epoch) written)
        (All-filter (HasProcessed c) (λ (w : WrittenBatch). w.epoch == epoch) written ok.all)

    by : (n : ℕ) → n < count → (b : Bool) → nat_lt n begun_at ≡ b → has c.seen n ≡ true
    by n low true early = has-below c.seen n (first n c.seen.count early begun)
      where
        first : (n own : ℕ) → nat_lt n begun_at ≡ true → begun_at ≤ own → n < own
        first n own early begun = let less : n < begun_at = grind (arith, nat_tests) in omega arith
    by n low false late = has_each c.seen n (written_in epoch written) taken (ended n (grind (arith, nat_tests)) low)

pub copy_within : (line : Line) (ops : GivenTo) (restored : ℕ) (written : List WrittenBatch) (next : ℕ) (c : Copy) → CopyOk line ops restored written next c → c.seen.count ≤ line.cut
copy_within line ops restored written next c ok = by (nat_lt line.cut c.seen.count) refl
  where
    by : (b : Bool) → nat_lt line.cut c.seen.count ≡ b → c.seen.count ≤ line.cut
    by false is = grind (arith, nat_tests)
    by true is =
        let less : line.cut < c.seen.count = grind (arith, nat_tests) in
        let op : (x : Operation) × (ops line.cut ≡ Some x) = the-found (ops line.cut) (sym (ok.processed line.cut) ∙ has-below c.seen line.cut less) in
        let below : op.0.seq < line.cut = (ok.committed line.cut op.0 op.1).0.below in
        let same : op.0.seq ≡ line.cut = (ok.committed line.cut op.0 op.1).1 in
        absurd (omega arith)

-- ---- the replicas

-- what is true of a replica with which nothing may be done
pub record IsRepliedTo (count global : ℕ) (r : Replica) : Type 0 where
  pub counted : count ≤ r.copy.seen.count
  pub known : count ≤ r.known
  pub taught : r.copy.global ≡ global

replied_to : (count : ℕ) (s : Copies) (r : Replica) → r.resynced ≡ true → count ≤ r.copy.seen.count → r.copy.global ≤ s.primary.global → may_ack s r ≡ false → may_sync s r ≡ false
    → IsRepliedTo count s.primary.global r
replied_to count s r resynced counted behind ack sync =
    let known : r.copy.seen.count ≤ r.known = ltb-false r.known r.copy.seen.count (or_first (nat_lt r.known r.copy.seen.count) (not r.acked) (under r.resynced _ resynced ack)) in
    let taught : s.primary.global ≤ r.copy.global
    = ltb-false r.copy.global s.primary.global (or_first (nat_lt r.copy.global s.primary.global) (supersedes s.primary.leases r.copy.leases) (under r.resynced _ resynced sync)) in
    record { counted = counted; known = omega arith; taught = omega arith }
  where
    under : (a b : Bool) → a ≡ true → (a && b) ≡ false → b ≡ false
    under true b is both = both
    under false b is both = cc

least_reaches : (count global own : ℕ) (rs : List Replica) → count ≤ own → AllByRecursion (IsRepliedTo count global) rs → count ≤ least_known own rs
least_reaches count global own [] le all = le
least_reaches count global own (r ∷ rs) le all =
    let here : count ≤ r.known = all.0.known in
    let rest : count ≤ least_known own rs = least_reaches count global own rs le all.1 in
    omega arith

whole_at : (count : ℕ) (c : Copy) → count ≤ c.seen.count → c.global ≡ count → is_whole count c ≡ true
whole_at count c counted knows = both c.seen.count c.global counted knows
  where
    both : (own global : ℕ) → count ≤ own → global ≡ count → (nat_le count own && (global == count)) ≡ true
    both own global counted knows =
        let first : nat_le count own ≡ true = grind (arith, nat_tests) in
        let second : (global == count) ≡ true = grind (arith, nat_tests) in
        rw first second

each_whole : (count global : ℕ) (rs : List Replica) → global ≡ count → AllByRecursion (IsRepliedTo count global) rs → list_all (is_whole count) (map {A = Replica} {B = Copy} (λ r. r.copy) rs) ≡ true
each_whole count global [] knows all = refl
each_whole count global (r ∷ rs) knows all = rw (whole_at count r.copy all.0.counted (all.0.taught ∙ knows)) (each_whole count global rs knows all.1)

-- ---- all copies

pub copies_whole : (line : Line) (given : ℕ → GivenTo) (restored epoch begun_at count : ℕ) (written : List WrittenBatch) (bootstrapping : Bool) (s : Copies)
    → FollowerOk line given restored written bootstrapping s → line.cut ≤ count → begun_at ≤ s.primary.global → EachEnded begun_at count (written_in epoch written)
    → ((copy : ℕ) → for_replica may_ack copy (Some s) ≡ false) → ((copy : ℕ) → for_replica may_sync copy (Some s) ≡ false)
    → list_all (is_whole count) (all_copies s) ≡ true
copies_whole line given restored epoch begun_at count written bootstrapping s ok full begun ended ack sync =
    rw (whole_at count s.primary counted knows) (each_whole count s.primary.global s.replicas knows replied)
  where
    primary : CopyOk line (given s.primary.number) restored written s.next s.primary
    primary = ok.copies.own

    counted : count ≤ s.primary.seen.count
    counted =
        let reached : s.primary.global ≤ s.primary.seen.count = primary.reached in
        copy_reaches line (given s.primary.number) restored epoch begun_at count written s.next s.primary primary (omega arith) ended

    replied : AllByRecursion (IsRepliedTo count s.primary.global) s.replicas
    replied =
        each_found (λ (r : Replica). ReplicaOk line (given r.copy.number) restored written s.primary.number s.primary.global s.next r) (IsRepliedTo count s.primary.global)
        s.replicas ok.copies.apart
        (λ r found replica.
        let level : s.primary.global ≤ r.copy.seen.count = replica.level in
        replied_to count s r replica.resynced
        (copy_reaches line (given r.copy.number) restored epoch begun_at count written s.next r.copy replica.copy (omega arith) ended) replica.behind
        (subst (λ (o : Option Replica). option_map_or (may_ack s) o false ≡ false) found (ack r.copy.number))
        (subst (λ (o : Option Replica). option_map_or (may_sync s) o false ≡ false) found (sync r.copy.number)))
        ok.copies.others

    knows : s.primary.global ≡ count
    knows =
        let reached : s.primary.global ≤ s.primary.seen.count = primary.reached in
        let within : s.primary.seen.count ≤ line.cut = copy_within line (given s.primary.number) restored written s.next s.primary primary in
        let known : count ≤ least_known s.primary.seen.count s.replicas = least_reaches count s.primary.global s.primary.seen.count s.replicas counted replied in
        let least : least_known s.primary.seen.count s.replicas ≤ s.primary.global = ok.counted in
        omega arith
