-- What each change makes of the claims on the copies of a follower.
use Rattle.std.specs.List.{AllByRecursion, range_with_len}
use Rattle.std.specs.Prelude.{slice_get}
use Rattle.std.proofs.Common.{◌≡◌, ℕ, zero, suc, ◌+◌, ◌-◌, ◌<◌, ◌≤◌, ◌==◌, max, true, false, Option, Some, None, List, [], ◌∷◌, ◌++◌, map, length, refl, sym, ◌∙◌, subst, arith}
use Rattle.std.proofs.lemmas.Bool.Decides.{nat_tests}
use Rattle.ccr_op.specs.Operation.{Operation}
use Rattle.ccr_model.specs.Stores.{Store}
use Rattle.ccr_model.specs.Copies.{Copy, Replica, Copies, new_copies, replica_in_step, replica_of, replaced, without, changed_replica, changed_at, least_known}
use Rattle.ccr_model.specs.CopyRows.{with_true_count}
use Rattle.ccr_model.specs.Given.{none_given, gave, gaining_batch, front_of}
use Rattle.ccr_model.specs.Followers.{restored_copy}
use Rattle.ccr_model.specs.Past.{Line, WrittenBatch}
use Rattle.ccr_journal.specs.Params.{IsCopyCount}
use Rattle.ccr_model.specs.FrameFacts.{IsCommitted}
use Rattle.ccr_law_base.proofs.Cases.{on_if}
use Rattle.ccr_law_base.proofs.Lists.{All-weaker, All-both, All-push, All-map, All-map_back, All-replaced, All-without, All-find, All-changed}
use Rattle.ccr_law_copies.proofs.Replicas.{gave-same, gave-other, given-aside, replaced-alone, Apart-replaced, Apart-without, others-without, Apart-map, Apart-push, Apart-changed, least_known-primary, least_known-each, least_known-bound}
use Rattle.ccr_law_copies.proofs.LeaderRows.{inside}
use Rattle.ccr_law_copies.proofs.LeaderEvents.{fresh, fresh_apart}
use Rattle.ccr_law_stores.specs.TrueStores.{IsTrueStore, IsTrueHistory}
use Rattle.ccr_law_followers.specs.TrueCopies.{CopyOk, ReplicaOk, CopiesOk, CopiesOf, IsNew, all_in}
use Rattle.ccr_law_followers.proofs.One.{Extends, copy-later, copy-next, copy-knows, copy-takes_all, taking_all, taking_all-number, taking_all-global, copy-fresh, copy-empty, copy-bare, copy-restores}
use Rattle.std.proofs.lemmas.Bool.{eqb-true}
use Rattle.ccr_law_base.proofs.Tests.{itself}

-- ---- a later line

pub copies-later : (line later : Line) (given : ℕ → ℕ → Option Operation) (restored : ℕ) (written : List WrittenBatch) (primary : Copy) (replicas : List Replica) (next : ℕ)
    → Extends line later → CopiesOk line given restored written primary replicas next → CopiesOk later given restored written primary replicas next
copies-later line later given restored written primary replicas next on ok = record {
  own = copy-later line later (given primary.number) restored written next primary on ok.own;
  others = All-weaker (λ (r : Replica). ReplicaOk line (given r.copy.number) restored written primary.number primary.global next r)
      (λ (r : Replica). ReplicaOk later (given r.copy.number) restored written primary.number primary.global next r)
      (λ r is. record {
        copy = copy-later line later (given r.copy.number) restored written next r.copy on is.copy;
        other = is.other;
        truly = is.truly;
        behind = is.behind;
        level = is.level;
        resynced = is.resynced;
        acked = is.acked;
      })
      replicas ok.others;
  apart = ok.apart;
}

-- ---- the global count is worked out again

pub recounted : (line : Line) (given : ℕ → ℕ → Option Operation) (restored : ℕ) (written : List WrittenBatch) (primary : Copy) (replicas : List Replica) (next : ℕ)
    → CopiesOk line given restored written primary replicas next
    → CopiesOk line given restored written (record primary { global = max primary.global (least_known primary.seen.count replicas) }) replicas next
recounted line given restored written primary replicas next ok = record {
  own = copy-knows line (given primary.number) restored written next primary (max primary.global (least_known primary.seen.count replicas)) (omega arith)
      (let low : primary.global ≤ primary.seen.count = ok.own.reached in omega (arith, least_known-primary primary.seen.count replicas)) ok.own;
  others = All-weaker
      (λ (r : Replica). ReplicaOk line (given r.copy.number) restored written primary.number primary.global next r × (least_known primary.seen.count replicas ≤ r.known))
      (λ (r : Replica). ReplicaOk line (given r.copy.number) restored written primary.number (max primary.global (least_known primary.seen.count replicas)) next r)
      (λ r both. record {
        copy = both.0.copy;
        other = both.0.other;
        truly = both.0.truly;
        behind = let low : r.copy.global ≤ primary.global = both.0.behind in omega arith;
        level =
            let level : primary.global ≤ r.copy.seen.count = both.0.level in
            let known : r.known ≤ r.copy.seen.count = both.0.truly in
            let least : least_known primary.seen.count replicas ≤ r.known = both.1 in
            omega arith;
        resynced = both.0.resynced;
        acked = both.0.acked;
      })
      replicas
      (All-both (λ (r : Replica). ReplicaOk line (given r.copy.number) restored written primary.number primary.global next r)
      (λ (r : Replica). least_known primary.seen.count replicas ≤ r.known) replicas ok.others (least_known-each primary.seen.count replicas));
  apart = ok.apart;
}

-- ---- one replica

pub record Found (line : Line) (given : ℕ → ℕ → Option Operation) (restored : ℕ) (written : List WrittenBatch) (s : Copies) (copy : ℕ) (r : Replica) : Type 0 where
  pub number : r.copy.number ≡ copy
  pub other : (copy == s.primary.number) ≡ false
  pub replica : ReplicaOk line (given copy) restored written s.primary.number s.primary.global s.next r

pub found_in : (line : Line) (given : ℕ → ℕ → Option Operation) (restored : ℕ) (written : List WrittenBatch) (s : Copies) (copy : ℕ) (r : Replica)
    → CopiesOf line given restored written s → replica_of s copy ≡ Some r → Found line given restored written s copy r
found_in line given restored written s copy r ok found =
    let both : ReplicaOk line (given r.copy.number) restored written s.primary.number s.primary.global s.next r × ((r.copy.number == copy) ≡ true)
    = All-find (λ (x : Replica). ReplicaOk line (given x.copy.number) restored written s.primary.number s.primary.global s.next x) (λ x. x.copy.number == copy) s.replicas r ok.others found in
    let same : r.copy.number ≡ copy = eqb-true r.copy.number copy both.1 in
    record {
      number = same;
      other = subst (λ (k : ℕ). (k == s.primary.number) ≡ false) same both.0.other;
      replica = subst (λ (k : ℕ). ReplicaOk line (given k) restored written s.primary.number s.primary.global s.next r) same both.0;
    }

-- it changed, keeps its number, and was given these operations
pub one_given : (line : Line) (given : ℕ → ℕ → Option Operation) (restored : ℕ) (written : List WrittenBatch) (s : Copies) (copy : ℕ) (r new : Replica) (ops : ℕ → Option Operation)
    → CopiesOf line given restored written s → Found line given restored written s copy r → new.copy.number ≡ r.copy.number
    → ReplicaOk line ops restored written s.primary.number s.primary.global s.next new
    → CopiesOk line (gave given copy ops) restored written s.primary (replaced copy new s.replicas) s.next
one_given line given restored written s copy r new ops ok is number made = record {
  own = subst (λ (o : ℕ → Option Operation). CopyOk line o restored written s.next s.primary)
      (sym (gave-other given copy ops s.primary.number (grind (arith, nat_tests, is.other)))) ok.own;
  others = replaced-alone (λ o x. ReplicaOk line o restored written s.primary.number s.primary.global s.next x)
      (λ o x. ReplicaOk line o restored written s.primary.number s.primary.global s.next x) given copy ops new
      (number ∙ is.number) made (λ o x h. h) s.replicas ok.apart ok.others;
  apart = Apart-replaced copy new s.replicas (number ∙ is.number) ok.apart;
}

-- it changed, keeps its number, and was given nothing
pub one_kept : (line : Line) (given : ℕ → ℕ → Option Operation) (restored : ℕ) (written : List WrittenBatch) (s : Copies) (copy : ℕ) (r new : Replica)
    → CopiesOf line given restored written s → Found line given restored written s copy r → new.copy.number ≡ r.copy.number
    → ReplicaOk line (given copy) restored written s.primary.number s.primary.global s.next new
    → CopiesOk line given restored written s.primary (replaced copy new s.replicas) s.next
one_kept line given restored written s copy r new ok is number made = record {
  own = ok.own;
  others = All-replaced (λ (x : Replica). ReplicaOk line (given x.copy.number) restored written s.primary.number s.primary.global s.next x) copy new s.replicas
      (subst (λ (k : ℕ). ReplicaOk line (given k) restored written s.primary.number s.primary.global s.next new) (sym (number ∙ is.number)) made) ok.others;
  apart = Apart-replaced copy new s.replicas (number ∙ is.number) ok.apart;
}

-- ---- copies that leave, come and are promoted

pub left : (line : Line) (given : ℕ → ℕ → Option Operation) (restored : ℕ) (written : List WrittenBatch) (s : Copies) (copy : ℕ)
    → CopiesOf line given restored written s → CopiesOk line given restored written s.primary (without copy s.replicas) s.next
left line given restored written s copy ok = record {
  own = ok.own;
  others = All-without (λ (x : Replica). ReplicaOk line (given x.copy.number) restored written s.primary.number s.primary.global s.next x) copy s.replicas ok.others;
  apart = Apart-without copy s.replicas ok.apart;
}

abbrev pub newcomer : Copies → Replica
newcomer s = replica_in_step (record s.primary { number = s.next }) s.primary.seen.count

pub copy-copied : (line : Line) (ops : ℕ → Option Operation) (restored : ℕ) (written : List WrittenBatch) (next : ℕ) (c : Copy)
    → CopyOk line ops restored written next c → CopyOk line ops restored written (next + 1) (record c { number = next })
copy-copied line ops restored written next c ok = record {
  old = omega arith;
  committed = ok.committed;
  processed = ok.processed;
  ordered = ok.ordered;
  reached = ok.reached;
  store = ok.store;
  all = ok.all;
}

pub replica-next : (line : Line) (ops : ℕ → Option Operation) (restored : ℕ) (written : List WrittenBatch) (primary global next : ℕ) (r : Replica)
    → ReplicaOk line ops restored written primary global next r → ReplicaOk line ops restored written primary global (next + 1) r
replica-next line ops restored written primary global next r ok = record {
  copy = copy-next line ops restored written next (next + 1) r.copy (omega arith) ok.copy;
  other = ok.other;
  truly = ok.truly;
  behind = ok.behind;
  level = ok.level;
  resynced = ok.resynced;
  acked = ok.acked;
}

pub added : (line : Line) (given : ℕ → ℕ → Option Operation) (restored : ℕ) (written : List WrittenBatch) (s : Copies) → CopiesOf line given restored written s
    → CopiesOk line (gave given s.next (given s.primary.number)) restored written s.primary (s.replicas ++ newcomer s ∷ []) (s.next + 1)
added line given restored written s ok = record {
  own = subst (λ (o : ℕ → Option Operation). CopyOk line o restored written (s.next + 1) s.primary)
      (sym (gave-other given s.next (given s.primary.number) s.primary.number (let less : s.primary.number < s.next = ok.own.old in grind (arith, nat_tests))))
      (copy-next line (given s.primary.number) restored written s.next (s.next + 1) s.primary (omega arith) ok.own);
  others = All-push (λ (x : Replica). ReplicaOk line (gave given s.next (given s.primary.number) x.copy.number) restored written s.primary.number s.primary.global (s.next + 1) x) s.replicas
      (newcomer s)
      (given-aside (λ o x. ReplicaOk line o restored written s.primary.number s.primary.global s.next x)
      (λ o x. ReplicaOk line o restored written s.primary.number s.primary.global (s.next + 1) x) given s.next (given s.primary.number)
      (λ o x is. replica-next line o restored written s.primary.number s.primary.global s.next x is) s.replicas
      (All-weaker (λ (x : Replica). ReplicaOk line (given x.copy.number) restored written s.primary.number s.primary.global s.next x) (λ (x : Replica). (x.copy.number == s.next) ≡ false)
      (λ x is. let less : x.copy.number < s.next = is.copy.old in grind (arith, nat_tests)) s.replicas ok.others)
      ok.others)
      (subst (λ (o : ℕ → Option Operation). ReplicaOk line o restored written s.primary.number s.primary.global (s.next + 1) (newcomer s))
      (sym (gave-same given s.next (given s.primary.number) s.next (itself s.next)))
      (record {
        copy = copy-copied line (given s.primary.number) restored written s.next s.primary ok.own;
        other = let less : s.primary.number < s.next = ok.own.old in grind (arith, nat_tests);
        truly = omega arith;
        behind = omega arith;
        level = ok.own.reached;
        resynced = refl;
        acked = refl;
      }));
  apart = Apart-push s.replicas (newcomer s)
      (All-weaker (λ (x : Replica). ReplicaOk line (given x.copy.number) restored written s.primary.number s.primary.global s.next x) (λ (x : Replica). (s.next == x.copy.number) ≡ false)
      (λ x is. let less : x.copy.number < s.next = is.copy.old in grind (arith, nat_tests)) s.replicas ok.others)
      ok.apart;
}

-- the others after the promotion of a replica, and the global count that it then knows
abbrev pub others_of : Copies → ℕ → List Replica
others_of s copy = map {A = Replica} {B = Replica} with_true_count (without copy s.replicas)

abbrev pub count_after : Copies → ℕ → Copy → ℕ
count_after s copy c = max c.global (least_known c.seen.count (others_of s copy))

-- all copies have processed what the old primary knew, so the new one knows as much
pub promoted-rises : (line : Line) (given : ℕ → ℕ → Option Operation) (restored : ℕ) (written : List WrittenBatch) (s : Copies) (copy : ℕ) (r : Replica)
    → CopiesOf line given restored written s → Found line given restored written s copy r → s.primary.global ≤ count_after s copy r.copy
promoted-rises line given restored written s copy r ok is =
    let level : s.primary.global ≤ r.copy.seen.count = is.replica.level in
    let least : s.primary.global ≤ least_known r.copy.seen.count (others_of s copy)
    = least_known-bound s.primary.global r.copy.seen.count (others_of s copy) level
    (All-map (λ (x : Replica). s.primary.global ≤ x.known) with_true_count (without copy s.replicas)
    (All-weaker (λ (x : Replica). ReplicaOk line (given x.copy.number) restored written s.primary.number s.primary.global s.next x) (λ (x : Replica). s.primary.global ≤ x.copy.seen.count)
    (λ x own. own.level) (without copy s.replicas) (left line given restored written s copy ok).others)) in
    omega arith

pub promoted : (line : Line) (given : ℕ → ℕ → Option Operation) (restored : ℕ) (written : List WrittenBatch) (s : Copies) (copy : ℕ) (r : Replica)
    → CopiesOf line given restored written s → Found line given restored written s copy r
    → CopiesOk line given restored written (record r.copy { global = count_after s copy r.copy }) (others_of s copy) s.next
promoted line given restored written s copy r ok is = record {
  own = copy-knows line (given r.copy.number) restored written s.next r.copy (count_after s copy r.copy) (omega arith)
      (let low : r.copy.global ≤ r.copy.seen.count = is.replica.copy.reached in omega (arith, least_known-primary r.copy.seen.count (others_of s copy)))
      (subst (λ (k : ℕ). CopyOk line (given k) restored written s.next r.copy) (sym is.number) is.replica.copy);
  others = All-map (λ (x : Replica). ReplicaOk line (given x.copy.number) restored written r.copy.number (count_after s copy r.copy) s.next x) with_true_count (without copy s.replicas)
      (All-weaker
      (λ (x : Replica). (ReplicaOk line (given x.copy.number) restored written s.primary.number s.primary.global s.next x × ((x.copy.number == copy) ≡ false))
      × (least_known r.copy.seen.count (others_of s copy) ≤ x.copy.seen.count))
      (λ (x : Replica). ReplicaOk line (given x.copy.number) restored written r.copy.number (count_after s copy r.copy) s.next (with_true_count x))
      (λ x all. record {
        copy = all.0.0.copy;
        other = subst (λ (k : ℕ). (x.copy.number == k) ≡ false) (sym is.number) all.0.1;
        truly = omega arith;
        behind =
            let low : x.copy.global ≤ s.primary.global = all.0.0.behind in
            omega (arith, promoted-rises line given restored written s copy r ok is);
        level =
            let level : s.primary.global ≤ x.copy.seen.count = all.0.0.level in
            let low : r.copy.global ≤ s.primary.global = is.replica.behind in
            let least : least_known r.copy.seen.count (others_of s copy) ≤ x.copy.seen.count = all.1 in
            omega arith;
        resynced = all.0.0.resynced;
        acked = all.0.0.acked;
      })
      (without copy s.replicas)
      (All-both (λ (x : Replica). ReplicaOk line (given x.copy.number) restored written s.primary.number s.primary.global s.next x × ((x.copy.number == copy) ≡ false))
      (λ (x : Replica). least_known r.copy.seen.count (others_of s copy) ≤ x.copy.seen.count) (without copy s.replicas)
      (All-both (λ (x : Replica). ReplicaOk line (given x.copy.number) restored written s.primary.number s.primary.global s.next x) (λ (x : Replica). (x.copy.number == copy) ≡ false)
      (without copy s.replicas) (left line given restored written s copy ok).others (others-without copy s.replicas ok.apart))
      (All-map_back (λ (x : Replica). least_known r.copy.seen.count (others_of s copy) ≤ x.known) with_true_count (without copy s.replicas)
      (least_known-each r.copy.seen.count (others_of s copy)))));
  apart = Apart-map with_true_count (λ x. refl) (without copy s.replicas) (Apart-without copy s.replicas ok.apart);
}

-- ---- flushes and merges

pub changed_inside : (line : Line) (given : ℕ → ℕ → Option Operation) (restored : ℕ) (written : List WrittenBatch) (s : Copies) (copy : ℕ)
    (store : Copy → Store) (floor commit : Copy → ℕ)
    → ((ops : ℕ → Option Operation) (c : Copy) → IsTrueStore ops restored c → IsTrueStore ops restored (inside store floor commit c))
    → CopiesOf line given restored written s → CopiesOf line given restored written (changed_at copy (inside store floor commit) s)
changed_inside line given restored written s copy store floor commit keeps ok =
    on_if (CopiesOf line given restored written) (s.primary.number == copy)
    (record s { primary = inside store floor commit s.primary }) (record s { replicas = changed_replica copy (inside store floor commit) s.replicas })
    (λ is. record { own = changed (given s.primary.number) s.primary ok.own; others = ok.others; apart = ok.apart })
    (λ isnt. record {
      own = ok.own;
      others = All-changed (λ (x : Replica). ReplicaOk line (given x.copy.number) restored written s.primary.number s.primary.global s.next x)
          (λ (x : Replica). ReplicaOk line (given x.copy.number) restored written s.primary.number s.primary.global s.next x) copy (inside store floor commit) (λ x h. h)
          (λ x at h. record {
            copy = changed (given x.copy.number) x.copy h.copy;
            other = h.other;
            truly = h.truly;
            behind = h.behind;
            level = h.level;
            resynced = h.resynced;
            acked = h.acked;
          })
          s.replicas ok.others;
      apart = Apart-changed copy (inside store floor commit) (λ c. refl) s.replicas ok.apart;
    })
  where
    changed : (ops : ℕ → Option Operation) (c : Copy) → CopyOk line ops restored written s.next c → CopyOk line ops restored written s.next (inside store floor commit c)
    changed ops c is = record {
      old = is.old;
      committed = is.committed;
      processed = is.processed;
      ordered = is.ordered;
      reached = is.reached;
      store = keeps ops c is.store;
      all = is.all;
    }

-- ---- batches

pub applies : (line : Line) (given : ℕ → ℕ → Option Operation) (restored : ℕ) (written : List WrittenBatch) (s : Copies) (batch : List Operation)
    → AllByRecursion (IsCommitted line) batch → CopiesOf line given restored written s
    → CopiesOk line (gave given s.primary.number (gaining_batch (given s.primary.number) batch line.ops)) restored written (taking_all s.primary batch) s.replicas s.next
applies line given restored written s batch all ok =
    let ops = gaining_batch (given s.primary.number) batch line.ops in
    record {
      own = subst (λ (k : ℕ). CopyOk line (gave given s.primary.number ops k) restored written s.next (taking_all s.primary batch)) (sym (taking_all-number s.primary batch))
          (subst (λ (o : ℕ → Option Operation). CopyOk line o restored written s.next (taking_all s.primary batch))
          (sym (gave-same given s.primary.number ops s.primary.number (itself s.primary.number)))
          (copy-takes_all line (given s.primary.number) restored written s.next s.primary batch all ok.own));
      others = subst (λ (k : ℕ). AllByRecursion (λ (r : Replica). ReplicaOk line (gave given s.primary.number ops r.copy.number) restored written k (taking_all s.primary batch).global s.next r) s.replicas)
          (sym (taking_all-number s.primary batch))
          (subst (λ (g : ℕ). AllByRecursion (λ (r : Replica). ReplicaOk line (gave given s.primary.number ops r.copy.number) restored written s.primary.number g s.next r) s.replicas)
          (sym (taking_all-global s.primary batch))
          (given-aside (λ o x. ReplicaOk line o restored written s.primary.number s.primary.global s.next x)
          (λ o x. ReplicaOk line o restored written s.primary.number s.primary.global s.next x) given s.primary.number ops (λ o x h. h) s.replicas
          (All-weaker (λ (x : Replica). ReplicaOk line (given x.copy.number) restored written s.primary.number s.primary.global s.next x)
          (λ (x : Replica). (x.copy.number == s.primary.number) ≡ false) (λ x is. is.other) s.replicas ok.others)
          ok.others));
      apart = ok.apart;
    }

-- ---- the start and the end of a bootstrap

pub fresh_others : (line : Line) (next from size : ℕ) → 1 ≤ from → from + size ≤ next
    → AllByRecursion (λ (r : Replica). ReplicaOk line (none_given r.copy.number) 0 [] 0 0 next r) (map {A = ℕ} {B = Replica} fresh (range_with_len from size))
fresh_others line next from zero some few = tt
fresh_others line next from (suc size) some few = (
  record {
    copy = copy-fresh line from next (omega arith);
    other = grind (arith, nat_tests);
    truly = omega arith;
    behind = omega arith;
    level = omega arith;
    resynced = refl;
    acked = refl;
  },
  fresh_others line next (from + 1) size (omega arith) (omega arith),
)

pub copies-fresh : (line : Line) (copies : ℕ) → IsCopyCount copies → CopiesOf line none_given 0 [] (new_copies copies)
copies-fresh line copies count = record {
  own = copy-fresh line 0 copies (let some : 1 ≤ copies = count.some in omega arith);
  others = let some : 1 ≤ copies = count.some in fresh_others line copies 1 (copies - 1) (omega arith) (omega arith);
  apart = fresh_apart 1 (copies - 1);
}

-- of copies that were given nothing, also where that is told in other words
pub copies-bare : (line : Line) (given more : ℕ → ℕ → Option Operation) (restored again : ℕ) (written : List WrittenBatch) (s : Copies)
    → ((copy n : ℕ) → given copy n ≡ None) → ((copy n : ℕ) → more copy n ≡ None) → again ≡ 0 → CopiesOf line given restored written s → CopiesOf line more again written s
copies-bare line given more restored again written s none none_more nothing ok = record {
  own = copy-bare line (given s.primary.number) (more s.primary.number) restored again written s.next s.primary (none s.primary.number) (none_more s.primary.number) nothing ok.own;
  others = All-weaker (λ (r : Replica). ReplicaOk line (given r.copy.number) restored written s.primary.number s.primary.global s.next r)
      (λ (r : Replica). ReplicaOk line (more r.copy.number) again written s.primary.number s.primary.global s.next r)
      (λ r is. record {
        copy = copy-bare line (given r.copy.number) (more r.copy.number) restored again written s.next r.copy (none r.copy.number) (none_more r.copy.number) nothing is.copy;
        other = is.other;
        truly = is.truly;
        behind = is.behind;
        level = is.level;
        resynced = is.resynced;
        acked = is.acked;
      })
      s.replicas ok.others;
  apart = ok.apart;
}

-- a replica that was restored
abbrev pub restored_replica : ℕ → List (List Operation) → Replica → Replica
restored_replica count files r = record r { copy = restored_copy count files r.copy; known = count }

pub copies-restored : (line : Line) (given : ℕ → ℕ → Option Operation) (restored : ℕ) (written : List WrittenBatch) (s : Copies) (count : ℕ) (files : List (List Operation))
    → line.cut ≤ length line.ops → ((n : ℕ) (op : Operation) → n < count → slice_get line.ops n ≡ Some op → op.seq ≡ n)
    → IsTrueHistory line count (all_in files) → IsNew given restored written → CopiesOf line given restored written s
    → CopiesOk line (λ own. front_of count line.ops) count [] (restored_copy count files s.primary)
    (map {A = Replica} {B = Replica} (restored_replica count files) s.replicas) s.next
copies-restored line given restored written s count files full numbered history new ok = record {
  own = of_one (given s.primary.number) s.primary (new.none s.primary.number) ok.own;
  others = All-map (λ (x : Replica). ReplicaOk line (front_of count line.ops) count [] s.primary.number count s.next x) (restored_replica count files) s.replicas
      (All-weaker (λ (x : Replica). ReplicaOk line (given x.copy.number) restored written s.primary.number s.primary.global s.next x)
      (λ (x : Replica). ReplicaOk line (front_of count line.ops) count [] s.primary.number count s.next (restored_replica count files x))
      (λ x is. record {
        copy = of_one (given x.copy.number) x.copy (new.none x.copy.number) is.copy;
        other = is.other;
        truly = omega arith;
        behind = omega arith;
        level = omega arith;
        resynced = is.resynced;
        acked = is.acked;
      })
      s.replicas ok.others);
  apart = Apart-map (restored_replica count files) (λ x. refl) s.replicas ok.apart;
}
  where
    of_one : (ops : ℕ → Option Operation) (c : Copy) → ((n : ℕ) → ops n ≡ None) → CopyOk line ops restored written s.next c
        → CopyOk line (front_of count line.ops) count [] s.next (restored_copy count files c)
    of_one ops c none is =
        let known : c.global ≡ 0 = copy-empty line ops restored written s.next c none is in
        let floor : c.floor ≤ c.global = is.store.low in
        let commit : c.commit ≤ c.global = is.store.closed in
        copy-restores line count files s.next c is.old (omega arith) (omega arith) full numbered history
