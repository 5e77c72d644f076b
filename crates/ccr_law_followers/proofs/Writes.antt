-- What applied batches and ended writes make of the claims on a follower's copies.
use Rattle.std.specs.List.{AllByRecursion, list_all}
use Rattle.std.specs.Prelude.{filter}
use Rattle.std.specs.Option.{option_map, option_map_or}
use Rattle.std.proofs.Common.{◌≡◌, ℕ, Bool, true, false, not, if◌then◌else◌, Option, Some, None, List, [], ◌∷◌, ◌++◌, refl, sym, ◌∙◌, ap, subst, arith}
use Rattle.std.proofs.lemmas.List.Concat.{flat_map-cons}
use Rattle.ccr_op.specs.Operation.{Operation}
use Rattle.ccr_tracker.specs.Numbers.{has}
use Rattle.ccr_op.specs.Sameness.{same_operations}
use Rattle.ccr_op.proofs.Sameness.{same_operations-equal}
use Rattle.ccr_journal.specs.declared.events.Event.TheVariants as events
use Rattle.ccr_journal.specs.declared.replies.Reply.TheVariants as replies
use Rattle.ccr_journal.specs.declared.replies.Refusal.TheVariants.{NoBatch, NotWritten}
use Rattle.ccr_model.specs.Copies.{Copy, Replica, Copies, all_copies}
use Rattle.ccr_model.specs.Given.{gave, gaining_batch}
use Rattle.ccr_model.specs.Tasks.{Write, write_sent, write_ended}
use Rattle.ccr_model.specs.TaskFacts.{batches_of}
use Rattle.ccr_model.specs.Followers.{Follower, Work, restoring, replicating}
use Rattle.ccr_model.specs.FollowerRows.{with_copies, with_task, is_bootstrapping, Sent, sent_write, apply_row, applied, new_in, is_other, has_all, least_number, lacks, write_done, written_row}
use Rattle.ccr_model.specs.Past.{Line, FollowerPast, WrittenBatch}
use Rattle.ccr_model.specs.FrameFacts.{IsCommitted}
use Rattle.ccr_model.specs.Invariants.{HasProcessed}
use Rattle.ccr_law_base.proofs.Cases.{on_if, on_guards}
use Rattle.ccr_law_base.proofs.Lists.{All-weaker, All-both, All-push, All-map_back, All-append_front, All-append_back, All-find, some_equal}
use Rattle.ccr_law_followers.specs.TrueCopies.{CopyOk, ReplicaOk, CopiesOf, HasCommittedBatches}
use Rattle.ccr_law_followers.proofs.One.{taking_all, taking_all-global}
use Rattle.ccr_law_followers.proofs.Several.{recounted, applies}
use Rattle.ccr_law_followers.proofs.After.{OkOf, RowOk, settled}
use Rattle.std.proofs.lemmas.Bool.{and_parts, not-false}
use Rattle.ccr_law_base.proofs.Tests.{itself}

-- ---- writes that were sent

pub replicating_if_sent : (work : Work) (number : ℕ) (w : Sent) → sent_write work number ≡ Some w → is_bootstrapping work ≡ false
replicating_if_sent (restoring r) number w is = cc
replicating_if_sent (replicating t) number w is = refl

pub All-batches : (P : Operation → Type 0) (writes : List Write) → AllByRecursion P (batches_of writes) → AllByRecursion (λ (w : Write). AllByRecursion P w.batch) writes
All-batches P [] all = tt
All-batches P (w ∷ writes) all =
    let parts : AllByRecursion P (w.batch ++ batches_of writes) = subst (AllByRecursion P) (flat_map-cons {X = Write} {A = Operation} (λ x. x.batch) w writes) all in
    (All-append_front P w.batch (batches_of writes) parts, All-batches P writes (All-append_back P w.batch (batches_of writes) parts))

pub sent_committed : (line : Line) (work : Work) (number : ℕ) (w : Sent) → HasCommittedBatches line work → sent_write work number ≡ Some w
    → AllByRecursion (IsCommitted line) w.write.batch
sent_committed line (restoring r) number w all is = cc
sent_committed line (replicating t) number w all is = by_found (write_sent t number) refl is
  where
    by_found : (o : Option Write) → write_sent t number ≡ o → option_map {T = Write} {U = Sent} (λ x. record { task = t; write = x }) o ≡ Some w → AllByRecursion (IsCommitted line) w.write.batch
    by_found None at made = cc
    by_found (Some x) at made =
        let same : x ≡ w.write = ap (λ (y : Sent). y.write) (some_equal (record { task = t; write = x }) w made) in
        subst (λ (y : Write). AllByRecursion (IsCommitted line) y.batch) same
        (All-find (λ (y : Write). AllByRecursion (IsCommitted line) y.batch) _ t.writes x (All-batches (IsCommitted line) t.writes all) at).0

-- ---- applied batches

pub apply_ok : (line : Line) (f : ℕ) (past : FollowerPast) (s : Follower) (epoch number : ℕ) (batch : List Operation) (found : Option Sent) → sent_write s.work number ≡ found
    → HasCommittedBatches line s.work → OkOf line past s → RowOk line f past (events.Apply f epoch number batch) s (apply_row s epoch number batch found)
unfolding apply_row
apply_ok line f past s epoch number batch found is committed ok =
    on_guards (RowOk line f past (events.Apply f epoch number batch) s) s _ _
    (λ why. settled line f past (events.Apply f epoch number batch) (replies.Refused why) s s past.given past.written refl refl refl refl (omega arith) ok)
    (λ tests. by_write found is tests.1.0)
  where
    taken : (w : Sent) → sent_write s.work number ≡ Some w → w.write.batch ≡ batch
        → RowOk line f past (events.Apply f epoch number batch) s (record { reply = replies.Applied (new_in s.copies.primary.seen batch); next = with_copies s (applied batch s.copies); sent = [] })
    taken w at same =
        let ops = gaining_batch (past.given s.copies.primary.number) batch line.ops in
        settled line f past (events.Apply f epoch number batch) (replies.Applied (new_in s.copies.primary.seen batch)) s (with_copies s (applied batch s.copies))
        (gave past.given s.copies.primary.number ops) past.written
        (ap (λ (b : Bool). if b then gave past.given s.copies.primary.number ops else past.given) (itself f)) refl refl refl
        (let global : (taking_all s.copies.primary batch).global ≡ s.copies.primary.global = taking_all-global s.copies.primary batch in omega arith)
        (record {
          copies = recounted line (gave past.given s.copies.primary.number ops) past.restored past.written (taking_all s.copies.primary batch) s.copies.replicas s.copies.next
              (applies line past.given past.restored past.written s.copies batch
              (subst (AllByRecursion (IsCommitted line)) same (sent_committed line s.work number w committed at)) ok.copies);
          counted = omega arith;
          fresh = λ bootstrapping. let isnt : is_bootstrapping s.work ≡ false = replicating_if_sent s.work number w at in cc;
        })

    by_write : (o : Option Sent) → sent_write s.work number ≡ o → is_other batch o ≡ false
        → RowOk line f past (events.Apply f epoch number batch) s (record { reply = replies.Applied (new_in s.copies.primary.seen batch); next = with_copies s (applied batch s.copies); sent = [] })
    by_write None at other = cc
    by_write (Some w) at other = taken w at (same_operations-equal w.write.batch batch (not-false (same_operations w.write.batch batch) other))

-- ---- ended writes

-- each copy has processed one more batch
pub copies-written : (line : Line) (given : ℕ → ℕ → Option Operation) (restored : ℕ) (written : List WrittenBatch) (w : WrittenBatch) (s : Copies)
    → AllByRecursion (λ (c : Copy). HasProcessed c w) (all_copies s) → CopiesOf line given restored written s → CopiesOf line given restored (written ++ w ∷ []) s
copies-written line given restored written w s all ok = record {
  own = more (given s.primary.number) s.primary all.0 ok.own;
  others = All-weaker
      (λ (r : Replica). ReplicaOk line (given r.copy.number) restored written s.primary.number s.primary.global s.next r × HasProcessed r.copy w)
      (λ (r : Replica). ReplicaOk line (given r.copy.number) restored (written ++ w ∷ []) s.primary.number s.primary.global s.next r)
      (λ r both. record {
        copy = more (given r.copy.number) r.copy both.1 both.0.copy;
        other = both.0.other;
        truly = both.0.truly;
        behind = both.0.behind;
        level = both.0.level;
        resynced = both.0.resynced;
        acked = both.0.acked;
      })
      s.replicas
      (All-both (λ (r : Replica). ReplicaOk line (given r.copy.number) restored written s.primary.number s.primary.global s.next r) (λ (r : Replica). HasProcessed r.copy w)
      s.replicas ok.others (All-map_back (λ (c : Copy). HasProcessed c w) (λ (r : Replica). r.copy) s.replicas all.1));
  apart = ok.apart;
}
  where
    more : (ops : ℕ → Option Operation) (c : Copy) → HasProcessed c w → CopyOk line ops restored written s.next c → CopyOk line ops restored (written ++ w ∷ []) s.next c
    more ops c done is = record {
      old = is.old;
      committed = is.committed;
      processed = is.processed;
      ordered = is.ordered;
      reached = is.reached;
      store = is.store;
      all = All-push (HasProcessed c) written w is.all done;
    }

pub All-list_all : {X : Type 0} (test : X → Bool) (xs : List X) → list_all test xs ≡ true → AllByRecursion (λ (x : X). test x ≡ true) xs
All-list_all test [] is = tt
All-list_all test (x ∷ xs) is = let both : (test x ≡ true) × (list_all test xs ≡ true) = and_parts (test x) (list_all test xs) is in (both.0, All-list_all test xs both.1)

-- where no copy lacks one of the operations, each has all
pub none_lacks : (batch : List Operation) (copies : List Copy) → least_number (filter (λ (c : Copy). not (has_all batch c)) copies) ≡ None
    → AllByRecursion (λ (c : Copy). has_all batch c ≡ true) copies
none_lacks batch [] none = tt
none_lacks batch (c ∷ copies) none =
    on_if (λ (cs : List Copy). least_number cs ≡ None → AllByRecursion (λ (x : Copy). has_all batch x ≡ true) (c ∷ copies)) (not (has_all batch c))
    (c ∷ filter (λ (x : Copy). not (has_all batch x)) copies) (filter (λ (x : Copy). not (has_all batch x)) copies)
    (λ lacking some. cc) (λ has rest. (not-false (has_all batch c) has, none_lacks batch copies rest)) none

pub written_ok : (line : Line) (f : ℕ) (past : FollowerPast) (s : Follower) (number : ℕ) (found : Option Sent) → sent_write s.work number ≡ found → OkOf line past s
    → RowOk line f past (events.Written f number) s (written_row s number found)
unfolding written_row
written_ok line f past s number None is ok = settled line f past (events.Written f number) (replies.Refused (NoBatch number)) s s past.given past.written refl refl refl refl (omega arith) ok
written_ok line f past s number (Some w) is ok = by_lacking (lacks w.write.batch s.copies) refl
  where
    by_lacking : (o : Option ℕ) → lacks w.write.batch s.copies ≡ o → RowOk line f past (events.Written f number) s (write_done s w o)
    by_lacking (Some copy) lacking = settled line f past (events.Written f number) (replies.Refused (NotWritten copy)) s s past.given past.written refl refl refl refl (omega arith) ok
    by_lacking None none =
        settled line f past (events.Written f number) replies.Done s (with_task s (write_ended w.task w.write).next) past.given
        (past.written ++ record { epoch = s.epoch; batch = w.write.batch } ∷ []) refl
        (ap (λ (b : Bool). if b then option_map_or (λ (sent : Sent). past.written ++ record { epoch = s.epoch; batch = sent.write.batch } ∷ []) (sent_write s.work number) past.written else past.written)
        (itself f)
        ∙ ap (λ (o : Option Sent). option_map_or (λ (sent : Sent). past.written ++ record { epoch = s.epoch; batch = sent.write.batch } ∷ []) o past.written) is)
        (sym (replicating_if_sent s.work number w is)) refl (omega arith)
        (record {
          copies = copies-written line past.given past.restored past.written (record { epoch = s.epoch; batch = w.write.batch }) s.copies
              (All-weaker (λ (c : Copy). has_all w.write.batch c ≡ true) (λ (c : Copy). HasProcessed c (record { epoch = s.epoch; batch = w.write.batch }))
              (λ c has_them. All-list_all (λ (op : Operation). has c.seen op.seq) w.write.batch has_them) (all_copies s.copies) (none_lacks w.write.batch (all_copies s.copies) none))
              ok.copies;
          counted = ok.counted;
          fresh = λ bootstrapping. cc;
        })
