-- What the rows on copies come to, by the replica that stands at a place.
use Rattle.std.specs.Prelude.{slice_get, slice_set, find, remove}
use Rattle.std.specs.Option.{option_map}
use Rattle.std.proofs.Common.{◌≡◌, ℕ, suc, ◌+◌, ◌-◌, ◌≤◌, ◌==◌, nat_le, Bool, not, true, false, if◌then◌else◌, Option, Some, None, List, [], ◌∷◌, ◌++◌, length, map, refl, sym, ◌∙◌, ap, arith}
use Rattle.ccr_tracker.specs.Numbers.{has}
use Rattle.ccr_journal.specs.declared.replies.Reply.TheVariants as replies
use Rattle.ccr_journal.specs.declared.replies.Refusal.{Refusal}
use Rattle.ccr_journal.specs.declared.replies.Refusal.TheVariants.{NoCopy, NotReady, NoOperation, TooMany}
use Rattle.ccr_model.specs.Operations.{op_at}
use Rattle.ccr_model.specs.Stores.{held, merge_drops}
use Rattle.ccr_model.specs.Outcomes.{Outcome, refused, answered, guarded}
use Rattle.ccr_model.specs.Copies.{Copy, Replica, Copies, all_copies, replica_of, copy_of, replaced, without, changed_replica, counted, taking, knowing, replica_in_step}
use Rattle.ccr_model.specs.CopyRows.{not_replica, not_leaving, replicate_row, ack_row, sync_row, taking_leases, fail_copy_row, add_copy_row, most_copies, flush_row, merge_row, after_merge, merge_bound, risen_floor, succeeded, with_true_count, follower_promote_row, unknown}
use Rattle.ccr_model.specs.LeaderRows.{as_primary, missing_numbers, resync_row, resync_mark, resynced_copy, held_from}
use Rattle.ccr_law_base.proofs.Lists.{some_equal}
use Rattle.ccr_copies.specs.Changes.{flushed_copy, led_by, leader_copies_promote_row}
use Rattle.ccr_copies.specs.Faults.{ready_refusal}
use Rattle.ccr_copies.specs.Places.{IsPlaceOf, IsReadyPlace}
use Rattle.ccr_copies.specs.Views.{member_of}

-- ---- choices

passes : {X : Type 0} (b : Bool) (x y : X) → b ≡ true → (if not b then x else y) ≡ y
passes b x y is = ap (λ c. if not c then x else y) is

stops : {X : Type 0} (b : Bool) (x y : X) → b ≡ false → (if not b then x else y) ≡ x
stops b x y is = ap (λ c. if not c then x else y) is

first : {X : Type 0} (b : Bool) (x y : X) → b ≡ true → (if b then x else y) ≡ x
first b x y is = ap (λ c. if c then x else y) is

second : {X : Type 0} (b : Bool) (x y : X) → b ≡ false → (if b then x else y) ≡ y
second b x y is = ap (λ c. if c then x else y) is

unready : (b : Bool) (s : Copies) (own why : Refusal) (rest : Outcome Copies) → ◌≡◌ {A = Option Refusal} (if b then None else Some own) (Some why) → (if not b then refused s own else rest) ≡ refused s why
unready true s own why rest is = absurd (cc)
unready false s own why rest is = ap (λ (w : Refusal). refused s w) (some_equal own why is)

-- ---- replicate, ack and sync

pub replicate-refused : (s : Copies) (copy seq : ℕ) (found : Option Replica) (why : Refusal) → ready_refusal s copy found ≡ Some why → replicate_row s copy seq found ≡ refused s why
unfolding replicate_row guarded
replicate-refused s copy seq None why is = ap (λ (w : Refusal). refused s w) (some_equal (not_replica s copy) why is)
replicate-refused s copy seq (Some r) why is = unready r.resynced s (NotReady copy) why _ is

pub replicate-lacks : (s : Copies) (copy seq place : ℕ) (r : Replica) → IsReadyPlace copy place s.replicas → slice_get s.replicas place ≡ Some r → has s.primary.seen seq ≡ false
    → replicate_row s copy seq (replica_of s copy) ≡ refused s (NoOperation seq)
unfolding replicate_row guarded
replicate-lacks s copy seq place r at get lacks =
    ap (λ (o : Option Replica). replicate_row s copy seq o) (at.at.found ∙ get)
    ∙ (passes r.resynced _ _ (at.ready r get) ∙ stops (has s.primary.seen seq) _ _ lacks)

pub replicate-done : (s : Copies) (copy seq place : ℕ) (r new : Replica) → IsReadyPlace copy place s.replicas → slice_get s.replicas place ≡ Some r → has s.primary.seen seq ≡ true
    → new ≡ record r { copy = knowing s.primary.global (taking r.copy seq (op_at seq (held s.primary.store))) }
    → replicate_row s copy seq (replica_of s copy) ≡ answered replies.Done (record s { replicas = slice_set s.replicas place new })
unfolding replicate_row guarded
replicate-done s copy seq place r new at get there is =
    ap (λ (o : Option Replica). replicate_row s copy seq o) (at.at.found ∙ get)
    ∙ (passes r.resynced _ _ (at.ready r get)
    ∙ (passes (has s.primary.seen seq) _ _ there
    ∙ ap (λ (rs : List Replica). answered replies.Done (record s { replicas = rs })) (ap (λ (n : Replica). replaced copy n s.replicas) (sym is) ∙ sym (at.at.replaced new))))

pub ack-refused : (s : Copies) (copy : ℕ) (found : Option Replica) (why : Refusal) → ready_refusal s copy found ≡ Some why → ack_row s copy found ≡ refused s why
unfolding ack_row guarded
ack-refused s copy None why is = ap (λ (w : Refusal). refused s w) (some_equal (not_replica s copy) why is)
ack-refused s copy (Some r) why is = unready r.resynced s (NotReady copy) why _ is

pub ack-done : (s : Copies) (copy place : ℕ) (r new : Replica) (next : Copies) (global : ℕ) → IsReadyPlace copy place s.replicas → slice_get s.replicas place ≡ Some r
    → new ≡ record r { known = r.copy.seen.count; acked = true } → next ≡ counted (record s { replicas = slice_set s.replicas place new }) → global ≡ next.primary.global
    → ack_row s copy (replica_of s copy) ≡ answered (replies.Acked global) next
unfolding ack_row guarded
ack-done s copy place r new next global at get is counts told =
    ap (λ (o : Option Replica). ack_row s copy o) (at.at.found ∙ get)
    ∙ (passes r.resynced _ _ (at.ready r get)
    ∙ (ap (λ (c : Copies). answered (replies.Acked c.primary.global) c)
    (ap (λ (rs : List Replica). counted (record s { replicas = rs })) (ap (λ (n : Replica). replaced copy n s.replicas) (sym is) ∙ sym (at.at.replaced new)) ∙ sym counts)
    ∙ ap (λ (n : ℕ). answered (replies.Acked n) next) (sym told)))

pub sync-refused : (s : Copies) (copy : ℕ) (found : Option Replica) (why : Refusal) → ready_refusal s copy found ≡ Some why → sync_row s copy found ≡ refused s why
unfolding sync_row guarded
sync-refused s copy None why is = ap (λ (w : Refusal). refused s w) (some_equal (not_replica s copy) why is)
sync-refused s copy (Some r) why is = unready r.resynced s (NotReady copy) why _ is

pub sync-done : (s : Copies) (copy place : ℕ) (r new : Replica) → IsReadyPlace copy place s.replicas → slice_get s.replicas place ≡ Some r
    → new ≡ record r { copy = taking_leases s.primary (knowing s.primary.global r.copy) }
    → sync_row s copy (replica_of s copy) ≡ answered replies.Done (record s { replicas = slice_set s.replicas place new })
unfolding sync_row guarded
sync-done s copy place r new at get is =
    ap (λ (o : Option Replica). sync_row s copy o) (at.at.found ∙ get)
    ∙ (passes r.resynced _ _ (at.ready r get)
    ∙ ap (λ (rs : List Replica). answered replies.Done (record s { replicas = rs })) (ap (λ (n : Replica). replaced copy n s.replicas) (sym is) ∙ sym (at.at.replaced new)))

-- ---- copies that leave and come

pub fail-refused : (s : Copies) (copy : ℕ) (why : Refusal) → replica_of s copy ≡ None → why ≡ not_leaving s copy → fail_copy_row s copy (replica_of s copy) ≡ refused s why
unfolding fail_copy_row
fail-refused s copy why none is = ap (λ (o : Option Replica). fail_copy_row s copy o) none ∙ ap (λ (w : Refusal). refused s w) (sym is)

pub fail-done : (s : Copies) (copy place : ℕ) (r : Replica) (next : Copies) → IsPlaceOf copy place s.replicas → slice_get s.replicas place ≡ Some r
    → next ≡ counted (record s { replicas = remove s.replicas place })
    → fail_copy_row s copy (replica_of s copy) ≡ answered replies.Done next
unfolding fail_copy_row
fail-done s copy place r next at get is =
    ap (λ (o : Option Replica). fail_copy_row s copy o) (at.found ∙ get)
    ∙ ap (λ (c : Copies). answered replies.Done c) (ap (λ (rs : List Replica). counted (record s { replicas = rs })) (sym at.gone) ∙ sym is)

pub leaves : (s : Copies) (copy place : ℕ) (r : Replica) (left : Copy) → IsPlaceOf copy place s.replicas → slice_get s.replicas place ≡ Some r → left ≡ r.copy
    → option_map {T = Replica} {U = Copy} (λ x. x.copy) (replica_of s copy) ≡ Some left
leaves s copy place r left at get is = ap (λ (o : Option Replica). option_map {T = Replica} {U = Copy} (λ x. x.copy) o) (at.found ∙ get) ∙ ap (λ (c : Copy). Some c) (sym is)

pub add-refused : (s : Copies) → 8 ≤ length s.replicas + 1 → add_copy_row s ≡ refused s TooMany
unfolding add_copy_row guarded
add-refused s many = let is : nat_le most_copies (length s.replicas + 1) ≡ true = grind (arith, many) in first (nat_le most_copies (length s.replicas + 1)) _ _ is

pub add-done : (s : Copies) (number : ℕ) (next : Copies) → (8 ≤ length s.replicas + 1 → ⊥) → number ≡ s.next
    → next ≡ counted (record s { replicas = s.replicas ++ replica_in_step (record s.primary { number = s.next }) s.primary.seen.count ∷ []; next = s.next + 1 })
    → add_copy_row s ≡ answered (replies.Added number) next
unfolding add_copy_row guarded
add-done s number next few told is =
    let fits : nat_le most_copies (length s.replicas + 1) ≡ false = grind (arith, few) in
    second (nat_le most_copies (length s.replicas + 1)) _ _ fits
    ∙ (ap (λ (c : Copies). answered (replies.Added s.next) c) (sym is) ∙ ap (λ (n : ℕ). answered (replies.Added n) next) (sym told))

copies-length : (rs : List Replica) → length (map {A = Replica} {B = Copy} (λ r. r.copy) rs) ≡ length rs
copies-length [] = refl
copies-length (r ∷ rs) = ap (λ (n : ℕ). suc n) (copies-length rs)

pub all-length : (s : Copies) → length (all_copies s) ≡ length s.replicas + 1
all-length s = let e : length (map {A = Replica} {B = Copy} (λ r. r.copy) s.replicas) ≡ length s.replicas = copies-length s.replicas in omega arith

pub member-replica : (s : Copies) (copy : ℕ) (r : Replica) → (s.primary.number == copy) ≡ false → replica_of s copy ≡ Some r → member_of s copy ≡ Some r
member-replica s copy r isnt found = second (s.primary.number == copy) _ _ isnt ∙ found

-- ---- flush and merge

own-copy : (s : Copies) (copy : ℕ) → (s.primary.number == copy) ≡ true → copy_of s copy ≡ Some s.primary
own-copy s copy is = first (s.primary.number == copy) _ _ is

pub replica-copy : (s : Copies) (copy : ℕ) (r : Replica) → (s.primary.number == copy) ≡ false → replica_of s copy ≡ Some r → copy_of s copy ≡ Some r.copy
replica-copy s copy r isnt found = second (s.primary.number == copy) _ _ isnt ∙ ap (λ (o : Option Replica). option_map {T = Replica} {U = Copy} (λ x. x.copy) o) found

no-copy : (s : Copies) (copy : ℕ) → (s.primary.number == copy) ≡ false → replica_of s copy ≡ None → copy_of s copy ≡ None
no-copy s copy isnt none = second (s.primary.number == copy) _ _ isnt ∙ ap (λ (o : Option Replica). option_map {T = Replica} {U = Copy} (λ x. x.copy) o) none

pub flush-refused : (s : Copies) (copy : ℕ) → (s.primary.number == copy) ≡ false → replica_of s copy ≡ None → flush_row s copy (copy_of s copy) ≡ refused s (NoCopy copy)
unfolding flush_row
flush-refused s copy isnt none = ap (λ (o : Option Copy). flush_row s copy o) (no-copy s copy isnt none)

pub flush-primary : (s : Copies) (copy commit : ℕ) (new : Copy) → (s.primary.number == copy) ≡ true → new ≡ flushed_copy s.primary → commit ≡ s.primary.global
    → flush_row s copy (copy_of s copy) ≡ answered (replies.Flushed commit) (record s { primary = new })
unfolding flush_row
flush-primary s copy commit new is flush told =
    ap (λ (o : Option Copy). flush_row s copy o) (own-copy s copy is)
    ∙ (ap (λ (c : Copies). answered (replies.Flushed s.primary.global) c) (first (s.primary.number == copy) _ _ is ∙ ap (λ (p : Copy). record s { primary = p }) (sym flush))
    ∙ ap (λ (n : ℕ). answered (replies.Flushed n) (record s { primary = new })) (sym told))

pub flush-replica : (s : Copies) (copy place commit : ℕ) (r new : Replica) → (s.primary.number == copy) ≡ false → IsPlaceOf copy place s.replicas → slice_get s.replicas place ≡ Some r
    → new ≡ record r { copy = flushed_copy r.copy } → commit ≡ r.copy.global
    → flush_row s copy (copy_of s copy) ≡ answered (replies.Flushed commit) (record s { replicas = slice_set s.replicas place new })
unfolding flush_row
flush-replica s copy place commit r new isnt at get flush told =
    ap (λ (o : Option Copy). flush_row s copy o) (replica-copy s copy r isnt (at.found ∙ get))
    ∙ (ap (λ (c : Copies). answered (replies.Flushed r.copy.global) c)
    (second (s.primary.number == copy) _ _ isnt
    ∙ ap (λ (rs : List Replica). record s { replicas = rs }) (sym (at.changed flushed_copy r get) ∙ ap (λ (n : Replica). slice_set s.replicas place n) (sym flush)))
    ∙ ap (λ (n : ℕ). answered (replies.Flushed n) (record s { replicas = slice_set s.replicas place new })) (sym told))

pub merge-refused : (s : Copies) (retention copy : ℕ) (picks : List ℕ) → (s.primary.number == copy) ≡ false → replica_of s copy ≡ None
    → merge_row s retention copy picks (copy_of s copy) ≡ refused s (NoCopy copy)
unfolding merge_row
merge-refused s retention copy picks isnt none = ap (λ (o : Option Copy). merge_row s retention copy picks o) (no-copy s copy isnt none)

merge-told : (floor dropped other count : ℕ) (picks : List ℕ) (next : Copies) → floor ≡ other → dropped ≡ count → answered (replies.Merged other count picks) next ≡ answered (replies.Merged floor dropped picks) next
merge-told floor dropped other count picks next same all =
    ap (λ (n : ℕ). answered (replies.Merged n count picks) next) (sym same) ∙ ap (λ (n : ℕ). answered (replies.Merged floor n picks) next) (sym all)

pub merge-primary : (s : Copies) (retention copy floor dropped : ℕ) (picks : List ℕ) (new : Copy) → (s.primary.number == copy) ≡ true → new ≡ after_merge retention picks s.primary
    → floor ≡ risen_floor retention s.primary → dropped ≡ length (merge_drops picks (merge_bound retention s.primary) s.primary.global s.primary.store)
    → merge_row s retention copy picks (copy_of s copy) ≡ answered (replies.Merged floor dropped picks) (record s { primary = new })
unfolding merge_row
merge-primary s retention copy floor dropped picks new is merges low all =
    ap (λ (o : Option Copy). merge_row s retention copy picks o) (own-copy s copy is)
    ∙ (ap (λ (c : Copies). answered (replies.Merged (risen_floor retention s.primary) (length (merge_drops picks (merge_bound retention s.primary) s.primary.global s.primary.store)) picks) c)
    (first (s.primary.number == copy) _ _ is ∙ ap (λ (p : Copy). record s { primary = p }) (sym merges))
    ∙ merge-told floor dropped _ _ picks (record s { primary = new }) low all)

pub merge-replica : (s : Copies) (retention copy place floor dropped : ℕ) (picks : List ℕ) (r new : Replica) → (s.primary.number == copy) ≡ false → IsPlaceOf copy place s.replicas
    → slice_get s.replicas place ≡ Some r → new ≡ record r { copy = after_merge retention picks r.copy }
    → floor ≡ risen_floor retention r.copy → dropped ≡ length (merge_drops picks (merge_bound retention r.copy) r.copy.global r.copy.store)
    → merge_row s retention copy picks (copy_of s copy) ≡ answered (replies.Merged floor dropped picks) (record s { replicas = slice_set s.replicas place new })
unfolding merge_row
merge-replica s retention copy place floor dropped picks r new isnt at get merges low all =
    ap (λ (o : Option Copy). merge_row s retention copy picks o) (replica-copy s copy r isnt (at.found ∙ get))
    ∙ (ap (λ (c : Copies). answered (replies.Merged (risen_floor retention r.copy) (length (merge_drops picks (merge_bound retention r.copy) r.copy.global r.copy.store)) picks) c)
    (second (s.primary.number == copy) _ _ isnt
    ∙ ap (λ (rs : List Replica). record s { replicas = rs }) (sym (at.changed (after_merge retention picks) r get) ∙ ap (λ (n : Replica). slice_set s.replicas place n) (sym merges)))
    ∙ merge-told floor dropped _ _ picks (record s { replicas = slice_set s.replicas place new }) low all)

-- ---- promotions and resync

pub follower-refused : (s : Copies) (copy : ℕ) (why : Refusal) → replica_of s copy ≡ None → why ≡ not_replica s copy → follower_promote_row s copy (replica_of s copy) ≡ refused s why
unfolding follower_promote_row
follower-refused s copy why none is = ap (λ (o : Option Replica). follower_promote_row s copy o) none ∙ ap (λ (w : Refusal). refused s w) (sym is)

pub follower-done : (s : Copies) (copy place term : ℕ) (r : Replica) (primary : Copy) (rs : List Replica) (next : Copies) → IsPlaceOf copy place s.replicas → slice_get s.replicas place ≡ Some r
    → term ≡ s.term + 1 → primary ≡ r.copy → rs ≡ map {A = Replica} {B = Replica} with_true_count (remove s.replicas place)
    → next ≡ counted (record s { term = term; primary = primary; replicas = rs })
    → follower_promote_row s copy (replica_of s copy) ≡ answered (replies.Promoted term 0) next
unfolding follower_promote_row
follower-done s copy place term r primary rs next at get told own others is =
    ap (λ (o : Option Replica). follower_promote_row s copy o) (at.found ∙ get)
    ∙ (ap (λ (n : ℕ). answered (replies.Promoted n 0) (counted (record s { term = n; primary = r.copy; replicas = map {A = Replica} {B = Replica} with_true_count (without copy s.replicas) }))) (sym told)
    ∙ (ap (λ (p : Copy). answered (replies.Promoted term 0) (counted (record s { term = term; primary = p; replicas = map {A = Replica} {B = Replica} with_true_count (without copy s.replicas) }))) (sym own)
    ∙ (ap (λ (qs : List Replica). answered (replies.Promoted term 0) (counted (record s { term = term; primary = primary; replicas = qs })))
    (ap (λ (qs : List Replica). map {A = Replica} {B = Replica} with_true_count qs) (sym at.gone) ∙ sym others)
    ∙ ap (λ (c : Copies). answered (replies.Promoted term 0) c) (sym is))))

pub leader-refused : (s : Copies) (copy : ℕ) (why : Refusal) → replica_of s copy ≡ None → why ≡ not_replica s copy → leader_copies_promote_row s copy (replica_of s copy) ≡ refused s why
unfolding leader_copies_promote_row
leader-refused s copy why none is = ap (λ (o : Option Replica). leader_copies_promote_row s copy o) none ∙ ap (λ (w : Refusal). refused s w) (sym is)

pub leader-done : (s : Copies) (copy place term filled : ℕ) (r : Replica) (primary : Copy) (rs : List Replica) (next : Copies) → IsPlaceOf copy place s.replicas → slice_get s.replicas place ≡ Some r
    → term ≡ s.term + 1 → filled ≡ length (missing_numbers r.copy.seen) → primary ≡ as_primary term r.copy → rs ≡ map {A = Replica} {B = Replica} unknown (remove s.replicas place)
    → next ≡ counted (record s { term = term; primary = primary; replicas = rs })
    → leader_copies_promote_row s copy (replica_of s copy) ≡ answered (replies.Promoted term filled) next
unfolding leader_copies_promote_row
leader-done s copy place term filled r primary rs next at get told gaps own others is =
    ap (λ (o : Option Replica). leader_copies_promote_row s copy o) (at.found ∙ get)
    ∙ (ap (λ (n : ℕ). answered (replies.Promoted n (length (missing_numbers r.copy.seen))) (counted (record s { term = n; primary = as_primary n r.copy; replicas = map {A = Replica} {B = Replica} unknown (without copy s.replicas) }))) (sym told)
    ∙ (ap (λ (p : Copy). answered (replies.Promoted term (length (missing_numbers r.copy.seen))) (counted (record s { term = term; primary = p; replicas = map {A = Replica} {B = Replica} unknown (without copy s.replicas) }))) (sym own)
    ∙ (ap (λ (qs : List Replica). answered (replies.Promoted term (length (missing_numbers r.copy.seen))) (counted (record s { term = term; primary = primary; replicas = qs })))
    (ap (λ (qs : List Replica). map {A = Replica} {B = Replica} unknown qs) (sym at.gone) ∙ sym others)
    ∙ (ap (λ (c : Copies). answered (replies.Promoted term (length (missing_numbers r.copy.seen))) c) (sym is)
    ∙ ap (λ (n : ℕ). answered (replies.Promoted term n) next) (sym gaps)))))

pub resync-refused : (s : Copies) (copy : ℕ) (why : Refusal) → replica_of s copy ≡ None → why ≡ not_replica s copy → resync_row s copy (replica_of s copy) ≡ refused s why
unfolding resync_row
resync-refused s copy why none is = ap (λ (o : Option Replica). resync_row s copy o) none ∙ ap (λ (w : Refusal). refused s w) (sym is)

pub resync-again : (s : Copies) (copy place : ℕ) (r : Replica) → IsPlaceOf copy place s.replicas → slice_get s.replicas place ≡ Some r → r.resynced ≡ true
    → resync_row s copy (replica_of s copy) ≡ answered (replies.Resynced 0 0) s
unfolding resync_row
resync-again s copy place r at get was = ap (λ (o : Option Replica). resync_row s copy o) (at.found ∙ get) ∙ first r.resynced _ _ was

pub resync-done : (s : Copies) (copy place dropped taken : ℕ) (r new : Replica) → IsPlaceOf copy place s.replicas → slice_get s.replicas place ≡ Some r → r.resynced ≡ false
    → new ≡ record r { copy = resynced_copy (led_by s.primary) (resync_mark (led_by s.primary) r) r.copy; resynced = true }
    → dropped ≡ held_from (resync_mark (led_by s.primary) r) r.copy.store → taken ≡ s.primary.seen.count - resync_mark (led_by s.primary) r
    → resync_row s copy (replica_of s copy) ≡ answered (replies.Resynced dropped taken) (record s { replicas = slice_set s.replicas place new })
unfolding resync_row
resync-done s copy place dropped taken r new at get wasnt is went came =
    ap (λ (o : Option Replica). resync_row s copy o) (at.found ∙ get)
    ∙ (second r.resynced _ _ wasnt
    ∙ (ap (λ (rs : List Replica). answered (replies.Resynced (held_from (resync_mark s r) r.copy.store) (s.primary.seen.count - resync_mark s r)) (record s { replicas = rs }))
    (ap (λ (n : Replica). replaced copy n s.replicas) (sym is) ∙ sym (at.replaced new))
    ∙ (ap (λ (n : ℕ). answered (replies.Resynced n (s.primary.seen.count - resync_mark s r)) (record s { replicas = slice_set s.replicas place new })) (sym went)
    ∙ ap (λ (n : ℕ). answered (replies.Resynced dropped n) (record s { replicas = slice_set s.replicas place new })) (sym came))))
