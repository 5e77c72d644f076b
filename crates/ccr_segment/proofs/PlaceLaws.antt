-- The index of a segment: how it grows as operations are read, and what stands at a place.
use Rattle.std.proofs.Common.{◌≡◌, ℕ, zero, suc, ◌+◌, ◌-◌, ◌<◌, ◌≤◌, Bool, true, false, cond, eqb, ltb, List, [], ◌∷◌, ◌++◌, length, take, drop, get_or, Option, Some, None, Result, Ok, Err, refl, sym, ap, subst, ◌∙◌, append_assoc, arith, inl, inr, eq-eqb}
use Rattle.std.specs.Prelude.{find, slice_get, not, ◌&&◌, ◌||◌}
use Rattle.std.specs.List.{flat_map, list_any, AllByRecursion, AllWithin}
use Rattle.std.specs.List.Sorted.{IsNonDecreasingBy}
use Rattle.std.specs.Ordering.{nat_cmp, ordering_index}
use Rattle.std.specs.declared.cmp.Ordering.{Ordering}
use Rattle.std.specs.declared.cmp.Ordering.TheVariants.{Less, Equal, Greater}
use Rattle.std.proofs.lemmas.Bool.{eqb-true, ne_eqb, le-ltb, cases_lt, lt-ltb}
use Rattle.std.proofs.lemmas.List.{append-nil, drop_at, length-append, take_more}
use Rattle.std.proofs.lemmas.List.Concat.{flat_map-cons}
use Rattle.ccr_op.specs.Operation.{Operation, is_routed, HasSpelling as OpHasSpelling}
use Rattle.ccr_op.specs.declared.operation.Kind.TheVariants.{NoOp}
use Rattle.ccr_op.specs.Fields.{◌>>=◌}
use Rattle.ccr_op.specs.Spelling.{spelling as op_spelling}
use Rattle.ccr_op.specs.declared.bad_op.BadOp.{BadOp}
use Rattle.ccr_op.specs.Reading.{operation_at, measured}
use Rattle.ccr_op.proofs.FieldLaws.{IsBytes, chosen, ok_is}
use Rattle.ccr_op.proofs.OperationLaws.{operation_takes, operation_again}
use Rattle.ccr_segment.proofs.SegmentLaws.{header, finish, begins_as, segment_takes}
use Rattle.ccr_segment.specs.declared.index.Place.{Place}
use Rattle.ccr_segment.specs.declared.bad_segment.BadSegment.{BadSegment}
use Rattle.ccr_segment.specs.declared.bad_segment.BadSegment.TheVariants as faults
use Rattle.ccr_segment.specs.Segment.{AscendsFrom, HasSpelling, version_for, version_of, spelling}
use Rattle.ccr_segment.specs.Reading.{Fails, op_fault, begins_routed, operation_in, in_order, op_at, ops_at, rest_of, segment_of}
use Rattle.ccr_segment.specs.Index.{places_of, seen, told, IsOpened, read_or_none, ops_in}

-- ---- reading one after the other, as a loop does

or_regroup : (a b c : Bool) → (a || (b || c)) ≡ ((a || b) || c)
or_regroup true b c = refl
or_regroup false b c = refl

or_nothing : (a : Bool) → (a || false) ≡ a
or_nothing true = refl
or_nothing false = refl

-- the places so far with those of what is still read, and whether one of all has a routing
abbrev pub with_front : List Place → Bool → ℕ → Result (List Operation × List ℕ) BadSegment → Result (List Place × Bool × List ℕ) BadSegment
with_front front routed start read = seen (λ x. (front ++ places_of start x.0, routed || list_any is_routed x.0, x.1)) read

abbrev pub total : ℕ → ℕ → List ℕ → Result (List Place × Bool × List ℕ) BadSegment
total version number bytes = with_front [] false 9 (ops_at version 0 number bytes)

regroup : (front : List Place) (routed : Bool) (start : ℕ) (op : Operation) (read : Result (List Operation × List ℕ) BadSegment)
    → with_front front routed start (read >>= λ x. Ok (op ∷ x.0, x.1)) ≡ with_front (front ++ (record { seq = op.seq; start = start }) ∷ []) (routed || is_routed op) (start + length (op_spelling op)) read
regroup front routed start op (Ok x) =
    ap (λ (ps : List Place). Ok (ps, routed || (is_routed op || list_any is_routed x.0), x.1)) (simp append_assoc)
    ∙ ap (λ (b : Bool). Ok ((front ++ (record { seq = op.seq; start = start }) ∷ []) ++ places_of (start + length (op_spelling op)) x.0, b, x.1)) (or_regroup routed (is_routed op) (list_any is_routed x.0))
regroup front routed start op (Err e) = refl

ops_step : (version least n : ℕ) (bytes : List ℕ) → ops_at version least (suc n) bytes ≡ (op_at version least bytes >>= λ first. ops_at version (first.0.seq + 1) n first.1 >>= λ others. Ok (first.0 ∷ others.0, others.1))
unfolding ops_at
ops_step version least n bytes = refl

pub goes_on : (front : List Place) (routed : Bool) (version start least count i : ℕ) (bytes : List ℕ) (op : Operation) (after : List ℕ) (size : ℕ) (all : Result (List Place × Bool × List ℕ) BadSegment) → i < count → op_at version least bytes ≡ Ok (op, after) → size ≡ length (op_spelling op)
    → with_front front routed start (ops_at version least (count - i) bytes) ≡ all → with_front (front ++ (record { seq = op.seq; start = start }) ∷ []) (routed || is_routed op) (start + size) (ops_at version (op.seq + 1) (count - (i + 1)) after) ≡ all
unfolding ops_at
goes_on front routed version start least count i bytes op after size all lt h size-is so_far =
    let k : count - i ≡ suc (count - (i + 1)) = omega arith in
    let one : with_front front routed start (ops_at version least (count - i) bytes) ≡ with_front (front ++ (record { seq = op.seq; start = start }) ∷ []) (routed || is_routed op) (start + length (op_spelling op)) (ops_at version (op.seq + 1) (count - (i + 1)) after) = rw (k, h) (regroup front routed start op (ops_at version (op.seq + 1) (count - (i + 1)) after)) in
    ap (λ (n : ℕ). with_front (front ++ (record { seq = op.seq; start = start }) ∷ []) (routed || is_routed op) (start + n) (ops_at version (op.seq + 1) (count - (i + 1)) after)) size-is ∙ sym one ∙ so_far

-- a fault of an operation is what reading all gives
fault_of : (e : BadSegment) {Y : Type 0} (front : List Place) (routed : Bool) (start : ℕ) (one : Result Y BadSegment) (k : Y → Result (List Operation × List ℕ) BadSegment) (all : Result (List Place × Bool × List ℕ) BadSegment)
    → Fails e one → with_front front routed start (one >>= k) ≡ all → Fails e all
fault_of faults.Memory front routed start one k all h so_far = tt
fault_of faults.Short front routed start one k all h so_far = sym so_far ∙ ap (λ r. with_front front routed start (r >>= k)) h
fault_of faults.Magic front routed start one k all h so_far = sym so_far ∙ ap (λ r. with_front front routed start (r >>= k)) h
fault_of faults.Version front routed start one k all h so_far = sym so_far ∙ ap (λ r. with_front front routed start (r >>= k)) h
fault_of faults.Order front routed start one k all h so_far = sym so_far ∙ ap (λ r. with_front front routed start (r >>= k)) h
fault_of faults.Op front routed start one k all h so_far = sym so_far ∙ ap (λ r. with_front front routed start (r >>= k)) h
fault_of faults.Trailing front routed start one k all h so_far = sym so_far ∙ ap (λ r. with_front front routed start (r >>= k)) h
fault_of faults.NoRouting front routed start one k all h so_far = sym so_far ∙ ap (λ r. with_front front routed start (r >>= k)) h

-- and what reading the rest of the segment gives
fails_through : (e : BadSegment) (r : Result (List Operation × List ℕ) BadSegment) (k : List Operation × List ℕ → Result (List Operation) BadSegment) → Fails e (with_front [] false 9 r) → Fails e (seen (places_of 9) (r >>= k))
fails_through faults.Memory r k h = tt
fails_through faults.Short (Err d) k h = ap (λ (x : Result (List Place × Bool × List ℕ) BadSegment). x >>= λ y. Ok y.0) h
fails_through faults.Short (Ok x) k h = absurd cc
fails_through faults.Magic (Err d) k h = ap (λ (x : Result (List Place × Bool × List ℕ) BadSegment). x >>= λ y. Ok y.0) h
fails_through faults.Magic (Ok x) k h = absurd cc
fails_through faults.Version (Err d) k h = ap (λ (x : Result (List Place × Bool × List ℕ) BadSegment). x >>= λ y. Ok y.0) h
fails_through faults.Version (Ok x) k h = absurd cc
fails_through faults.Order (Err d) k h = ap (λ (x : Result (List Place × Bool × List ℕ) BadSegment). x >>= λ y. Ok y.0) h
fails_through faults.Order (Ok x) k h = absurd cc
fails_through faults.Op (Err d) k h = ap (λ (x : Result (List Place × Bool × List ℕ) BadSegment). x >>= λ y. Ok y.0) h
fails_through faults.Op (Ok x) k h = absurd cc
fails_through faults.Trailing (Err d) k h = ap (λ (x : Result (List Place × Bool × List ℕ) BadSegment). x >>= λ y. Ok y.0) h
fails_through faults.Trailing (Ok x) k h = absurd cc
fails_through faults.NoRouting (Err d) k h = ap (λ (x : Result (List Place × Bool × List ℕ) BadSegment). x >>= λ y. Ok y.0) h
fails_through faults.NoRouting (Ok x) k h = absurd cc

no_entry : Operation × List ℕ
no_entry = (record { seq = 0; term = 0; version = 0; kind = NoOp }, [])

-- what was told of an operation
pub record IsTold (r : Result (Operation × List ℕ) BadSegment) (seq size : ℕ) (routed : Bool) (after : List ℕ) : Type 0 where
  pub op : Operation
  pub read : r ≡ Ok (op, after)
  pub seq-is : op.seq ≡ seq
  pub size-is : size ≡ length (op_spelling op)
  pub routed-is : is_routed op ≡ routed

told_ok : (r : Result (Operation × List ℕ) BadSegment) (seq size : ℕ) (routed : Bool) (after : List ℕ) → seen told r ≡ Ok (seq, size, routed, after) → IsTold r seq size routed after
told_ok (Ok x) seq size routed after e =
    let same : (let y : ℕ × ℕ × Bool × List ℕ = (x.0.seq, length (op_spelling x.0), is_routed x.0, x.1) in y ≡ (seq, size, routed, after)) = ok_is {E = BadSegment} (x.0.seq, length (op_spelling x.0), is_routed x.0, x.1) (seq, size, routed, after) e in
    record {
      op = x.0;
      read = ap (λ (t : ℕ × ℕ × Bool × List ℕ). Ok (x.0, t.3)) same;
      seq-is = ap (λ (t : ℕ × ℕ × Bool × List ℕ). t.0) same;
      size-is = sym (ap (λ (t : ℕ × ℕ × Bool × List ℕ). t.1) same);
      routed-is = ap (λ (t : ℕ × ℕ × Bool × List ℕ). t.2) same;
    }
told_ok (Err d) seq size routed after e = absurd cc

told_fails : (e : BadSegment) (r : Result (Operation × List ℕ) BadSegment) → Fails e (seen told r) → Fails e r
told_fails faults.Memory r h = tt
told_fails faults.Short (Err d) h = ap (λ (x : Result (ℕ × ℕ × Bool × List ℕ) BadSegment). x >>= λ y. Ok no_entry) h
told_fails faults.Short (Ok x) h = absurd cc
told_fails faults.Magic (Err d) h = ap (λ (x : Result (ℕ × ℕ × Bool × List ℕ) BadSegment). x >>= λ y. Ok no_entry) h
told_fails faults.Magic (Ok x) h = absurd cc
told_fails faults.Version (Err d) h = ap (λ (x : Result (ℕ × ℕ × Bool × List ℕ) BadSegment). x >>= λ y. Ok no_entry) h
told_fails faults.Version (Ok x) h = absurd cc
told_fails faults.Order (Err d) h = ap (λ (x : Result (ℕ × ℕ × Bool × List ℕ) BadSegment). x >>= λ y. Ok no_entry) h
told_fails faults.Order (Ok x) h = absurd cc
told_fails faults.Op (Err d) h = ap (λ (x : Result (ℕ × ℕ × Bool × List ℕ) BadSegment). x >>= λ y. Ok no_entry) h
told_fails faults.Op (Ok x) h = absurd cc
told_fails faults.Trailing (Err d) h = ap (λ (x : Result (ℕ × ℕ × Bool × List ℕ) BadSegment). x >>= λ y. Ok no_entry) h
told_fails faults.Trailing (Ok x) h = absurd cc
told_fails faults.NoRouting (Err d) h = ap (λ (x : Result (ℕ × ℕ × Bool × List ℕ) BadSegment). x >>= λ y. Ok no_entry) h
told_fails faults.NoRouting (Ok x) h = absurd cc

pub ends : (e : BadSegment) (front : List Place) (routed : Bool) (version start least count i : ℕ) (rest bytes : List ℕ) → i < count → Fails e (seen told (op_at version least rest))
    → with_front front routed start (ops_at version least (count - i) rest) ≡ total version count bytes → Fails e (seen (places_of 9) (rest_of version count bytes))
unfolding rest_of
ends e front routed version start least count i rest bytes lt h so_far =
    let k : count - i ≡ suc (count - (i + 1)) = omega arith in
    let all = fault_of e front routed start (op_at version least rest) (λ first. ops_at version (first.0.seq + 1) (count - (i + 1)) first.1 >>= λ others. Ok (first.0 ∷ others.0, others.1)) (total version count bytes) (told_fails e (op_at version least rest) h)
    (ap (with_front front routed start) (sym (ops_step version least (count - (i + 1)) rest)) ∙ ap (λ (m : ℕ). with_front front routed start (ops_at version least m rest)) (sym k) ∙ so_far) in
    fails_through e (ops_at version 0 count bytes) (finish version) all

pub tells_on : (front : List Place) (routed : Bool) (version start least count i : ℕ) (bytes : List ℕ) (seq size : ℕ) (has_routing : Bool) (after : List ℕ) (all : Result (List Place × Bool × List ℕ) BadSegment) → i < count → seen told (op_at version least bytes) ≡ Ok (seq, size, has_routing, after)
    → with_front front routed start (ops_at version least (count - i) bytes) ≡ all → with_front (front ++ (record { seq = seq; start = start }) ∷ []) (routed || has_routing) (start + size) (ops_at version (seq + 1) (count - (i + 1)) after) ≡ all
tells_on front routed version start least count i bytes seq size has_routing after all lt h so_far =
    let t = told_ok (op_at version least bytes) seq size has_routing after h in
    subst (λ (b : Bool). with_front (front ++ (record { seq = seq; start = start }) ∷ []) (routed || b) (start + size) (ops_at version (seq + 1) (count - (i + 1)) after) ≡ all) t.routed-is
    (subst (λ (n : ℕ). with_front (front ++ (record { seq = n; start = start }) ∷ []) (routed || is_routed t.op) (start + size) (ops_at version (n + 1) (count - (i + 1)) after) ≡ all) t.seq-is (goes_on front routed version start least count i bytes t.op after size all lt t.read t.size-is so_far))

-- how the loop ends
abbrev pub finished : ℕ → List Place → Bool → List ℕ → Result (List Place) BadSegment
finished version places routed rest = cond (not (eqb (length rest) 0)) (Err faults.Trailing) (cond (eqb version (version_for routed)) (Ok places) (Err faults.NoRouting))

seen_guard : (trailing fitting : Bool) (ops : List Operation)
    → seen (places_of 9) (cond trailing (Err faults.Trailing) (cond fitting (Ok ops) (Err faults.NoRouting))) ≡ cond trailing (Err faults.Trailing) (cond fitting (Ok (places_of 9 ops)) (Err faults.NoRouting))
seen_guard true fitting ops = refl
seen_guard false true ops = refl
seen_guard false false ops = refl

guarded : (version : ℕ) (r : Result (List Operation × List ℕ) BadSegment) (places : List Place) (routed : Bool) (rest : List ℕ) → with_front [] false 9 r ≡ Ok (places, routed, rest)
    → seen (places_of 9) (r >>= finish version) ≡ finished version places routed rest
guarded version (Ok x) places routed rest e =
    let same : (let y : List Place × Bool × List ℕ = (places_of 9 x.0, list_any is_routed x.0, x.1) in y ≡ (places, routed, rest)) = ok_is {E = BadSegment} (places_of 9 x.0, list_any is_routed x.0, x.1) (places, routed, rest) e in
    seen_guard (not (eqb (length x.1) 0)) (eqb version (version_of x.0)) x.0 ∙ ap (λ (y : List Place × Bool × List ℕ). finished version y.0 y.1 y.2) same
guarded version (Err d) places routed rest e = absurd cc

pub is_done : (front : List Place) (routed : Bool) (version start least count i : ℕ) (rest bytes : List ℕ) → count ≤ i → with_front front routed start (ops_at version least (count - i) rest) ≡ total version count bytes
    → seen (places_of 9) (rest_of version count bytes) ≡ finished version front routed rest
unfolding rest_of ops_at
is_done front routed version start least count i rest bytes le so_far =
    let k : count - i ≡ 0 = omega arith in
    let one : with_front front routed start (ops_at version least (count - i) rest) ≡ Ok (front, routed, rest) =
    rw k (ap (λ (ps : List Place). Ok (ps, routed || false, rest)) (append-nil front) ∙ ap (λ (b : Bool). Ok (front, b, rest)) (or_nothing routed)) in
    guarded version (ops_at version 0 count bytes) front routed rest (sym so_far ∙ one)

-- ---- the next operation, by its measure

pub record IsMeasured (bytes : List ℕ) (seq size : ℕ) : Type 0 where
  pub op : Operation
  pub read : operation_at bytes ≡ Ok (op, drop size bytes)
  pub seq-is : op.seq ≡ seq
  pub size-is : length (op_spelling op) ≡ size
  pub within : size ≤ length bytes
  pub routed : begins_routed bytes ≡ is_routed op

measured_from : (bytes : List ℕ) (r : Result (Operation × List ℕ) BadOp) (seq size : ℕ) → IsBytes bytes → operation_at bytes ≡ r → measured r ≡ Ok (seq, size) → IsMeasured bytes seq size
measured_from bytes (Ok x) seq size fits read e =
    let same : (let y : ℕ × ℕ = (x.0.seq, length (op_spelling x.0)) in y ≡ (seq, size)) = ok_is {E = BadOp} (x.0.seq, length (op_spelling x.0)) (seq, size) e in
    let size-is : length (op_spelling x.0) ≡ size = ap (λ (y : ℕ × ℕ). y.1) same in
    let parts = (operation_takes bytes x fits read).0.parts in
    let rest-is : drop size bytes ≡ x.1 = ap (drop size) parts ∙ drop_at (op_spelling x.0) x.1 size size-is in
    record {
      op = x.0;
      read = read ∙ ap (λ (rest : List ℕ). Ok (x.0, rest)) (sym rest-is);
      seq-is = ap (λ (y : ℕ × ℕ). y.0) same;
      size-is = size-is;
      within = omega (arith, ap length parts, length-append (op_spelling x.0) x.1, size-is);
      routed = ap begins_routed parts ∙ begins_as x.0 x.1;
    }
measured_from bytes (Err d) seq size fits read e = absurd cc

pub is_measured : (bytes : List ℕ) (seq size : ℕ) → IsBytes bytes → measured (operation_at bytes) ≡ Ok (seq, size) → IsMeasured bytes seq size
is_measured bytes seq size fits e = measured_from bytes (operation_at bytes) seq size fits refl e

pub of_not_false : (b : Bool) → not b ≡ false → b ≡ true
of_not_false true e = refl
of_not_false false e = absurd cc

pub of_not_true : (b : Bool) → not b ≡ true → b ≡ false
of_not_true false e = refl
of_not_true true e = absurd cc

-- an operation that its version bars
pub next_barred : (version least : ℕ) (bytes : List ℕ) → (eqb version 1 && begins_routed bytes) ≡ true → seen told (op_at version least bytes) ≡ Err faults.Op
unfolding op_at
next_barred version least bytes barred = rw barred refl

measured_fault : (r : Result (Operation × List ℕ) BadOp) (e : BadOp) → measured r ≡ Err e → r ≡ Err e
measured_fault (Ok x) e h = absurd cc
measured_fault (Err d) e h = ap (λ (m : Result (ℕ × ℕ) BadOp). m >>= λ y. Ok no_entry) h

fails_as : (e : BadSegment) (read : Result (ℕ × ℕ × Bool × List ℕ) BadSegment) → read ≡ Err e → Fails e read
fails_as faults.Memory read h = tt
fails_as faults.Magic read h = h
fails_as faults.Version read h = h
fails_as faults.Short read h = h
fails_as faults.Order read h = h
fails_as faults.Op read h = h
fails_as faults.Trailing read h = h
fails_as faults.NoRouting read h = h

-- an operation that cannot be read
pub next_fault : (version least : ℕ) (bytes : List ℕ) (e : BadOp) → (eqb version 1 && begins_routed bytes) ≡ false → measured (operation_at bytes) ≡ Err e → Fails (op_fault e) (seen told (op_at version least bytes))
unfolding op_at
next_fault version least bytes e open_to h =
    let read : operation_at bytes ≡ Err e = measured_fault (operation_at bytes) e h in
    fails_as (op_fault e) (seen told (in_order least (operation_in version bytes))) (rw (open_to, read) refl)

-- an operation whose number is too low
pub next_low : (version least : ℕ) (bytes : List ℕ) (seq size : ℕ) → IsBytes bytes → (eqb version 1 && begins_routed bytes) ≡ false → measured (operation_at bytes) ≡ Ok (seq, size) → ltb seq least ≡ true
    → seen told (op_at version least bytes) ≡ Err faults.Order
unfolding op_at
next_low version least bytes seq size fits open_to h low =
    let m = is_measured bytes seq size fits h in
    rw (open_to, m.read, m.seq-is, low) refl

-- an operation that stands next
pub next_is : (version least : ℕ) (bytes : List ℕ) (seq size : ℕ) → IsBytes bytes → (eqb version 1 && begins_routed bytes) ≡ false → measured (operation_at bytes) ≡ Ok (seq, size) → ltb seq least ≡ false
    → seen told (op_at version least bytes) ≡ Ok (seq, size, begins_routed bytes, drop size bytes)
unfolding op_at
next_is version least bytes seq size fits open_to h high =
    let m = is_measured bytes seq size fits h in
    rw (open_to, m.read, m.seq-is, high, m.size-is, m.routed) (ap (λ (n : ℕ). Ok (n, size, is_routed m.op, drop size bytes)) m.seq-is)

opened_by : (bytes : List ℕ) (places : List Place) (r : Result (List Operation) BadSegment) → segment_of bytes ≡ r → seen (places_of 9) r ≡ Ok places → IsOpened bytes places
opened_by bytes places (Ok ops) q e =
    let ops-are : ops_in bytes ≡ ops = ap read_or_none q in
    let places-are : places_of 9 ops ≡ places = ok_is {E = BadSegment} (places_of 9 ops) places e in
    record { read = q ∙ ap (λ (o : List Operation). Ok o) (sym ops-are); indexed = sym places-are ∙ ap (places_of 9) (sym ops-are) }
opened_by bytes places (Err d) q e = absurd cc

-- what was read and indexed is opened
pub is_opened : (bytes : List ℕ) (places : List Place) → seen (places_of 9) (segment_of bytes) ≡ Ok places → IsOpened bytes places
is_opened bytes places e = opened_by bytes places (segment_of bytes) refl e

-- ---- what stands at a place

pub record StandsAt (ops : List Operation) (bytes : List ℕ) (place : Place) (i : ℕ) (op : Operation) (rest : List ℕ) : Type 0 where
  pub number : place.seq ≡ op.seq
  pub item : slice_get ops i ≡ Some op
  pub spelled : drop place.start bytes ≡ op_spelling op ++ rest
  pub within : place.start ≤ length bytes
  pub fits : OpHasSpelling op

abbrev pub no_place : Place
no_place = record { seq = 0; start = 0 }

pub StandsAt-found : (ops : List Operation) (front : List ℕ) (start i : ℕ) (d : Place) → length front ≡ start → i < length (places_of start ops) → AllByRecursion OpHasSpelling ops
    → (op : Operation) × (rest : List ℕ) × StandsAt ops (front ++ flat_map op_spelling ops) (get_or (places_of start ops) i d) i op rest
StandsAt-found [] front start i d len lt fits = absurd (omega arith)
StandsAt-found (op ∷ ops) front start zero d len lt fits =
    let bytes : front ++ flat_map op_spelling (op ∷ ops) ≡ front ++ (op_spelling op ++ flat_map op_spelling ops) = ap (λ (x : List ℕ). front ++ x) (flat_map-cons op_spelling op ops) in (
      op,
      flat_map op_spelling ops,
      record {
        number = refl;
        item = refl;
        spelled = ap (drop start) bytes ∙ drop_at front (op_spelling op ++ flat_map op_spelling ops) start len;
        within = omega (arith, len, length-append front (flat_map op_spelling (op ∷ ops)));
        fits = fits.0;
      },
    )
StandsAt-found (op ∷ ops) front start (suc i) d len lt fits =
    let bytes : (front ++ op_spelling op) ++ flat_map op_spelling ops ≡ front ++ flat_map op_spelling (op ∷ ops) = append_assoc front (op_spelling op) (flat_map op_spelling ops) ∙ ap (λ (x : List ℕ). front ++ x) (sym (flat_map-cons op_spelling op ops)) in
    let next : length (front ++ op_spelling op) ≡ start + length (op_spelling op) = length-append front (op_spelling op) ∙ ap (λ (n : ℕ). n + length (op_spelling op)) len in
    let below : i < length (places_of (start + length (op_spelling op)) ops) = omega arith in
    let found = StandsAt-found ops (front ++ op_spelling op) (start + length (op_spelling op)) i d next below fits.1 in
    let at = found.2 in (
      found.0,
      found.1,
      record {
        number = at.number;
        item = at.item;
        spelled = ap (drop (get_or (places_of (start + length (op_spelling op)) ops) i d).start) (sym bytes) ∙ at.spelled;
        within = subst (λ (b : List ℕ). (get_or (places_of (start + length (op_spelling op)) ops) i d).start ≤ length b) bytes at.within;
        fits = at.fits;
      },
    )

-- ---- finding by number

some_is : {X : Type 0} (x y : X) → (let o : Option X = Some x in o) ≡ Some y → x ≡ y
some_is x y e = cc

later_above : (least : ℕ) (ops : List Operation) (i : ℕ) (op : Operation) → AscendsFrom least ops → slice_get ops i ≡ Some op → least ≤ op.seq
later_above least [] i op order e = absurd cc
later_above least (first ∷ ops) zero op order e =
    let same : first ≡ op = some_is first op e in
    subst (λ (o : Operation). least ≤ o.seq) same order.0
later_above least (first ∷ ops) (suc i) op order e =
    let above = later_above (first.seq + 1) ops i op order.1 e in
    omega (arith, above, order.0)

-- the operation at a place is the one that its number finds
pub find-at : (least : ℕ) (ops : List Operation) (i n : ℕ) (op : Operation) → AscendsFrom least ops → slice_get ops i ≡ Some op → op.seq ≡ n → find (λ o. eqb o.seq n) ops ≡ Some op
find-at least [] i n op order e number = absurd cc
find-at least (first ∷ ops) zero n op order e number =
    let same : first ≡ op = some_is first op e in
    let hit : eqb first.seq n ≡ true = eq-eqb first.seq n (ap (λ (o : Operation). o.seq) same ∙ number) in
    rw hit e
find-at least (first ∷ ops) (suc i) n op order e number =
    let above = later_above (first.seq + 1) ops i op order.1 e in
    let miss : eqb first.seq n ≡ false = ne_eqb first.seq n (λ h. omega (arith, above, number, h)) in
    rw miss (find-at (first.seq + 1) ops i n op order.1 e number)

pub find-absent : (start n : ℕ) (ops : List Operation) → ((k : ℕ) (d : Place) → k < length (places_of start ops) → (get_or (places_of start ops) k d).seq ≡ n → ⊥) → find (λ o. eqb o.seq n) ops ≡ None
find-absent start n [] absent = refl
find-absent start n (op ∷ ops) absent =
    let miss : eqb op.seq n ≡ false = ne_eqb op.seq n (λ h. absent 0 no_place (omega arith) h) in
    rw miss (find-absent (start + length (op_spelling op)) n ops (λ k d lt h. absent (suc k) d (omega arith) h))

-- ---- what a search by halving says

pub compared_equal : (a n : ℕ) → nat_cmp a n ≡ Equal → a ≡ n
compared_equal a n e =
    elim (chosen (ltb a n) Less (cond (eqb a n) Equal Greater) Equal e) [
      | inl h ↦ absurd (cc (h.1))
      | inr h ↦ elim (chosen (eqb a n) Equal Greater Equal h.1) [
        | inl g ↦ eqb-true a n g.0
        | inr g ↦ absurd (cc (g.1))
      ]
    ]

compares_equal : (a n : ℕ) → a ≡ n → nat_cmp a n ≡ Equal
compares_equal a n e =
    let not_below : ltb a n ≡ false = le-ltb a n (omega arith) in
    let same : eqb a n ≡ true = eq-eqb a n e in
    rw (not_below, same) refl

top : (o : Ordering) → ordering_index o ≤ 2
top Less = omega arith
top Equal = omega arith
top Greater = omega arith

monotone : (a b n : ℕ) → a ≤ b → ordering_index (nat_cmp a n) ≤ ordering_index (nat_cmp b n)
monotone a b n h =
    elim (cases_lt a n) [
      | inl lt ↦ let below : ltb a n ≡ true = lt-ltb a n lt in rw below (omega arith)
      | inr le ↦ elim (cases_lt n b) [
        | inl lt ↦
            let not_below : ltb b n ≡ false = le-ltb b n (omega arith) in
            let other : eqb b n ≡ false = ne_eqb b n (λ e. omega (arith, e, lt)) in
            rw (not_below, other) (top (nat_cmp a n))
        | inr ge ↦ let same : a ≡ b = omega arith in subst (λ (c : ℕ). ordering_index (nat_cmp a n) ≤ ordering_index (nat_cmp c n)) same (omega arith)
      ]
    ]

low : (least start : ℕ) (ops : List Operation) (j : ℕ) (d : Place) → AscendsFrom least ops → j < length (places_of start ops) → least ≤ (get_or (places_of start ops) j d).seq
low least start [] j d order lt = absurd (omega arith)
low least start (op ∷ ops) zero d order lt = order.0
low least start (op ∷ ops) (suc j) d order lt =
    let above = low (op.seq + 1) (start + length (op_spelling op)) ops j d order.1 (omega arith) in
    omega (arith, above, order.0)

ascending : (least start : ℕ) (ops : List Operation) (i j : ℕ) (d : Place) → AscendsFrom least ops → i ≤ j → j < length (places_of start ops) → (get_or (places_of start ops) i d).seq ≤ (get_or (places_of start ops) j d).seq
ascending least start [] i j d order le lt = absurd (omega arith)
ascending least start (op ∷ ops) zero zero d order le lt = omega arith
ascending least start (op ∷ ops) zero (suc j) d order le lt =
    let above = low (op.seq + 1) (start + length (op_spelling op)) ops j d order.1 (omega arith) in
    omega (arith, above)
ascending least start (op ∷ ops) (suc i) zero d order le lt = absurd (omega arith)
ascending least start (op ∷ ops) (suc i) (suc j) d order le lt = ascending (op.seq + 1) (start + length (op_spelling op)) ops i j d order.1 (omega arith) (omega arith)

-- where each place is below or above, none is equal
pub absent_between : (places : List Place) (n i : ℕ) → AllWithin (λ (y : Place). nat_cmp y.seq n ≡ Less) places 0 i → AllWithin (λ (y : Place). nat_cmp y.seq n ≡ Greater) places i (length places)
    → (k : ℕ) (d : Place) → k < length places → (get_or places k d).seq ≡ n → ⊥
absent_between places n i below above k d lt e =
    let equal = compares_equal (get_or places k d).seq n e in
    elim (cases_lt k i) [
      | inl less ↦ let h = below k d (omega arith) less in cc (h, equal)
      | inr more ↦ let h = above k d more lt in cc (h, equal)
    ]

-- ---- a segment that was opened

-- what the bytes hold, and that they spell it
pub opened_fits : (bytes : List ℕ) (places : List Place) → IsBytes bytes → IsOpened bytes places → HasSpelling (ops_in bytes) × (bytes ≡ spelling (ops_in bytes))
opened_fits bytes places fits opened = segment_takes bytes (ops_in bytes) fits opened.read

pub opened_rises : (bytes : List ℕ) (places : List Place) → IsBytes bytes → IsOpened bytes places → IsNonDecreasingBy (λ (y : Place). y.seq) places
opened_rises bytes places fits opened = λ i j d le lt.
    let h = opened_fits bytes places fits opened in
    let below : j < length (places_of 9 (ops_in bytes)) = subst (λ (ps : List Place). j < length ps) opened.indexed lt in
    subst (λ (ps : List Place). (get_or ps i d).seq ≤ (get_or ps j d).seq) (sym opened.indexed) (ascending 0 9 (ops_in bytes) i j d h.0.order le below)

pub length-places_of : (start : ℕ) (ops : List Operation) → length (places_of start ops) ≡ length ops
length-places_of start [] = refl
length-places_of start (op ∷ ops) = ap suc (length-places_of (start + length (op_spelling op)) ops)

pub opened_count : (bytes : List ℕ) (places : List Place) → IsOpened bytes places → length places ≡ length (ops_in bytes)
opened_count bytes places opened = ap length opened.indexed ∙ length-places_of 9 (ops_in bytes)

-- at the place of a number the operation of that number begins, and it is the one that is found
pub record IsHit (bytes : List ℕ) (start n : ℕ) : Type 0 where
  pub op : Operation
  pub rest : List ℕ
  pub within : start ≤ length bytes
  pub read : operation_at (drop start bytes) ≡ Ok (op, rest)
  pub found : find (λ o. eqb o.seq n) (ops_in bytes) ≡ Some op

-- at a place an operation begins, and it is the one that stands there among the operations
pub record IsNth (bytes : List ℕ) (place : Place) (at : ℕ) : Type 0 where
  pub op : Operation
  pub rest : List ℕ
  pub number : place.seq ≡ op.seq
  pub within : place.start ≤ length bytes
  pub read : operation_at (drop place.start bytes) ≡ Ok (op, rest)
  pub item : slice_get (ops_in bytes) at ≡ Some op

pub opened_nth : (bytes : List ℕ) (places : List Place) (at : ℕ) (d : Place) → IsBytes bytes → IsOpened bytes places → at < length places → IsNth bytes (get_or places at d) at
opened_nth bytes places at d fits opened lt =
    let h = opened_fits bytes places fits opened in
    let place-is : get_or places at d ≡ get_or (places_of 9 (ops_in bytes)) at d = ap (λ (ps : List Place). get_or ps at d) opened.indexed in
    let below : at < length (places_of 9 (ops_in bytes)) = subst (λ (ps : List Place). at < length ps) opened.indexed lt in
    let hit = StandsAt-found (ops_in bytes) (header (version_of (ops_in bytes)) (length (ops_in bytes))) 9 at d refl below h.0.each in
    let stands = hit.2 in
    let start = (get_or (places_of 9 (ops_in bytes)) at d).start in
    let spelled : drop start bytes ≡ op_spelling hit.0 ++ hit.1 = ap (drop start) h.1 ∙ stands.spelled in
    subst (λ (place : Place). IsNth bytes place at) (sym place-is) (record {
      op = hit.0;
      rest = hit.1;
      number = stands.number;
      within = subst (λ (b : List ℕ). start ≤ length b) (sym h.1) stands.within;
      read = ap operation_at spelled ∙ operation_again hit.0 hit.1 stands.fits;
      item = stands.item;
    })

pub opened_at : (bytes : List ℕ) (places : List Place) (n at : ℕ) (d : Place) → IsBytes bytes → IsOpened bytes places → at < length places → (get_or places at d).seq ≡ n → IsHit bytes (get_or places at d).start n
opened_at bytes places n at d fits opened lt number =
    let nth = opened_nth bytes places at d fits opened lt in
    record {
      op = nth.op;
      rest = nth.rest;
      within = nth.within;
      read = nth.read;
      found = find-at 0 (ops_in bytes) at n nth.op (opened_fits bytes places fits opened).0.order nth.item (sym nth.number ∙ number);
    }

pub opened_absent : (bytes : List ℕ) (places : List Place) (n : ℕ) → IsOpened bytes places → ((k : ℕ) (d : Place) → 0 ≤ k → k < length places → (get_or places k d).seq ≡ n → ⊥) → find (λ o. eqb o.seq n) (ops_in bytes) ≡ None
opened_absent bytes places n opened absent =
    find-absent 9 n (ops_in bytes) (λ k d lt e.
    let below : k < length places = subst (λ (ps : List Place). k < length ps) (sym opened.indexed) lt in
    absent k d (omega arith) below (ap (λ (ps : List Place). (get_or ps k d).seq) opened.indexed ∙ e))

pub rises_compared : (n : ℕ) (places : List Place) → IsNonDecreasingBy (λ (y : Place). y.seq) places → IsNonDecreasingBy (λ (y : Place). ordering_index (nat_cmp y.seq n)) places
rises_compared n places rises = λ i j d le lt. monotone (get_or places i d).seq (get_or places j d).seq n (rises i j d le lt)

-- one more of a list, as a look-up finds it
pub take-next : (xs : List Operation) (i : ℕ) (x : Operation) → slice_get xs i ≡ Some x → take (i + 1) xs ≡ take i xs ++ x ∷ []
take-next xs i x is = take_more xs i x (below xs i is) ∙ ap (λ (y : Operation). take i xs ++ y ∷ []) (at xs i is)
  where
    below : (xs : List Operation) (i : ℕ) → slice_get xs i ≡ Some x → i < length xs
    below [] i is = absurd cc
    below (y ∷ xs) zero is = omega arith
    below (y ∷ xs) (suc i) is = let h : i < length xs = below xs i is in omega arith

    at : (xs : List Operation) (i : ℕ) → slice_get xs i ≡ Some x → get_or xs i x ≡ x
    at [] i is = refl
    at (y ∷ xs) zero is = cc
    at (y ∷ xs) (suc i) is = at xs i is
