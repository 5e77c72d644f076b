-- Reading one after the other, as a loop does: what was read before, and what is still read, are together what reading all gives.
use Rattle.std.proofs.Common.{◌≡◌, ℕ, zero, suc, ◌-◌, ◌+◌, ◌≤◌, ◌<◌, List, [], ◌∷◌, ◌++◌, length, take, get_or, Result, Ok, Err, refl, sym, ap, ◌∙◌, append_assoc, arith}
use Rattle.std.specs.List.{AllByRecursion, flat_map}
use Rattle.std.proofs.lemmas.List.Concat.{flat_map-cons}
use Rattle.std.proofs.lemmas.List.{append-nil}
use Rattle.ccr_op.specs.Operation.{Operation}
use Rattle.ccr_op.specs.Fields.{◌>>=◌}
use Rattle.ccr_wire.specs.declared.bad_frame.BadFrame.{BadFrame}
use Rattle.ccr_wire.specs.declared.bad_frame.BadFrame.TheVariants as faults
use Rattle.ccr_wire.specs.Reading.{Fails, op_at, ops_at, u64_at, sizes_at}

abbrev pub with_front : {X : Type 0} → List X → Result (List X × List ℕ) BadFrame → Result (List X × List ℕ) BadFrame
with_front front read = read >>= λ x. Ok (front ++ x.0, x.1)

regroup : {X : Type 0} (front : List X) (n : X) (read : Result (List X × List ℕ) BadFrame) → with_front front (read >>= λ x. Ok (n ∷ x.0, x.1)) ≡ with_front (front ++ n ∷ []) read
regroup {X = X} front n (Ok x) = ap (λ (ns : List X). Ok (ns, x.1)) (simp append_assoc)
regroup front n (Err f) = refl

-- a fault is what reading all gives, where it is what reading what is left gives
fault_of : (e : BadFrame) {X Y : Type 0} (front : List X) (one : Result Y BadFrame) (k : Y → Result (List X × List ℕ) BadFrame) (total : Result (List X × List ℕ) BadFrame)
    → Fails e one → with_front front (one >>= k) ≡ total → Fails e total
fault_of faults.Memory front one k total h so_far = tt
fault_of faults.Short front one k total h so_far = sym so_far ∙ ap (λ r. with_front front (r >>= k)) h
fault_of faults.Kind front one k total h so_far = sym so_far ∙ ap (λ r. with_front front (r >>= k)) h
fault_of faults.Length front one k total h so_far = sym so_far ∙ ap (λ r. with_front front (r >>= k)) h
fault_of faults.Field front one k total h so_far = sym so_far ∙ ap (λ r. with_front front (r >>= k)) h
fault_of faults.Trailing front one k total h so_far = sym so_far ∙ ap (λ r. with_front front (r >>= k)) h

-- ---- operations

ops_step : (from n : ℕ) (bytes : List ℕ) → ops_at from (suc n) bytes ≡ (op_at from bytes >>= λ first. ops_at (from + 1) n first.1 >>= λ others. Ok (first.0 ∷ others.0, others.1))
unfolding ops_at
ops_step from n bytes = refl

pub ops_go_on : (from : ℕ) (front : List Operation) (count i : ℕ) (bytes : List ℕ) (op : Operation) (after : List ℕ) (total : Result (List Operation × List ℕ) BadFrame) → i < count → op_at (from + i) bytes ≡ Ok (op, after)
    → with_front front (ops_at (from + i) (count - i) bytes) ≡ total → with_front (front ++ op ∷ []) (ops_at (from + (i + 1)) (count - (i + 1)) after) ≡ total
unfolding ops_at
ops_go_on from front count i bytes op after total lt h so_far =
    let k : count - i ≡ suc (count - (i + 1)) = omega arith in
    let next : from + (i + 1) ≡ from + i + 1 = omega arith in
    let one : with_front front (ops_at (from + i) (count - i) bytes) ≡ with_front (front ++ op ∷ []) (ops_at (from + i + 1) (count - (i + 1)) after) = rw (k, h) (regroup front op (ops_at (from + i + 1) (count - (i + 1)) after)) in
    ap (λ (m : ℕ). with_front (front ++ op ∷ []) (ops_at m (count - (i + 1)) after)) next ∙ sym one ∙ so_far

pub ops_end : (e : BadFrame) (from : ℕ) (front : List Operation) (count i : ℕ) (bytes : List ℕ) (total : Result (List Operation × List ℕ) BadFrame) → i < count → Fails e (op_at (from + i) bytes)
    → with_front front (ops_at (from + i) (count - i) bytes) ≡ total → Fails e total
ops_end e from front count i bytes total lt h so_far =
    let k : count - i ≡ suc (count - (i + 1)) = omega arith in
    fault_of e front (op_at (from + i) bytes) (λ first. ops_at (from + i + 1) (count - (i + 1)) first.1 >>= λ others. Ok (first.0 ∷ others.0, others.1)) total h
    (ap (with_front front) (sym (ops_step (from + i) (count - (i + 1)) bytes)) ∙ ap (λ (m : ℕ). with_front front (ops_at (from + i) m bytes)) (sym k) ∙ so_far)

pub ops_are_done : (from : ℕ) (front : List Operation) (count i : ℕ) (bytes : List ℕ) (total : Result (List Operation × List ℕ) BadFrame) → count ≤ i → with_front front (ops_at (from + i) (count - i) bytes) ≡ total → total ≡ Ok (front, bytes)
unfolding ops_at
ops_are_done from front count i bytes total le so_far =
    let k : count - i ≡ 0 = omega arith in
    let one : with_front front (ops_at (from + i) (count - i) bytes) ≡ Ok (front, bytes) = rw k (ap (λ (ns : List Operation). Ok (ns, bytes)) (append-nil front)) in
    sym so_far ∙ one

-- ---- sizes

sizes_step : (n : ℕ) (bytes : List ℕ) → sizes_at (suc n) bytes ≡ (u64_at bytes >>= λ first. sizes_at n first.1 >>= λ others. Ok (first.0 ∷ others.0, others.1))
unfolding sizes_at
sizes_step n bytes = refl

pub sizes_go_on : (front : List ℕ) (count i : ℕ) (bytes : List ℕ) (n : ℕ) (after : List ℕ) (total : Result (List ℕ × List ℕ) BadFrame) → i < count → u64_at bytes ≡ Ok (n, after)
    → with_front front (sizes_at (count - i) bytes) ≡ total → with_front (front ++ n ∷ []) (sizes_at (count - (i + 1)) after) ≡ total
unfolding sizes_at
sizes_go_on front count i bytes n after total lt h so_far =
    let k : count - i ≡ suc (count - (i + 1)) = omega arith in
    let one : with_front front (sizes_at (count - i) bytes) ≡ with_front (front ++ n ∷ []) (sizes_at (count - (i + 1)) after) = rw (k, h) (regroup front n (sizes_at (count - (i + 1)) after)) in
    sym one ∙ so_far

pub sizes_end : (e : BadFrame) (front : List ℕ) (count i : ℕ) (bytes : List ℕ) (total : Result (List ℕ × List ℕ) BadFrame) → i < count → Fails e (u64_at bytes)
    → with_front front (sizes_at (count - i) bytes) ≡ total → Fails e total
sizes_end e front count i bytes total lt h so_far =
    let k : count - i ≡ suc (count - (i + 1)) = omega arith in
    fault_of e front (u64_at bytes) (λ first. sizes_at (count - (i + 1)) first.1 >>= λ others. Ok (first.0 ∷ others.0, others.1)) total h
    (ap (with_front front) (sym (sizes_step (count - (i + 1)) bytes)) ∙ ap (λ (m : ℕ). with_front front (sizes_at m bytes)) (sym k) ∙ so_far)

pub sizes_are_done : (front : List ℕ) (count i : ℕ) (bytes : List ℕ) (total : Result (List ℕ × List ℕ) BadFrame) → count ≤ i → with_front front (sizes_at (count - i) bytes) ≡ total → total ≡ Ok (front, bytes)
unfolding sizes_at
sizes_are_done front count i bytes total le so_far =
    let k : count - i ≡ 0 = omega arith in
    let one : with_front front (sizes_at (count - i) bytes) ≡ Ok (front, bytes) = rw k (ap (λ (ns : List ℕ). Ok (ns, bytes)) (append-nil front)) in
    sym so_far ∙ one

so_far_none : {X : Type 0} (P : X → Type 0) (xs : List X) → AllByRecursion P (take zero xs)
so_far_none P [] = tt
so_far_none P (x ∷ xs) = tt

-- what holds of the elements so far, and of the next, holds of all of them
pub all_more : {X : Type 0} (P : X → Type 0) (xs : List X) (i : ℕ) (d : X) → i < length xs → AllByRecursion P (take i xs) → P (get_or xs i d) → AllByRecursion P (take (suc i) xs)
all_more P [] i d lt so_far next = absurd (omega arith)
all_more P (x ∷ xs) zero d lt so_far next = (next, so_far_none P xs)
all_more P (x ∷ xs) (suc i) d lt so_far next = (so_far.0, all_more P xs i d (omega arith) so_far.1 next)

flat_one : {X : Type 0} (f : X → List ℕ) (x : X) (xs : List X) → flat_map f (take (suc zero) (x ∷ xs)) ≡ flat_map f (take zero (x ∷ xs)) ++ f x
flat_one f x [] = flat_map-cons f x [] ∙ append-nil (f x)
flat_one f x (y ∷ xs) = flat_map-cons f x [] ∙ append-nil (f x)

-- what is written of the elements so far, and of the next, is what is written of all of them
pub flat_more : {X : Type 0} (f : X → List ℕ) (xs : List X) (i : ℕ) (d : X) → i < length xs → flat_map f (take (suc i) xs) ≡ flat_map f (take i xs) ++ f (get_or xs i d)
flat_more f [] i d lt = absurd (omega arith)
flat_more f (x ∷ xs) zero d lt = flat_one f x xs
flat_more f (x ∷ xs) (suc i) d lt =
    flat_map-cons f x (take (suc i) xs) ∙ ap (λ (l : List ℕ). f x ++ l) (flat_more f xs i d (omega arith)) ∙ sym (append_assoc (f x) (flat_map f (take i xs)) (f (get_or xs i d)))
    ∙ ap (λ (l : List ℕ). l ++ f (get_or xs i d)) (sym (flat_map-cons f x (take i xs)))
