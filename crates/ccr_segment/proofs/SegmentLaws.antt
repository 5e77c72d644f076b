-- A segment that is read is spelled so, and what is spelled so is read.
use Rattle.std.proofs.Common.{◌≡◌, ℕ, zero, suc, ◌+◌, ◌^◌, ◌<◌, ◌≤◌, Bool, true, false, cond, eqb, eq-eqb, ltb, Some, None, List, [], ◌∷◌, ◌++◌, length, take, get_or, Result, Ok, Err, refl, sym, ap, subst, ◌∙◌, append_assoc, arith}
use Rattle.std.specs.Prelude.{IfOk, not, is_some, ◌&&◌, ◌||◌}
use Rattle.std.specs.List.{flat_map, list_any, AllByRecursion}
use Rattle.std.specs.Int.{w32, to_be_bytes}
use Rattle.std.proofs.lemmas.Bool.{eqb-true, ltb-false, le-ltb}
use Rattle.std.proofs.lemmas.List.{append-nil, nil_from_length}
use Rattle.std.proofs.lemmas.List.Concat.{flat_map-cons}
use Rattle.ccr_op.specs.Operation.{Operation, is_routed, routing_of, HasSpelling as OpHasSpelling}
use Rattle.ccr_op.specs.declared.operation.Kind.{Kind}
use Rattle.ccr_op.specs.declared.operation.Kind.TheVariants.{Index, Delete, NoOp}
use Rattle.ccr_op.specs.Fields.{◌>>=◌, number_at}
use Rattle.ccr_op.specs.Spelling.{kind_byte, spelling as op_spelling}
use Rattle.ccr_op.specs.Reading.{operation_at}
use Rattle.ccr_op.specs.declared.bad_op.BadOp.{BadOp}
use Rattle.ccr_op.specs.declared.bad_op.BadOp.TheVariants as op_faults
use Rattle.ccr_op.proofs.FieldLaws.{IsBytes, Takes, Takes-then, wide32, number_field, number_again, guard_ok, guard_holds, bind_ok, neither, ok_is}
use Rattle.ccr_op.proofs.OperationLaws.{operation_takes, operation_again}
use Rattle.ccr_segment.specs.declared.bad_segment.BadSegment.{BadSegment}
use Rattle.ccr_segment.specs.declared.bad_segment.BadSegment.TheVariants as faults
use Rattle.ccr_segment.specs.Segment.{AscendsFrom, HasSpelling, version_for, version_of, spelling}
use Rattle.ccr_segment.specs.Reading.{Gives, expected_at, version_at, header_at, begins_routed, operation_in, in_order, op_at, ops_at, rest_of, segment_of}

-- ---- the header

expected_takes : (byte : ℕ) (fault : BadSegment) (bytes rest : List ℕ) → expected_at byte fault bytes ≡ Ok rest → bytes ≡ byte ∷ rest
unfolding expected_at
expected_takes byte fault [] rest e = absurd cc
expected_takes byte fault (b ∷ bytes) rest e =
    let g = guard_holds (eqb b byte) fault (Ok bytes) rest e in
    ap (λ (x : ℕ). x ∷ bytes) (eqb-true b byte g.0) ∙ ap (λ (r : List ℕ). byte ∷ r) (ok_is {E = BadSegment} bytes rest g.1)

version_takes : (bytes : List ℕ) (x : ℕ × List ℕ) → version_at bytes ≡ Ok x → bytes ≡ x.0 ∷ x.1
unfolding version_at
version_takes [] x e = absurd cc
version_takes (b ∷ bytes) x e =
    let g = guard_holds (eqb b 1 || eqb b 2) faults.Version (Ok (b, bytes)) x e in
    ap (λ (y : ℕ × List ℕ). y.0 ∷ y.1) (ok_is {E = BadSegment} (b, bytes) x g.1)

abbrev pub header : ℕ → ℕ → List ℕ
header version n = 67 ∷ 67 ∷ 82 ∷ 83 ∷ version ∷ to_be_bytes w32 n

-- what stands behind the magic bytes
abbrev numbers_at : List ℕ → Result (ℕ × ℕ × List ℕ) BadSegment
numbers_at bytes = version_at bytes >>= λ version. number_at faults.Short w32 version.1 >>= λ number. Ok (version.0, number.0, number.1)

header_takes : (bytes : List ℕ) (x : ℕ × ℕ × List ℕ) → IsBytes bytes → header_at bytes ≡ Ok x → Takes bytes (header x.0 x.1) x.2 × (x.1 < 2 ^ 32)
unfolding header_at
header_takes bytes x fits e =
    let a = bind_ok (expected_at 67 faults.Magic bytes) (λ first. expected_at 67 faults.Magic first >>= λ second. expected_at 82 faults.Magic second >>= λ third. expected_at 83 faults.Magic third >>= numbers_at) x e in
    let b = bind_ok (expected_at 67 faults.Magic a.0) (λ second. expected_at 82 faults.Magic second >>= λ third. expected_at 83 faults.Magic third >>= numbers_at) x a.2 in
    let c = bind_ok (expected_at 82 faults.Magic b.0) (λ third. expected_at 83 faults.Magic third >>= numbers_at) x b.2 in
    let d = bind_ok (expected_at 83 faults.Magic c.0) numbers_at x c.2 in
    let v = bind_ok (version_at d.0) (λ version. number_at faults.Short w32 version.1 >>= λ number. Ok (version.0, number.0, number.1)) x d.2 in
    let n = bind_ok (number_at faults.Short w32 v.0.1) (λ number. Ok (v.0.0, number.0, number.1)) x v.2 in
    let whole : bytes ≡ 67 ∷ 67 ∷ 82 ∷ 83 ∷ v.0.0 ∷ v.0.1 =
    expected_takes 67 faults.Magic bytes a.0 a.1
    ∙ ap (λ (r : List ℕ). 67 ∷ r) (expected_takes 67 faults.Magic a.0 b.0 b.1)
    ∙ ap (λ (r : List ℕ). 67 ∷ 67 ∷ r) (expected_takes 82 faults.Magic b.0 c.0 c.1)
    ∙ ap (λ (r : List ℕ). 67 ∷ 67 ∷ 82 ∷ r) (expected_takes 83 faults.Magic c.0 d.0 d.1)
    ∙ ap (λ (r : List ℕ). 67 ∷ 67 ∷ 82 ∷ 83 ∷ r) (version_takes d.0 v.0 v.1) in
    let all_fit : IsBytes (67 ∷ 67 ∷ 82 ∷ 83 ∷ v.0.0 ∷ v.0.1) = subst IsBytes whole fits in
    let rest_fits : IsBytes v.0.1 = λ i. all_fit (suc (suc (suc (suc (suc i))))) in
    let t = (number_field faults.Short w32 (2 ^ 32) wide32 v.0.1 rest_fits).at n.0 n.1 in
    subst (λ (y : ℕ × ℕ × List ℕ). Takes bytes (header y.0 y.1) y.2 × (y.1 < 2 ^ 32)) {x = (v.0.0, n.0.0, n.0.1)} (ok_is {E = BadSegment} (v.0.0, n.0.0, n.0.1) x n.2)
    (record { parts = whole ∙ ap (λ (r : List ℕ). 67 ∷ 67 ∷ 82 ∷ 83 ∷ v.0.0 ∷ r) t.0.parts; rest_fits = t.0.rest_fits }, t.1)

header_again : (routed : Bool) (n : ℕ) (rest : List ℕ) → n < 2 ^ 32 → header_at (header (version_for routed) n ++ rest) ≡ Ok (version_for routed, n, rest)
unfolding header_at expected_at version_at
header_again true n rest h = rw (number_again faults.Short w32 (2 ^ 32) wide32 n rest h) refl
header_again false n rest h = rw (number_again faults.Short w32 (2 ^ 32) wide32 n rest h) refl

-- ---- operations

in_order_ok : (least : ℕ) (r : Result (Operation × List ℕ) BadOp) (x : Operation × List ℕ) → in_order least r ≡ Ok x → (r ≡ Ok x) × (least ≤ x.0.seq)
in_order_ok least (Ok y) x e =
    let g = guard_ok (ltb y.0.seq least) faults.Order (Ok y) x e in
    let same : y ≡ x = ok_is {E = BadSegment} y x g.1 in
    (ap (λ (z : Operation × List ℕ). Ok z) same, subst (λ (z : Operation × List ℕ). least ≤ z.0.seq) same (ltb-false y.0.seq least g.0))
in_order_ok least (Err e) x h = absurd cc

op_takes : (version least : ℕ) (bytes : List ℕ) (x : Operation × List ℕ) → IsBytes bytes → op_at version least bytes ≡ Ok x → Takes bytes (op_spelling x.0) x.1 × OpHasSpelling x.0 × (least ≤ x.0.seq)
unfolding op_at
op_takes version least bytes x fits e =
    let h = in_order_ok least (operation_in version bytes) x e in
    let g = guard_ok (eqb version 1 && begins_routed bytes) op_faults.Kind (operation_at bytes) x h.0 in
    let t = operation_takes bytes x fits g.1 in
    (t.0, t.1, h.1)

-- an operation may stand in a segment of this version
abbrev pub Suits : ℕ → Operation → Type 0
Suits version op = (eqb version 1 && is_routed op) ≡ false

routed_byte : (kind : Kind) → (eqb (kind_byte kind) 4 || eqb (kind_byte kind) 5) ≡ is_some (routing_of kind)
routed_byte (Index id None body) = refl
routed_byte (Index id (Some routing) body) = refl
routed_byte (Delete id None) = refl
routed_byte (Delete id (Some routing)) = refl
routed_byte NoOp = refl

-- the first byte of an operation tells whether it has a routing
pub begins_as : (op : Operation) (rest : List ℕ) → begins_routed (op_spelling op ++ rest) ≡ is_routed op
begins_as op rest = routed_byte op.kind

op_again : (version least : ℕ) (op : Operation) (rest : List ℕ) → OpHasSpelling op → least ≤ op.seq → Suits version op → op_at version least (op_spelling op ++ rest) ≡ Ok (op, rest)
unfolding op_at
op_again version least op rest h e suits =
    let barred : (eqb version 1 && begins_routed (op_spelling op ++ rest)) ≡ false = ap (λ (b : Bool). eqb version 1 && b) (begins_as op rest) ∙ suits in
    rw (barred, operation_again op rest h, le-ltb op.seq least e) refl

suits_routed : (ops : List Operation) → AllByRecursion (Suits 2) ops
suits_routed [] = tt
suits_routed (op ∷ ops) = (refl, suits_routed ops)

suits_plain : (ops : List Operation) → list_any is_routed ops ≡ false → AllByRecursion (Suits 1) ops
suits_plain [] e = tt
suits_plain (op ∷ ops) e = let both = neither (is_routed op) (list_any is_routed ops) e in (both.0, suits_plain ops both.1)

-- operations may stand in the segment whose version they give
suits_all : (routed : Bool) (ops : List Operation) → list_any is_routed ops ≡ routed → AllByRecursion (Suits (version_for routed)) ops
suits_all true ops e = suits_routed ops
suits_all false ops e = suits_plain ops e

abbrev AreOps : ℕ → ℕ → List Operation → Type 0
AreOps least n ops = (length ops ≡ n) × AscendsFrom least ops × AllByRecursion OpHasSpelling ops

ops_take : (version least n : ℕ) (bytes : List ℕ) (x : List Operation × List ℕ) → IsBytes bytes → ops_at version least n bytes ≡ Ok x → Takes bytes (flat_map op_spelling x.0) x.1 × AreOps least n x.0
unfolding ops_at
ops_take version least zero bytes x fits e =
    subst (λ (y : List Operation × List ℕ). Takes bytes (flat_map op_spelling y.0) y.1 × AreOps least 0 y.0) (ok_is {E = BadSegment} ([], bytes) x e) (record { parts = refl; rest_fits = fits }, (refl, tt, tt))
ops_take version least (suc n) bytes x fits e =
    let a = bind_ok (op_at version least bytes) (λ first. ops_at version (first.0.seq + 1) n first.1 >>= λ others. Ok (first.0 ∷ others.0, others.1)) x e in
    let b = bind_ok (ops_at version (a.0.0.seq + 1) n a.0.1) (λ others. Ok (a.0.0 ∷ others.0, others.1)) x a.2 in
    let first = op_takes version least bytes a.0 fits a.1 in
    let second = ops_take version (a.0.0.seq + 1) n a.0.1 b.0 first.0.rest_fits b.1 in
    let both = Takes-then bytes (op_spelling a.0.0) a.0.1 (flat_map op_spelling b.0.0) b.0.1 first.0 second.0 in
    let made : List Operation × List ℕ = (a.0.0 ∷ b.0.0, b.0.1) in
    subst (λ (y : List Operation × List ℕ). Takes bytes (flat_map op_spelling y.0) y.1 × AreOps least (suc n) y.0) (ok_is {E = BadSegment} made x b.2) (rw flat_map-cons both, (ap suc second.1.0, (first.2, second.1.1), (first.1, second.1.2)))

ops_again : (version least : ℕ) (ops : List Operation) (rest : List ℕ) → AscendsFrom least ops → AllByRecursion OpHasSpelling ops → AllByRecursion (Suits version) ops
    → ops_at version least (length ops) (flat_map op_spelling ops ++ rest) ≡ Ok (ops, rest)
unfolding ops_at
ops_again version least [] rest order fits suits = refl
ops_again version least (op ∷ ops) rest order fits suits =
    let regrouped : flat_map op_spelling (op ∷ ops) ++ rest ≡ op_spelling op ++ (flat_map op_spelling ops ++ rest) = ap (λ (x : List ℕ). x ++ rest) (flat_map-cons op_spelling op ops) ∙ append_assoc (op_spelling op) (flat_map op_spelling ops) rest in
    ap (ops_at version least (suc (length ops))) regrouped ∙ rw (op_again version least op (flat_map op_spelling ops ++ rest) fits.0 order.0 suits.0, ops_again version (op.seq + 1) ops rest order.1 fits.1 suits.1) refl

-- ---- the whole

of_not : (b : Bool) → not b ≡ false → b ≡ true
of_not true e = refl
of_not false e = absurd cc

-- how reading ends behind the operations
abbrev pub finish : ℕ → List Operation × List ℕ → Result (List Operation) BadSegment
finish version ops = cond (not (eqb (length ops.1) 0)) (Err faults.Trailing) (cond (eqb version (version_of ops.0)) (Ok ops.0) (Err faults.NoRouting))

-- what is read is spelled so
pub segment_takes : (bytes : List ℕ) (ops : List Operation) → IsBytes bytes → segment_of bytes ≡ Ok ops → HasSpelling ops × (bytes ≡ spelling ops)
unfolding segment_of rest_of
segment_takes bytes ops fits e =
    let a = bind_ok (header_at bytes) (λ h. ops_at h.0 0 h.1 h.2 >>= finish h.0) ops e in
    let version : ℕ = a.0.0 in
    let number : ℕ = a.0.1 in
    let b = bind_ok (ops_at version 0 number a.0.2) (finish version) ops a.2 in
    let g = guard_ok (not (eqb (length b.0.1) 0)) faults.Trailing (cond (eqb version (version_of b.0.0)) (Ok b.0.0) (Err faults.NoRouting)) ops b.2 in
    let k = guard_holds (eqb version (version_of b.0.0)) faults.NoRouting (Ok b.0.0) ops g.1 in
    let first = header_takes bytes a.0 fits a.1 in
    let second = ops_take version 0 number a.0.2 b.0 first.0.rest_fits b.1 in
    let nothing : b.0.1 ≡ [] = nil_from_length b.0.1 (eqb-true _ _ (of_not _ g.0)) in
    let both = (Takes-then bytes (header version number) a.0.2 (flat_map op_spelling b.0.0) b.0.1 first.0 second.0).parts in
    let whole : bytes ≡ spelling b.0.0 =
    both
    ∙ ap (λ (r : List ℕ). (header version number ++ flat_map op_spelling b.0.0) ++ r) nothing
    ∙ append-nil (header version number ++ flat_map op_spelling b.0.0)
    ∙ ap (λ (n : ℕ). header version n ++ flat_map op_spelling b.0.0) (sym second.1.0)
    ∙ ap (λ (v : ℕ). header v (length b.0.0) ++ flat_map op_spelling b.0.0) (eqb-true version (version_of b.0.0) k.0) in
    subst (λ (v : List Operation). HasSpelling v × (bytes ≡ spelling v)) (ok_is {E = BadSegment} b.0.0 ops k.1) (record { count = omega (arith, second.1.0, first.1); order = second.1.1; each = second.1.2 }, whole)

-- what is spelled so is read
pub segment_again : (ops : List Operation) → HasSpelling ops → segment_of (spelling ops) ≡ Ok ops
unfolding segment_of rest_of
segment_again ops h =
    let suits = suits_all (list_any is_routed ops) ops refl in
    let rest : ops_at (version_of ops) 0 (length ops) (flat_map op_spelling ops) ≡ Ok (ops, []) =
    ap (ops_at (version_of ops) 0 (length ops)) (sym (append-nil (flat_map op_spelling ops))) ∙ ops_again (version_of ops) 0 ops [] h.order h.each suits in
    let same : eqb (version_of ops) (version_of ops) ≡ true = eq-eqb (version_of ops) (version_of ops) refl in
    rw (header_again (list_any is_routed ops) (length ops) (flat_map op_spelling ops) h.count, rest, same) refl

pub is_found : (bytes : List ℕ) (r : Result (List Operation) BadSegment) → IsBytes bytes → Gives (λ ops. ops) r (segment_of bytes) → IfOk r (λ ops. HasSpelling ops × (bytes ≡ spelling ops))
is_found bytes (Ok ops) fits given = segment_takes bytes ops fits given
is_found bytes (Err e) fits given = tt

so_far_none : {X : Type 0} (P : X → Type 0) (xs : List X) → AllByRecursion P (take zero xs)
so_far_none P [] = tt
so_far_none P (x ∷ xs) = tt

-- what holds of the elements so far, and of the next, holds of all of them
pub all_more : {X : Type 0} (P : X → Type 0) (xs : List X) (i : ℕ) (d : X) → i < length xs → AllByRecursion P (take i xs) → P (get_or xs i d) → AllByRecursion P (take (suc i) xs)
all_more P [] i d lt so_far next = absurd (omega arith)
all_more P (x ∷ xs) zero d lt so_far next = (next, so_far_none P xs)
all_more P (x ∷ xs) (suc i) d lt so_far next = (so_far.0, all_more P xs i d (omega arith) so_far.1 next)
