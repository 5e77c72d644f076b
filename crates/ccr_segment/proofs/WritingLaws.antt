-- A segment that is written one operation after another, and how many bytes it takes.
use Rattle.std.proofs.Common.{◌≡◌, ℕ, ◌+◌, take, get_or, ◌^◌, ◌<◌, ◌≤◌, ◌||◌, Bool, true, false, List, [], ◌∷◌, ◌++◌, length, drop, Option, Some, None, refl, sym, ap, subst, ◌∙◌, arith}
use Rattle.std.specs.Prelude.{IfSome, sum_by}
use Rattle.std.specs.List.{flat_map, list_any, AllByRecursion}
use Rattle.std.specs.Int.{w32, to_be_bytes}
use Rattle.std.proofs.lemmas.List.{append-nil, drop-append-le, length-append, take-append-drop, take_more}
use Rattle.std.proofs.lemmas.List.Concat.{flat_map-append, flat_map-cons, length-flat_map}
use Rattle.std.proofs.lemmas.List.Folds.{list_any-append}
use Rattle.ccr_op.specs.Ids.{IsIdText}
use Rattle.ccr_op.specs.Operation.{Operation, is_routed, KindFits, HasSpelling as OpHasSpelling}
use Rattle.ccr_op.specs.declared.operation.Kind.{Kind}
use Rattle.ccr_op.specs.declared.operation.Kind.TheVariants.{Index, Delete, NoOp}
use Rattle.ccr_op.specs.Fields.{counted}
use Rattle.ccr_op.specs.Spelling.{spelling as op_spelling, kind_fields, routed}
use Rattle.ccr_segment.specs.Segment.{AscendsFrom, HasSpelling, version_for, spelling}
use Rattle.ccr_segment.specs.Index.{ops_in, read_or_none}
use Rattle.ccr_segment.specs.Writing.{ops_written, IsWriting}
use Rattle.ccr_segment.proofs.SegmentLaws.{segment_again}

-- ---- what was written

written-is : (routing : Bool) (count : ℕ) (body : List ℕ) (ops : List Operation) → HasSpelling ops → length ops ≡ count → list_any is_routed ops ≡ routing → body ≡ flat_map op_spelling ops
    → ops_written routing count body ≡ ops
written-is routing count body ops fits number some is =
    let spelled : (67 ∷ 67 ∷ 82 ∷ 83 ∷ version_for routing ∷ (to_be_bytes w32 count ++ body)) ≡ spelling ops =
    ap (λ (b : List ℕ). 67 ∷ 67 ∷ 82 ∷ 83 ∷ version_for routing ∷ (to_be_bytes w32 count ++ b)) is
    ∙ ap (λ (n : ℕ). 67 ∷ 67 ∷ 82 ∷ 83 ∷ version_for routing ∷ (to_be_bytes w32 n ++ flat_map op_spelling ops)) (sym number)
    ∙ ap (λ (r : Bool). 67 ∷ 67 ∷ 82 ∷ 83 ∷ version_for r ∷ (to_be_bytes w32 (length ops) ++ flat_map op_spelling ops)) (sym some) in
    ap ops_in spelled ∙ ap read_or_none (segment_again ops fits)

writing-is : (routing : Bool) (count : ℕ) (bytes : List ℕ) (ops : List Operation) → 9 ≤ length bytes → HasSpelling ops → length ops ≡ count → list_any is_routed ops ≡ routing
    → drop 9 bytes ≡ flat_map op_spelling ops → IsWriting routing count bytes × (ops_written routing count (drop 9 bytes) ≡ ops)
writing-is routing count bytes ops long fits number some is =
    let same : ops_written routing count (drop 9 bytes) ≡ ops = written-is routing count (drop 9 bytes) ops fits number some is in (
      record {
        header = long;
        fits = subst HasSpelling (sym same) fits;
        counted = ap length same ∙ number;
        routing = ap (list_any is_routed) same ∙ some;
        body = is ∙ ap (flat_map op_spelling) (sym same);
      },
      same,
    )

pub begun : (bytes : List ℕ) → bytes ≡ 67 ∷ 67 ∷ 82 ∷ 83 ∷ 1 ∷ to_be_bytes w32 0 → IsWriting false 0 bytes × (ops_written false 0 (drop 9 bytes) ≡ [])
begun bytes is =
    subst (λ (b : List ℕ). IsWriting false 0 b × (ops_written false 0 (drop 9 b) ≡ [])) (sym is)
    (writing-is false 0 (67 ∷ 67 ∷ 82 ∷ 83 ∷ 1 ∷ to_be_bytes w32 0) [] (omega arith) (record { count = omega arith; order = tt; each = tt }) refl refl refl)

all-push : (P : Operation → Type 0) (ops : List Operation) (op : Operation) → AllByRecursion P ops → P op → AllByRecursion P (ops ++ op ∷ [])
all-push P [] op all one = (one, tt)
all-push P (x ∷ ops) op all one = (all.0, all-push P ops op all.1 one)

one-routed : (op : Operation) → list_any is_routed (op ∷ []) ≡ is_routed op
one-routed op = by (is_routed op)
  where
    by : (b : Bool) → (b || false) ≡ b
    by true = refl
    by false = refl

-- an operation is written behind others
pub pushed : (routing one : Bool) (count : ℕ) (bytes more : List ℕ) (old : List Operation) (op : Operation) → IsWriting routing count bytes → ops_written routing count (drop 9 bytes) ≡ old
    → more ≡ bytes ++ op_spelling op → OpHasSpelling op → one ≡ is_routed op → length old + 1 < 2 ^ 32 → AscendsFrom 0 (old ++ op ∷ [])
    → IsWriting (routing || one) (count + 1) more × (ops_written (routing || one) (count + 1) (drop 9 more) ≡ old ++ op ∷ [])
pushed routing one count bytes more old op writing view is spelled some few order =
    let fits : HasSpelling old = subst HasSpelling view writing.fits in
    let longer : length (old ++ op ∷ []) ≡ length old + 1 = length-append old (op ∷ []) in
    let number : length old ≡ count = sym (ap length view) ∙ writing.counted in
    let had : list_any is_routed old ≡ routing = sym (ap (list_any is_routed) view) ∙ writing.routing in
    let body : drop 9 bytes ≡ flat_map op_spelling old = writing.body ∙ ap (flat_map op_spelling) view in
    let length-more : length more ≡ length bytes + length (op_spelling op) = ap length is ∙ length-append bytes (op_spelling op) in
    let long : 9 ≤ length bytes = writing.header in
    let single : flat_map op_spelling (op ∷ []) ≡ op_spelling op = flat_map-cons op_spelling op [] ∙ append-nil (op_spelling op) in
    writing-is (routing || one) (count + 1) more (old ++ op ∷ []) (omega arith)
    (record { count = omega arith; order = order; each = all-push OpHasSpelling old op fits.each spelled })
    (longer ∙ ap (λ n. n + 1) number)
    (list_any-append is_routed old (op ∷ []) ∙ ap (λ (b : Bool). b || list_any is_routed (op ∷ [])) had ∙ ap (λ (b : Bool). routing || b) (one-routed op ∙ sym some))
    (ap (drop 9) is ∙ drop-append-le 9 bytes (op_spelling op) long ∙ ap (λ (b : List ℕ). b ++ op_spelling op) body
    ∙ ap (λ (b : List ℕ). flat_map op_spelling old ++ b) (sym single) ∙ sym (flat_map-append op_spelling old (op ∷ [])))

-- ---- in order

-- a front of operations that ascend ascends
pub front-ascends : (least : ℕ) (front rest : List Operation) → AscendsFrom least (front ++ rest) → AscendsFrom least front
front-ascends least [] rest up = tt
front-ascends least (op ∷ front) rest up = (up.0, front-ascends (op.seq + 1) front rest up.1)

-- ---- sizes

-- how many bytes a segment takes
pub length-spelling : (ops : List Operation) → length (spelling ops) ≡ 9 + sum_by (λ (op : Operation). length (op_spelling op)) ops
length-spelling ops = omega (arith, length-flat_map op_spelling ops)

routed-small : (routing : Option (List ℕ)) → IfSome routing IsIdText → length (routed routing) ≤ 514
routed-small None fits = omega arith
routed-small (Some text) fits = omega (arith, fits.few)

fields-small : (version : ℕ) (kind : Kind) → KindFits kind version → length (kind_fields version kind) ≤ 1000000
fields-small version (Index id routing body) fits =
    omega (arith, fits.0.few, fits.2.few, routed-small routing fits.1, length-append id (routed routing ++ counted w32 body), length-append (routed routing) (counted w32 body))
fields-small version (Delete id routing) fits = omega (arith, fits.0.few, routed-small routing fits.1, length-append id (routed routing))
fields-small version NoOp fits = omega arith

-- an operation takes few bytes
pub op-small : (op : Operation) → OpHasSpelling op → length (op_spelling op) ≤ 1048576
op-small op fits = omega (arith, fields-small op.version op.kind fits.kind)

-- the operations before a place and the one at it ascend where all do
pub next-ascends : (ops : List Operation) (i : ℕ) (d : Operation) → i < length ops → AscendsFrom 0 ops → AscendsFrom 0 (take i ops ++ get_or ops i d ∷ [])
next-ascends ops i d lt up =
    subst (AscendsFrom 0) (take_more ops i d lt)
    (front-ascends 0 (take (i + 1) ops) (drop (i + 1) ops) (subst (AscendsFrom 0) (sym (take-append-drop (i + 1) ops)) up))
