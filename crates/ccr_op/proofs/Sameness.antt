-- Operations, and lists of them, are the same exactly where they are equal.
use Rattle.std.proofs.Common.{◌≡◌, ◌≢◌, ℕ, length, ◌↔◌, IsTrue, Bool, true, false, Option, Some, None, List, [], ◌∷◌, refl, ap, subst}
use Rattle.std.specs.Prelude.{◌&&◌, ◌==◌}
use Rattle.std.specs.Str.{bytes_eq}
use Rattle.std.proofs.lemmas.Slice.Eq.{bytes_eq-Decides}
use Rattle.std.proofs.lemmas.Bool.{eqb-true, eq-eqb}
use Rattle.ccr_op.specs.Operation.{Operation}
use Rattle.ccr_op.specs.declared.operation.Kind.{Kind}
use Rattle.ccr_op.specs.declared.operation.Kind.TheVariants.{Index, Delete, NoOp}
use Rattle.ccr_op.specs.Sameness.{same_routing, same_kind, same_operation, same_operations}

pub both_true : (a b : Bool) → (a && b) ≡ true → (a ≡ true) × (b ≡ true)
both_true true b h = (refl, h)
both_true false b h = absurd (cc)

pub same_routing-equal : (a b : Option (List ℕ)) → same_routing a b ≡ true → a ≡ b
same_routing-equal None None h = refl
same_routing-equal (Some a) (Some b) h = ap (λ (x : List ℕ). Some x) ((bytes_eq-Decides a b).0 h)
same_routing-equal None (Some b) h = absurd (cc)
same_routing-equal (Some a) None h = absurd (cc)

pub same_routing-self : (a : Option (List ℕ)) → same_routing a a ≡ true
same_routing-self None = refl
same_routing-self (Some a) = (bytes_eq-Decides a a).1 refl

pub same_kind-equal : (a b : Kind) → same_kind a b ≡ true → a ≡ b
same_kind-equal (Index id routing body) (Index id' routing' body') h =
    let both = both_true (bytes_eq id id' && same_routing routing routing') (bytes_eq body body') h in
    let front = both_true (bytes_eq id id') (same_routing routing routing') both.0 in
    let ids : id ≡ id' = (bytes_eq-Decides id id').0 front.0 in
    let routings : routing ≡ routing' = same_routing-equal routing routing' front.1 in
    let bodies : body ≡ body' = (bytes_eq-Decides body body').0 both.1 in
    cc
same_kind-equal (Delete id routing) (Delete id' routing') h =
    let both = both_true (bytes_eq id id') (same_routing routing routing') h in
    let ids : id ≡ id' = (bytes_eq-Decides id id').0 both.0 in
    let routings : routing ≡ routing' = same_routing-equal routing routing' both.1 in
    cc
same_kind-equal NoOp NoOp h = refl
same_kind-equal (Index id routing body) (Delete id' routing') h = absurd (cc)
same_kind-equal (Index id routing body) NoOp h = absurd (cc)
same_kind-equal (Delete id routing) (Index id' routing' body') h = absurd (cc)
same_kind-equal (Delete id routing) NoOp h = absurd (cc)
same_kind-equal NoOp (Index id' routing' body') h = absurd (cc)
same_kind-equal NoOp (Delete id' routing') h = absurd (cc)

-- operations with equal parts are equal
equal_by_parts : (s t v s' t' v' : ℕ) (k k' : Kind) → s ≡ s' → t ≡ t' → v ≡ v' → k ≡ k'
    → (let a : Operation = record { seq = s; term = t; version = v; kind = k } in let b : Operation = record { seq = s'; term = t'; version = v'; kind = k' } in a ≡ b)
equal_by_parts s t v s' t' v' k k' es et ev ek = cc

pub same_operation-equal : (a b : Operation) → same_operation a b ≡ true → a ≡ b
same_operation-equal a b h =
    let upper = both_true ((a.seq == b.seq) && (a.term == b.term) && (a.version == b.version)) (same_kind a.kind b.kind) h in
    let middle = both_true ((a.seq == b.seq) && (a.term == b.term)) (a.version == b.version) upper.0 in
    let lower = both_true (a.seq == b.seq) (a.term == b.term) middle.0 in
    equal_by_parts a.seq a.term a.version b.seq b.term b.version a.kind b.kind
    (eqb-true a.seq b.seq lower.0) (eqb-true a.term b.term lower.1) (eqb-true a.version b.version middle.1) (same_kind-equal a.kind b.kind upper.1)

pub same_operations-equal : (xs ys : List Operation) → same_operations xs ys ≡ true → xs ≡ ys
same_operations-equal [] [] h = refl
same_operations-equal (a ∷ xs) (b ∷ ys) h =
    let both = both_true (same_operation a b) (same_operations xs ys) h in
    let first : a ≡ b = same_operation-equal a b both.0 in
    let rest : xs ≡ ys = same_operations-equal xs ys both.1 in
    cc
same_operations-equal [] (b ∷ ys) h = absurd (cc)
same_operations-equal (a ∷ xs) [] h = absurd (cc)

pub same_operations-length : (xs ys : List Operation) → same_operations xs ys ≡ true → length xs ≡ length ys
same_operations-length xs ys h = ap (λ (xs : List Operation). length xs) (same_operations-equal xs ys h)

-- lists of different lengths are not the same
pub same_operations-differ : (xs ys : List Operation) → length xs ≢ length ys → same_operations xs ys ≡ false
same_operations-differ xs ys differ =
    elim (same_operations xs ys) as (λ b. same_operations xs ys ≡ b → b ≡ false) [
      | true ↦ λ e. absurd (differ (same_operations-length xs ys e))
      | false ↦ λ e. refl
    ] refl

pub both_are_true : (a b : Bool) → a ≡ true → b ≡ true → (a && b) ≡ true
both_are_true true b h h' = h'
both_are_true false b h h' = h

pub same_kind-self : (kind : Kind) → same_kind kind kind ≡ true
same_kind-self (Index id routing body) =
    both_are_true (bytes_eq id id && same_routing routing routing) (bytes_eq body body)
    (both_are_true (bytes_eq id id) (same_routing routing routing) ((bytes_eq-Decides id id).1 refl) (same_routing-self routing))
    ((bytes_eq-Decides body body).1 refl)
same_kind-self (Delete id routing) = both_are_true (bytes_eq id id) (same_routing routing routing) ((bytes_eq-Decides id id).1 refl) (same_routing-self routing)
same_kind-self NoOp = refl

-- kinds are the same exactly where they are equal
pub same_kinds_are_equal : (a b : Kind) → IsTrue (same_kind a b) ↔ (a ≡ b)
same_kinds_are_equal a b = (same_kind-equal a b, λ e. subst (λ (k : Kind). same_kind a k ≡ true) e (same_kind-self a))

pub same_operation-self : (op : Operation) → same_operation op op ≡ true
same_operation-self op =
    both_are_true ((op.seq == op.seq) && (op.term == op.term) && (op.version == op.version)) (same_kind op.kind op.kind)
    (both_are_true ((op.seq == op.seq) && (op.term == op.term)) (op.version == op.version)
    (both_are_true (op.seq == op.seq) (op.term == op.term) (eq-eqb op.seq op.seq refl) (eq-eqb op.term op.term refl))
    (eq-eqb op.version op.version refl))
    (same_kind-self op.kind)

pub same_operations-self : (ops : List Operation) → same_operations ops ops ≡ true
same_operations-self [] = refl
same_operations-self (op ∷ ops) =
    both_are_true (same_operation op op) (same_operations ops ops) (same_operation-self op) (same_operations-self ops)

-- operations are the same exactly where they are equal
pub same_operation_is_equal : (a b : Operation) → IsTrue (same_operation a b) ↔ (a ≡ b)
same_operation_is_equal a b = (same_operation-equal a b, λ e. subst (λ (op : Operation). same_operation a op ≡ true) e (same_operation-self a))

-- lists of operations are the same exactly where they are equal
pub same_operations_are_equal : (xs ys : List Operation) → IsTrue (same_operations xs ys) ↔ (xs ≡ ys)
same_operations_are_equal xs ys =
    (same_operations-equal xs ys, λ e. subst (λ (zs : List Operation). same_operations xs zs ≡ true) e (same_operations-self xs))
