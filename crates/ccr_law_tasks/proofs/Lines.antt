-- Lemmas on the leader's line: its committed operations, the largest of them, and a later line.
use Rattle.std.specs.Prelude.{slice_get}
use Rattle.std.proofs.Common.{◌≡◌, ◌∙◌, ℕ, ◌≤◌, ◌<◌, zero, suc, List, [], ◌∷◌, take, map, Some, refl, ap, arith}
use Rattle.ccr_op.specs.Operation.{Operation}
use Rattle.ccr_model.specs.Operations.{size_of}
use Rattle.ccr_model.specs.Copies.{greatest}
use Rattle.ccr_model.specs.Past.{Line, committed}
use Rattle.ccr_model.specs.FrameFacts.{IsCommitted}
use Rattle.ccr_model.specs.TaskFacts.{largest}
use Rattle.ccr_law_tasks.specs.GoodTask.{largest_committed, IsLater}

get-take : (ops : List Operation) (cut i : ℕ) → i < cut → slice_get (take cut ops) i ≡ slice_get ops i
get-take [] zero i low = absurd (omega arith)
get-take [] (suc cut) i low = refl
get-take (op ∷ ops) zero i low = absurd (omega arith)
get-take (op ∷ ops) (suc cut) zero low = refl
get-take (op ∷ ops) (suc cut) (suc i) low = get-take ops cut i (omega arith)

greatest-has : (ops : List Operation) (i : ℕ) (op : Operation) → slice_get ops i ≡ Some op → size_of op ≤ greatest (map {A = Operation} {B = ℕ} size_of ops)
greatest-has [] i op at = absurd (cc)
greatest-has (x ∷ ops) zero op at =
    let same : x ≡ op = cc in
    let size : size_of x ≡ size_of op = ap size_of same in
    omega arith
greatest-has (x ∷ ops) (suc i) op at =
    let rest : size_of op ≤ greatest (map {A = Operation} {B = ℕ} size_of ops) = greatest-has ops i op at in
    omega arith

greatest-take : (ops : List Operation) (cut : ℕ) → greatest (map {A = Operation} {B = ℕ} size_of (take cut ops)) ≤ greatest (map {A = Operation} {B = ℕ} size_of ops)
greatest-take [] zero = omega arith
greatest-take [] (suc cut) = omega arith
greatest-take (op ∷ ops) zero = omega arith
greatest-take (op ∷ ops) (suc cut) =
    let rest : greatest (map {A = Operation} {B = ℕ} size_of (take cut ops)) ≤ greatest (map {A = Operation} {B = ℕ} size_of ops) = greatest-take ops cut in
    omega arith

-- a committed operation is no larger than the largest
pub size-committed : (line : Line) (op : Operation) → IsCommitted line op → size_of op ≤ largest_committed line
size-committed line op is = greatest-has (committed line) op.seq op (get-take line.ops line.cut op.seq is.below ∙ is.same)

pub largest-of-line : (line : Line) → largest_committed line ≤ largest line
largest-of-line line = greatest-take line.ops line.cut

pub committed-later : (line next : Line) → IsLater line next → (op : Operation) → IsCommitted line op → IsCommitted next op
committed-later line next later op is =
    let low : op.seq < line.cut = is.below in
    let more : line.cut ≤ next.cut = later.cut in
    let old : slice_get (committed line) op.seq ≡ slice_get line.ops op.seq = get-take line.ops line.cut op.seq low in
    let front : slice_get (take line.cut (committed next)) op.seq ≡ slice_get (committed line) op.seq = ap (λ (ops : List Operation). slice_get ops op.seq) later.prefix in
    let inner : slice_get (take line.cut (committed next)) op.seq ≡ slice_get (committed next) op.seq = get-take (committed next) line.cut op.seq low in
    let new : slice_get (committed next) op.seq ≡ slice_get next.ops op.seq = get-take next.ops next.cut op.seq (omega arith) in
    let was : slice_get line.ops op.seq ≡ Some op = is.same in
    record { below = omega arith; same = cc }

pub largest-later : (line next : Line) → IsLater line next → largest_committed line ≤ largest_committed next
largest-later line next later =
    let size : List Operation → ℕ = λ ops. greatest (map {A = Operation} {B = ℕ} size_of ops) in
    let less : size (take line.cut (committed next)) ≤ size (committed next) = greatest-take (committed next) line.cut in
    let same : size (take line.cut (committed next)) ≡ size (committed line) = ap size later.prefix in
    omega arith
