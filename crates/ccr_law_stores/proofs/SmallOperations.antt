-- Operations whose numbers are small and whose texts are within their bounds.
use Rattle.std.specs.List.{AllByRecursion, list_any}
use Rattle.std.specs.Prelude.{option_and_then}
use Rattle.std.specs.Option.{option_map_or}
use Rattle.std.proofs.Common.{◌≡◌, ℕ, ◌+◌, ◌^◌, ◌<◌, ◌≤◌, ◌==◌, ◌||◌, ◌⊎◌, inl, inr, ⊎_elim, Bool, true, nat_lt, if◌then◌else◌, Option, Some, None, is_some, Ok, Err, List, [], ◌∷◌, map, refl, sym, ◌∙◌, ap, subst, arith}
use Rattle.std.proofs.lemmas.Bool.Decides.{nat_tests}
use Rattle.ccr_op.specs.Operation.{Operation, KindFits}
use Rattle.ccr_op.specs.declared.operation.Kind.{Kind}
use Rattle.ccr_op.specs.declared.operation.Kind.TheVariants.{Index, Delete, NoOp}
use Rattle.ccr_tracker.specs.Numbers.{Numbers, has}
use Rattle.ccr_doc.specs.Sources.{compact_of}
use Rattle.ccr_journal.specs.declared.requests.WriteRequest.{WriteRequest}
use Rattle.ccr_model.specs.Fit.{IsFitRequest}
use Rattle.ccr_model.specs.Operations.{is_about, later, greatest_about, only_index, live}
use Rattle.ccr_model.specs.Copies.{Copies, greatest}
use Rattle.ccr_model.specs.LeaderRows.{end_of, kind_of_request, wrote_at, written_operation}
use Rattle.ccr_model.specs.Given.{gave, or_else, gaining, plugged, joined_at}
use Rattle.ccr_model.specs.Past.{Line}
use Rattle.ccr_law_base.proofs.Cases.{on_if}
use Rattle.ccr_law_copies.specs.Cores.{PrimaryOk}
use Rattle.ccr_law_base.proofs.Lists.{some_equal}
use Rattle.ccr_law_copies.proofs.CopyChanges.{some-of}
use Rattle.ccr_law_stores.specs.TrueStores.{AreNumbered, CanBeSpelled}
use Rattle.ccr_law_stores.specs.Spelled.{IsSmall, AreSmall}
use Rattle.ccr_law_stores.proofs.SpelledSources.{source_fits}
use Rattle.ccr_law_stores.proofs.Histories.{low_some}
use Rattle.ccr_law_copies.proofs.Sets.{count_within}
use Rattle.ccr_law_base.proofs.Tests.{itself}
use Rattle.std.proofs.lemmas.Bool.{or_right}

pub small-later : (place : ℕ) (op : Operation) → IsSmall place op → IsSmall (place + 1) op
small-later place op ok = record {
  seq = let lt : op.seq < place = ok.seq in omega arith;
  term = let le : op.term ≤ place + 1 = ok.term in omega arith;
  version = let le : op.version ≤ place = ok.version in omega arith;
  kind = ok.kind;
}

-- nothing was given
pub small-quiet : (place : ℕ) (given : ℕ → ℕ → Option Operation) (term : ℕ) → AreSmall place given term → AreSmall (place + 1) given term
small-quiet place given term ok = record {
  each = λ copy n op at. small-later place op (ok.each copy n op at);
  low = let le : term ≤ place + 1 = ok.low in omega arith;
}

-- a copy was given these operations
pub small-gave : (place : ℕ) (given : ℕ → ℕ → Option Operation) (term now copy : ℕ) (ops : ℕ → Option Operation) → now ≤ place + 1 + 1
    → ((n : ℕ) (op : Operation) → ops n ≡ Some op → IsSmall (place + 1) op) → AreSmall place given term → AreSmall (place + 1) (gave given copy ops) now
small-gave place given term now copy ops low small ok = record {
  each = λ k. on_if (λ (f : ℕ → Option Operation). (n : ℕ) (op : Operation) → f n ≡ Some op → IsSmall (place + 1) op) (k == copy) ops (given k)
      (λ is. small) (λ isnt n op at. small-later place op (ok.each k n op at));
  low = low;
}

pub or_else-cases : (a b : Option Operation) (x : Operation) → or_else a b ≡ Some x → (a ≡ Some x) ⊎ (b ≡ Some x)
or_else-cases None b x at = inr at
or_else-cases (Some y) b x at = inl at

pub small-gaining : (place : ℕ) (ops : ℕ → Option Operation) (seq : ℕ) (o : Option Operation) → ((n : ℕ) (op : Operation) → ops n ≡ Some op → IsSmall (place + 1) op)
    → ((op : Operation) → o ≡ Some op → IsSmall (place + 1) op) → (n : ℕ) (op : Operation) → gaining ops seq o n ≡ Some op → IsSmall (place + 1) op
small-gaining place ops seq o old new n op at =
    ⊎_elim (λ first. old n op first) (λ second. new op (low_some o (n == seq) op second).1) (or_else-cases (ops n) (if n == seq then o else None) op at)

pub small-joined : (place mark : ℕ) (ops others : ℕ → Option Operation) → ((n : ℕ) (op : Operation) → ops n ≡ Some op → IsSmall (place + 1) op)
    → ((n : ℕ) (op : Operation) → others n ≡ Some op → IsSmall (place + 1) op) → (n : ℕ) (op : Operation) → joined_at mark ops others n ≡ Some op → IsSmall (place + 1) op
small-joined place mark ops others old new n op =
    on_if (λ (o : Option Operation). o ≡ Some op → IsSmall (place + 1) op) (nat_lt n mark) (ops n) (others n) (λ is at. old n op at) (λ isnt at. new n op at)

pub small-plugged : (place term bound : ℕ) (ops : ℕ → Option Operation) → term ≤ place + 1 + 1 → bound ≤ place → ((n : ℕ) (op : Operation) → ops n ≡ Some op → IsSmall (place + 1) op)
    → (n : ℕ) (op : Operation) → plugged ops term bound n ≡ Some op → IsSmall (place + 1) op
small-plugged place term bound ops low few old n op at =
    ⊎_elim (λ first. old n op first)
    (λ second.
    let both : (nat_lt n bound ≡ true) × (Some record { seq = n; term = term; version = 0; kind = NoOp } ≡ Some op)
    = low_some (Some record { seq = n; term = term; version = 0; kind = NoOp }) (nat_lt n bound) op second in
    let test : nat_lt n bound ≡ true = both.0 in
    let lt : n < bound = grind (arith, nat_tests) in
    subst (IsSmall (place + 1)) (some_equal record { seq = n; term = term; version = 0; kind = NoOp } op both.1)
    record { seq = omega arith; term = low; version = omega arith; kind = refl })
    (or_else-cases (ops n) (if nat_lt n bound then Some record { seq = n; term = term; version = 0; kind = NoOp } else None) op at)

-- ---- numbers

pub greatest-low : (xs : List ℕ) (place : ℕ) → ((k : ℕ) → list_any (λ n. n == k) xs ≡ true → k < place) → greatest (map {A = ℕ} {B = ℕ} (λ n. n + 1) xs) ≤ place
greatest-low [] place all = omega arith
greatest-low (x ∷ xs) place all =
    let own : x < place = all x (let is : (x == x) ≡ true = itself x in ap (λ (b : Bool). b || list_any (λ n. n == x) xs) is) in
    let rest : greatest (map {A = ℕ} {B = ℕ} (λ n. n + 1) xs) ≤ place = greatest-low xs place (λ k is. all k (or_right (x == k) (list_any (λ n. n == k) xs) is)) in
    omega arith

pub end-low : (seen : Numbers) (place : ℕ) → ((k : ℕ) → has seen k ≡ true → k < place) → end_of seen ≤ place
end-low seen place all =
    let count : seen.count ≤ place = count_within seen place all in
    let above : greatest (map {A = ℕ} {B = ℕ} (λ n. n + 1) seen.above) ≤ place
    = greatest-low seen.above place (λ k is. all k (or_right (nat_lt k seen.count) (list_any (λ n. n == k) seen.above) is)) in
    omega arith

-- what a copy has processed is no greater than the entries allow
pub processed-low : (place : ℕ) (given : ℕ → ℕ → Option Operation) (term copy : ℕ) (seen : Numbers) → AreSmall place given term → AreNumbered (given copy)
    → ((n : ℕ) → has seen n ≡ is_some (given copy n)) → (k : ℕ) → has seen k ≡ true → k < place
processed-low place given term copy seen ok numbered processed k is =
    let at : (op : Operation) × (given copy k ≡ Some op) = some-of (given copy k) (sym (processed k) ∙ is) in
    let small : IsSmall place at.0 = ok.each copy k at.0 at.1 in
    let same : at.0.seq ≡ k = numbered k at.0 at.1 in
    let lt : at.0.seq < place = small.seq in omega arith

-- ---- writes

-- what holds of the operation, where there is one
abbrev pub OfSome : (Operation → Type 0) → Option Operation → Type 0
OfSome P o = (x : Operation) → o ≡ Some x → P x

pub live-of : (P : Operation → Type 0) (xs : List Operation) (id : List ℕ) (op : Operation) → AllByRecursion P xs → live xs id ≡ Some op → P op
live-of P xs id op all at = from_greatest (greatest_about xs id) (greatest-of xs all) at
  where
    later-of : (a b : Option Operation) → OfSome P a → OfSome P b → OfSome P (later a b)
    later-of None b pa pb x e = pb x e
    later-of (Some a) None pa pb x e = pa x e
    later-of (Some a) (Some b) pa pb x e = on_if (λ (o : Option Operation). o ≡ Some x → P x) (nat_lt a.seq b.seq) (Some b) (Some a) (λ is. pb x) (λ isnt. pa x) e

    greatest-of : (xs : List Operation) → AllByRecursion P xs → OfSome P (greatest_about xs id)
    greatest-of [] all x e = cc
    greatest-of (y ∷ xs) all x e =
        later-of (if is_about id y then Some y else None) (greatest_about xs id)
        (λ z own. subst P (some_equal y z (low_some (Some y) (is_about id y) z own).1) all.0) (greatest-of xs all.1) x e

    from_greatest : (o : Option Operation) → OfSome P o → option_and_then only_index o ≡ Some op → P op
    from_greatest None holds e = cc
    from_greatest (Some x) holds e = by_kind x x.kind (holds x refl) e
      where
        by_kind : (x : Operation) (kind : Kind) → P x → (elim kind as (λ _. Option Operation) [ Index id routing body ↦ Some x | Delete id routing ↦ None | NoOp ↦ None ]) ≡ Some op → P op
        by_kind x (Index id routing body) holds e = subst P (some_equal x op e) holds
        by_kind x (Delete id routing) holds e = cc
        by_kind x NoOp holds e = cc

pub kind-fits : (request : WriteRequest) (version : ℕ) → IsFitRequest request → KindFits (kind_of_request request.id request.routing request.body) version
kind-fits request version fits = by_body request.body
  where
    by_body : (body : Option (List ℕ)) → KindFits (kind_of_request request.id request.routing body) version
    by_body None = fits
    by_body (Some body) =
        (elim (compact_of body) as (λ r. compact_of body ≡ r → KindFits (elim r as (λ _. Kind) [ Ok text ↦ Index request.id request.routing text | Err fault ↦ Delete request.id request.routing ]) version) [
          | Ok text ↦ λ is. (fits.0, fits.1, source_fits body text is)
          | Err fault ↦ λ is. fits
        ]) refl

pub written-small : (place : ℕ) (s : Copies) (request : WriteRequest) (found : Option Operation) → IsFitRequest request → s.primary.seen.count ≤ place → s.term ≤ place + 1
    → ((op : Operation) → found ≡ Some op → op.version ≤ place) → IsSmall (place + 1) (written_operation request (wrote_at s request found))
written-small place s request found fits count low version = record {
  seq = omega arith;
  term = omega arith;
  version = by_found found version;
  kind = kind-fits request (wrote_at s request found).version fits;
}
  where
    by_found : (found : Option Operation) → ((op : Operation) → found ≡ Some op → op.version ≤ place) → option_map_or (λ op. op.version + 1) found 1 ≤ place + 1
    by_found None all = omega arith
    by_found (Some op) all = let le : op.version ≤ place = all op refl in omega arith

-- ---- the line

-- the line's operations can be spelled, as long as the journal isn't too long
pub line-spelled : (place : ℕ) (given : ℕ → ℕ → Option Operation) (term copy : ℕ) (line : Line) (seen : Numbers) (global : ℕ) → PrimaryOk line (given copy) seen global
    → AreSmall place given term → place + 1 < 2 ^ 64 → CanBeSpelled line
line-spelled place given term copy line seen global primary ok short n op at =
    let small : IsSmall place op = ok.each copy n op (primary.given n ∙ at) in
    record {
      seq = let lt : op.seq < place = small.seq in omega arith;
      term = let le : op.term ≤ place + 1 = small.term in omega arith;
      version = let le : op.version ≤ place = small.version in omega arith;
      kind = small.kind;
    }
