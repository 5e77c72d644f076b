-- The live document of an id is the same in what the primary holds and in its line.
use Rattle.std.specs.Prelude.{slice_get, option_and_then}
use Rattle.std.specs.List.{AllByRecursion}
use Rattle.std.proofs.Common.{◌≡◌, inl, inr, ◌⊎◌, ℕ, zero, suc, ◌<◌, ◌≤◌, ◌==◌, ◌||◌, Bool, true, false, Option, Some, None, List, [], ◌∷◌, refl, sym, ◌∙◌, ap, subst, arith}
use Rattle.std.proofs.lemmas.Bool.{eqb-true}
use Rattle.ccr_op.specs.Operation.{Operation, id_of}
use Rattle.ccr_op.specs.declared.operation.Kind.{Kind}
use Rattle.ccr_op.specs.declared.operation.Kind.TheVariants.{Index, Delete, NoOp}
use Rattle.ccr_model.specs.Operations.{has_number, greatest_about, only_index, live}
use Rattle.ccr_model.specs.Given.{IsAmong}
use Rattle.ccr_model.specs.Answers.{IsIn}
use Rattle.ccr_law_base.proofs.Lists.{All-in, some_equal}
use Rattle.ccr_law_base.proofs.Tests.{itself, or_true}
use Rattle.ccr_law_stores.specs.TrueStores.{Passed, IsLeast, IsNotMissed}
use Rattle.ccr_law_stores.proofs.SearchLives.{IsGreatest, GreatestIs, greatest_is}

-- ---- members

in_number : (xs : List Operation) (op : Operation) → IsIn xs op → has_number xs op.seq ≡ true
in_number [] op none = absurd none
in_number (x ∷ xs) op (inl same) = subst (λ (k : ℕ). ((x.seq == k) || has_number xs k) ≡ true) (ap (λ (o : Operation). o.seq) same) (ap (λ (b : Bool). b || has_number xs x.seq) (itself x.seq))
in_number (x ∷ xs) op (inr rest) = ap (λ (b : Bool). (x.seq == op.seq) || b) (in_number xs op rest) ∙ or_true (x.seq == op.seq)

-- an operation of this number that is held
number_in : (xs : List Operation) (n : ℕ) → has_number xs n ≡ true → (op : Operation) × (IsIn xs op) × (op.seq ≡ n)
number_in [] n there = absurd cc
number_in (x ∷ xs) n there =
    (elim (x.seq == n) as (λ b. (x.seq == n) ≡ b → (b || has_number xs n) ≡ true → (op : Operation) × (IsIn (x ∷ xs) op) × (op.seq ≡ n)) [
      | true ↦ λ is some. (x, inl refl, eqb-true x.seq n is)
      | false ↦ λ isnt rest. let own = number_in xs n rest in (own.0, inr own.1, own.2)
    ]) refl there

line_in : (line : List Operation) (n : ℕ) (op : Operation) → slice_get line n ≡ Some op → IsIn line op
line_in [] n op at = absurd cc
line_in (x ∷ line) zero op at = inl (some_equal x op at)
line_in (x ∷ line) (suc n) op at = inr (line_in line n op at)

in_line : (line : List Operation) (op : Operation) → IsIn line op → (n : ℕ) × (slice_get line n ≡ Some op)
in_line [] op none = absurd none
in_line (x ∷ line) op (inl same) = (0, ap (λ (o : Operation). Some o) same)
in_line (x ∷ line) op (inr rest) = let own = in_line line op rest in (suc own.0, own.1)

-- ---- what is held of a line

-- all that is held was given, which is the line, and what isn't held isn't missed
pub record HoldsLine (ops : ℕ → Option Operation) (xs line : List Operation) (count : ℕ) : Type 0 where
  pub given : (n : ℕ) → ops n ≡ slice_get line n
  pub numbered : (n : ℕ) (op : Operation) → slice_get line n ≡ Some op → op.seq ≡ n
  pub ours : AllByRecursion (IsAmong ops) xs
  pub covered : (n : ℕ) (x : Operation) → ops n ≡ Some x → has_number xs n ≡ false → IsNotMissed ops (has_number xs) count x.seq x.kind

held_in : (ops : ℕ → Option Operation) (xs line : List Operation) (count : ℕ) → HoldsLine ops xs line count → (op : Operation) → IsIn xs op → IsIn line op
held_in ops xs line count h op at = line_in line op.seq op (sym (h.given op.seq) ∙ All-in (IsAmong ops) xs op h.ours at)

line_among : (ops : ℕ → Option Operation) (xs line : List Operation) (count : ℕ) → HoldsLine ops xs line count → (op : Operation) → IsIn line op → IsAmong ops op
line_among ops xs line count h op at =
    let own = in_line line op at in
    subst (λ (k : ℕ). ops k ≡ Some op) (sym (h.numbered own.0 op own.1)) (h.given own.0 ∙ own.1)

-- the last of the line about an id, where it is held, is the last of what is held
held_last : (ops : ℕ → Option Operation) (xs line : List Operation) (count : ℕ) → HoldsLine ops xs line count → (id : List ℕ) (last : Operation) → IsGreatest line id last
    → has_number xs last.seq ≡ true → (found : Option Operation) → GreatestIs xs id found → found ≡ Some last
held_last ops xs line count h id last g there None none =
    let own = number_in xs last.seq there in
    let same : own.0 ≡ last = one_of own.0 own.1 own.2 in
    absurd (none own.0 own.1 (subst (λ (o : Operation). id_of o.kind ≡ Some id) (sym same) g.about))
  where
    one_of : (op : Operation) → IsIn xs op → op.seq ≡ last.seq → op ≡ last
    one_of op at same = some_equal op last (sym (All-in (IsAmong ops) xs op h.ours at) ∙ (ap ops same ∙ line_among ops xs line count h last g.is_in))
held_last ops xs line count h id last g there (Some x) f =
    let own = number_in xs last.seq there in
    let same : own.0 ≡ last = one_of own.0 own.1 own.2 in
    let low : x.seq ≤ last.seq = g.greatest x (held_in ops xs line count h x f.is_in) f.about in
    let high : own.0.seq ≤ x.seq = f.greatest own.0 own.1 (subst (λ (o : Operation). id_of o.kind ≡ Some id) (sym same) g.about) in
    let number : own.0.seq ≡ last.seq = own.2 in
    ap (λ (o : Operation). Some o) (one_of x f.is_in (omega arith))
  where
    one_of : (op : Operation) → IsIn xs op → op.seq ≡ last.seq → op ≡ last
    one_of op at same = some_equal op last (sym (All-in (IsAmong ops) xs op h.ours at) ∙ (ap ops same ∙ line_among ops xs line count h last g.is_in))

-- nothing greater about the id was given
not_passed : (ops : ℕ → Option Operation) (xs line : List Operation) (count : ℕ) → HoldsLine ops xs line count → (id : List ℕ) (last : Operation) → IsGreatest line id last
    → Passed ops count id last.seq → ⊥
not_passed ops xs line count h id last g passed =
    let low : passed.op.seq ≤ last.seq = g.greatest passed.op (line_in line passed.op.seq passed.op (sym (h.given passed.op.seq) ∙ passed.given)) passed.about in
    let high : last.seq < passed.op.seq = passed.above in
    omega arith

-- a delete that isn't held, and is the last, leaves nothing about the id
none_held : (ops : ℕ → Option Operation) (xs line : List Operation) (count : ℕ) → HoldsLine ops xs line count → (id : List ℕ) (last : Operation) → IsGreatest line id last
    → has_number xs last.seq ≡ false → IsLeast ops (has_number xs) id last.seq → (found : Option Operation) → GreatestIs xs id found → found ≡ None
none_held ops xs line count h id last g gone least None none = refl
none_held ops xs line count h id last g gone least (Some x) f =
    let low : x.seq ≤ last.seq = g.greatest x (held_in ops xs line count h x f.is_in) f.about in
    let there : has_number xs x.seq ≡ true = in_number xs x f.is_in in
    let high : last.seq ≤ x.seq = least x (All-in (IsAmong ops) xs x h.ours f.is_in) there f.about in
    let same : x.seq ≡ last.seq = omega arith in
    let never : true ≡ false = sym (subst (λ (k : ℕ). has_number xs k ≡ true) same there) ∙ gone in
    absurd cc

-- an operation of this kind, where it puts a document in place
abbrev only_of : Operation → Kind → Option Operation
only_of op kind = elim kind as (λ _. Option Operation) [ Index id routing body ↦ Some op | Delete id routing ↦ None | NoOp ↦ None ]

-- what is live, by the kind of the last, where that isn't held
gone_live : (ops : ℕ → Option Operation) (xs line : List Operation) (count : ℕ) → HoldsLine ops xs line count → (id : List ℕ) (last : Operation) → IsGreatest line id last
    → has_number xs last.seq ≡ false → (kind : Kind) → last.kind ≡ kind → IsNotMissed ops (has_number xs) count last.seq kind → (found : Option Operation) → GreatestIs xs id found
    → option_and_then only_index found ≡ only_of last kind
gone_live ops xs line count h id last g gone (Index other routing body) is missed found f = absurd (not_passed ops xs line count h id last g (subst (λ (k : List ℕ). Passed ops count k last.seq) (id_is is) missed))
  where
    id_is : last.kind ≡ Index other routing body → other ≡ id
    id_is is = some_equal other id (sym (ap id_of is) ∙ g.about)
gone_live ops xs line count h id last g gone (Delete other routing) is missed found f = by_cause missed
  where
    id_is : other ≡ id
    id_is = some_equal other id (sym (ap id_of is) ∙ g.about)

    by_cause : Passed ops count other last.seq ⊎ IsLeast ops (has_number xs) other last.seq → option_and_then only_index found ≡ None
    by_cause (inl passed) = absurd (not_passed ops xs line count h id last g (subst (λ (k : List ℕ). Passed ops count k last.seq) id_is passed))
    by_cause (inr least) =
        ap (λ (o : Option Operation). option_and_then only_index o)
        (none_held ops xs line count h id last g gone (subst (λ (k : List ℕ). IsLeast ops (has_number xs) k last.seq) id_is least) found f)
gone_live ops xs line count h id last g gone NoOp is missed found f = let none : None ≡ Some id = sym (ap id_of is) ∙ g.about in absurd cc

live_found : (ops : ℕ → Option Operation) (xs line : List Operation) (count : ℕ) → HoldsLine ops xs line count → (id : List ℕ) (mine all : Option Operation) → GreatestIs xs id mine
    → GreatestIs line id all → option_and_then only_index mine ≡ option_and_then only_index all
live_found ops xs line count h id None None f g = refl
live_found ops xs line count h id (Some x) None f g = absurd (g x (held_in ops xs line count h x f.is_in) f.about)
live_found ops xs line count h id mine (Some last) f g =
    (elim (has_number xs last.seq) as (λ b. has_number xs last.seq ≡ b → option_and_then only_index mine ≡ only_index last) [
      | true ↦ λ there. ap (λ (o : Option Operation). option_and_then only_index o) (held_last ops xs line count h id last g there mine f)
      | false ↦ λ gone. gone_live ops xs line count h id last g gone last.kind refl
          (h.covered last.seq last (line_among ops xs line count h last g.is_in) gone) mine f
    ]) refl

pub live_of_line : (ops : ℕ → Option Operation) (xs line : List Operation) (count : ℕ) → HoldsLine ops xs line count → (id : List ℕ) → live xs id ≡ live line id
live_of_line ops xs line count h id = live_found ops xs line count h id (greatest_about xs id) (greatest_about line id) (greatest_is xs id) (greatest_is line id)
