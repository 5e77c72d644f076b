-- The operation of greatest number about an id, by the numbers that are listed for the id.
use Rattle.std.proofs.Common.{◌≡◌, ℕ, ◌≤◌, ◌+◌, ◌==◌, Bool, true, false, nat_lt, if◌then◌else◌, Option, Some, None, is_some, List, [], ◌∷◌, refl, sym, ◌∙◌, ap, subst, arith}
use Rattle.std.specs.Prelude.{option_and_then}
use Rattle.std.specs.List.{cons_option}
use Rattle.std.specs.Option.{option_map_or}
use Rattle.std.specs.BTreeSet.{BTreeSet}
use Rattle.std.proofs.lemmas.Bool.Decides.{nat_tests}
use Rattle.ccr_op.specs.Operation.{Operation}
use Rattle.ccr_model.specs.Operations.{is_about, later, greatest_about, only_index, live}
use Rattle.ccr_model.specs.Stores.{held}
use Rattle.ccr_store.specs.Kept.{ops_of, numbers_of, store_of, keeps_about, listed, one, times, IsFiled, IsListed, IsGreatest}
use Rattle.ccr_store.proofs.Filing.{held-is}

abbrev Within : ℕ → Option Operation → Type 0
Within m None = Unit {0}
Within m (Some x) = x.seq ≤ m

within-later : (m : ℕ) (a b : Option Operation) → Within m a → Within m b → Within m (later a b)
within-later m None b wa wb = wb
within-later m (Some a) None wa wb = wa
within-later m (Some a) (Some b) wa wb =
    elim (nat_lt a.seq b.seq) as (λ t. Within m (if t then Some b else Some a)) [ true ↦ wb | false ↦ wa ]

about_at : (f : ℕ → Option Operation) (id : List ℕ) (k : ℕ) (x : Operation) → f k ≡ Some x → keeps_about f id k ≡ is_about id x
about_at f id k x is = ap (λ (o : Option Operation). option_map_or (is_about id) o false) is

pub greatest-none : (f : ℕ → Option Operation) (id : List ℕ) → ((n : ℕ) → keeps_about f id n ≡ false) → (ns : List ℕ) → greatest_about (ops_of f ns) id ≡ None
greatest-none f id none [] = refl
greatest-none f id none (k ∷ ns) =
    (elim (f k) as (λ o. f k ≡ o → greatest_about (cons_option o (ops_of f ns)) id ≡ None) [
      | None ↦ λ is. greatest-none f id none ns
      | Some x ↦ λ is. let not_about : is_about id x ≡ false = sym (about_at f id k x is) ∙ none k in rw not_about (greatest-none f id none ns)
    ]) refl

greatest-within : (f : ℕ → Option Operation) (id : List ℕ) (m : ℕ) → ((k : ℕ) (x : Operation) → f k ≡ Some x → x.seq ≡ k) → ((k : ℕ) → keeps_about f id k ≡ true → k ≤ m)
    → (ns : List ℕ) → Within m (greatest_about (ops_of f ns) id)
greatest-within f id m own most [] = tt
greatest-within f id m own most (k ∷ ns) =
    (elim (f k) as (λ o. f k ≡ o → Within m (greatest_about (cons_option o (ops_of f ns)) id)) [
      | None ↦ λ is. greatest-within f id m own most ns
      | Some x ↦ λ is. within-later m (if is_about id x then Some x else None) (greatest_about (ops_of f ns) id) (first x is) (greatest-within f id m own most ns)
    ]) refl
  where
    first : (x : Operation) → f k ≡ Some x → Within m (if is_about id x then Some x else None)
    first x is =
        (elim (is_about id x) as (λ b. is_about id x ≡ b → Within m (if b then Some x else None)) [
          | true ↦ λ about. let at : x.seq ≡ k = own k x is in let le : k ≤ m = most k (about_at f id k x is ∙ about) in omega arith
          | false ↦ λ about. tt
        ]) refl

wins : (op : Operation) (o : Option Operation) → Within op.seq o → later (Some op) o ≡ Some op
wins op None within = refl
wins op (Some x) within = let no : nat_lt op.seq x.seq ≡ false = grind (arith, nat_tests) in rw no refl

pub greatest-is : (f : ℕ → Option Operation) (id : List ℕ) (m : ℕ) (op : Operation) → ((k : ℕ) (x : Operation) → f k ≡ Some x → x.seq ≡ k) → f m ≡ Some op → is_about id op ≡ true
    → ((k : ℕ) → keeps_about f id k ≡ true → k ≤ m) → (ns : List ℕ) → 1 ≤ times m ns → greatest_about (ops_of f ns) id ≡ Some op
greatest-is f id m op own is about most [] stands = absurd (omega arith)
greatest-is f id m op own is about most (k ∷ ns) stands =
    (elim (k == m) as (λ b. (k == m) ≡ b → greatest_about (ops_of f (k ∷ ns)) id ≡ Some op) [
      | true ↦ λ same.
          let e : m ≡ k = grind (arith, nat_tests) in
          let here : f k ≡ Some op = subst (λ q. f q ≡ Some op) e is in
          let at : op.seq ≡ m = own m op is in
          let within : Within op.seq (greatest_about (ops_of f ns) id) = subst (λ q. Within q (greatest_about (ops_of f ns) id)) (sym at) (greatest-within f id m own most ns) in
          rw (here, about) (wins op (greatest_about (ops_of f ns) id) within)
      | false ↦ λ other.
          let rest : greatest_about (ops_of f ns) id ≡ Some op = greatest-is f id m op own is about most ns (later_on (k == m) other stands) in
          (elim (f k) as (λ o. f k ≡ o → greatest_about (cons_option o (ops_of f ns)) id ≡ Some op) [
            | None ↦ λ none. rest
            | Some x ↦ λ there. ap (later (if is_about id x then Some x else None)) rest ∙ loses x there other
          ]) refl
    ]) refl
  where
    later_on : (b : Bool) → b ≡ false → 1 ≤ one b + times m ns → 1 ≤ times m ns
    later_on true at le = cc
    later_on false at le = omega arith

    loses : (x : Operation) → f k ≡ Some x → (k == m) ≡ false → later (if is_about id x then Some x else None) (Some op) ≡ Some op
    loses x there other =
        (elim (is_about id x) as (λ b. is_about id x ≡ b → later (if b then Some x else None) (Some op) ≡ Some op) [
          | true ↦ λ x_about.
              let at : op.seq ≡ m = own m op is in
              let at_x : x.seq ≡ k = own k x there in
              let le : k ≤ m = most k (about_at f id k x there ∙ x_about) in
              let yes : nat_lt x.seq op.seq ≡ true = grind (arith, nat_tests) in
              rw yes refl
          | false ↦ λ no. refl
        ]) refl

-- ---- a store's live operations

keeps_some : (f : ℕ → Option Operation) (id : List ℕ) (n : ℕ) → keeps_about f id n ≡ true → (op : Operation) × (f n ≡ Some op) × (is_about id op ≡ true)
keeps_some f id n keeps = by (f n) refl keeps
  where
    by : (o : Option Operation) → f n ≡ o → option_map_or (is_about id) o false ≡ true → (op : Operation) × (f n ≡ Some op) × (is_about id op ≡ true)
    by None is about = cc
    by (Some op) is about = (op, is, about)

pub live-none : (f : ℕ → Option Operation) (parts : List (List ℕ)) (more : List ℕ) (ids : List (List ℕ × BTreeSet ℕ)) (id : List ℕ) → IsListed f ids
    → IsGreatest (listed ids id) None → live (held (store_of f parts more)) id ≡ None
live-none f parts more ids id lists none =
    ap (option_and_then only_index)
    (ap (λ (xs : List Operation). greatest_about xs id) (held-is f parts more) ∙ greatest-none f id (λ n. sym (lists.about id n) ∙ none n) (numbers_of parts more))

pub live-some : (f : ℕ → Option Operation) (parts : List (List ℕ)) (more : List ℕ) (ids : List (List ℕ × BTreeSet ℕ)) (id : List ℕ) (n : ℕ) → IsFiled f parts more → IsListed f ids
    → IsGreatest (listed ids id) (Some n) → (op : Operation) × (f n ≡ Some op) × (live (held (store_of f parts more)) id ≡ only_index op)
live-some f parts more ids id n filed lists greatest =
    let there : (op : Operation) × (f n ≡ Some op) × (is_about id op ≡ true) = keeps_some f id n (sym (lists.about id n) ∙ greatest.0) in
    let once : times n (numbers_of parts more) ≡ 1 = filed.once n ∙ ap (λ (o : Option Operation). one (is_some o)) there.1 in (
      there.0,
      there.1,
      ap (option_and_then only_index)
          (ap (λ (xs : List Operation). greatest_about xs id) (held-is f parts more)
          ∙ greatest-is f id n there.0 filed.own there.1 there.2 (λ k keeps. greatest.1 k (lists.about id k ∙ keeps)) (numbers_of parts more) (omega arith)),
    )
