-- The live documents in the order of their ids.
use Rattle.std.proofs.Common.{◌≡◌, ℕ, nat_lt, option_and_then, Bool, true, false, ◌&&◌, if◌then◌else◌, Option, Some, None, List, [], ◌∷◌, filter, refl, sym, ◌∙◌, ap, subst}
use Rattle.std.specs.Option.{option_or, IfSome}
use Rattle.std.specs.Ordering.{nat_cmp, is_lt}
use Rattle.std.specs.declared.cmp.Ordering.{Ordering}
use Rattle.std.specs.declared.cmp.Ordering.TheVariants.{Less, Equal, Greater}
use Rattle.std.specs.declared.ops.Bound.TheVariants.{Excluded, Unbounded}
use Rattle.std.specs.List.Sorted.{IsStrictlySortedBy}
use Rattle.std.specs.Map.{keys_of, lookup}
use Rattle.std.specs.BTreeMap.{is_at}
use Rattle.std.specs.BTreeMap.Range.{range_contains}
use Rattle.std.specs.BTreeSet.{BTreeSet}
use Rattle.std.specs.Cmp.Lexicographic.{slice_cmp, bytes_decides, nat_list_cmp_total}
use Rattle.std.proofs.lemmas.Map.{lookup-none}
use Rattle.std.proofs.lemmas.Map.Entries.{lookup_tail, none_below_head}
use Rattle.std.proofs.lemmas.Map.Keys.{sorted_tail}
use Rattle.std.proofs.lemmas.Map.Text.{is_eq-slice_cmp}
use Rattle.ccr_op.specs.Operation.{Operation, id_of}
use Rattle.ccr_op.specs.declared.operation.Kind.{Kind}
use Rattle.ccr_op.specs.declared.operation.Kind.TheVariants.{Index, Delete, NoOp}
use Rattle.ccr_model.specs.Operations.{is_about, later, greatest_about, only_index, live}
use Rattle.ccr_model.specs.Stores.{held}
use Rattle.ccr_law_base.proofs.Lists.{about_id}
use Rattle.ccr_store.specs.Kept.{first_live, has_listed, store_of, IsAfter, IsListed, IsNextLive}
use Rattle.ccr_store.proofs.Latest.{live-none}

-- ---- a live operation is about its id

later-either : (P : Operation → Type 0) (a b : Option Operation) → IfSome a P → IfSome b P → IfSome (later a b) P
later-either P None b pa pb = pb
later-either P (Some a) None pa pb = pa
later-either P (Some a) (Some b) pa pb = either (nat_lt a.seq b.seq)
  where
    either : (t : Bool) → IfSome (if t then Some b else Some a) P
    either true = pb
    either false = pa

greatest-about : (ops : List Operation) (id : List ℕ) → IfSome (greatest_about ops id) (λ op. is_about id op ≡ true)
greatest-about [] id = tt
greatest-about (op ∷ ops) id =
    later-either (λ op. is_about id op ≡ true) (if is_about id op then Some op else None) (greatest_about ops id) (own (is_about id op) refl) (greatest-about ops id)
  where
    own : (b : Bool) → is_about id op ≡ b → IfSome (if b then Some op else None) (λ op. is_about id op ≡ true)
    own true is = is
    own false is = tt

only-index : (P : Operation → Type 0) (op : Operation) → P op → IfSome (only_index op) P
only-index P op p = by op.kind
  where
    by : (kind : Kind) → IfSome (elim kind as (λ _. Option Operation) [ Index id routing body ↦ Some op | Delete id routing ↦ None | NoOp ↦ None ]) P
    by (Index id routing body) = p
    by (Delete id routing) = tt
    by NoOp = tt

live-about : (ops : List Operation) (id : List ℕ) (op : Operation) → live ops id ≡ Some op → id_of op.kind ≡ Some id
live-about ops id op is =
    about_id id (id_of op.kind) (subst (λ (o : Option Operation). IfSome o (λ op. is_about id op ≡ true)) is (indexed (greatest_about ops id) (greatest-about ops id)))
  where
    indexed : (o : Option Operation) → IfSome o (λ op. is_about id op ≡ true) → IfSome (option_and_then only_index o) (λ op. is_about id op ≡ true)
    indexed None about = tt
    indexed (Some last) about = only-index (λ op. is_about id op ≡ true) last about

-- ---- the ids of a store

-- an id with no list of numbers has no live document
pub covered : (f : ℕ → Option Operation) (parts : List (List ℕ)) (more : List ℕ) (ids : List (List ℕ × BTreeSet ℕ)) → IsListed f ids → (id : List ℕ) → lookup (is_at (slice_cmp nat_cmp id)) ids ≡ None
    → live (held (store_of f parts more)) id ≡ None
covered f parts more ids lists id none = live-none f parts more ids id lists (λ n. ap (λ (o : Option (BTreeSet ℕ)). has_listed o n) none)

-- two equal ids are found alike
equal_ids : (id own : List ℕ) → is_at (slice_cmp nat_cmp id) own ≡ true → id ≡ own
equal_ids id own is = (bytes_decides id own).0 (sym (is_eq-slice_cmp id own) ∙ is)

-- an id with no list of numbers, of those after one, has no live document
abbrev AreCovered : List Operation → Option (List ℕ) → List (List ℕ × BTreeSet ℕ) → Type 0
AreCovered ops from es = (id : List ℕ) → lookup (is_at (slice_cmp nat_cmp id)) es ≡ None → IsAfter from id → live ops id ≡ None

covered-rest : (ops : List Operation) (from : Option (List ℕ)) (e : List ℕ × BTreeSet ℕ) (es : List (List ℕ × BTreeSet ℕ)) → AreCovered ops from (e ∷ es) → (IsAfter from e.0 → live ops e.0 ≡ None) → AreCovered ops from es
covered-rest ops from e es covers first id none after = by (is_at (slice_cmp nat_cmp id) e.0) refl
  where
    by : (b : Bool) → is_at (slice_cmp nat_cmp id) e.0 ≡ b → live ops id ≡ None
    by true is = let same : e.0 ≡ id = sym (equal_ids id e.0 is) in subst (λ q. live ops q ≡ None) same (first (subst (IsAfter from) (sym same) after))
    by false is = covers id (lookup_tail (is_at (slice_cmp nat_cmp id)) e es is ∙ none) after

-- the first of the ids after one is the least that has a live document
pub next-live : (ops : List Operation) (from : Option (List ℕ)) (p : List ℕ → Bool) → ((id : List ℕ) → p id ≡ true → IsAfter from id) → ((id : List ℕ) → IsAfter from id → p id ≡ true)
    → (es : List (List ℕ × BTreeSet ℕ)) → IsStrictlySortedBy (slice_cmp nat_cmp) (keys_of es) → AreCovered ops from es → IsNextLive ops from (first_live ops (keys_of (filter (λ e. p e.0) es)))
next-live ops from p passed back [] sorted covers = λ id after. covers id refl after
next-live ops from p passed back (e ∷ es) sorted covers =
    (elim (p e.0) as (λ b. p e.0 ≡ b → IsNextLive ops from (first_live ops (keys_of (if b then e ∷ filter (λ e. p e.0) es else filter (λ e. p e.0) es)))) [
      | true ↦ λ is.
          (elim (live ops e.0) as (λ o. live ops e.0 ≡ o → IsNextLive ops from (option_or o (first_live ops (keys_of (filter (λ e. p e.0) es))))) [
            | None ↦ λ none. next-live ops from p passed back es (sorted_tail (slice_cmp nat_cmp) e.0 (keys_of es) sorted) (covered-rest ops from e es covers (λ after. none))
            | Some op ↦ λ some. record {
              id = e.0;
              about = live-about ops e.0 op some;
              is_live = some;
              after = passed e.0 is;
              least = λ other after less. covers other (lookup-none (is_at (slice_cmp nat_cmp other)) (e ∷ es) (none_below_head nat_list_cmp_total other e es sorted less)) after;
            }
          ]) refl
      | false ↦ λ is.
          next-live ops from p passed back es (sorted_tail (slice_cmp nat_cmp) e.0 (keys_of es) sorted)
          (covered-rest ops from e es covers (λ after. absurd (let both : false ≡ true = sym is ∙ back e.0 after in cc)))
    ]) refl

-- ---- the range after an id

filter-same : (p q : List ℕ → Bool) → ((id : List ℕ) → p id ≡ q id) → (es : List (List ℕ × BTreeSet ℕ)) → filter (λ e. p e.0) es ≡ filter (λ e. q e.0) es
filter-same p q same [] = refl
filter-same p q same (e ∷ es) = let here : p e.0 ≡ q e.0 = same e.0 in rw here (ap (λ (xs : List (List ℕ × BTreeSet ℕ)). if q e.0 then e ∷ xs else xs) (filter-same p q same es))

lt_less : (o : Ordering) → (is_lt o && true) ≡ true → o ≡ Less
lt_less Less is = refl
lt_less Equal is = cc
lt_less Greater is = cc

-- what is found first in a part of the map
pub next-from : (f : ℕ → Option Operation) (parts : List (List ℕ)) (more : List ℕ) (ids part : List (List ℕ × BTreeSet ℕ)) (from : List ℕ) → IsListed f ids → IsStrictlySortedBy (slice_cmp nat_cmp) (keys_of ids)
    → part ≡ filter (λ e. range_contains (slice_cmp nat_cmp) (Excluded from) Unbounded e.0) ids
    → IsNextLive (held (store_of f parts more)) (Some from) (first_live (held (store_of f parts more)) (keys_of part))
next-from f parts more ids part from lists sorted is =
    subst (λ (es : List (List ℕ × BTreeSet ℕ)). IsNextLive (held (store_of f parts more)) (Some from) (first_live (held (store_of f parts more)) (keys_of es))) (sym is)
    (next-live (held (store_of f parts more)) (Some from) (range_contains (slice_cmp nat_cmp) (Excluded from) Unbounded)
    (λ id in_range. lt_less (slice_cmp nat_cmp from id) in_range) (λ id after. ap (λ (o : Ordering). is_lt o && true) after) ids sorted (λ id none after. covered f parts more ids lists id none))

pub next-first : (f : ℕ → Option Operation) (parts : List (List ℕ)) (more : List ℕ) (ids part : List (List ℕ × BTreeSet ℕ)) → IsListed f ids → IsStrictlySortedBy (slice_cmp nat_cmp) (keys_of ids)
    → part ≡ filter (λ e. range_contains (slice_cmp nat_cmp) Unbounded Unbounded e.0) ids
    → IsNextLive (held (store_of f parts more)) None (first_live (held (store_of f parts more)) (keys_of part))
next-first f parts more ids part lists sorted is =
    subst (λ (es : List (List ℕ × BTreeSet ℕ)). IsNextLive (held (store_of f parts more)) None (first_live (held (store_of f parts more)) (keys_of es))) (sym is)
    (next-live (held (store_of f parts more)) None (range_contains (slice_cmp nat_cmp) Unbounded Unbounded)
    (λ id in_range. tt) (λ id after. refl) ids sorted (λ id none after. covered f parts more ids lists id none))
