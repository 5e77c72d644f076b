-- A merge of lists of numbers is a merge of the store that they stand for.
use Rattle.std.proofs.Common.{◌≡◌, ℕ, ◌<◌, ◌≤◌, ◌+◌, ◌^◌, ◌==◌, suc, Bool, true, false, not, cond, if◌then◌else◌, Option, Some, None, is_some, List, [], ◌∷◌, ◌++◌, length, take, drop, refl, sym, ◌∙◌, ap, subst, arith}
use Rattle.std.specs.Prelude.{filter}
use Rattle.std.specs.List.{enumerate_from, take_while, prefix_len, AllByRecursion}
use Rattle.std.specs.Option.{option_map, option_map_or}
use Rattle.std.specs.BTreeSet.{BTreeSet}
use Rattle.std.proofs.lemmas.Bool.Decides.{nat_tests}
use Rattle.std.proofs.lemmas.List.{map-append}
use Rattle.ccr_op.specs.Operation.{Operation}
use Rattle.ccr_model.specs.Operations.{ascending, has_number, size_of}
use Rattle.ccr_model.specs.Stores.{Store, held, one_part, is_picked, picked_ops, merge_drops, dropped, is_among, parts_at, joined, merged}
use Rattle.ccr_store.specs.Kept.{ops_of, parts_of, numbers_of, store_of, one, times, IsFiled, IsWithout, picked_numbers, with_keys, part_if_any, joined_numbers, is_pick, lists_of, kept_at, bytes_of, closed_if_any, joined_parts, Closed, Ascend, IsClosed, IsKept, IsIndexed}
use Rattle.ccr_store.proofs.Filing.{times-append, all_numbers, AreThere, some_is, held-is}
use Rattle.ccr_segment.specs.Segment.{spelling as segment_of_ops}
use Rattle.ccr_law_base.proofs.Lists.{All-append}
use Rattle.ccr_store.proofs.Lengths.{segment-length, bytes-fewer, size_in, part-alike, ascend-filter}
use Rattle.ccr_store.proofs.Changes.{has-held, indexed-kept}
use Rattle.ccr_store.proofs.Joining.{there-in, times-with_keys, ops-with_keys, picked-numbers, other_numbers, times-split, times-joined, stays, goes, ops-unaffected, ops-left, ops-without, times-left}

abbrev others : List ℕ → ℕ × List Operation → Bool
others picks at = not (is_picked picks at)

-- the parts, where those at the picked places are one of these operations
abbrev joined_with : List ℕ → List Operation → List (ℕ × List Operation) → List (List Operation)
joined_with picks ops placed =
    parts_at (take_while (λ at. not (is_picked picks at)) placed) ++ one_part ops
    ++ parts_at (filter (λ at. not (is_picked picks at)) (drop (length (take_while (λ at. not (is_picked picks at)) placed)) placed))

while-more : {X : Type 0} (test : X → Bool) (x : X) (xs : List X) → test x ≡ true → take_while test (x ∷ xs) ≡ x ∷ take_while test xs
while-more test x xs passes =
    ap (λ b. take (cond b (1 + prefix_len test xs) 0) (x ∷ xs)) passes ∙ ap (λ k. take k (x ∷ xs)) (one_more (prefix_len test xs))
  where
    one_more : (k : ℕ) → 1 + k ≡ suc k
    one_more k = omega arith

while-none : {X : Type 0} (test : X → Bool) (x : X) (xs : List X) → test x ≡ false → take_while test (x ∷ xs) ≡ []
while-none test x xs fails = ap (λ b. take (cond b (1 + prefix_len test xs) 0) (x ∷ xs)) fails

joined_with-passed : (picks : List ℕ) (ops : List Operation) (at : ℕ × List Operation) (placed : List (ℕ × List Operation)) → is_picked picks at ≡ false → joined_with picks ops (at ∷ placed) ≡ at.1 ∷ joined_with picks ops placed
joined_with-passed picks ops at placed out =
    let passes : not (is_picked picks at) ≡ true = ap not out in
    ap (λ (front : List (ℕ × List Operation)). parts_at front ++ one_part ops ++ parts_at (filter (λ at. not (is_picked picks at)) (drop (length front) (at ∷ placed))))
    (while-more (λ at. not (is_picked picks at)) at placed passes)

joined_with-picked : (picks : List ℕ) (ops : List Operation) (at : ℕ × List Operation) (placed : List (ℕ × List Operation)) → is_picked picks at ≡ true
    → joined_with picks ops (at ∷ placed) ≡ one_part ops ++ parts_at (filter (λ at. not (is_picked picks at)) placed)
joined_with-picked picks ops at placed is =
    let fails : not (is_picked picks at) ≡ false = ap not is in
    ap (λ (front : List (ℕ × List Operation)). parts_at front ++ one_part ops ++ parts_at (filter (λ at. not (is_picked picks at)) (drop (length front) (at ∷ placed))))
    (while-none (λ at. not (is_picked picks at)) at placed fails)
    ∙ ap (λ b. one_part ops ++ parts_at (cond b (at ∷ filter (λ at. not (is_picked picks at)) placed) (filter (λ at. not (is_picked picks at)) placed))) fails

-- ---- the parts that a merge makes

view-none : (drops : List ℕ) (f g : ℕ → Option Operation) (test : ℕ → Bool) (picks : List ℕ) → IsWithout drops f g → ((place : ℕ) → test place ≡ is_pick picks place) → (place : ℕ) (parts : List (List ℕ))
    → ((q : ℕ) → is_among drops q ≡ true → times q (other_numbers test place parts) ≡ 0)
    → parts_of g (joined_numbers test place None parts) ≡ parts_at (filter (λ at. not (is_picked picks at)) (enumerate_from place (parts_of f parts)))
view-none drops f g test picks without same place [] apart = refl
view-none drops f g test picks without same place (part ∷ parts) apart =
    (elim (test place) as (λ b. test place ≡ b → ((q : ℕ) → is_among drops q ≡ true → times q (if b then other_numbers test (place + 1) parts else part ++ other_numbers test (place + 1) parts) ≡ 0)
    → parts_of g (if b then [] ++ joined_numbers test (place + 1) None parts else part ∷ joined_numbers test (place + 1) None parts)
    ≡ parts_at (cond (not (is_pick picks place)) ((place, ops_of f part) ∷ filter (λ at. not (is_picked picks at)) (enumerate_from (place + 1) (parts_of f parts))) (filter (λ at. not (is_picked picks at)) (enumerate_from (place + 1) (parts_of f parts))))) [
      | true ↦ λ is far.
          let out : not (is_pick picks place) ≡ false = ap not (sym (same place) ∙ is) in
          rw out (view-none drops f g test picks without same (place + 1) parts far)
      | false ↦ λ is far.
          let in_it : not (is_pick picks place) ≡ true = ap not (sym (same place) ∙ is) in
          let own : ops_of g part ≡ ops_of f part = ops-unaffected drops f g without part
          (λ q among. let both : times q (part ++ other_numbers test (place + 1) parts) ≡ times q part + times q (other_numbers test (place + 1) parts) = times-append q part (other_numbers test (place + 1) parts) in let none : times q (part ++ other_numbers test (place + 1) parts) ≡ 0 = far q among in omega arith) in
          let rest : parts_of g (joined_numbers test (place + 1) None parts) ≡ parts_at (filter (λ at. not (is_picked picks at)) (enumerate_from (place + 1) (parts_of f parts))) =
          view-none drops f g test picks without same (place + 1) parts
          (λ q among. let both : times q (part ++ other_numbers test (place + 1) parts) ≡ times q part + times q (other_numbers test (place + 1) parts) = times-append q part (other_numbers test (place + 1) parts) in let none : times q (part ++ other_numbers test (place + 1) parts) ≡ 0 = far q among in omega arith) in
          rw (in_it, own, rest) refl
    ]) refl apart

part-if_any : (g : ℕ → Option Operation) (left : List ℕ) → AreThere g left → parts_of g (part_if_any (Some left)) ≡ one_part (ops_of g left)
part-if_any g [] there = refl
part-if_any g (n ∷ left) there = let first : (op : Operation) × (g n ≡ Some op) = some_is (g n) there.0 in rw first.1 refl

view-joined : (drops : List ℕ) (f g : ℕ → Option Operation) (test : ℕ → Bool) (picks left : List ℕ) (ops : List Operation) → IsWithout drops f g → ((place : ℕ) → test place ≡ is_pick picks place)
    → AreThere g left → ops_of g left ≡ ops → (place : ℕ) (parts : List (List ℕ)) → (picked_numbers test place parts ≡ [] → left ≡ []) → ((q : ℕ) → is_among drops q ≡ true → times q (other_numbers test place parts) ≡ 0)
    → parts_of g (joined_numbers test place (Some left) parts) ≡ joined_with picks ops (enumerate_from place (parts_of f parts))
view-joined drops f g test picks left ops without same there are place [] empty apart =
    let none : ops ≡ [] = sym are ∙ ap (ops_of g) (empty refl) in
    rw none refl
view-joined drops f g test picks left ops without same there are place (part ∷ parts) empty apart =
    (elim (test place) as (λ b. test place ≡ b → ((if b then part ++ picked_numbers test (place + 1) parts else picked_numbers test (place + 1) parts) ≡ [] → left ≡ [])
    → ((q : ℕ) → is_among drops q ≡ true → times q (if b then other_numbers test (place + 1) parts else part ++ other_numbers test (place + 1) parts) ≡ 0)
    → parts_of g (if b then part_if_any (Some left) ++ joined_numbers test (place + 1) None parts else part ∷ joined_numbers test (place + 1) (Some left) parts)
    ≡ joined_with picks ops ((place, ops_of f part) ∷ enumerate_from (place + 1) (parts_of f parts))) [
      | true ↦ λ is none far.
          let picked : is_picked picks (place, ops_of f part) ≡ true = sym (same place) ∙ is in
          map-append {A = List ℕ} {B = List Operation} (ops_of g) (part_if_any (Some left)) (joined_numbers test (place + 1) None parts)
          ∙ (ap (λ (ps : List (List Operation)). ps ++ parts_of g (joined_numbers test (place + 1) None parts)) (part-if_any g left there ∙ ap one_part are)
          ∙ (ap (λ (ps : List (List Operation)). one_part ops ++ ps) (view-none drops f g test picks without same (place + 1) parts far)
          ∙ sym (joined_with-picked picks ops (place, ops_of f part) (enumerate_from (place + 1) (parts_of f parts)) picked)))
      | false ↦ λ is none far.
          let passed : is_picked picks (place, ops_of f part) ≡ false = sym (same place) ∙ is in
          let own : ops_of g part ≡ ops_of f part = ops-unaffected drops f g without part
          (λ q among. let both : times q (part ++ other_numbers test (place + 1) parts) ≡ times q part + times q (other_numbers test (place + 1) parts) = times-append q part (other_numbers test (place + 1) parts) in let zero_is : times q (part ++ other_numbers test (place + 1) parts) ≡ 0 = far q among in omega arith) in
          let rest : parts_of g (joined_numbers test (place + 1) (Some left) parts) ≡ joined_with picks ops (enumerate_from (place + 1) (parts_of f parts)) =
          view-joined drops f g test picks left ops without same there are (place + 1) parts none
          (λ q among. let both : times q (part ++ other_numbers test (place + 1) parts) ≡ times q part + times q (other_numbers test (place + 1) parts) = times-append q part (other_numbers test (place + 1) parts) in let zero_is : times q (part ++ other_numbers test (place + 1) parts) ≡ 0 = far q among in omega arith) in
          ap (λ (xs : List Operation). xs ∷ parts_of g (joined_numbers test (place + 1) (Some left) parts)) own
          ∙ (ap (λ (ps : List (List Operation)). ops_of f part ∷ ps) rest
          ∙ sym (joined_with-passed picks ops (place, ops_of f part) (enumerate_from (place + 1) (parts_of f parts)) passed))
    ]) refl empty apart

-- ---- a merge

-- the picked numbers, in ascending order
abbrev pub all_picked : (ℕ → Bool) → List (List ℕ) → List ℕ
all_picked test parts = with_keys [] (picked_numbers test 0 parts)

le_one : (b : Bool) → one b ≤ 1
le_one true = omega arith
le_one false = omega arith

is_one : (b : Bool) → 1 ≤ one b → b ≡ true
is_one true le = refl
is_one false le = absurd (omega arith)

-- how often a number stands
record Counts (f : ℕ → Option Operation) (test : ℕ → Bool) (parts : List (List ℕ)) (more : List ℕ) (q : ℕ) : Type 0 where
  total : times q (picked_numbers test 0 parts) + times q (other_numbers test 0 parts) + times q more ≡ one (is_some (f q))
  most : one (is_some (f q)) ≤ 1

counts : (f : ℕ → Option Operation) (test : ℕ → Bool) (parts : List (List ℕ)) (more : List ℕ) → IsFiled f parts more → (q : ℕ) → Counts f test parts more q
counts f test parts more filed q =
    let whole : times q (numbers_of parts more) ≡ times q (all_numbers parts) + times q more = times-append q (all_numbers parts) more in
    let split : times q (all_numbers parts) ≡ times q (picked_numbers test 0 parts) + times q (other_numbers test 0 parts) = times-split q test 0 parts in
    let once : times q (numbers_of parts more) ≡ one (is_some (f q)) = filed.once q in
    record { total = omega arith; most = le_one (is_some (f q)) }

picked_once : (f : ℕ → Option Operation) (test : ℕ → Bool) (parts : List (List ℕ)) (more : List ℕ) → IsFiled f parts more → (q : ℕ) → times q (picked_numbers test 0 parts) + 0 ≤ 1
picked_once f test parts more filed q = let c : Counts f test parts more q = counts f test parts more filed q in let total : times q (picked_numbers test 0 parts) + times q (other_numbers test 0 parts) + times q more ≡ one (is_some (f q)) = c.total in let most : one (is_some (f q)) ≤ 1 = c.most in omega arith

times-all : (f : ℕ → Option Operation) (test : ℕ → Bool) (parts : List (List ℕ)) (more : List ℕ) → IsFiled f parts more → (q : ℕ) → times q (all_picked test parts) ≡ times q (picked_numbers test 0 parts)
times-all f test parts more filed q = times-with_keys q (picked_numbers test 0 parts) [] (picked_once f test parts more filed) ∙ omega arith

pub all-once : (f : ℕ → Option Operation) (test : ℕ → Bool) (parts : List (List ℕ)) (more : List ℕ) → IsFiled f parts more → (q : ℕ) → times q (all_picked test parts) ≤ 1
all-once f test parts more filed q =
    let same : times q (all_picked test parts) ≡ times q (picked_numbers test 0 parts) = times-all f test parts more filed q in
    let le : times q (picked_numbers test 0 parts) + 0 ≤ 1 = picked_once f test parts more filed q in
    omega arith

pub picked-are : (f : ℕ → Option Operation) (test : ℕ → Bool) (picks : List ℕ) (parts : List (List ℕ)) (more : List ℕ) → IsFiled f parts more → ((place : ℕ) → test place ≡ is_pick picks place)
    → picked_ops picks (parts_of f parts) ≡ ops_of f (all_picked test parts)
picked-are f test picks parts more filed same =
    ap ascending (picked-numbers f test picks same 0 parts)
    ∙ sym (ops-with_keys f filed.own (picked_numbers test 0 parts) [] there (picked_once f test parts more filed))
  where
    there : (k : ℕ) → 1 ≤ times k (picked_numbers test 0 parts) + 0 → is_some (f k) ≡ true
    there k le = let c : Counts f test parts more k = counts f test parts more filed k in let total : times k (picked_numbers test 0 parts) + times k (other_numbers test 0 parts) + times k more ≡ one (is_some (f k)) = c.total in is_one (is_some (f k)) (omega arith)

pub drops-are : (f : ℕ → Option Operation) (test : ℕ → Bool) (picks : List ℕ) (bound count : ℕ) (parts : List (List ℕ)) (more drops : List ℕ) → IsFiled f parts more → ((place : ℕ) → test place ≡ is_pick picks place)
    → drops ≡ dropped bound count (ops_of f (numbers_of parts more)) (ops_of f (all_picked test parts)) → drops ≡ merge_drops picks bound count (store_of f parts more)
drops-are f test picks bound count parts more drops filed same went =
    went
    ∙ (ap (λ (xs : List Operation). dropped bound count xs (ops_of f (all_picked test parts))) (sym (held-is f parts more))
    ∙ ap (dropped bound count (held (store_of f parts more))) (sym (picked-are f test picks parts more filed same)))

apart_others : (f : ℕ → Option Operation) (test : ℕ → Bool) (parts : List (List ℕ)) (more drops : List ℕ) → IsFiled f parts more → ((q : ℕ) → is_among drops q ≡ true → 1 ≤ times q (all_picked test parts))
    → (q : ℕ) → is_among drops q ≡ true → (times q (other_numbers test 0 parts) ≡ 0) × (times q more ≡ 0)
apart_others f test parts more drops filed among q is =
    let c : Counts f test parts more q = counts f test parts more filed q in
    let total : times q (picked_numbers test 0 parts) + times q (other_numbers test 0 parts) + times q more ≡ one (is_some (f q)) = c.total in
    let most : one (is_some (f q)) ≤ 1 = c.most in
    let some : 1 ≤ times q (all_picked test parts) = among q is in
    let same : times q (all_picked test parts) ≡ times q (picked_numbers test 0 parts) = times-all f test parts more filed q in
    (omega arith, omega arith)

abbrev pub left_of : (ℕ → Option Operation) → (ℕ → Bool) → List (List ℕ) → List ℕ
left_of g test parts = filter (λ n. is_some (g n)) (all_picked test parts)

left_empty : (g : ℕ → Option Operation) (test : ℕ → Bool) (parts : List (List ℕ)) → picked_numbers test 0 parts ≡ [] → left_of g test parts ≡ []
left_empty g test parts none = ap (λ (ns : List ℕ). filter (λ n. is_some (g n)) (with_keys [] ns)) none

pub store-merged : (f g : ℕ → Option Operation) (test : ℕ → Bool) (picks : List ℕ) (bound count : ℕ) (parts : List (List ℕ)) (more drops : List ℕ) → IsFiled f parts more
    → ((place : ℕ) → test place ≡ is_pick picks place) → IsWithout drops f g → ((q : ℕ) → is_among drops q ≡ true → 1 ≤ times q (all_picked test parts))
    → drops ≡ dropped bound count (ops_of f (numbers_of parts more)) (ops_of f (all_picked test parts))
    → store_of g (joined_numbers test 0 (Some (left_of g test parts)) parts) more ≡ merged picks bound count (store_of f parts more)
store-merged f g test picks bound count parts more drops filed same without among went =
    let far : (q : ℕ) → is_among drops q ≡ true → (times q (other_numbers test 0 parts) ≡ 0) × (times q more ≡ 0) = apart_others f test parts more drops filed among in
    let last : ops_of g more ≡ ops_of f more = ops-unaffected drops f g without more (λ q is. (far q is).1) in
    let are : ops_of g (left_of g test parts) ≡ filter (λ op. not (is_among drops op.seq)) (picked_ops picks (parts_of f parts)) =
    ops-left g (all_picked test parts)
    ∙ (ops-without drops f g without filed.own (all_picked test parts) ∙ ap (filter (λ op. not (is_among drops op.seq))) (sym (picked-are f test picks parts more filed same))) in
    let closed : parts_of g (joined_numbers test 0 (Some (left_of g test parts)) parts) ≡ joined picks drops (parts_of f parts) =
    view-joined drops f g test picks (left_of g test parts) (filter (λ op. not (is_among drops op.seq)) (picked_ops picks (parts_of f parts))) without same
    (there-in g (left_of g test parts) there) are 0 parts (left_empty g test parts) (λ q is. (far q is).0) in
    both (parts_of g (joined_numbers test 0 (Some (left_of g test parts)) parts)) (joined picks (merge_drops picks bound count (store_of f parts more)) (parts_of f parts)) (ops_of g more) (ops_of f more)
    (closed ∙ ap (λ (ns : List ℕ). joined picks ns (parts_of f parts)) (drops-are f test picks bound count parts more drops filed same went)) last
  where
    there : (n : ℕ) → 1 ≤ times n (left_of g test parts) → is_some (g n) ≡ true
    there n le =
        (elim (is_some (g n)) as (λ b. times n (left_of g test parts) ≡ (if b then times n (all_picked test parts) else 0) → b ≡ true) [
          | true ↦ λ is. refl
          | false ↦ λ is. absurd (omega arith)
        ]) (times-left n g (all_picked test parts))

    both : (a b : List (List Operation)) (c d : List Operation) → a ≡ b → c ≡ d → ◌≡◌ {A = Store} record { parts = a; open_part = c } record { parts = b; open_part = d }
    both a b c d p q = ap (λ (x : List (List Operation)). record { parts = x; open_part = c }) p ∙ ap (λ (y : List Operation). record { parts = b; open_part = y }) q

pub filed-merged : (f g : ℕ → Option Operation) (test : ℕ → Bool) (parts : List (List ℕ)) (more drops : List ℕ) → IsFiled f parts more → IsWithout drops f g
    → ((q : ℕ) → is_among drops q ≡ true → 1 ≤ times q (all_picked test parts)) → IsFiled g (joined_numbers test 0 (Some (left_of g test parts)) parts) more
filed-merged f g test parts more drops filed without among = record { own = own; once = once }
  where
    own : (n : ℕ) (op : Operation) → g n ≡ Some op → op.seq ≡ n
    own n op is =
        (elim (is_among drops n) as (λ b. is_among drops n ≡ b → op.seq ≡ n) [
          | true ↦ λ there. let gone : g n ≡ None = goes drops f g n without there in cc
          | false ↦ λ out. filed.own n op (sym (stays drops f g n without out) ∙ is)
        ]) refl

    once : (q : ℕ) → times q (numbers_of (joined_numbers test 0 (Some (left_of g test parts)) parts) more) ≡ one (is_some (g q))
    once q =
        let c : Counts f test parts more q = counts f test parts more filed q in
        let total : times q (picked_numbers test 0 parts) + times q (other_numbers test 0 parts) + times q more ≡ one (is_some (f q)) = c.total in
        let whole : times q (numbers_of (joined_numbers test 0 (Some (left_of g test parts)) parts) more) ≡ times q (all_numbers (joined_numbers test 0 (Some (left_of g test parts)) parts)) + times q more =
        times-append q (all_numbers (joined_numbers test 0 (Some (left_of g test parts)) parts)) more in
        let split : times q (all_numbers (joined_numbers test 0 (Some (left_of g test parts)) parts)) ≡ times q (left_of g test parts) + times q (other_numbers test 0 parts) =
        times-joined q test (left_of g test parts) 0 parts (left_empty g test parts) in
        let same : times q (all_picked test parts) ≡ times q (picked_numbers test 0 parts) = times-all f test parts more filed q in
        let left : times q (left_of g test parts) ≡ (if is_some (g q) then times q (all_picked test parts) else 0) = times-left q g (all_picked test parts) in
        (elim (is_among drops q) as (λ b. is_among drops q ≡ b → times q (numbers_of (joined_numbers test 0 (Some (left_of g test parts)) parts) more) ≡ one (is_some (g q))) [
          | true ↦ λ there.
              let gone : g q ≡ None = goes drops f g q without there in
              let none : one (is_some (g q)) ≡ 0 = ap (λ (o : Option Operation). one (is_some o)) gone in
              let nothing : times q (left_of g test parts) ≡ 0 = left ∙ ap (λ (o : Option Operation). if is_some o then times q (all_picked test parts) else 0) gone in
              let far : (times q (other_numbers test 0 parts) ≡ 0) × (times q more ≡ 0) = apart_others f test parts more drops filed among q there in
              let far_others : times q (other_numbers test 0 parts) ≡ 0 = far.0 in
              let far_more : times q more ≡ 0 = far.1 in
              omega arith
          | false ↦ λ out.
              let as_before : one (is_some (g q)) ≡ one (is_some (f q)) = ap (λ (o : Option Operation). one (is_some o)) (stays drops f g q without out) in
              (elim (is_some (g q)) as (λ b. is_some (g q) ≡ b → times q (left_of g test parts) ≡ (if b then times q (all_picked test parts) else 0)
              → times q (numbers_of (joined_numbers test 0 (Some (left_of g test parts)) parts) more) ≡ one (is_some (g q))) [
                | true ↦ λ is kept. omega arith
                | false ↦ λ is kept. let none : one (is_some (g q)) ≡ 0 = ap one is in omega arith
              ]) refl left
        ]) refl

-- what a merge reads and what it makes, by the lists that its calls give
pub all-read : (test : ℕ → Bool) (slice parts : List (List ℕ)) (keys all items : List ℕ) → slice ≡ parts → keys ≡ with_keys [] (picked_numbers test 0 slice) → all ≡ keys → items ≡ all → items ≡ all_picked test parts
all-read test slice parts keys all items read gathered listed_all sliced = sliced ∙ (listed_all ∙ (gathered ∙ ap (all_picked test) read))

-- what is held after a merge was held before it
pub fewer-held : (f g : ℕ → Option Operation) (parts made : List (List ℕ)) (more drops : List ℕ) → IsFiled f parts more → IsFiled g made more → IsWithout drops f g
    → (n : ℕ) → has_number (held (store_of g made more)) n ≡ true → has_number (held (store_of f parts more)) n ≡ true
fewer-held f g parts made more drops filed after without n there =
    has-held f n parts more filed
    ∙ (elim (is_among drops n) as (λ b. is_among drops n ≡ b → is_some (f n) ≡ true) [
      | true ↦ λ among. let gone : is_some (g n) ≡ false = ap (λ (o : Option Operation). is_some o) (goes drops f g n without among) in let still : is_some (g n) ≡ true = sym (has-held g n made more after) ∙ there in cc
      | false ↦ λ out. ap (λ (o : Option Operation). is_some o) (sym (stays drops f g n without out)) ∙ (sym (has-held g n made more after) ∙ there)
    ]) refl

-- ---- closed parts

lists-if_any : (left : Option Closed) (rest : List Closed) → lists_of (closed_if_any left ++ rest) ≡ part_if_any (option_map (λ (part : Closed). part.numbers) left) ++ lists_of rest
lists-if_any None rest = refl
lists-if_any (Some part) rest = by part.numbers refl
  where
    by : (ns : List ℕ) → part.numbers ≡ ns → lists_of ((if length part.numbers == 0 then [] else part ∷ []) ++ rest) ≡ part_if_any (Some part.numbers) ++ lists_of rest
    by [] is = rw is refl
    by (n ∷ ns) is = let more : (suc (length ns) == 0) ≡ false = grind (arith, nat_tests) in let some : (length part.numbers == 0) ≡ false = ap (λ (ks : List ℕ). length ks == 0) is ∙ more in ap (λ (b : Bool). lists_of ((if b then [] else part ∷ []) ++ rest)) some ∙ (ap (λ (ks : List ℕ). ks ∷ lists_of rest) is ∙ ap (λ (ks : List ℕ). part_if_any (Some ks) ++ lists_of rest) (sym is))

pub lists-joined : (test : ℕ → Bool) (place : ℕ) (left : Option Closed) (parts : List Closed) → lists_of (joined_parts test place left parts) ≡ joined_numbers test place (option_map (λ (part : Closed). part.numbers) left) (lists_of parts)
lists-joined test place left [] = refl
lists-joined test place left (part ∷ parts) =
    (elim (test place) as (λ b. lists_of (if b then closed_if_any left ++ joined_parts test (place + 1) None parts else part ∷ joined_parts test (place + 1) left parts)
    ≡ (if b then part_if_any (option_map (λ (part : Closed). part.numbers) left) ++ joined_numbers test (place + 1) None (lists_of parts) else part.numbers ∷ joined_numbers test (place + 1) (option_map (λ (part : Closed). part.numbers) left) (lists_of parts))) [
      | true ↦ lists-if_any left (joined_parts test (place + 1) None parts) ∙ ap (λ (ps : List (List ℕ)). part_if_any (option_map (λ (part : Closed). part.numbers) left) ++ ps) (lists-joined test (place + 1) None parts)
      | false ↦ ap (λ (ps : List (List ℕ)). part.numbers ∷ ps) (lists-joined test (place + 1) left parts)
    ])

closed-if_any : (g : ℕ → Option Operation) (part : Closed) → IsClosed g part → AllByRecursion (IsClosed g) (closed_if_any (Some part))
closed-if_any g part closed = (elim (length part.numbers == 0) as (λ b. AllByRecursion (IsClosed g) (if b then [] else part ∷ [])) [ true ↦ tt | false ↦ (closed, tt) ])

closed-joined : (f g : ℕ → Option Operation) (test : ℕ → Bool) (place : ℕ) (left : Option Closed) (parts : List Closed) → AllByRecursion (IsClosed g) (closed_if_any left) → AllByRecursion (IsClosed f) parts
    → ((q : ℕ) → 1 ≤ times q (other_numbers test place (lists_of parts)) → g q ≡ f q) → AllByRecursion (IsClosed g) (joined_parts test place left parts)
closed-joined f g test place left [] made all same = tt
closed-joined f g test place left (part ∷ parts) made all same =
    (elim (test place) as (λ b. ((q : ℕ) → 1 ≤ times q (if b then other_numbers test (place + 1) (lists_of parts) else part.numbers ++ other_numbers test (place + 1) (lists_of parts)) → g q ≡ f q)
    → AllByRecursion (IsClosed g) (if b then closed_if_any left ++ joined_parts test (place + 1) None parts else part ∷ joined_parts test (place + 1) left parts)) [
      | true ↦ λ alike. All-append (IsClosed g) (closed_if_any left) (joined_parts test (place + 1) None parts) made (closed-joined f g test (place + 1) None parts tt all.1 alike)
      | false ↦ λ alike. (part-alike f g part all.0 (λ q le. alike q (first q le)), closed-joined f g test (place + 1) left parts made all.1 (λ q le. alike q (later q le)))
    ]) same
  where
    first : (q : ℕ) → 1 ≤ times q part.numbers → 1 ≤ times q (part.numbers ++ other_numbers test (place + 1) (lists_of parts))
    first q le = let both : times q (part.numbers ++ other_numbers test (place + 1) (lists_of parts)) ≡ times q part.numbers + times q (other_numbers test (place + 1) (lists_of parts)) = times-append q part.numbers (other_numbers test (place + 1) (lists_of parts)) in omega arith

    later : (q : ℕ) → 1 ≤ times q (other_numbers test (place + 1) (lists_of parts)) → 1 ≤ times q (part.numbers ++ other_numbers test (place + 1) (lists_of parts))
    later q le = let both : times q (part.numbers ++ other_numbers test (place + 1) (lists_of parts)) ≡ times q part.numbers + times q (other_numbers test (place + 1) (lists_of parts)) = times-append q part.numbers (other_numbers test (place + 1) (lists_of parts)) in omega arith

pub closed-merged : (f g : ℕ → Option Operation) (test : ℕ → Bool) (left : Closed) (parts : List Closed) (more drops : List ℕ) → IsFiled f (lists_of parts) more → IsWithout drops f g
    → ((q : ℕ) → is_among drops q ≡ true → 1 ≤ times q (all_picked test (lists_of parts))) → AllByRecursion (IsClosed f) parts → IsClosed g left → AllByRecursion (IsClosed g) (joined_parts test 0 (Some left) parts)
closed-merged f g test left parts more drops filed without among all closed = closed-joined f g test 0 (Some left) parts (closed-if_any g left closed) all alike
  where
    alike : (q : ℕ) → 1 ≤ times q (other_numbers test 0 (lists_of parts)) → g q ≡ f q
    alike q le =
        (elim (is_among drops q) as (λ b. is_among drops q ≡ b → g q ≡ f q) [
          | true ↦ λ is. absurd (let none : times q (other_numbers test 0 (lists_of parts)) ≡ 0 = (apart_others f test (lists_of parts) more drops filed among q is).0 in omega arith)
          | false ↦ λ out. stays drops f g q without out
        ]) refl

-- what is left takes no more bytes than what was picked
pub left-within : (f g : ℕ → Option Operation) (drops all left : List ℕ) (most : ℕ) → IsWithout drops f g → left ≡ filter (λ n. is_some (g n)) all → most ≡ length (segment_of_ops (ops_of f all)) → most < 2 ^ 64
    → length (segment_of_ops (ops_of g left)) < 2 ^ 64
left-within f g drops all left most without is size fits =
    let same : ops_of g left ≡ ops_of g all = ap (ops_of g) is ∙ ops-left g all in
    let short : length (segment_of_ops (ops_of g left)) ≡ 9 + bytes_of (ops_of g all) = ap (λ (ops : List Operation). length (segment_of_ops ops)) same ∙ segment-length (ops_of g all) in
    let long : length (segment_of_ops (ops_of f all)) ≡ 9 + bytes_of (ops_of f all) = segment-length (ops_of f all) in
    let fewer : bytes_of (ops_of g all) ≤ bytes_of (ops_of f all) = bytes-fewer f g less all in
    omega arith
  where
    less : (q : ℕ) → size_in g q ≤ size_in f q
    less q =
        (elim (is_among drops q) as (λ b. is_among drops q ≡ b → size_in g q ≤ size_in f q) [
          | true ↦ λ is. let none : size_in g q ≡ 0 = ap (λ (o : Option Operation). option_map_or size_of o 0) (goes drops f g q without is) in omega arith
          | false ↦ λ out. let alike : size_in g q ≡ size_in f q = ap (λ (o : Option Operation). option_map_or size_of o 0) (stays drops f g q without out) in omega arith
        ]) refl

-- the parts that a merge makes, by their numbers
pub lists-made : (g : ℕ → Option Operation) (test : ℕ → Bool) (parts taken made : List Closed) (part : Closed) (left all : List ℕ) (bytes : ℕ) → taken ≡ parts → all ≡ all_picked test (lists_of parts)
    → left ≡ filter (λ n. is_some (g n)) all → part ≡ record { numbers = left; bytes = bytes } → made ≡ joined_parts test 0 (Some part) taken
    → lists_of made ≡ joined_numbers test 0 (Some (left_of g test (lists_of parts))) (lists_of parts)
lists-made g test parts taken made part left all bytes from are kept own is =
    ap lists_of is
    ∙ (lists-joined test 0 (Some part) taken
    ∙ (ap (λ (ps : List Closed). joined_numbers test 0 (Some part.numbers) (lists_of ps)) from
    ∙ ap (λ (ns : List ℕ). joined_numbers test 0 (Some ns) (lists_of parts)) (ap (λ (p : Closed). p.numbers) own ∙ (kept ∙ ap (filter (λ n. is_some (g n))) are))))

pub kept-merged : (ops new : List (ℕ × Operation)) (test : ℕ → Bool) (parts taken made : List Closed) (more : List ℕ) (ids fewer : List (List ℕ × BTreeSet ℕ)) (drops : List ℕ) (part : Closed) (left all : List ℕ)
    → IsKept ops parts more ids → IsWithout drops (kept_at ops) (kept_at new) → ((q : ℕ) → is_among drops q ≡ true → 1 ≤ times q all) → taken ≡ parts → all ≡ all_picked test (lists_of parts) → Ascend 0 all
    → left ≡ filter (λ n. is_some (kept_at new n)) all → part ≡ record { numbers = left; bytes = length (segment_of_ops (ops_of (kept_at new) left)) } → made ≡ joined_parts test 0 (Some part) taken
    → ((numbers : List ℕ) → IsIndexed (kept_at ops) numbers ids → IsIndexed (kept_at new) numbers fewer) → IsKept new made more fewer
kept-merged ops new test parts taken made more ids fewer drops part left all kept without among from are order is own joined_is indexed = record {
  filed = subst (λ (ps : List (List ℕ)). IsFiled (kept_at new) ps more) (sym (lists-made (kept_at new) test parts taken made part left all (length (segment_of_ops (ops_of (kept_at new) left))) from are is own joined_is))
      (filed-merged (kept_at ops) (kept_at new) test (lists_of parts) more drops kept.filed without among_picked);
  lists = (indexed (numbers_of (lists_of parts) more) (indexed-kept ops parts more ids kept)).lists;
  closed = subst (λ (ps : List Closed). AllByRecursion (IsClosed (kept_at new)) ps) (sym (joined_is ∙ ap (joined_parts test 0 (Some part)) from))
      (closed-merged (kept_at ops) (kept_at new) test part parts more drops kept.filed without among_picked kept.closed (subst (IsClosed (kept_at new)) (sym own) record {
        order = subst (Ascend 0) (sym is) (ascend-filter (λ n. is_some (kept_at new n)) 0 all order);
        bytes = refl;
      }));
}
  where
    among_picked : (q : ℕ) → is_among drops q ≡ true → 1 ≤ times q (all_picked test (lists_of parts))
    among_picked = subst (λ (ns : List ℕ). (q : ℕ) → is_among drops q ≡ true → 1 ≤ times q ns) are among
