-- The store that a merge makes.
use Rattle.std.proofs.Common.{◌≡◌, ℕ, ◌≤◌, ◌+◌, ◌==◌, Bool, true, false, not, cond, if◌then◌else◌, Option, Some, None, is_some, List, [], ◌∷◌, ◌++◌, refl, sym, ◌∙◌, ap, subst, arith}
use Rattle.std.specs.Prelude.{filter, flat_map}
use Rattle.std.specs.List.{cons_option, enumerate_from}
use Rattle.std.specs.Ordering.{nat_cmp}
use Rattle.std.specs.BTreeSet.{insert_key}
use Rattle.std.specs.Cmp.{unsigned_tied}
use Rattle.std.proofs.lemmas.Bool.Decides.{nat_tests}
use Rattle.std.proofs.lemmas.List.Elements.{filter_map-append}
use Rattle.ccr_op.specs.Operation.{Operation}
use Rattle.ccr_model.specs.Operations.{with_op, with_ops}
use Rattle.ccr_model.specs.Stores.{is_picked, is_among}
use Rattle.ccr_store.specs.Kept.{ops_of, parts_of, one, times, IsWithout, picked_numbers, with_keys, part_if_any, joined_numbers, is_pick}
use Rattle.ccr_store.proofs.Filing.{Puts, times-append, all_numbers, AreThere, some_is, ops-insert, times-insert}

-- ---- the picked operations in ascending number

puts_itself : (f : ℕ → Option Operation) (n : ℕ) (op : Operation) → f n ≡ Some op → Puts f f n (Some op)
puts_itself f n op is q =
    (elim (n == q) as (λ b. (n == q) ≡ b → f q ≡ cond b (Some op) (f q)) [
      | true ↦ λ same. let e : n ≡ q = grind (arith, nat_tests) in subst (λ m. f m ≡ Some op) e is
      | false ↦ λ other. refl
    ]) refl
    ∙ ap (λ b. cond b (Some op) (f q)) (sym (unsigned_tied n q))

pub there-in : (f : ℕ → Option Operation) (ns : List ℕ) → ((n : ℕ) → 1 ≤ times n ns → is_some (f n) ≡ true) → AreThere f ns
there-in f [] each = tt
there-in f (n ∷ ns) each = (each n first, there-in f ns (λ q le. each q (omega arith)))
  where
    first : 1 ≤ one (n == n) + times n ns
    first = let own : (n == n) ≡ true = grind (arith, nat_tests) in let is : one (n == n) ≡ 1 = ap one own in omega arith

one_le : (b : Bool) → one b ≤ 1
one_le true = omega arith
one_le false = omega arith

own_one : (n : ℕ) → one (n == n) ≡ 1
own_one n = let own : (n == n) ≡ true = grind (arith, nat_tests) in ap one own

pub times-with_keys : (q : ℕ) (more ns : List ℕ) → ((k : ℕ) → times k more + times k ns ≤ 1) → times q (with_keys ns more) ≡ times q more + times q ns
times-with_keys q [] ns once = omega arith
times-with_keys q (n ∷ more) ns once =
    let at : one (n == n) + times n more + times n ns ≤ 1 = once n in
    let own : one (n == n) ≡ 1 = own_one n in
    let none : times n ns ≡ 0 = omega arith in
    times-with_keys q more (insert_key nat_cmp ns n) (λ k. let grown : times k (insert_key nat_cmp ns n) ≡ one (n == k) + times k ns = times-insert k n ns none in let le : one (n == k) + times k more + times k ns ≤ 1 = once k in omega arith)
    ∙ (let grown : times q (insert_key nat_cmp ns n) ≡ one (n == q) + times q ns = times-insert q n ns none in omega arith)

pub ops-with_keys : (f : ℕ → Option Operation) → ((k : ℕ) (x : Operation) → f k ≡ Some x → x.seq ≡ k) → (more ns : List ℕ) → ((k : ℕ) → 1 ≤ times k more + times k ns → is_some (f k) ≡ true)
    → ((k : ℕ) → times k more + times k ns ≤ 1) → ops_of f (with_keys ns more) ≡ with_ops (ops_of f more) (ops_of f ns)
ops-with_keys f own [] ns there once = refl
ops-with_keys f own (n ∷ more) ns there once =
    let at : one (n == n) + times n more + times n ns ≤ 1 = once n in
    let own_is : one (n == n) ≡ 1 = own_one n in
    let none : times n ns ≡ 0 = omega arith in
    let some : (op : Operation) × (f n ≡ Some op) = some_is (f n) (there n (omega arith)) in
    let all : AreThere f ns = there-in f ns (λ q le. there q (omega arith)) in
    let placed : ops_of f (insert_key nat_cmp ns n) ≡ with_op some.0 (ops_of f ns) = ops-insert f f n some.0 (puts_itself f n some.0 some.1) (own n some.0 some.1) own ns all none in
    let rest : ops_of f (with_keys (insert_key nat_cmp ns n) more) ≡ with_ops (ops_of f more) (ops_of f (insert_key nat_cmp ns n)) =
    ops-with_keys f own more (insert_key nat_cmp ns n)
    (λ k le. let grown : times k (insert_key nat_cmp ns n) ≡ one (n == k) + times k ns = times-insert k n ns none in there k (omega arith))
    (λ k. let grown : times k (insert_key nat_cmp ns n) ≡ one (n == k) + times k ns = times-insert k n ns none in let le : one (n == k) + times k more + times k ns ≤ 1 = once k in omega arith) in
    rest ∙ (ap (with_ops (ops_of f more)) placed ∙ sym (ap (λ (o : Option Operation). with_ops (cons_option o (ops_of f more)) (ops_of f ns)) some.1))

pub picked-numbers : (f : ℕ → Option Operation) (test : ℕ → Bool) (picks : List ℕ) → ((place : ℕ) → test place ≡ is_pick picks place) → (place : ℕ) (parts : List (List ℕ))
    → flat_map {X = ℕ × List Operation} {A = Operation} (λ at. at.1) (filter (is_picked picks) (enumerate_from place (parts_of f parts))) ≡ ops_of f (picked_numbers test place parts)
picked-numbers f test picks same place [] = refl
picked-numbers f test picks same place (part ∷ parts) =
    let rest : flat_map {X = ℕ × List Operation} {A = Operation} (λ at. at.1) (filter (is_picked picks) (enumerate_from (place + 1) (parts_of f parts))) ≡ ops_of f (picked_numbers test (place + 1) parts) =
    picked-numbers f test picks same (place + 1) parts in
    (elim (test place) as (λ b. test place ≡ b
    → flat_map {X = ℕ × List Operation} {A = Operation} (λ at. at.1) (cond (is_pick picks place) ((place, ops_of f part) ∷ filter (is_picked picks) (enumerate_from (place + 1) (parts_of f parts))) (filter (is_picked picks) (enumerate_from (place + 1) (parts_of f parts))))
    ≡ ops_of f (if b then part ++ picked_numbers test (place + 1) parts else picked_numbers test (place + 1) parts)) [
      | true ↦ λ is.
          let picked : is_pick picks place ≡ true = sym (same place) ∙ is in
          rw picked (ap (λ (xs : List Operation). ops_of f part ++ xs) rest ∙ sym (filter_map-append f part (picked_numbers test (place + 1) parts)))
      | false ↦ λ is. let passed : is_pick picks place ≡ false = sym (same place) ∙ is in rw passed rest
    ]) refl

-- ---- the parts that are not picked

abbrev pub other_numbers : (ℕ → Bool) → ℕ → List (List ℕ) → List ℕ
other_numbers test place [] = []
other_numbers test place (part ∷ parts) = if test place then other_numbers test (place + 1) parts else part ++ other_numbers test (place + 1) parts

pub times-split : (q : ℕ) (test : ℕ → Bool) (place : ℕ) (parts : List (List ℕ)) → times q (all_numbers parts) ≡ times q (picked_numbers test place parts) + times q (other_numbers test place parts)
times-split q test place [] = refl
times-split q test place (part ∷ parts) =
    let rest : times q (all_numbers parts) ≡ times q (picked_numbers test (place + 1) parts) + times q (other_numbers test (place + 1) parts) = times-split q test (place + 1) parts in
    let whole : times q (part ++ all_numbers parts) ≡ times q part + times q (all_numbers parts) = times-append q part (all_numbers parts) in
    (elim (test place) as (λ b. times q (part ++ all_numbers parts)
    ≡ times q (if b then part ++ picked_numbers test (place + 1) parts else picked_numbers test (place + 1) parts) + times q (if b then other_numbers test (place + 1) parts else part ++ other_numbers test (place + 1) parts)) [
      | true ↦ let picked : times q (part ++ picked_numbers test (place + 1) parts) ≡ times q part + times q (picked_numbers test (place + 1) parts) = times-append q part (picked_numbers test (place + 1) parts) in omega arith
      | false ↦ let others : times q (part ++ other_numbers test (place + 1) parts) ≡ times q part + times q (other_numbers test (place + 1) parts) = times-append q part (other_numbers test (place + 1) parts) in omega arith
    ])

times-joined_none : (q : ℕ) (test : ℕ → Bool) (place : ℕ) (parts : List (List ℕ)) → times q (all_numbers (joined_numbers test place None parts)) ≡ times q (other_numbers test place parts)
times-joined_none q test place [] = refl
times-joined_none q test place (part ∷ parts) =
    let rest : times q (all_numbers (joined_numbers test (place + 1) None parts)) ≡ times q (other_numbers test (place + 1) parts) = times-joined_none q test (place + 1) parts in
    (elim (test place) as (λ b. times q (all_numbers (if b then [] ++ joined_numbers test (place + 1) None parts else part ∷ joined_numbers test (place + 1) None parts))
    ≡ times q (if b then other_numbers test (place + 1) parts else part ++ other_numbers test (place + 1) parts)) [
      | true ↦ rest
      | false ↦
          let one_way : times q (part ++ all_numbers (joined_numbers test (place + 1) None parts)) ≡ times q part + times q (all_numbers (joined_numbers test (place + 1) None parts)) = times-append q part (all_numbers (joined_numbers test (place + 1) None parts)) in
          let other_way : times q (part ++ other_numbers test (place + 1) parts) ≡ times q part + times q (other_numbers test (place + 1) parts) = times-append q part (other_numbers test (place + 1) parts) in
          omega arith
    ])

times-part_if_any : (q : ℕ) (left : List ℕ) (rest : List (List ℕ)) → times q (all_numbers (part_if_any (Some left) ++ rest)) ≡ times q left + times q (all_numbers rest)
times-part_if_any q [] rest = omega arith
times-part_if_any q (n ∷ left) rest = times-append q (n ∷ left) (all_numbers rest)

pub times-joined : (q : ℕ) (test : ℕ → Bool) (left : List ℕ) (place : ℕ) (parts : List (List ℕ)) → (picked_numbers test place parts ≡ [] → left ≡ [])
    → times q (all_numbers (joined_numbers test place (Some left) parts)) ≡ times q left + times q (other_numbers test place parts)
times-joined q test left place [] none = ap (λ (ns : List ℕ). times q ns + 0) (sym (none refl))
times-joined q test left place (part ∷ parts) none =
    (elim (test place) as (λ b. ((if b then part ++ picked_numbers test (place + 1) parts else picked_numbers test (place + 1) parts) ≡ [] → left ≡ [])
    → times q (all_numbers (if b then part_if_any (Some left) ++ joined_numbers test (place + 1) None parts else part ∷ joined_numbers test (place + 1) (Some left) parts))
    ≡ times q left + times q (if b then other_numbers test (place + 1) parts else part ++ other_numbers test (place + 1) parts)) [
      | true ↦ λ empty.
          times-part_if_any q left (joined_numbers test (place + 1) None parts) ∙ ap (λ k. times q left + k) (times-joined_none q test (place + 1) parts)
      | false ↦ λ empty.
          let rest : times q (all_numbers (joined_numbers test (place + 1) (Some left) parts)) ≡ times q left + times q (other_numbers test (place + 1) parts) = times-joined q test left (place + 1) parts empty in
          let one_way : times q (part ++ all_numbers (joined_numbers test (place + 1) (Some left) parts)) ≡ times q part + times q (all_numbers (joined_numbers test (place + 1) (Some left) parts)) = times-append q part (all_numbers (joined_numbers test (place + 1) (Some left) parts)) in
          let other_way : times q (part ++ other_numbers test (place + 1) parts) ≡ times q part + times q (other_numbers test (place + 1) parts) = times-append q part (other_numbers test (place + 1) parts) in
          omega arith
    ]) none

-- ---- without some numbers

pub stays : (drops : List ℕ) (f g : ℕ → Option Operation) (n : ℕ) → IsWithout drops f g → is_among drops n ≡ false → g n ≡ f n
stays drops f g n without out = without n ∙ ap (λ (b : Bool). if b then None else f n) out

pub goes : (drops : List ℕ) (f g : ℕ → Option Operation) (n : ℕ) → IsWithout drops f g → is_among drops n ≡ true → g n ≡ None
goes drops f g n without among = without n ∙ ap (λ (b : Bool). if b then None else f n) among

pub ops-unaffected : (drops : List ℕ) (f g : ℕ → Option Operation) → IsWithout drops f g → (ns : List ℕ) → ((q : ℕ) → is_among drops q ≡ true → times q ns ≡ 0) → ops_of g ns ≡ ops_of f ns
ops-unaffected drops f g without [] apart = refl
ops-unaffected drops f g without (n ∷ ns) apart =
    let out : is_among drops n ≡ false = (elim (is_among drops n) as (λ b. is_among drops n ≡ b → b ≡ false) [ true ↦ λ is. absurd (let none : one (n == n) + times n ns ≡ 0 = apart n is in let own : one (n == n) ≡ 1 = own_one n in omega arith) | false ↦ λ is. refl ]) refl in
    let same : g n ≡ f n = stays drops f g n without out in
    let rest : ops_of g ns ≡ ops_of f ns = ops-unaffected drops f g without ns (λ q is. let none : one (n == q) + times q ns ≡ 0 = apart q is in omega arith) in
    rw (same, rest) refl

pub ops-left : (f : ℕ → Option Operation) (ns : List ℕ) → ops_of f (filter (λ n. is_some (f n)) ns) ≡ ops_of f ns
ops-left f [] = refl
ops-left f (n ∷ ns) =
    (elim (f n) as (λ o. f n ≡ o → ops_of f (cond (is_some o) (n ∷ filter (λ n. is_some (f n)) ns) (filter (λ n. is_some (f n)) ns)) ≡ cons_option o (ops_of f ns)) [
      | None ↦ λ is. ops-left f ns
      | Some x ↦ λ is. rw is (ap (λ (xs : List Operation). x ∷ xs) (ops-left f ns))
    ]) refl

pub ops-without : (drops : List ℕ) (f g : ℕ → Option Operation) → IsWithout drops f g → ((k : ℕ) (x : Operation) → f k ≡ Some x → x.seq ≡ k) → (ns : List ℕ)
    → ops_of g ns ≡ filter (λ op. not (is_among drops op.seq)) (ops_of f ns)
ops-without drops f g without own [] = refl
ops-without drops f g without own (n ∷ ns) =
    let rest : ops_of g ns ≡ filter (λ op. not (is_among drops op.seq)) (ops_of f ns) = ops-without drops f g without own ns in
    (elim (is_among drops n) as (λ b. is_among drops n ≡ b → cons_option (g n) (ops_of g ns) ≡ filter (λ op. not (is_among drops op.seq)) (cons_option (f n) (ops_of f ns))) [
      | true ↦ λ is. let gone : g n ≡ None = goes drops f g n without is in rw gone (rest ∙ sym (skipped is (f n) refl))
      | false ↦ λ is. let same : g n ≡ f n = stays drops f g n without is in rw same (kept is (f n) refl rest)
    ]) refl
  where
    skipped : is_among drops n ≡ true → (o : Option Operation) → f n ≡ o → filter (λ op. not (is_among drops op.seq)) (cons_option o (ops_of f ns)) ≡ filter (λ op. not (is_among drops op.seq)) (ops_of f ns)
    skipped is None at = refl
    skipped is (Some x) at = let among : is_among drops x.seq ≡ true = ap (is_among drops) (own n x at) ∙ is in rw among refl

    kept : is_among drops n ≡ false → (o : Option Operation) → f n ≡ o → ops_of g ns ≡ filter (λ op. not (is_among drops op.seq)) (ops_of f ns)
        → cons_option o (ops_of g ns) ≡ filter (λ op. not (is_among drops op.seq)) (cons_option o (ops_of f ns))
    kept is None at rest = rest
    kept is (Some x) at rest = let among : is_among drops x.seq ≡ false = ap (is_among drops) (own n x at) ∙ is in rw among (ap (λ (xs : List Operation). x ∷ xs) rest)

pub times-left : (q : ℕ) (f : ℕ → Option Operation) (ns : List ℕ) → times q (filter (λ n. is_some (f n)) ns) ≡ (if is_some (f q) then times q ns else 0)
times-left q f [] = (elim (is_some (f q)) as (λ b. ◌≡◌ {A = ℕ} 0 (if b then 0 else 0)) [ true ↦ refl | false ↦ refl ])
times-left q f (n ∷ ns) =
    let rest : times q (filter (λ n. is_some (f n)) ns) ≡ (if is_some (f q) then times q ns else 0) = times-left q f ns in
    (elim (n == q) as (λ b. (n == q) ≡ b → times q (cond (is_some (f n)) (n ∷ filter (λ n. is_some (f n)) ns) (filter (λ n. is_some (f n)) ns)) ≡ (if is_some (f q) then one b + times q ns else 0)) [
      | true ↦ λ same.
          let e : n ≡ q = grind (arith, nat_tests) in
          subst (λ m. times q (cond (is_some (f m)) (n ∷ filter (λ n. is_some (f n)) ns) (filter (λ n. is_some (f n)) ns)) ≡ (if is_some (f q) then 1 + times q ns else 0)) (sym e)
          ((elim (is_some (f q)) as (λ b. times q (filter (λ n. is_some (f n)) ns) ≡ (if b then times q ns else 0) → times q (cond b (n ∷ filter (λ n. is_some (f n)) ns) (filter (λ n. is_some (f n)) ns)) ≡ (if b then 1 + times q ns else 0)) [
            | true ↦ λ is. let own : one (n == q) ≡ 1 = ap one same in omega arith
            | false ↦ λ is. is
          ]) rest)
      | false ↦ λ other.
          let more : times q (cond (is_some (f n)) (n ∷ filter (λ n. is_some (f n)) ns) (filter (λ n. is_some (f n)) ns)) ≡ times q (filter (λ n. is_some (f n)) ns) =
          (elim (is_some (f n)) as (λ b. times q (cond b (n ∷ filter (λ n. is_some (f n)) ns) (filter (λ n. is_some (f n)) ns)) ≡ times q (filter (λ n. is_some (f n)) ns)) [
            | true ↦ let none : one (n == q) ≡ 0 = ap one other in omega arith
            | false ↦ refl
          ]) in
          more ∙ (rest ∙ (elim (is_some (f q)) as (λ b. (if b then times q ns else 0) ≡ (if b then 0 + times q ns else 0)) [ true ↦ omega arith | false ↦ refl ]))
    ]) refl
