-- Lists of copies: look-ups and orders under each change.
use Rattle.std.proofs.Common.{◌≡◌, ℕ, ◌+◌, ◌<◌, ◌≤◌, ◌==◌, ◌≢◌, Bool, true, false, not, min, List, [], ◌∷◌, ◌++◌, length, map, find, take, drop, None, Some, is_some, if◌then◌else◌, refl, sym, ◌∙◌, ap, subst, arith, get_or, All}
use Rattle.std.proofs.Math.ListN.{set}
use Rattle.std.specs.List.{fold}
use Rattle.std.specs.Option.{option_map_or}
use Rattle.std.proofs.lemmas.List.{get_or_default}
use Rattle.std.proofs.lemmas.List.Edits.{map_over_more}
use Rattle.std.proofs.lemmas.List.Elements.{All-cons, All-nil}
use Rattle.std.proofs.lemmas.Bool.Decides.{nat_tests}
use Rattle.ccr_insync.specs.declared.Member.{Member}
use Rattle.ccr_insync.specs.Members.{member_of, least_known, in_step, as_resynced, as_term_begins, without, AscendWithin}

-- one more turn of a loop that changes each copy
pub map_turn : (f : Member → Member) (xs ys : List Member) (i : ℕ) (d r : Member) → i < length xs → i < length ys
    → ys ≡ map f (take i xs) ++ drop i xs → r ≡ f (get_or ys i d) → set ys i r ≡ map f (take (i + 1) xs) ++ drop (i + 1) xs
map_turn f xs ys i d r lt lt' done is =
    ap (λ (x : Member). set ys i x) is ∙ map_over_more f xs ys i (get_or ys i d) lt done (get_or_default ys i d (get_or ys i d) lt')

-- order

pub within-lower : (low high next : ℕ) (ms : List Member) → low ≤ high → AscendWithin high next ms → AscendWithin low next ms
within-lower low high next [] le up = omega (arith, up)
within-lower low high next (m ∷ ms) le up = (omega (arith, up.0), up.1)

pub within-map : (f : Member → Member) → ((m : Member) → (f m).copy ≡ m.copy) → (low next : ℕ) (ms : List Member)
    → AscendWithin low next ms → AscendWithin low next (map f ms)
within-map f same low next [] up = up
within-map f same low next (m ∷ ms) up =
    let rest : AscendWithin (m.copy + 1) next (map f ms) = within-map f same (m.copy + 1) next ms up.1 in
    (omega (arith, same m, up.0), subst (λ (n : ℕ). AscendWithin (n + 1) next (map f ms)) (sym (same m)) rest)

pub within-without : (copy low next : ℕ) (ms : List Member) → AscendWithin low next ms → AscendWithin low next (without copy ms)
within-without copy low next [] up = up
within-without copy low next (m ∷ ms) up =
    let rest : AscendWithin (m.copy + 1) next (without copy ms) = within-without copy (m.copy + 1) next ms up.1 in
    elim (m.copy == copy) as (λ b. AscendWithin low next (if not b then m ∷ without copy ms else without copy ms)) [
      | true ↦ within-lower low (m.copy + 1) next (without copy ms) (omega (arith, up.0)) rest
      | false ↦ (up.0, rest)
    ]

pub within-push : (low next count : ℕ) (ms : List Member) → AscendWithin low next ms → AscendWithin low (next + 1) (ms ++ in_step next count ∷ [])
within-push low next count [] up = (up, omega arith)
within-push low next count (m ∷ ms) up = (up.0, within-push (m.copy + 1) next count ms up.1)

-- the mark of one copy

pub mark-map : (mark : Member → Bool) (f : Member → Member) → ((m : Member) → (f m).copy ≡ m.copy) → ((m : Member) → mark m ≡ true → mark (f m) ≡ true)
    → (copy : ℕ) (ms : List Member) → option_map_or mark (member_of ms copy) false ≡ true → option_map_or mark (member_of (map f ms) copy) false ≡ true
mark-map mark f same kept copy [] h = h
mark-map mark f same kept copy (m ∷ ms) h =
    subst (λ (n : ℕ). option_map_or mark (if n == copy then Some (f m) else member_of (map f ms) copy) false ≡ true) (sym (same m))
    ((elim (m.copy == copy) as (λ b. option_map_or mark (if b then Some m else member_of ms copy) false ≡ true
    → option_map_or mark (if b then Some (f m) else member_of (map f ms) copy) false ≡ true) [
      | true ↦ λ is. kept m is
      | false ↦ λ is. mark-map mark f same kept copy ms is
    ]) h)

pub mark-without : (mark : Member → Bool) (gone copy : ℕ) → copy ≢ gone → (ms : List Member)
    → option_map_or mark (member_of ms copy) false ≡ true → option_map_or mark (member_of (without gone ms) copy) false ≡ true
mark-without mark gone copy other ms h = rw (member_of-without gone copy other ms) h
  where
    member_of-without : (gone copy : ℕ) → copy ≢ gone → (ms : List Member) → member_of (without gone ms) copy ≡ member_of ms copy
    member_of-without gone copy other [] = refl
    member_of-without gone copy other (m ∷ ms) =
        (elim (m.copy == gone) as (λ b. (m.copy == gone) ≡ b
        → member_of (if not b then m ∷ without gone ms else without gone ms) copy ≡ (if m.copy == copy then Some m else member_of ms copy)) [
          | true ↦ λ is. let no : (m.copy == copy) ≡ false = grind (arith, nat_tests) in rw no (member_of-without gone copy other ms)
          | false ↦ λ is. rw (member_of-without gone copy other ms)
        ]) refl

pub mark-push : (mark : Member → Bool) (copy : ℕ) (x : Member) (ms : List Member)
    → option_map_or mark (member_of ms copy) false ≡ true → option_map_or mark (member_of (ms ++ x ∷ []) copy) false ≡ true
mark-push mark copy x [] h = cc
mark-push mark copy x (m ∷ ms) h =
    (elim (m.copy == copy) as (λ b. option_map_or mark (if b then Some m else member_of ms copy) false ≡ true
    → option_map_or mark (if b then Some m else member_of (ms ++ x ∷ []) copy) false ≡ true) [
      | true ↦ λ is. is
      | false ↦ λ is. mark-push mark copy x ms is
    ]) h

-- the new primary of a term
pub begins : (mark : Member → Bool) → ((copy count : ℕ) → mark (in_step copy count) ≡ true) → (copy count gone : ℕ) → copy ≢ gone → (ms : List Member)
    → is_some (member_of ms copy) ≡ true → option_map_or mark (member_of (map (as_term_begins copy count) (without gone ms)) copy) false ≡ true
begins mark steps copy count gone other [] there = cc
begins mark steps copy count gone other (m ∷ ms) there =
    (elim (m.copy == copy) as (λ b. (m.copy == copy) ≡ b → is_some (if b then Some m else member_of ms copy) ≡ true
    → option_map_or mark (member_of (map (as_term_begins copy count) (if not (m.copy == gone) then m ∷ without gone ms else without gone ms)) copy) false ≡ true) [
      | true ↦ λ is some. let kept : (m.copy == gone) ≡ false = grind (arith, nat_tests) in rw (kept, is, is) (steps m.copy count)
      | false ↦ λ is some.
          let ih : option_map_or mark (member_of (map (as_term_begins copy count) (without gone ms)) copy) false ≡ true = begins mark steps copy count gone other ms some in
          elim (m.copy == gone) as (λ b. option_map_or mark (member_of (map (as_term_begins copy count) (if not b then m ∷ without gone ms else without gone ms)) copy) false ≡ true) [
            | true ↦ ih
            | false ↦ rw (is, is) ih
          ]
    ]) refl there

-- lengths

pub length-without-le : (copy : ℕ) (ms : List Member) → length (without copy ms) ≤ length ms
length-without-le copy [] = omega arith
length-without-le copy (m ∷ ms) =
    let rest : length (without copy ms) ≤ length ms = length-without-le copy ms in
    elim (m.copy == copy) as (λ b. length (if not b then m ∷ without copy ms else without copy ms) ≤ length (m ∷ ms)) [
      | true ↦ omega arith
      | false ↦ omega arith
    ]

-- known counts

pub known-resynced : (copy : ℕ) (ms : List Member) → map (λ m. m.known) (map (as_resynced copy) ms) ≡ map (λ m. m.known) ms
known-resynced copy [] = refl
known-resynced copy (m ∷ ms) =
    elim (m.copy == copy) as (λ b. ((if b then record m { is_resynced = true } else m).known ∷ map (λ m. m.known) (map (as_resynced copy) ms)) ≡ m.known ∷ map (λ m. m.known) ms) [
      | true ↦ ap (λ ns. m.known ∷ ns) (known-resynced copy ms)
      | false ↦ ap (λ ns. m.known ∷ ns) (known-resynced copy ms)
    ]

pub least_known-le : (m : Member) (ms : List Member) → least_known (m ∷ ms) ≤ m.known
least_known-le m ms = fold-le m.known (map (λ m. m.known) ms)
  where
    fold-le : (n : ℕ) (ns : List ℕ) → fold min n ns ≤ n
    fold-le n [] = omega arith
    fold-le n (k ∷ ns) = let rest : fold min (min n k) ns ≤ min n k = fold-le (min n k) ns in omega arith

-- the least replica that passes a test

pub find_within : (test : Member → Bool) (low next : ℕ) (ms : List Member) (found : Member) → AscendWithin low next ms → find test ms ≡ Some found → low ≤ found.copy
find_within test low next [] found up is = cc
find_within test low next (m ∷ ms) found up is =
    (elim (test m) as (λ b. (if b then Some m else find test ms) ≡ Some found → low ≤ found.copy) [
      | true ↦ λ at. let same : m ≡ found = cc in subst (λ (x : Member). low ≤ x.copy) same up.0
      | false ↦ λ at. let rest : m.copy + 1 ≤ found.copy = find_within test (m.copy + 1) next ms found up.1 at in omega (arith, up.0)
    ]) is

pub find_passes : (test : Member → Bool) (low next : ℕ) (ms : List Member) (found : Member) → AscendWithin low next ms → find test ms ≡ Some found
    → option_map_or test (member_of ms found.copy) false ≡ true
find_passes test low next [] found up is = cc
find_passes test low next (m ∷ ms) found up is =
    (elim (test m) as (λ b. test m ≡ b → (if b then Some m else find test ms) ≡ Some found
    → option_map_or test (if m.copy == found.copy then Some m else member_of ms found.copy) false ≡ true) [
      | true ↦ λ passes at.
          let same : m ≡ found = cc in
          subst (λ (x : Member). option_map_or test (if m.copy == x.copy then Some m else member_of ms x.copy) false ≡ true) same
          (let self : (m.copy == m.copy) ≡ true = grind (arith, nat_tests) in rw self passes)
      | false ↦ λ passes at.
          let above : m.copy + 1 ≤ found.copy = find_within test (m.copy + 1) next ms found up.1 at in
          let other : (m.copy == found.copy) ≡ false = grind (arith, nat_tests) in
          rw other (find_passes test (m.copy + 1) next ms found up.1 at)
    ]) refl is

pub all_above : (test : Member → Bool) (low bound next : ℕ) (ms : List Member) → bound ≤ low → AscendWithin low next ms → All (λ m. test m ≡ true → bound ≤ m.copy) ms
all_above test low bound next [] le up = All-nil (λ m. test m ≡ true → bound ≤ m.copy)
all_above test low bound next (m ∷ ms) le up =
    All-cons (λ m. test m ≡ true → bound ≤ m.copy) m ms (λ passes. omega (arith, up.0)) (all_above test (m.copy + 1) bound next ms (omega (arith, up.0)) up.1)

pub find_least : (test : Member → Bool) (low next : ℕ) (ms : List Member) (found : Member) → AscendWithin low next ms → find test ms ≡ Some found
    → All (λ m. test m ≡ true → found.copy ≤ m.copy) ms
find_least test low next [] found up is = cc
find_least test low next (m ∷ ms) found up is =
    (elim (test m) as (λ b. test m ≡ b → (if b then Some m else find test ms) ≡ Some found → All (λ m. test m ≡ true → found.copy ≤ m.copy) (m ∷ ms)) [
      | true ↦ λ passes at.
          let same : m ≡ found = cc in
          subst (λ (x : Member). All (λ m. test m ≡ true → x.copy ≤ m.copy) (m ∷ ms)) same
          (All-cons (λ x. test x ≡ true → m.copy ≤ x.copy) m ms (λ passes. omega arith) (all_above test (m.copy + 1) m.copy next ms (omega arith) up.1))
      | false ↦ λ passes at.
          All-cons (λ m. test m ≡ true → found.copy ≤ m.copy) m ms (λ yes. absurd (let no : true ≡ false = sym yes ∙ passes in cc)) (find_least test (m.copy + 1) next ms found up.1 at)
    ]) refl is

pub find_none : (test : Member → Bool) (ms : List Member) → find test ms ≡ None → All (λ m. test m ≡ false) ms
find_none test [] is = All-nil (λ m. test m ≡ false)
find_none test (m ∷ ms) is =
    (elim (test m) as (λ b. test m ≡ b → (if b then Some m else find test ms) ≡ None → All (λ m. test m ≡ false) (m ∷ ms)) [
      | true ↦ λ passes at. cc
      | false ↦ λ passes at. All-cons (λ m. test m ≡ false) m ms passes (find_none test ms at)
    ]) refl is
