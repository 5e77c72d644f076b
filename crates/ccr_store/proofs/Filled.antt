-- A store from files: each operation comes under its number, and each file is a closed part.
use Rattle.std.proofs.Common.{◌≡◌, ℕ, ◌≤◌, ◌+◌, ◌==◌, true, false, ◌&&◌, ◌||◌, cond, if◌then◌else◌, Option, Some, None, is_some, List, [], ◌∷◌, ◌++◌, append_assoc, length, map, refl, sym, ◌∙◌, ap, subst, arith}
use Rattle.std.specs.Prelude.{count_by}
use Rattle.std.specs.List.{AllByRecursion}
use Rattle.std.specs.BTreeSet.{BTreeSet}
use Rattle.std.specs.Cmp.{unsigned_tied}
use Rattle.std.proofs.lemmas.Bool.Decides.{nat_tests}
use Rattle.std.proofs.lemmas.List.{append-nil, map-append}
use Rattle.std.proofs.lemmas.List.Sums.{sum_by-cons}
use Rattle.std.proofs.lemmas.Grind.{flat_map-append}
use Rattle.ccr_op.specs.Operation.{Operation}
use Rattle.ccr_segment.specs.Segment.{spelling as segment_of_ops, AscendsFrom}
use Rattle.ccr_model.specs.Operations.{is_about, has_number, op_at}
use Rattle.ccr_model.specs.Stores.{held}
use Rattle.ccr_law_base.proofs.Lists.{All-append_front, All-append_back, found-any}
use Rattle.ccr_store.specs.Kept.{all_of, closed_of, kept_at, listed, lists_of, numbers_in, numbers_of, one, ops_of, parts_of, store_of, times, Ascend, AreOnce, Closed, IsClosed, IsHolding, IsKept}
use Rattle.ccr_store.proofs.Filing.{Puts, all_numbers}
use Rattle.ccr_store.proofs.Changes.{listed-put}

-- ---- how often a number stands

counted-is : (n : ℕ) (xs : List Operation) → count_by (λ op. op.seq == n) xs ≡ times n (numbers_in xs)
counted-is n [] = refl
counted-is n (x ∷ xs) = sum_by-cons (λ (op : Operation). cond (op.seq == n) 1 0) x xs ∙ (elim (x.seq == n) as (λ b. cond b 1 0 + count_by (λ op. op.seq == n) xs ≡ one b + times n (numbers_in xs)) [
  | true ↦ ap (λ k. 1 + k) (counted-is n xs)
  | false ↦ let rest : count_by (λ op. op.seq == n) xs ≡ times n (numbers_in xs) = counted-is n xs in omega arith
])

once-times : (xs : List Operation) → AreOnce xs → (n : ℕ) → times n (numbers_in xs) ≤ 1
once-times xs once n = subst (λ k. k ≤ 1) (counted-is n xs) (once n)

times-both : (n : ℕ) (xs ys : List Operation) → times n (numbers_in (xs ++ ys)) ≡ times n (numbers_in xs) + times n (numbers_in ys)
times-both n [] ys = omega arith
times-both n (x ∷ xs) ys = let rest : times n (numbers_in (xs ++ ys)) ≡ times n (numbers_in xs) + times n (numbers_in ys) = times-both n xs ys in omega arith

absent-from : (n : ℕ) (xs : List Operation) → times n (numbers_in xs) ≡ 0 → has_number xs n ≡ false
absent-from n [] none = refl
absent-from n (x ∷ xs) none =
    (elim (x.seq == n) as (λ b. one b + times n (numbers_in xs) ≡ 0 → (b || has_number xs n) ≡ false) [
      | true ↦ λ is. absurd (omega arith)
      | false ↦ λ is. absent-from n xs (omega arith)
    ]) none

-- of numbers that stand once, that of an operation stands nowhere before it
before-none : (front : List Operation) (op : Operation) (rest : List Operation) → AreOnce (front ++ op ∷ rest) → has_number front op.seq ≡ false
before-none front op rest once =
    let all : times op.seq (numbers_in (front ++ op ∷ rest)) ≤ 1 = once-times (front ++ op ∷ rest) once op.seq in
    let split : times op.seq (numbers_in (front ++ op ∷ rest)) ≡ times op.seq (numbers_in front) + (one (op.seq == op.seq) + times op.seq (numbers_in rest)) = times-both op.seq front (op ∷ rest) in
    let is : (op.seq == op.seq) ≡ true = grind (arith, nat_tests) in
    let own : one (op.seq == op.seq) ≡ 1 = ap one is in
    absent-from op.seq front (omega arith)

-- ---- the operation of a number

at-past : (n : ℕ) (front xs : List Operation) → has_number front n ≡ false → op_at n (front ++ xs) ≡ op_at n xs
at-past n [] xs none = refl
at-past n (x ∷ front) xs none =
    (elim (x.seq == n) as (λ b. (b || has_number front n) ≡ false → (if b then Some x else op_at n (front ++ xs)) ≡ op_at n xs) [
      | true ↦ λ is. cc
      | false ↦ λ is. at-past n front xs is
    ]) none

at-last : (n : ℕ) (xs : List Operation) (op : Operation) → has_number xs op.seq ≡ false → op_at n (xs ++ op ∷ []) ≡ cond (op.seq == n) (Some op) (op_at n xs)
at-last n [] op none = elim (op.seq == n) as (λ b. (if b then Some op else None) ≡ cond b (Some op) None) [ true ↦ refl | false ↦ refl ]
at-last n (x ∷ xs) op none =
    (elim (x.seq == op.seq) as (λ b. (x.seq == op.seq) ≡ b → (b || has_number xs op.seq) ≡ false → op_at n (x ∷ xs ++ op ∷ []) ≡ cond (op.seq == n) (Some op) (op_at n (x ∷ xs))) [
      | true ↦ λ is never. cc
      | false ↦ λ apart absent.
          (elim (x.seq == n) as (λ b. (x.seq == n) ≡ b → (if b then Some x else op_at n (xs ++ op ∷ [])) ≡ cond (op.seq == n) (Some op) (if b then Some x else op_at n xs)) [
            | true ↦ λ is. let other : (op.seq == n) ≡ false = grind (arith, nat_tests) in rw other refl
            | false ↦ λ is. at-last n xs op absent
          ]) refl
    ]) refl none

none-at : (n : ℕ) (xs : List Operation) → has_number xs n ≡ false → op_at n xs ≡ None
none-at n xs absent = none (op_at n xs) (found-any (λ op. op.seq == n) xs ∙ absent)
  where
    none : (o : Option Operation) → is_some o ≡ false → o ≡ None
    none None is = refl
    none (Some x) is = cc

own-at : (n : ℕ) (xs : List Operation) (op : Operation) → op_at n xs ≡ Some op → op.seq ≡ n
own-at n [] op at = cc
own-at n (x ∷ xs) op at =
    (elim (x.seq == n) as (λ b. (x.seq == n) ≡ b → (if b then Some x else op_at n xs) ≡ Some op → op.seq ≡ n) [
      | true ↦ λ is here. let same : x ≡ op = cc in let own : x.seq ≡ n = grind (arith, nat_tests) in sym (ap (λ (y : Operation). y.seq) same) ∙ own
      | false ↦ λ is there. own-at n xs op there
    ]) refl at

-- ---- one more operation

pub holding-more : (all : List Operation) (op : Operation) (old new : List (ℕ × Operation)) (ids noted : List (List ℕ × BTreeSet ℕ)) → Puts (kept_at old) (kept_at new) op.seq (Some op)
    → ((id : List ℕ) (q : ℕ) → listed noted id q ≡ (listed ids id q || (is_about id op && (op.seq == q)))) → IsHolding all old ids → has_number all op.seq ≡ false → IsHolding (all ++ op ∷ []) new noted
holding-more all op old new ids noted puts lists holding absent = record {
  kept = λ n. puts n ∙ (ap (λ b. cond b (Some op) (kept_at old n)) (unsigned_tied op.seq n) ∙ (ap (cond (op.seq == n) (Some op)) (holding.kept n) ∙ sym (at-last n all op absent)));
  lists = listed-put (kept_at old) (kept_at new) op.seq op ids noted puts refl (holding.kept op.seq ∙ none-at op.seq all absent) holding.lists lists;
}

-- what is kept of a file while it is read
pub record IsTaking (file : List Operation) (old : List (ℕ × Operation)) (ids : List (List ℕ × BTreeSet ℕ)) (rest : List Operation) (numbers : List ℕ) (new : List (ℕ × Operation)) (noted : List (List ℕ × BTreeSet ℕ)) : Type 0 where
  pub done : List Operation
  pub whole : done ++ rest ≡ file
  pub numbers_are : numbers ≡ numbers_in done
  pub held_are : (all : List Operation) → IsHolding all old ids → AreOnce (all ++ file) → IsHolding (all ++ done) new noted

pub taking-none : (file : List Operation) (ops : List (ℕ × Operation)) (ids : List (List ℕ × BTreeSet ℕ)) (numbers : List ℕ) → numbers ≡ [] → IsTaking file ops ids file numbers ops ids
taking-none file ops ids numbers none = record {
  done = [];
  whole = refl;
  numbers_are = none;
  held_are = λ all holding once. subst (λ (xs : List Operation). IsHolding xs ops ids) (sym (append-nil all)) holding;
}

pub taking-more : (file : List Operation) (old mid new : List (ℕ × Operation)) (ids noted again : List (List ℕ × BTreeSet ℕ)) (op : Operation) (rest : List Operation) (numbers more : List ℕ)
    → IsTaking file old ids (op ∷ rest) numbers mid noted → more ≡ numbers ++ op.seq ∷ []
    → ((all : List Operation) → IsHolding all mid noted → has_number all op.seq ≡ false → IsHolding (all ++ op ∷ []) new again) → IsTaking file old ids rest more new again
taking-more file old mid new ids noted again op rest numbers more taking pushed taken = record {
  done = taking.done ++ op ∷ [];
  whole = append_assoc taking.done (op ∷ []) rest ∙ taking.whole;
  numbers_are = pushed ∙ (ap (λ (ns : List ℕ). ns ++ op.seq ∷ []) taking.numbers_are ∙ sym (map-append {A = Operation} {B = ℕ} (λ op. op.seq) taking.done (op ∷ [])));
  held_are = λ all holding once.
      let whole : all ++ file ≡ (all ++ taking.done) ++ op ∷ rest = ap (λ (xs : List Operation). all ++ xs) (sym taking.whole) ∙ sym (append_assoc all taking.done (op ∷ rest)) in
      subst (λ (xs : List Operation). IsHolding xs new again) (append_assoc all taking.done (op ∷ []))
      (taken (all ++ taking.done) (taking.held_are all holding once) (before-none (all ++ taking.done) op rest (subst AreOnce whole once)));
}

pub taking-numbers : (file : List Operation) (old new : List (ℕ × Operation)) (ids noted : List (List ℕ × BTreeSet ℕ)) (rest : List Operation) (numbers : List ℕ) → rest ≡ [] → IsTaking file old ids rest numbers new noted → numbers ≡ numbers_in file
taking-numbers file old new ids noted rest numbers ended taking =
    taking.numbers_are ∙ ap numbers_in (sym (append-nil taking.done) ∙ (ap (λ (xs : List Operation). taking.done ++ xs) (sym ended) ∙ taking.whole))

pub taking-held : (file : List Operation) (old new : List (ℕ × Operation)) (ids noted : List (List ℕ × BTreeSet ℕ)) (rest : List Operation) (numbers : List ℕ) → rest ≡ [] → IsTaking file old ids rest numbers new noted
    → (all : List Operation) → IsHolding all old ids → AreOnce (all ++ file) → IsHolding (all ++ file) new noted
taking-held file old new ids noted rest numbers ended taking all holding once =
    let whole : taking.done ≡ file = sym (append-nil taking.done) ∙ (ap (λ (xs : List Operation). taking.done ++ xs) (sym ended) ∙ taking.whole) in
    subst (λ (xs : List Operation). IsHolding (all ++ xs) new noted) whole (taking.held_are all holding once)

-- ---- one more file

-- what is kept of files while they are read
pub record AreTaken (files rest : List (List Operation)) (parts : List Closed) (ops : List (ℕ × Operation)) (ids : List (List ℕ × BTreeSet ℕ)) : Type 0 where
  pub done : List (List Operation)
  pub whole : done ++ rest ≡ files
  pub parts_are : parts ≡ map closed_of done
  pub order : AllByRecursion (AscendsFrom 0) done
  pub held_are : IsHolding (all_of done) ops ids

pub taken-none : (files : List (List Operation)) (parts : List Closed) (ops : List (ℕ × Operation)) (ids : List (List ℕ × BTreeSet ℕ)) → parts ≡ [] → IsHolding [] ops ids → AreTaken files files parts ops ids
taken-none files parts ops ids none holding = record {
  done = [];
  whole = refl;
  parts_are = none;
  order = tt;
  held_are = holding;
}

all-more : (files : List (List Operation)) (file : List Operation) → all_of (files ++ file ∷ []) ≡ all_of files ++ file
all-more files file = flat_map-append {X = List Operation} {A = Operation} (λ file. file) files (file ∷ []) ∙ ap (λ (xs : List Operation). all_of files ++ xs) (append-nil file)

once-front : (xs ys : List Operation) → AreOnce (xs ++ ys) → AreOnce xs
once-front xs ys once n =
    let all : times n (numbers_in (xs ++ ys)) ≤ 1 = once-times (xs ++ ys) once n in
    let split : times n (numbers_in (xs ++ ys)) ≡ times n (numbers_in xs) + times n (numbers_in ys) = times-both n xs ys in
    subst (λ k. k ≤ 1) (sym (counted-is n xs)) (omega arith)

pub taken-more : (files rest : List (List Operation)) (file : List Operation) (parts more : List Closed) (part : Closed) (old new : List (ℕ × Operation)) (ids noted : List (List ℕ × BTreeSet ℕ)) → AreOnce (all_of files)
    → AreTaken files (file ∷ rest) parts old ids → more ≡ parts ++ part ∷ [] → part ≡ closed_of file → AscendsFrom 0 file
    → ((all : List Operation) → IsHolding all old ids → AreOnce (all ++ file) → IsHolding (all ++ file) new noted) → AreTaken files rest more new noted
taken-more files rest file parts more part old new ids noted once taken pushed is ascends holding = record {
  done = taken.done ++ file ∷ [];
  whole = append_assoc taken.done (file ∷ []) rest ∙ taken.whole;
  parts_are = pushed ∙ (ap (λ (ps : List Closed). ps ++ part ∷ []) taken.parts_are ∙ (ap (λ (p : Closed). map closed_of taken.done ++ p ∷ []) is ∙ sym (map-append closed_of taken.done (file ∷ []))));
  order = push taken.done taken.order;
  held_are = subst (λ (xs : List Operation). IsHolding xs new noted) (sym (all-more taken.done file)) (holding (all_of taken.done) taken.held_are here);
}
  where
    push : (done : List (List Operation)) → AllByRecursion (AscendsFrom 0) done → AllByRecursion (AscendsFrom 0) (done ++ file ∷ [])
    push [] all = (ascends, tt)
    push (x ∷ done) all = (all.0, push done all.1)

    here : AreOnce (all_of taken.done ++ file)
    here =
        let whole : all_of files ≡ (all_of taken.done ++ file) ++ all_of rest =
        ap all_of (sym taken.whole) ∙ (flat_map-append {X = List Operation} {A = Operation} (λ file. file) taken.done (file ∷ rest) ∙ sym (append_assoc (all_of taken.done) file (all_of rest))) in
        once-front (all_of taken.done ++ file) (all_of rest) (subst AreOnce whole once)

all-done : (files rest : List (List Operation)) (parts : List Closed) (ops : List (ℕ × Operation)) (ids : List (List ℕ × BTreeSet ℕ)) → rest ≡ [] → (taken : AreTaken files rest parts ops ids) → taken.done ≡ files
all-done files rest parts ops ids ended taken = sym (append-nil taken.done) ∙ (ap (λ (xs : List (List Operation)). taken.done ++ xs) (sym ended) ∙ taken.whole)

pub taken-parts : (files rest : List (List Operation)) (parts : List Closed) (ops : List (ℕ × Operation)) (ids : List (List ℕ × BTreeSet ℕ)) → rest ≡ [] → AreTaken files rest parts ops ids → parts ≡ map closed_of files
taken-parts files rest parts ops ids ended taken = taken.parts_are ∙ ap (λ (xs : List (List Operation)). map closed_of xs) (all-done files rest parts ops ids ended taken)

pub taken-order : (files rest : List (List Operation)) (parts : List Closed) (ops : List (ℕ × Operation)) (ids : List (List ℕ × BTreeSet ℕ)) → rest ≡ [] → AreTaken files rest parts ops ids → AllByRecursion (AscendsFrom 0) files
taken-order files rest parts ops ids ended taken = subst (AllByRecursion (AscendsFrom 0)) (all-done files rest parts ops ids ended taken) taken.order

pub taken-held : (files rest : List (List Operation)) (parts : List Closed) (ops : List (ℕ × Operation)) (ids : List (List ℕ × BTreeSet ℕ)) → rest ≡ [] → AreTaken files rest parts ops ids → IsHolding (all_of files) ops ids
taken-held files rest parts ops ids ended taken = subst (λ (xs : List (List Operation)). IsHolding (all_of xs) ops ids) (all-done files rest parts ops ids ended taken) taken.held_are

-- ---- the store that is made

-- each operation is the one of its number
abbrev AreAt : (ℕ → Option Operation) → List Operation → Type 0
AreAt f xs = AllByRecursion (λ op. f op.seq ≡ Some op) xs

at-each : (front xs : List Operation) → AreOnce (front ++ xs) → AreAt (λ n. op_at n (front ++ xs)) xs
at-each front [] once = tt
at-each front (x ∷ xs) once = (
  at-past x.seq front (x ∷ xs) (before-none front x xs once) ∙ own,
  subst (λ (ys : List Operation). AreAt (λ n. op_at n ys) xs) joined (at-each (front ++ x ∷ []) xs (subst AreOnce (sym joined) once)),
)
  where
    joined : (front ++ x ∷ []) ++ xs ≡ front ++ x ∷ xs
    joined = append_assoc front (x ∷ []) xs

    own : op_at x.seq (x ∷ xs) ≡ Some x
    own = let is : (x.seq == x.seq) ≡ true = grind (arith, nat_tests) in rw is refl

ops-back : (f : ℕ → Option Operation) (xs : List Operation) → AreAt f xs → ops_of f (numbers_in xs) ≡ xs
ops-back f [] at = refl
ops-back f (x ∷ xs) at = rw at.0 (ap (λ (ys : List Operation). x ∷ ys) (ops-back f xs at.1))

parts-back : (f : ℕ → Option Operation) (files : List (List Operation)) → AreAt f (all_of files) → parts_of f (lists_of (map closed_of files)) ≡ files
parts-back f [] at = refl
parts-back f (file ∷ files) at =
    ap (λ (xs : List Operation). xs ∷ parts_of f (lists_of (map closed_of files))) (ops-back f file (All-append_front (λ (op : Operation). f op.seq ≡ Some op) file (all_of files) at))
    ∙ ap (λ (xs : List (List Operation)). file ∷ xs) (parts-back f files (All-append_back (λ (op : Operation). f op.seq ≡ Some op) file (all_of files) at))

ascend-numbers : (least : ℕ) (xs : List Operation) → AscendsFrom least xs → Ascend least (numbers_in xs)
ascend-numbers least [] up = tt
ascend-numbers least (x ∷ xs) up = (up.0, ascend-numbers (x.seq + 1) xs up.1)

closed-files : (f : ℕ → Option Operation) (files : List (List Operation)) → AreAt f (all_of files) → AllByRecursion (AscendsFrom 0) files → AllByRecursion (IsClosed f) (map closed_of files)
closed-files f [] at up = tt
closed-files f (file ∷ files) at up = (
  record {
    order = ascend-numbers 0 file up.0;
    bytes = ap (λ (xs : List Operation). length (segment_of_ops xs)) (sym (ops-back f file (All-append_front (λ (op : Operation). f op.seq ≡ Some op) file (all_of files) at)));
  },
  closed-files f files (All-append_back (λ (op : Operation). f op.seq ≡ Some op) file (all_of files) at) up.1,
)

numbers-all : (files : List (List Operation)) → all_numbers (lists_of (map closed_of files)) ≡ numbers_in (all_of files)
numbers-all [] = refl
numbers-all (file ∷ files) = ap (λ (ns : List ℕ). numbers_in file ++ ns) (numbers-all files) ∙ sym (map-append {A = Operation} {B = ℕ} (λ op. op.seq) file (all_of files))

once-is : (n : ℕ) (xs : List Operation) → times n (numbers_in xs) ≤ 1 → times n (numbers_in xs) ≡ one (is_some (op_at n xs))
once-is n [] le = refl
once-is n (x ∷ xs) le =
    (elim (x.seq == n) as (λ b. one b + times n (numbers_in xs) ≤ 1 → one b + times n (numbers_in xs) ≡ one (is_some (if b then Some x else op_at n xs))) [
      | true ↦ λ few. omega arith
      | false ↦ λ few. let rest : times n (numbers_in xs) ≡ one (is_some (op_at n xs)) = once-is n xs (omega arith) in omega arith
    ]) le

at-all : (files : List (List Operation)) (ops : List (ℕ × Operation)) (ids : List (List ℕ × BTreeSet ℕ)) → AreOnce (all_of files) → IsHolding (all_of files) ops ids → AreAt (kept_at ops) (all_of files)
at-all files ops ids once holding = same (all_of files) (at-each [] (all_of files) once)
  where
    same : (xs : List Operation) → AreAt (λ n. op_at n (all_of files)) xs → AreAt (kept_at ops) xs
    same [] at = tt
    same (x ∷ xs) at = (holding.kept x.seq ∙ at.0, same xs at.1)

-- what the caller knows of the files
pub once-held : (files : List (List Operation)) → ((n : ℕ) → count_by (λ op. op.seq == n) (held (record { parts = files; open_part = [] })) ≤ 1) → AreOnce (all_of files)
once-held files once = subst AreOnce (append-nil (all_of files)) once

pub kept-filled : (files : List (List Operation)) (parts : List Closed) (more : List ℕ) (ops : List (ℕ × Operation)) (ids : List (List ℕ × BTreeSet ℕ)) → AreOnce (all_of files) → parts ≡ map closed_of files
    → AllByRecursion (AscendsFrom 0) files → IsHolding (all_of files) ops ids → more ≡ [] → IsKept ops parts more ids
kept-filled files parts more ops ids once are up holding none =
    subst (λ (ps : List Closed). IsKept ops ps more ids) (sym are) (subst (λ (ns : List ℕ). IsKept ops (map closed_of files) ns ids) (sym none) record {
      filed = record { own = λ n op is. own-at n (all_of files) op (sym (holding.kept n) ∙ is); once = stand };
      lists = holding.lists;
      closed = closed-files (kept_at ops) files (at-all files ops ids once holding) up;
    })
  where
    stand : (n : ℕ) → times n (numbers_of (lists_of (map closed_of files)) []) ≡ one (is_some (kept_at ops n))
    stand n =
        ap (times n) (append-nil (all_numbers (lists_of (map closed_of files))) ∙ numbers-all files)
        ∙ (once-is n (all_of files) (once-times (all_of files) once n) ∙ ap (λ (o : Option Operation). one (is_some o)) (sym (holding.kept n)))

pub store-filled : (files : List (List Operation)) (parts : List Closed) (more : List ℕ) (ops : List (ℕ × Operation)) (ids : List (List ℕ × BTreeSet ℕ)) → AreOnce (all_of files) → parts ≡ map closed_of files
    → IsHolding (all_of files) ops ids → more ≡ [] → store_of (kept_at ops) (lists_of parts) more ≡ record { parts = files; open_part = [] }
store-filled files parts more ops ids once are holding none =
    ap (λ (ps : List Closed). store_of (kept_at ops) (lists_of ps) more) are
    ∙ (ap (store_of (kept_at ops) (lists_of (map closed_of files))) none
    ∙ ap (λ (ps : List (List Operation)). record { parts = ps; open_part = [] }) (parts-back (kept_at ops) files (at-all files ops ids once holding)))

-- nothing is kept
pub holding-none : (ops : List (ℕ × Operation)) (ids : List (List ℕ × BTreeSet ℕ)) → ops ≡ [] → ids ≡ [] → IsHolding [] ops ids
holding-none ops ids no_ops no_ids =
    subst (λ (es : List (ℕ × Operation)). IsHolding [] es ids) (sym no_ops) (subst (λ (es : List (List ℕ × BTreeSet ℕ)). IsHolding [] [] es) (sym no_ids) record { kept = λ n. refl; lists = record { about = λ id n. refl } })
