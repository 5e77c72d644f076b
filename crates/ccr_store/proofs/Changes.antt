-- What each change of a store's lists keeps, and which store it makes.
use Rattle.std.proofs.Common.{◌≡◌, ℕ, ◌≤◌, ◌+◌, ◌==◌, suc, Bool, true, false, not, ◌&&◌, ◌||◌, cond, if◌then◌else◌, Option, Some, None, is_some, List, [], ◌∷◌, ◌++◌, length, refl, sym, ◌∙◌, ap, subst, arith, IsTrue, ◌↔◌}
use Rattle.std.specs.List.{AllByRecursion}
use Rattle.std.specs.List.Sorted.{IsStrictlySortedBy}
use Rattle.std.specs.Option.{option_map_or}
use Rattle.std.specs.Ordering.{nat_cmp}
use Rattle.std.specs.BTreeMap.{is_at}
use Rattle.std.specs.Map.{keys_of}
use Rattle.std.specs.BTreeSet.{BTreeSet, insert_key}
use Rattle.std.specs.Cmp.{unsigned_tied, eq_by_cmp_equiv}
use Rattle.std.proofs.lemmas.Cmp.{nat_cmp_total}
use Rattle.std.proofs.lemmas.Map.{lookup-none}
use Rattle.std.proofs.lemmas.Map.Entries.{none_past_head}
use Rattle.std.proofs.lemmas.Map.Keys.{sorted_tail, IsDistinct-from_sorted}
use mathlib.Core.Path.{fun_ext}
use Rattle.std.proofs.lemmas.List.{append-nil, map-append}
use Rattle.std.proofs.lemmas.Grind.{flat_map-append}
use Rattle.std.proofs.lemmas.Bool.Decides.{nat_tests}
use Rattle.ccr_op.specs.Operation.{Operation}
use Rattle.ccr_model.specs.Operations.{is_about, has_number, op_at}
use Rattle.ccr_model.specs.Stores.{Store, held, stored, flushed, one_part}
use Rattle.ccr_store.specs.Kept.{ops_of, parts_of, numbers_of, store_of, keeps_about, listed, one, times, kept_at, lists_of, Closed, Ascend, IsClosed, IsFiled, IsListed, IsKept, IsTaken, IsLeft, IsIndexed}
use Rattle.ccr_segment.specs.Segment.{spelling as segment_of_ops}
use Rattle.ccr_law_base.proofs.Lists.{All-append}
use Rattle.ccr_store.proofs.Lengths.{closed-alike}
use Rattle.ccr_store.proofs.Filing.{Puts, puts_same, puts_other, times-append, all_numbers, parts-other, ops-insert, times-insert, there-from, there-append_back, AreThere, some_is, held-is, length-ops, at-held}

-- ---- an operation of a new number

times-parts : (q : ℕ) (parts : List (List ℕ)) (more : List ℕ) → times q (numbers_of parts more) ≡ times q (all_numbers parts) + times q more
times-parts q parts more = times-append q (all_numbers parts) more

absent_both : (f : ℕ → Option Operation) (n : ℕ) (parts : List (List ℕ)) (more : List ℕ) → IsFiled f parts more → f n ≡ None
    → (times n (all_numbers parts) ≡ 0) × (times n more ≡ 0)
absent_both f n parts more filed none =
    let all : times n (numbers_of parts more) ≡ 0 = filed.once n ∙ ap (λ (o : Option Operation). one (is_some o)) none in
    let split : times n (numbers_of parts more) ≡ times n (all_numbers parts) + times n more = times-parts n parts more in
    (omega arith, omega arith)

pub filed-put : (f g : ℕ → Option Operation) (n : ℕ) (parts : List (List ℕ)) (more : List ℕ) (op : Operation) → IsFiled f parts more → Puts f g n (Some op) → op.seq ≡ n → f n ≡ None
    → IsFiled g parts (insert_key nat_cmp more n)
filed-put f g n parts more op filed puts seq none =
    let absent : (times n (all_numbers parts) ≡ 0) × (times n more ≡ 0) = absent_both f n parts more filed none in
    record {
      own = own;
      once = λ q. once q absent.1;
    }
  where
    own : (k : ℕ) (x : Operation) → g k ≡ Some x → x.seq ≡ k
    own k x is =
        (elim (n == k) as (λ b. (n == k) ≡ b → x.seq ≡ k) [
          | true ↦ λ same.
              let e : n ≡ k = grind (arith, nat_tests) in
              let here : g k ≡ Some op = subst (λ m. g m ≡ Some op) e (puts_same f g n (Some op) puts) in
              let one_op : op ≡ x = (let eq : Some op ≡ Some x = sym here ∙ is in cc) in
              sym (ap (λ (y : Operation). y.seq) one_op) ∙ (seq ∙ e)
          | false ↦ λ other. filed.own k x (sym (puts_other f g n (Some op) puts k other) ∙ is)
        ]) refl

    once : (q : ℕ) → times n more ≡ 0 → times q (numbers_of parts (insert_key nat_cmp more n)) ≡ one (is_some (g q))
    once q absent =
        let there : times q (numbers_of parts more) ≡ one (is_some (f q)) = filed.once q in
        let split : times q (numbers_of parts more) ≡ times q (all_numbers parts) + times q more = times-parts q parts more in
        let now : times q (numbers_of parts (insert_key nat_cmp more n)) ≡ times q (all_numbers parts) + times q (insert_key nat_cmp more n) = times-parts q parts (insert_key nat_cmp more n) in
        let grown : times q (insert_key nat_cmp more n) ≡ one (n == q) + times q more = times-insert q n more absent in
        (elim (n == q) as (λ b. (n == q) ≡ b → times q (insert_key nat_cmp more n) ≡ one b + times q more → times q (numbers_of parts (insert_key nat_cmp more n)) ≡ one (is_some (g q))) [
          | true ↦ λ same more_by.
              let e : n ≡ q = grind (arith, nat_tests) in
              let was : one (is_some (f q)) ≡ 0 = ap (λ (o : Option Operation). one (is_some o)) (subst (λ m. f m ≡ None) e none) in
              let is : one (is_some (g q)) ≡ 1 = ap (λ (o : Option Operation). one (is_some o)) (subst (λ m. g m ≡ Some op) e (puts_same f g n (Some op) puts)) in
              omega arith
          | false ↦ λ other more_by.
              let is : one (is_some (g q)) ≡ one (is_some (f q)) = ap (λ (o : Option Operation). one (is_some o)) (puts_other f g n (Some op) puts q other) in
              omega arith
        ]) refl grown

pub store-put : (f g : ℕ → Option Operation) (n : ℕ) (parts : List (List ℕ)) (more : List ℕ) (op : Operation) → IsFiled f parts more → Puts f g n (Some op) → op.seq ≡ n → f n ≡ None
    → store_of g parts (insert_key nat_cmp more n) ≡ stored op (store_of f parts more)
store-put f g n parts more op filed puts seq none =
    let absent : (times n (all_numbers parts) ≡ 0) × (times n more ≡ 0) = absent_both f n parts more filed none in
    let closed : parts_of g parts ≡ parts_of f parts = parts-other f g n (Some op) puts parts absent.0 in
    let there : AreThere f more = there-append_back f (all_numbers parts) more (there-from f (numbers_of parts more) (numbers_of parts more) filed.once (λ q. omega arith)) in
    let last : ops_of g (insert_key nat_cmp more n) ≡ (stored op (store_of f parts more)).open_part = ops-insert f g n op puts seq filed.own more there absent.1 in
    both (parts_of g parts) (parts_of f parts) (ops_of g (insert_key nat_cmp more n)) (stored op (store_of f parts more)).open_part closed last
  where
    both : (a b : List (List Operation)) (c d : List Operation) → a ≡ b → c ≡ d → ◌≡◌ {A = Store} record { parts = a; open_part = c } record { parts = b; open_part = d }
    both a b c d p q = ap (λ (x : List (List Operation)). record { parts = x; open_part = c }) p ∙ ap (λ (y : List Operation). record { parts = b; open_part = y }) q

pub listed-put : (f g : ℕ → Option Operation) (n : ℕ) (op : Operation) (old new : List (List ℕ × BTreeSet ℕ)) → Puts f g n (Some op) → op.seq ≡ n → f n ≡ None → IsListed f old
    → ((id : List ℕ) (q : ℕ) → listed new id q ≡ (listed old id q || (is_about id op && (op.seq == q)))) → IsListed g new
listed-put f g n op old new puts seq none lists noted = record { about = about }
  where
    and_true : (b : Bool) → (false || (b && true)) ≡ b
    and_true true = refl
    and_true false = refl

    or_nothing : (a b : Bool) → (a || (b && false)) ≡ a
    or_nothing true b = refl
    or_nothing false true = refl
    or_nothing false false = refl

    about : (id : List ℕ) (q : ℕ) → listed new id q ≡ keeps_about g id q
    about id q =
        (elim (n == q) as (λ b. (n == q) ≡ b → listed new id q ≡ keeps_about g id q) [
          | true ↦ λ same.
              let e : n ≡ q = grind (arith, nat_tests) in
              let was : listed old id q ≡ false = lists.about id q ∙ ap (λ (o : Option Operation). option_map_or (is_about id) o false) (subst (λ m. f m ≡ None) e none) in
              let is : keeps_about g id q ≡ is_about id op = ap (λ (o : Option Operation). option_map_or (is_about id) o false) (subst (λ m. g m ≡ Some op) e (puts_same f g n (Some op) puts)) in
              let own : (op.seq == q) ≡ true = grind (arith, nat_tests) in
              noted id q ∙ (rw (was, own, is) (and_true (is_about id op)))
          | false ↦ λ other.
              let is : keeps_about g id q ≡ keeps_about f id q = ap (λ (o : Option Operation). option_map_or (is_about id) o false) (puts_other f g n (Some op) puts q other) in
              let own : (op.seq == q) ≡ false = grind (arith, nat_tests) in
              noted id q ∙ (rw (own, is) (or_nothing (listed old id q) (is_about id op) ∙ lists.about id q))
        ]) refl

-- an operation noted and taken off again
pub listed-undone : (f : ℕ → Option Operation) (op : Operation) (old noted back : List (List ℕ × BTreeSet ℕ)) → f op.seq ≡ None → IsListed f old
    → ((id : List ℕ) (q : ℕ) → listed noted id q ≡ (listed old id q || (is_about id op && (op.seq == q))))
    → ((id : List ℕ) (q : ℕ) → listed back id q ≡ (listed noted id q && not (is_about id op && (op.seq == q)))) → IsListed f back
listed-undone f op old noted back none lists first second_step = record { about = about }
  where
    by : (a t : Bool) → (t ≡ true → a ≡ false) → ((a || t) && not t) ≡ a
    by true true never = absurd (let e : true ≡ false = never refl in cc)
    by true false never = refl
    by false true never = refl
    by false false never = refl

    second : (a b : Bool) → (a && b) ≡ true → b ≡ true
    second true b is = is
    second false b is = cc

    about : (id : List ℕ) (q : ℕ) → listed back id q ≡ keeps_about f id q
    about id q =
        second_step id q
        ∙ (ap (λ b. b && not (is_about id op && (op.seq == q))) (first id q)
        ∙ (by (listed old id q) (is_about id op && (op.seq == q)) (λ here.
        let same : (op.seq == q) ≡ true = second (is_about id op) (op.seq == q) here in
        let e : op.seq ≡ q = grind (arith, nat_tests) in
        lists.about id q ∙ ap (λ (o : Option Operation). option_map_or (is_about id) o false) (subst (λ m. f m ≡ None) e none))
        ∙ lists.about id q))

pub listed-same : (f : ℕ → Option Operation) (old new : List (List ℕ × BTreeSet ℕ)) → IsListed f old → ((id : List ℕ) (q : ℕ) → listed new id q ≡ listed old id q) → IsListed f new
listed-same f old new lists same = record { about = λ id q. same id q ∙ lists.about id q }

-- ---- which numbers are held

has_found : (n : ℕ) (xs : List Operation) → has_number xs n ≡ is_some (op_at n xs)
has_found n [] = refl
has_found n (x ∷ xs) = (elim (x.seq == n) as (λ b. (b || has_number xs n) ≡ is_some (if b then Some x else op_at n xs)) [ true ↦ refl | false ↦ has_found n xs ])

pub has-held : (f : ℕ → Option Operation) (n : ℕ) (parts : List (List ℕ)) (more : List ℕ) → IsFiled f parts more → has_number (held (store_of f parts more)) n ≡ is_some (f n)
has-held f n parts more filed = has_found n (held (store_of f parts more)) ∙ ap (λ (o : Option Operation). is_some o) (at-held f n parts more filed)

pub not_held : (f : ℕ → Option Operation) (n : ℕ) (parts : List (List ℕ)) (more : List ℕ) → IsFiled f parts more → has_number (held (store_of f parts more)) n ≡ false → f n ≡ None
not_held f n parts more filed absent = none (f n) (sym (has-held f n parts more filed) ∙ absent)
  where
    none : (o : Option Operation) → is_some o ≡ false → o ≡ None
    none None is = refl
    none (Some x) is = cc

-- ---- how many are held

without_key : ℕ → List ℕ → List ℕ
without_key n [] = []
without_key n (k ∷ ks) = if k == n then ks else k ∷ without_key n ks

length-without_key : (n : ℕ) (ks : List ℕ) → 1 ≤ times n ks → length ks ≡ suc (length (without_key n ks))
unfolding without_key
length-without_key n [] some = absurd (omega arith)
length-without_key n (k ∷ ks) some =
    (elim (k == n) as (λ b. 1 ≤ one b + times n ks → suc (length ks) ≡ suc (length (if b then ks else k ∷ without_key n ks))) [
      | true ↦ λ le. refl
      | false ↦ λ le. ap suc (length-without_key n ks (omega arith))
    ]) some

times-without_key : (q n : ℕ) (ks : List ℕ) → 1 ≤ times n ks → times q ks ≡ one (n == q) + times q (without_key n ks)
unfolding without_key
times-without_key q n [] some = absurd (omega arith)
times-without_key q n (k ∷ ks) some =
    (elim (k == n) as (λ b. (k == n) ≡ b → 1 ≤ one b + times n ks → one (k == q) + times q ks ≡ one (n == q) + times q (if b then ks else k ∷ without_key n ks)) [
      | true ↦ λ is le. let same : k ≡ n = grind (arith, nat_tests) in ap (λ m. one (m == q) + times q ks) same
      | false ↦ λ is le. let rest : times q ks ≡ one (n == q) + times q (without_key n ks) = times-without_key q n ks (omega arith) in omega arith
    ]) refl some

-- as many numbers as entries, where each number stands as often as it has an entry
pub length-entries : (ops : List (ℕ × Operation)) → IsStrictlySortedBy nat_cmp (keys_of ops) → (ns : List ℕ) → ((n : ℕ) → times n ns ≡ one (is_some (kept_at ops n))) → length ns ≡ length ops
length-entries [] sorted [] once = refl
length-entries [] sorted (n ∷ ns) once = let none : one (n == n) + times n ns ≡ 0 = once n in let is : (n == n) ≡ true = grind (arith, nat_tests) in absurd (let never : 1 + times n ns ≡ 0 = subst (λ b. one b + times n ns ≡ 0) is none in omega arith)
length-entries (e ∷ ops) sorted ns once =
    let own : (e.0 == e.0) ≡ true = grind (arith, nat_tests) in
    let stands : times e.0 ns ≡ 1 = once e.0 ∙ ap (λ b. one (is_some (cond b (Some e.1) (kept_at ops e.0)))) (unsigned_tied e.0 e.0 ∙ own) in
    let some : 1 ≤ times e.0 ns = omega arith in
    length-without_key e.0 ns some ∙ ap suc (length-entries ops (sorted_tail nat_cmp e.0 (keys_of ops) sorted) (without_key e.0 ns) (rest some))
  where
    rest : 1 ≤ times e.0 ns → (q : ℕ) → times q (without_key e.0 ns) ≡ one (is_some (kept_at ops q))
    rest some q =
        let split : times q ns ≡ one (e.0 == q) + times q (without_key e.0 ns) = times-without_key q e.0 ns some in
        let all : times q ns ≡ one (is_some (cond (is_at (nat_cmp q) e.0) (Some e.1) (kept_at ops q))) = once q in
        (elim (e.0 == q) as (λ b. (e.0 == q) ≡ b → times q (without_key e.0 ns) ≡ one (is_some (kept_at ops q))) [
          | true ↦ λ is.
              let same : e.0 ≡ q = grind (arith, nat_tests) in
              let own : (e.0 == e.0) ≡ true = grind (arith, nat_tests) in
              let turned_is : (q == e.0) ≡ true = grind (arith, nat_tests) in
              let none : kept_at ops q ≡ None = subst (λ m. kept_at ops m ≡ None) same (lookup-none (is_at (nat_cmp e.0)) ops (none_past_head (eq_by_cmp_equiv nat_cmp_total) e.0 e ops (IsDistinct-from_sorted nat_cmp (keys_of (e ∷ ops)) sorted) (unsigned_tied e.0 e.0 ∙ own))) in
              let yes : is_at (nat_cmp q) e.0 ≡ true = unsigned_tied q e.0 ∙ turned_is in
              let now : times q ns ≡ 1 = all ∙ ap (λ b. one (is_some (cond b (Some e.1) (kept_at ops q)))) yes in
              let no : one (is_some (kept_at ops q)) ≡ 0 = ap (λ (o : Option Operation). one (is_some o)) none in
              let split_at : times q ns ≡ 1 + times q (without_key e.0 ns) = split ∙ ap (λ b. one b + times q (without_key e.0 ns)) is in
              omega arith
          | false ↦ λ is.
              let turned_isnt : (q == e.0) ≡ false = grind (arith, nat_tests) in
              let apart : is_at (nat_cmp q) e.0 ≡ false = unsigned_tied q e.0 ∙ turned_isnt in
              let now : times q ns ≡ one (is_some (kept_at ops q)) = all ∙ ap (λ b. one (is_some (cond b (Some e.1) (kept_at ops q)))) apart in
              let split_at : times q ns ≡ 0 + times q (without_key e.0 ns) = split ∙ ap (λ b. one b + times q (without_key e.0 ns)) is in
              omega arith
        ]) refl

pub length-held : (ops : List (ℕ × Operation)) (parts : List (List ℕ)) (more : List ℕ) → IsStrictlySortedBy nat_cmp (keys_of ops) → IsFiled (kept_at ops) parts more → length (held (store_of (kept_at ops) parts more)) ≡ length ops
length-held ops parts more sorted filed =
    ap length (held-is (kept_at ops) parts more)
    ∙ (length-ops (kept_at ops) (numbers_of parts more) (there-from (kept_at ops) (numbers_of parts more) (numbers_of parts more) filed.once (λ q. omega arith))
    ∙ length-entries ops sorted (numbers_of parts more) filed.once)

-- ---- a flush

pub some_keys : (b : Bool) (ks : List ℕ) → (IsTrue b ↔ (length ks ≡ 0)) → b ≡ false → 1 ≤ length ks
some_keys b [] empty is = absurd (let yes : IsTrue b = empty.1 refl in cc)
some_keys b (k ∷ ks) empty is = omega arith

pub numbers-flushed : (parts : List (List ℕ)) (more : List ℕ) → numbers_of (parts ++ more ∷ []) [] ≡ numbers_of parts more
numbers-flushed parts more =
    append-nil (all_numbers (parts ++ more ∷ []))
    ∙ (flat_map-append {X = List ℕ} {A = ℕ} (λ part. part) parts (more ∷ []) ∙ ap (λ (xs : List ℕ). all_numbers parts ++ xs) (append-nil more))

pub filed-flushed : (f : ℕ → Option Operation) (parts : List (List ℕ)) (more : List ℕ) → IsFiled f parts more → IsFiled f (parts ++ more ∷ []) []
filed-flushed f parts more filed = record {
  own = filed.own;
  once = λ n. ap (times n) (numbers-flushed parts more) ∙ filed.once n;
}

pub store-flushed : (f : ℕ → Option Operation) (parts : List (List ℕ)) (more : List ℕ) → IsFiled f parts more → 1 ≤ length more
    → store_of f (parts ++ more ∷ []) [] ≡ flushed (store_of f parts more)
store-flushed f parts more filed some =
    let there : AreThere f more = there-append_back f (all_numbers parts) more (there-from f (numbers_of parts more) (numbers_of parts more) filed.once (λ q. omega arith)) in
    ap (λ (ps : List (List Operation)). record { parts = ps; open_part = [] })
    (map-append {A = List ℕ} {B = List Operation} (ops_of f) parts (more ∷ []) ∙ ap (λ (ps : List (List Operation)). parts_of f parts ++ ps) (sym (one more there some)))
  where
    one : (ns : List ℕ) → AreThere f ns → 1 ≤ length ns → one_part (ops_of f ns) ≡ ops_of f ns ∷ []
    one [] all le = absurd (omega arith)
    one (k ∷ ns) all le = let first : (op : Operation) × (f k ≡ Some op) = some_is (f k) all.0 in rw first.1 refl

pub store-unflushed : (f : ℕ → Option Operation) (parts : List (List ℕ)) (more : List ℕ) → more ≡ [] → store_of f parts more ≡ flushed (store_of f parts more)
store-unflushed f parts more none =
    let P : List ℕ → Type 0 = λ m. store_of f parts m ≡ flushed (store_of f parts m) in
    subst P (sym none) (ap (λ (ps : List (List Operation)). record { parts = ps; open_part = [] }) (sym (append-nil (parts_of f parts))))

-- ---- the whole of what is kept

pub kept-taken : (op : Operation) (old new : List (ℕ × Operation)) (before after : List ℕ) (parts : List Closed) (ids noted : List (List ℕ × BTreeSet ℕ)) → IsKept old parts before ids
    → IsTaken op old new before after → kept_at old op.seq ≡ None → ((id : List ℕ) (q : ℕ) → listed noted id q ≡ (listed ids id q || (is_about id op && (op.seq == q)))) → IsKept new parts after noted
kept-taken op old new before after parts ids noted kept taken none listing = record {
  filed = subst (IsFiled (kept_at new) (lists_of parts)) (sym taken.numbers) (filed-put (kept_at old) (kept_at new) op.seq (lists_of parts) before op kept.filed taken.puts refl none);
  lists = listed-put (kept_at old) (kept_at new) op.seq op ids noted taken.puts refl none kept.lists listing;
  closed = closed-alike (kept_at old) (kept_at new) parts (λ q le. puts_other (kept_at old) (kept_at new) op.seq (Some op) taken.puts q (apart q le)) kept.closed;
}
  where
    apart : (q : ℕ) → 1 ≤ times q (all_numbers (lists_of parts)) → (op.seq == q) ≡ false
    apart q le =
        (elim (op.seq == q) as (λ b. (op.seq == q) ≡ b → b ≡ false) [
          | true ↦ λ is. absurd (let same : op.seq ≡ q = grind (arith, nat_tests) in let out : times op.seq (all_numbers (lists_of parts)) ≡ 0 = (absent_both (kept_at old) op.seq (lists_of parts) before kept.filed none).0 in let there : 1 ≤ times op.seq (all_numbers (lists_of parts)) = subst (λ k. 1 ≤ times k (all_numbers (lists_of parts))) (sym same) le in omega arith)
          | false ↦ λ is. refl
        ]) refl

pub store-taken : (op : Operation) (old new : List (ℕ × Operation)) (before after : List ℕ) (parts : List Closed) (ids : List (List ℕ × BTreeSet ℕ)) → IsKept old parts before ids
    → IsTaken op old new before after → kept_at old op.seq ≡ None → store_of (kept_at new) (lists_of parts) after ≡ stored op (store_of (kept_at old) (lists_of parts) before)
store-taken op old new before after parts ids kept taken none =
    ap (store_of (kept_at new) (lists_of parts)) taken.numbers
    ∙ store-put (kept_at old) (kept_at new) op.seq (lists_of parts) before op kept.filed taken.puts refl none

pub kept-left : (old new : List (ℕ × Operation)) (before after : List ℕ) (parts : List Closed) (ids back : List (List ℕ × BTreeSet ℕ)) → IsKept old parts before ids
    → IsLeft old new before after → IsListed (kept_at old) back → IsKept new parts after back
kept-left old new before after parts ids back kept left lists =
    let same : kept_at old ≡ kept_at new = sym (fun_ext left.same) in
    record {
      filed = subst (IsFiled (kept_at new) (lists_of parts)) (sym left.numbers) (subst (λ f. IsFiled f (lists_of parts) before) same kept.filed);
      lists = subst (λ f. IsListed f back) same lists;
      closed = subst (λ f. AllByRecursion (IsClosed f) parts) same kept.closed;
    }

pub store-left : (old new : List (ℕ × Operation)) (before after : List ℕ) (parts : List Closed) → IsLeft old new before after → store_of (kept_at new) (lists_of parts) after ≡ store_of (kept_at old) (lists_of parts) before
store-left old new before after parts left =
    ap (store_of (kept_at new) (lists_of parts)) left.numbers ∙ ap (λ f. store_of f (lists_of parts) before) (fun_ext left.same)

-- what is kept is an index of all its numbers
pub indexed-kept : (ops : List (ℕ × Operation)) (parts : List Closed) (more : List ℕ) (ids : List (List ℕ × BTreeSet ℕ)) → IsKept ops parts more ids → IsIndexed (kept_at ops) (numbers_of (lists_of parts) more) ids
indexed-kept ops parts more ids kept = record {
  own = kept.filed.own;
  covers = λ n some. let once : times n (numbers_of (lists_of parts) more) ≡ one (is_some (kept_at ops n)) = kept.filed.once n in let is : one (is_some (kept_at ops n)) ≡ 1 = ap one some in omega arith;
  lists = kept.lists;
}

pub lists-pushed : (parts : List Closed) (numbers : List ℕ) (bytes : ℕ) → lists_of (parts ++ record { numbers = numbers; bytes = bytes } ∷ []) ≡ lists_of parts ++ numbers ∷ []
lists-pushed parts numbers bytes = map-append {A = Closed} {B = List ℕ} (λ part. part.numbers) parts (record { numbers = numbers; bytes = bytes } ∷ [])

-- a flush closes one more part
pub kept-flushed : (ops : List (ℕ × Operation)) (parts made : List Closed) (more after : List ℕ) (ids : List (List ℕ × BTreeSet ℕ)) (bytes : ℕ) → IsKept ops parts more ids → Ascend 0 more
    → bytes ≡ length (segment_of_ops (ops_of (kept_at ops) more)) → made ≡ parts ++ record { numbers = more; bytes = bytes } ∷ [] → after ≡ [] → IsKept ops made after ids
kept-flushed ops parts made more after ids bytes kept order size is none =
    subst (λ (ps : List Closed). IsKept ops ps after ids) (sym is) (subst (λ (ns : List ℕ). IsKept ops (parts ++ record { numbers = more; bytes = bytes } ∷ []) ns ids) (sym none) record {
      filed = subst (λ (ps : List (List ℕ)). IsFiled (kept_at ops) ps []) (sym (lists-pushed parts more bytes)) (filed-flushed (kept_at ops) (lists_of parts) more kept.filed);
      lists = kept.lists;
      closed = All-append (IsClosed (kept_at ops)) parts (record { numbers = more; bytes = bytes } ∷ []) kept.closed (record { order = order; bytes = size }, tt);
    })
