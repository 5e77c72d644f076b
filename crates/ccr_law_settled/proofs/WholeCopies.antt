-- A copy that knows of the whole line as committed answers over the whole line.
use Rattle.std.specs.Prelude.{IsTrue, slice_get}
use Rattle.std.proofs.Common.{◌≡◌, ℕ, ◌<◌, ◌≤◌, nat_lt, Bool, true, false, Option, Some, None, is_some, List, [], ◌∷◌, length, take, refl, sym, ap, subst, arith}
use Rattle.std.proofs.lemmas.Bool.Decides.{nat_tests}
use Rattle.ccr_op.specs.Operation.{Operation}
use Rattle.ccr_tracker.specs.Numbers.{IsCanonical}
use Rattle.ccr_query.specs.Answers.{HitsOfShard}
use Rattle.ccr_query.specs.Queries.{Tree}
use Rattle.ccr_query.specs.declared.sorting.SortKey.{SortKey}
use Rattle.ccr_model.specs.Given.{IsAmong}
use Rattle.ccr_model.specs.Answers.{HasNumber, IsIn, IsAnswer, HasExactlyBelow}
use Rattle.ccr_model.specs.Copies.{Copy}
use Rattle.ccr_model.specs.Searches.{search_of}
use Rattle.ccr_model.specs.Past.{Line}
use Rattle.ccr_model.specs.CopyFacts.{IsLineCopy, HoldsEnough}
use Rattle.ccr_model.specs.Invariants.{IsTrueFollowerCopy}
use Rattle.ccr_model.specs.Headline.{AnswersBy}
use Rattle.ccr_law_base.proofs.Lists.{get_within}
use Rattle.ccr_law_base.proofs.Tests.{by_test}
use Rattle.ccr_law_stores.specs.Searchable.{HoldsOnce, AreNumbered, AreOfLine}
use Rattle.ccr_law_stores.proofs.SearchSays.{leader_answers, follower_answers}
use Rattle.ccr_law_settled.specs.WhenSettled.{AnswersAll}

-- what the copy answers to each search
abbrev pub SearchesAll : List Operation → Copy → Type 0
SearchesAll ops c = (query : Tree) (keys : List SortKey) → AnswersAll ops query keys (search_of c query keys)

-- ---- an answer at the line's length

take_all : {X : Type 0} (xs : List X) → take (length xs) xs ≡ xs
take_all [] = refl
take_all (x ∷ xs) = ap (λ ys. x ∷ ys) (take_all xs)

not_true : (b : Bool) → (IsTrue b → ⊥) → b ≡ false
not_true true no_way = absurd (no_way refl)
not_true false no_way = refl

-- over exactly the numbers below a count
all_counted : (S : Operation → Type 0) (n count : ℕ) → HasExactlyBelow S n → ((k : ℕ) → k < count → HasNumber S k) → (HasNumber S count → ⊥) → count ≡ n
all_counted S n count exactly below absent =
    let least : n ≤ count = not_less n count (λ lt. absent ((exactly count).1 lt)) in
    let most : count ≤ n = not_less count n (λ lt. let own : n < n = (exactly n).0 (below n lt) in omega arith) in
    omega arith
  where
    not_less : (a b : ℕ) → (b < a → ⊥) → a ≤ b
    not_less a b none = by_test (a ≤ b) (nat_lt b a) (λ is. absurd (none (grind (arith, nat_tests)))) (λ isnt. grind (arith, nat_tests))

pub at_length : (line : Line) (ops : ℕ → Option Operation) (counts : Type 0) (query : Tree) (keys : List SortKey) (answer : HitsOfShard) → counts
    → HasExactlyBelow (IsAmong ops) (length line.ops) → AnswersBy line ops counts query keys answer → AnswersAll line.ops query keys answer
at_length line ops counts query keys answer holds exactly a =
    let given : IsAnswer (IsAmong ops) query keys answer = a.by_given in
    let count : answer.count ≡ length line.ops = all_counted (IsAmong ops) (length line.ops) answer.count exactly given.count.below given.count.absent in
    record {
      count = count;
      gap = not_true answer.gap (λ is. let above = given.gap.0 is in let low : above.0.seq < length line.ops = (exactly above.0.seq).0 (above.0, above.1, refl) in
          let high : answer.count < above.0.seq = above.2 in omega (arith, count));
      over = subst (λ (xs : List Operation). IsAnswer (IsIn xs) query keys answer) (take_all line.ops) (a.as_history holds (length line.ops) exactly);
    }

-- ---- a copy that has all

given_some : (ops : ℕ → Option Operation) (n : ℕ) → AreNumbered ops → is_some (ops n) ≡ true → HasNumber (IsAmong ops) n
given_some ops n numbered there = by_found (ops n) refl there
  where
    by_found : (o : Option Operation) → ops n ≡ o → is_some o ≡ true → HasNumber (IsAmong ops) n
    by_found None is some = absurd cc
    by_found (Some op) is some = (op, subst (λ (k : ℕ). ops k ≡ Some op) (sym (numbered n op is)) is, numbered n op is)

-- it was given all below the line's length, and nothing but the line's
exactly_all : (line : List Operation) (ops : ℕ → Option Operation) → AreNumbered ops → AreOfLine line ops → ((n : ℕ) → n < length line → is_some (ops n) ≡ true)
    → HasExactlyBelow (IsAmong ops) (length line)
exactly_all line ops numbered ours whole n = (
  λ has_it. let there : slice_get line has_it.0.seq ≡ Some has_it.0 = ours has_it.0.seq has_it.0 has_it.1 in
      subst (λ (k : ℕ). k < length line) has_it.2 (get_within line has_it.0.seq has_it.0 there),
  λ lt. given_some ops n numbered (whole n lt),
)

pub leader_copy_all : (line : Line) (ops : ℕ → Option Operation) (c : Copy) → IsLineCopy line ops true c → HoldsEnough ops 0 c → IsCanonical c.seen → AreNumbered ops → HoldsOnce c
    → c.global ≡ length line.ops → SearchesAll line.ops c
leader_copy_all line ops c copy store up numbered once global query keys =
    at_length line ops (true ≡ true) query keys (search_of c query keys) refl
    (exactly_all line.ops ops numbered (copy.ours refl) (subst (λ (m : ℕ). (n : ℕ) → n < m → is_some (ops n) ≡ true) global store.whole))
    (leader_answers line ops true c copy store up numbered once query keys)

pub follower_copy_all : (line : Line) (given : ℕ → ℕ → Option Operation) (restored : ℕ) (c : Copy) → IsTrueFollowerCopy line given restored c → IsCanonical c.seen → HoldsOnce c
    → c.global ≡ length line.ops → SearchesAll line.ops c
follower_copy_all line given restored c copy up once global query keys =
    at_length line (given c.number) (Unit {0}) query keys (search_of c query keys) tt
    (exactly_all line.ops (given c.number) (λ n op e. (copy.committed n op e).1)
    (λ n op e. let known = copy.committed n op e in subst (λ (k : ℕ). slice_get line.ops k ≡ Some op) known.1 known.0.same)
    (subst (λ (m : ℕ). (n : ℕ) → n < m → is_some (given c.number n) ≡ true) global copy.store.whole))
    (follower_answers line given restored c copy up once query keys)
