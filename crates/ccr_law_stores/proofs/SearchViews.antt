-- Sets of operations that have the same members, or show the same documents, have the same answers.
use Rattle.std.proofs.Common.{◌≡◌, ◌↔◌, ℕ, ◌+◌, ◌<◌, ◌≤◌, true, false, not, Option, Some, is_some, List, [], ◌∷◌, take, slice_get, IsTrue, refl, sym, ◌∙◌, subst, arith}
use Rattle.std.proofs.lemmas.Bool.Decides.{nat_tests}
use Rattle.ccr_op.specs.Operation.{Operation}
use Rattle.ccr_tracker.specs.Numbers.{Numbers, has, IsCanonical}
use Rattle.ccr_query.specs.Answers.{HitsOfShard}
use Rattle.ccr_query.specs.Queries.{Tree}
use Rattle.ccr_query.specs.declared.answers.Hit.{Hit}
use Rattle.ccr_query.specs.declared.sorting.SortKey.{SortKey}
use Rattle.ccr_model.specs.Operations.{is_empty}
use Rattle.ccr_model.specs.Given.{IsAmong}
use Rattle.ccr_model.specs.Answers.{IsIn, HasNumber, IsCount, HasAbove, HasExactlyBelow, IsLive, IsHit, IsAnswer}
use Rattle.ccr_law_copies.proofs.Sets.{count_absent, has-below}
use Rattle.ccr_law_base.proofs.Lists.{some_equal}
use Rattle.ccr_law_stores.specs.Searchable.{AreNumbered, AreOfLine}
use Rattle.ccr_law_stores.proofs.SearchMembers.{IsIn-take, place_in_front}
use Rattle.ccr_law_copies.proofs.CopyChanges.{some-of}

-- ---- the same members

pub live-same : (S T : Operation → Type 0) → ((op : Operation) → S op → T op) → ((op : Operation) → T op → S op)
    → (id : List ℕ) (routing : Option (List ℕ)) (body : List ℕ) → IsLive S id routing body → IsLive T id routing body
live-same S T to from id routing body live = record {
  op = live.op;
  is_in = to live.op live.is_in;
  puts = live.puts;
  greatest = λ other at about. live.greatest other (from other at) about;
}

pub hit-same : (S T : Operation → Type 0) (query : Tree) (hit : Hit) → (IsLive S hit.id hit.routing hit.body → IsLive T hit.id hit.routing hit.body)
    → IsHit S query hit → IsHit T query hit
hit-same S T query hit live h = record { live = live h.live; holds = h.holds }

-- two sets with the same members have the same answers
pub same_answers : (S T : Operation → Type 0) → ((op : Operation) → S op → T op) → ((op : Operation) → T op → S op)
    → (query : Tree) (keys : List SortKey) (answer : HitsOfShard) → IsAnswer S query keys answer → IsAnswer T query keys answer
same_answers S T to from query keys answer a = record {
  count = record {
    below = λ n lt. let h = a.count.below n lt in (h.0, to h.0 h.1, h.2);
    absent = λ h. a.count.absent (h.0, from h.0 h.1, h.2);
  };
  gap = ((λ is. let h = a.gap.0 is in (h.0, to h.0 h.1, h.2)), (λ h. a.gap.1 (h.0, from h.0 h.1, h.2)));
  ordered = a.ordered;
  exact = λ hit. (
    (λ at. hit-same S T query hit (live-same S T to from hit.id hit.routing hit.body) ((a.exact hit).0 at)),
    (λ h. (a.exact hit).1 (hit-same T S query hit (live-same T S from to hit.id hit.routing hit.body) h)),
  );
}

-- ---- a front of the line

-- what is given and is of the line is the line's front, where it has exactly the numbers below a count
pub given_in_front : (line : List Operation) (ops : ℕ → Option Operation) (n : ℕ) → AreOfLine line ops → HasExactlyBelow (IsAmong ops) n
    → (op : Operation) → IsAmong ops op → IsIn (take n line) op
given_in_front line ops n ours exactly op among = IsIn-take line n op.seq op (ours op.seq op among) ((exactly op.seq).0 (op, among, refl))

pub front_given : (line : List Operation) (ops : ℕ → Option Operation) (n : ℕ) → AreOfLine line ops → HasExactlyBelow (IsAmong ops) n
    → (op : Operation) → IsIn (take n line) op → IsAmong ops op
front_given line ops n ours exactly op at =
    let place : (k : ℕ) × (k < n) × (slice_get line k ≡ Some op) = place_in_front line n op at in
    let own : HasNumber (IsAmong ops) place.0 = (exactly place.0).1 place.1 in
    let there : slice_get line place.0 ≡ Some own.0 = ours place.0 own.0 (subst (λ (k : ℕ). ops k ≡ Some own.0) own.2 own.1) in
    let same : own.0 ≡ op = some_equal own.0 op (sym there ∙ place.2) in
    subst (IsAmong ops) same own.1

-- ---- counts and gaps

pub given_number : (ops : ℕ → Option Operation) → AreNumbered ops → (n : ℕ) → is_some (ops n) ≡ true → HasNumber (IsAmong ops) n
given_number ops numbered n is =
    let found : (op : Operation) × (ops n ≡ Some op) = some-of (ops n) is in
    let number : found.0.seq ≡ n = numbered n found.0 found.1 in
    (found.0, subst (λ (k : ℕ). ops k ≡ Some found.0) (sym number) found.1, number)

pub number_given : (ops : ℕ → Option Operation) (op : Operation) → IsAmong ops op → is_some (ops op.seq) ≡ true
number_given ops op among = rw among refl

pub count_of : (ops : ℕ → Option Operation) (seen : Numbers) → AreNumbered ops → ((n : ℕ) → has seen n ≡ is_some (ops n)) → IsCanonical seen → IsCount (IsAmong ops) seen.count
count_of ops seen numbered processed up = record { below = below; absent = absent }
  where
    below : (n : ℕ) → n < seen.count → HasNumber (IsAmong ops) n
    below n lt = given_number ops numbered n (sym (processed n) ∙ has-below seen n lt)

    absent : ¬ HasNumber (IsAmong ops) seen.count
    absent h =
        let given : is_some (ops h.0.seq) ≡ true = number_given ops h.0 h.1 in
        let inside : has seen seen.count ≡ true = processed seen.count ∙ subst (λ (k : ℕ). is_some (ops k) ≡ true) h.2 given in
        let out : has seen seen.count ≡ false = count_absent seen up in cc

gap_above : (ops : ℕ → Option Operation) (count : ℕ) (above : List ℕ) → AreNumbered ops → ((n : ℕ) → has (record { count = count; above = above }) n ≡ is_some (ops n))
    → IsCanonical (record { count = count; above = above }) → IsTrue (not (is_empty above)) → HasAbove (IsAmong ops) count
gap_above ops count [] numbered processed up is = cc
gap_above ops count (x ∷ xs) numbered processed up is =
    let low : count + 1 ≤ x = up.0 in
    let inside : has (record { count = count; above = x ∷ xs }) x ≡ true = grind (arith, nat_tests) in
    let own : HasNumber (IsAmong ops) x = given_number ops numbered x (sym (processed x) ∙ inside) in
    (own.0, own.1, subst (λ (k : ℕ). count < k) (sym own.2) (omega arith))

above_gap : (count : ℕ) (above : List ℕ) (n : ℕ) → count < n → has (record { count = count; above = above }) n ≡ true → IsTrue (not (is_empty above))
above_gap count [] n lt is = absurd (grind (arith, nat_tests))
above_gap count (x ∷ xs) n lt is = refl

pub gap_of : (ops : ℕ → Option Operation) (seen : Numbers) → AreNumbered ops → ((n : ℕ) → has seen n ≡ is_some (ops n)) → IsCanonical seen
    → IsTrue (not (is_empty seen.above)) ↔ HasAbove (IsAmong ops) seen.count
gap_of ops seen numbered processed up = (
  gap_above ops seen.count seen.above numbered processed up,
  (λ h. above_gap seen.count seen.above h.0.seq h.2 (processed h.0.seq ∙ number_given ops h.0 h.1)),
)
