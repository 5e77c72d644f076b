-- A follower's poll is taken out of all polls.
use Rattle.std.proofs.Common.{◌≡◌, ℕ, ◌+◌, ◌-◌, ◌<◌, ◌≤◌, ◌==◌, ◌||◌, not, subst, zero, suc, Bool, true, false, cond, Some, None, List, [], ◌∷◌, length, filter, refl, sym, ◌∙◌, ap, arith, if◌then◌else◌}
use Rattle.std.specs.Prelude.{slice_get}
use Rattle.std.specs.List.{list_any}
use Rattle.std.specs.Ordering.{nat_cmp}
use Rattle.std.specs.Str.{bytes_eq}
use Rattle.std.specs.Map.{keys_of, values_of, remove_entry}
use Rattle.std.specs.BTreeMap.{is_at}
use Rattle.std.proofs.lemmas.Bool.Decides.{nat_tests}
use Rattle.ccr_model.specs.Leaders.{Poll, polls_of, without_poll}
use Rattle.ccr_changes.specs.Indexes.{AreAges, ages_of}
use Rattle.ccr_changes.proofs.Ages.{Found, found, at_above, at_same}

-- the poll is this follower's
abbrev pub is_of : List ℕ → Poll → Bool
is_of follower p = bytes_eq p.follower follower

-- the polls without the one at a place, by whether the first is the follower's
abbrev first_of : List ℕ → ℕ → Poll → List Poll → Bool → List Poll
first_of follower i p polls b = if b then (if i == 0 then polls else p ∷ without_poll follower (i - 1) polls) else p ∷ without_poll follower i polls

-- past a poll of the follower the place counts one less
counted : (follower : List ℕ) (i : ℕ) (p : Poll) (polls : List Poll) → first_of follower (suc i) p polls true ≡ p ∷ without_poll follower i polls
counted follower i p polls =
    let some : (suc i == 0) ≡ false = grind (arith, nat_tests) in
    let one_less : suc i - 1 ≡ i = omega arith in
    ap (λ (b : Bool). if b then polls else p ∷ without_poll follower (suc i - 1) polls) some ∙ ap (λ (n : ℕ). p ∷ without_poll follower n polls) one_less

-- the ages of the follower's polls, by whether the first is the follower's
first_ages : (follower : List ℕ) (i age : ℕ) (e : ℕ × Poll) (es : List (ℕ × Poll)) → slice_get (ages_of (e ∷ es) follower) i ≡ Some age
    → slice_get (cond (is_of follower e.1) (e.0 ∷ ages_of es follower) (ages_of es follower)) i ≡ Some age
first_ages follower i age e es is = by (is_of follower e.1) is
  where
    by : (b : Bool) → slice_get (keys_of (cond b (e ∷ filter (λ x. is_of follower x.1) es) (filter (λ x. is_of follower x.1) es))) i ≡ Some age
        → slice_get (cond b (e.0 ∷ ages_of es follower) (ages_of es follower)) i ≡ Some age
    by true h = h
    by false h = h

past_first : (follower : List ℕ) (low next i age : ℕ) (e : ℕ × Poll) (es : List (ℕ × Poll)) → AreAges low next (e ∷ es) → slice_get (ages_of es follower) i ≡ Some age
    → values_of (remove_entry (is_at (nat_cmp age)) (e ∷ es)) ≡ e.1 ∷ values_of (remove_entry (is_at (nat_cmp age)) es)
past_first follower low next i age e es ages is =
    let rest : Found (is_of follower) (e.0 + 1) es i age = found (is_of follower) (e.0 + 1) next i age es ages.2 is in
    let past : e.0 + 1 ≤ age = rest.above in
    ap (λ (b : Bool). values_of (cond b es (e ∷ remove_entry (is_at (nat_cmp age)) es))) (at_above age e.0 (omega arith))

pub take-values : (follower : List ℕ) (low next i age : ℕ) (es : List (ℕ × Poll)) → AreAges low next es → slice_get (ages_of es follower) i ≡ Some age
    → values_of (remove_entry (is_at (nat_cmp age)) es) ≡ without_poll follower i (values_of es)
take-values follower low next i age [] ages is = refl
take-values follower low next zero age (e ∷ es) ages is =
    (elim (is_of follower e.1) as (λ b. slice_get (cond b (e.0 ∷ ages_of es follower) (ages_of es follower)) zero ≡ Some age
    → values_of (remove_entry (is_at (nat_cmp age)) (e ∷ es)) ≡ first_of follower zero e.1 (values_of es) b) [
      | true ↦ λ here.
          let same : age ≡ e.0 = cc in
          ap (λ (b : Bool). values_of (cond b es (e ∷ remove_entry (is_at (nat_cmp age)) es))) (at_same age e.0 same)
      | false ↦ λ here. past_first follower low next zero age e es ages here ∙ ap (λ (polls : List Poll). e.1 ∷ polls) (take-values follower (e.0 + 1) next zero age es ages.2 here)
    ]) (first_ages follower zero age e es is)
take-values follower low next (suc i) age (e ∷ es) ages is =
    (elim (is_of follower e.1) as (λ b. slice_get (cond b (e.0 ∷ ages_of es follower) (ages_of es follower)) (suc i) ≡ Some age
    → values_of (remove_entry (is_at (nat_cmp age)) (e ∷ es)) ≡ first_of follower (suc i) e.1 (values_of es) b) [
      | true ↦ λ here.
          past_first follower low next i age e es ages here
          ∙ (ap (λ (polls : List Poll). e.1 ∷ polls) (take-values follower (e.0 + 1) next i age es ages.2 here) ∙ sym (counted follower i e.1 (values_of es)))
      | false ↦ λ here. past_first follower low next (suc i) age e es ages here ∙ ap (λ (polls : List Poll). e.1 ∷ polls) (take-values follower (e.0 + 1) next (suc i) age es ages.2 here)
    ]) (first_ages follower (suc i) age e es is)

-- past the last one nothing is taken
pub take-past : (follower : List ℕ) (i : ℕ) (polls : List Poll) → slice_get (polls_of polls follower) i ≡ None → without_poll follower i polls ≡ polls
take-past follower i [] is = refl
take-past follower zero (p ∷ polls) is =
    (elim (is_of follower p) as (λ b. slice_get (cond b (p ∷ polls_of polls follower) (polls_of polls follower)) zero ≡ None → first_of follower zero p polls b ≡ p ∷ polls) [
      | true ↦ λ here. absurd cc
      | false ↦ λ here. ap (λ (rest : List Poll). p ∷ rest) (take-past follower zero polls here)
    ]) is
take-past follower (suc i) (p ∷ polls) is =
    (elim (is_of follower p) as (λ b. slice_get (cond b (p ∷ polls_of polls follower) (polls_of polls follower)) (suc i) ≡ None → first_of follower (suc i) p polls b ≡ p ∷ polls) [
      | true ↦ λ here. counted follower i p polls ∙ ap (λ (rest : List Poll). p ∷ rest) (take-past follower i polls here)
      | false ↦ λ here. ap (λ (rest : List Poll). p ∷ rest) (take-past follower (suc i) polls here)
    ]) is

-- ---- all polls at a copy are taken, one after the other

-- what does not pass is taken: what passes stays, and there is one fewer
pub record TookOther (test : Poll → Bool) (old new : List Poll) : Type 0 where
  pub same : filter test new ≡ filter test old
  pub fewer : length new < length old

took_more : (test : Poll → Bool) (p : Poll) (old new : List Poll) → TookOther test old new → TookOther test (p ∷ old) (p ∷ new)
took_more test p old new it = record {
  same = ap (λ (rest : List Poll). cond (test p) (p ∷ rest) rest) it.same;
  fewer = let less : length new < length old = it.fewer in omega arith;
}

pub took-other : (test : Poll → Bool) (follower : List ℕ) (i : ℕ) (p : Poll) (polls : List Poll) → slice_get (polls_of polls follower) i ≡ Some p → test p ≡ false → TookOther test polls (without_poll follower i polls)
took-other test follower i p [] is fails = absurd cc
took-other test follower zero p (x ∷ polls) is fails =
    (elim (is_of follower x) as (λ b. slice_get (cond b (x ∷ polls_of polls follower) (polls_of polls follower)) zero ≡ Some p → TookOther test (x ∷ polls) (first_of follower zero x polls b)) [
      | true ↦ λ here.
          let own : x ≡ p = cc in
          record { same = sym (ap (λ (b : Bool). cond b (x ∷ filter test polls) (filter test polls)) (ap test own ∙ fails)); fewer = omega arith }
      | false ↦ λ here. took_more test x polls (without_poll follower zero polls) (took-other test follower zero p polls here fails)
    ]) is
took-other test follower (suc i) p (x ∷ polls) is fails =
    (elim (is_of follower x) as (λ b. slice_get (cond b (x ∷ polls_of polls follower) (polls_of polls follower)) (suc i) ≡ Some p → TookOther test (x ∷ polls) (first_of follower (suc i) x polls b)) [
      | true ↦ λ here.
          subst (TookOther test (x ∷ polls)) (sym (counted follower i x polls)) (took_more test x polls (without_poll follower i polls) (took-other test follower i p polls here fails))
      | false ↦ λ here. took_more test x polls (without_poll follower (suc i) polls) (took-other test follower (suc i) p polls here fails)
    ]) is

-- where nothing passes, the others are all
pub none-others : (test : Poll → Bool) (polls : List Poll) → list_any test polls ≡ false → filter (λ p. not (test p)) polls ≡ polls
none-others test [] none = refl
none-others test (p ∷ polls) none =
    (elim (test p) as (λ b. (b || list_any test polls) ≡ false → cond (not b) (p ∷ filter (λ p. not (test p)) polls) (filter (λ p. not (test p)) polls) ≡ p ∷ polls) [
      | true ↦ λ here. absurd cc
      | false ↦ λ here. ap (λ (rest : List Poll). p ∷ rest) (none-others test polls here)
    ]) none
