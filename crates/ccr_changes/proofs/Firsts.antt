-- The first key of a copy, and whether a request has a key.
use Rattle.std.proofs.Common.{◌≡◌, ℕ, ◌≤◌, ◌==◌, Bool, true, false, List, refl, sym, ◌∙◌, ap, subst, arith}
use Rattle.std.specs.Ordering.{nat_cmp, is_eq}
use Rattle.std.specs.declared.cmp.Ordering.TheVariants.{Equal}
use Rattle.std.specs.Cmp.{nat_cmp_total}
use Rattle.std.specs.Cmp.Lexicographic.{slice_cmp, nat_list_cmp_total, bytes_decides}
use Rattle.std.specs.Str.{bytes_eq}
use Rattle.std.proofs.lemmas.Map.Text.{is_eq-slice_cmp}
use Rattle.std.proofs.lemmas.Bool.Decides.{nat_tests}
use Rattle.ccr_changes.specs.Indexes.{IsAnyRequest, IsFirstKey, copy_cmp, has_copy, has_request, request_cmp}
use Rattle.ccr_changes.proofs.Ages.{at_is}
use Rattle.ccr_changes.proofs.Keys.{IsFirst, shared}

module _ (keys : List (ℕ × ℕ × ℕ)) (copy : ℕ) (first : ℕ × ℕ × ℕ) (it : IsFirst copy_cmp keys (copy, 0, 0) first) where
  -- the first key from the copy on is another copy's
  pub copy-passed : (first.0 ≡ copy → ⊥) → (from age : ℕ) → has_copy keys (copy, from, age) ≡ false
  copy-passed apart from age = by (has_copy keys (copy, from, age)) refl
    where
      by : (b : Bool) → has_copy keys (copy, from, age) ≡ b → b ≡ false
      by true has = absurd (apart (at_is first.0 copy (ap is_eq (shared nat_cmp_total keys copy 0 first from age it (omega arith) has).1)))
      by false has = refl

  pub copy-first : first.0 ≡ copy → IsFirstKey keys copy first.1 first.2
  copy-first is = record {
    there = subst (λ (n : ℕ). has_copy keys (n, first.1, first.2) ≡ true) is it.there;
    least = λ number other has. (shared nat_cmp_total keys copy 0 first number other it (omega arith) has).3;
  }

module _ (keys : List (List ℕ × ℕ × ℕ)) (follower : List ℕ) (request : ℕ) (first : List ℕ × ℕ × ℕ) (it : IsFirst request_cmp keys (follower, request, 0) first) where
  -- the first key from the request on is another follower's
  pub request-passed : bytes_eq first.0 follower ≡ false → IsAnyRequest keys follower request false
  request-passed apart = λ age. by age (has_request keys (follower, request, age)) refl
    where
      by : (age : ℕ) (b : Bool) → has_request keys (follower, request, age) ≡ b → b ≡ false
      by age true has =
          let tied : slice_cmp nat_cmp first.0 follower ≡ Equal = (shared nat_list_cmp_total keys follower request first request age it (omega arith) has).1 in
          let same : bytes_eq first.0 follower ≡ true = sym (is_eq-slice_cmp first.0 follower) ∙ ap is_eq tied in
          sym same ∙ apart
      by age false has = refl

  -- it is this follower's: of the request, or of a later one
  pub request-first : bytes_eq first.0 follower ≡ true → IsAnyRequest keys follower request (first.1 == request)
  request-first same = by (first.1 == request) refl
    where
      there : first.1 ≡ request → has_request keys (follower, request, first.2) ≡ true
      there is =
          let own : first.0 ≡ follower = (bytes_decides first.0 follower).0 same in
          subst (λ (n : ℕ). has_request keys (follower, n, first.2) ≡ true) is (subst (λ (f : List ℕ). has_request keys (f, first.1, first.2) ≡ true) own it.there)

      none : (first.1 == request) ≡ false → (age : ℕ) (b : Bool) → has_request keys (follower, request, age) ≡ b → b ≡ false
      none apart age true has =
          let low : request ≤ first.1 = (shared nat_list_cmp_total keys follower request first request age it (omega arith) has).2 in
          let high : first.1 ≤ request = (shared nat_list_cmp_total keys follower request first request age it (omega arith) has).3 in
          absurd (grind (arith, nat_tests))
      none apart age false has = refl

      by : (b : Bool) → (first.1 == request) ≡ b → IsAnyRequest keys follower request b
      by true is = let e : first.1 ≡ request = grind (arith, nat_tests) in (first.2, there e)
      by false is = λ age. none is age (has_request keys (follower, request, age)) refl
