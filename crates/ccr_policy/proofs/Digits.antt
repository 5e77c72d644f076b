-- What the number of binary digits says.
use Rattle.std.proofs.Common.{◌≡◌, ℕ, ◌+◌, ◌-◌, ◌*◌, ◌^◌, ◌<◌, ◌≤◌, sym, subst, arith}
use Rattle.std.proofs.lemmas.Nat.{leading_length}
use Rattle.ccr_policy.specs.Fate.{binary_digits}

pub record AreDigits (ops digits : ℕ) : Type 0 where
  pub fits : ops < 2 ^ digits
  pub least : 2 ^ digits ≤ 2 * ops + 1

pub digits_are : (ops : ℕ) → ops < 2 ^ 64 → AreDigits ops (binary_digits ops)
digits_are ops lt =
    let h = leading_length 64 ops lt in
    let e : binary_digits ops ≡ h.0 = omega (arith, h.1) in
    subst (AreDigits ops) (sym e) record { fits = h.2; least = h.3 }
