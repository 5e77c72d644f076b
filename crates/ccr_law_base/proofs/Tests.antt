-- Tests that come out as they have to.
use Rattle.std.proofs.Common.{◌≡◌, ℕ, ◌==◌, ◌&&◌, ◌||◌, Bool, true, false, refl, arith}
use Rattle.std.proofs.lemmas.Bool.{and_parts, or_parts}
use Rattle.std.proofs.lemmas.Bool.Decides.{nat_tests}

pub itself : (n : ℕ) → (n == n) ≡ true
itself n = grind (arith, nat_tests)

pub same_turned : (a b : ℕ) → (a == b) ≡ true → (b == a) ≡ true
same_turned a b is = grind (arith, nat_tests)

pub other_turned : (a b : ℕ) → (a == b) ≡ false → (b == a) ≡ false
other_turned a b isnt = grind (arith, nat_tests)

-- what follows from a test and from its failing follows
pub by_test : (P : Type 0) (b : Bool) → (b ≡ true → P) → (b ≡ false → P) → P
by_test P true holds fails = holds refl
by_test P false holds fails = fails refl

-- a test that comes out more often does so beside another
pub or-more : (a b c : Bool) → (b ≡ true → c ≡ true) → (a || b) ≡ true → (a || c) ≡ true
or-more true b c more is = refl
or-more false b c more is = more is

pub and_first : (a b : Bool) → (a && b) ≡ true → a ≡ true
and_first a b is = (and_parts a b is).0

pub and_second : (a b : Bool) → (a && b) ≡ true → b ≡ true
and_second a b is = (and_parts a b is).1

pub and_false : (a : Bool) → (a && false) ≡ false
and_false true = refl
and_false false = refl

pub or_second : (a b : Bool) → (a || b) ≡ false → b ≡ false
or_second a b isnt = (or_parts a b isnt).1

pub or_true : (a : Bool) → (a || true) ≡ true
or_true true = refl
or_true false = refl

pub or_first : (a b : Bool) → (a || b) ≡ false → a ≡ false
or_first a b isnt = (or_parts a b isnt).0

pub or_none : (a : Bool) → (a || false) ≡ a
or_none true = refl
or_none false = refl

-- a test that comes out more often does so together with another
pub and-more : (a b c : Bool) → (b ≡ true → c ≡ true) → (a && b) ≡ true → (a && c) ≡ true
and-more true b c more is = more is
and-more false b c more is = cc
