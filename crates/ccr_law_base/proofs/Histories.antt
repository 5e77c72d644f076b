-- No two histories of a world have one UUID.
use Rattle.std.specs.Int.{w32, w128, byte_at, to_be_bytes, from_be_bytes}
use Rattle.std.specs.Str.{bytes_eq}
use Rattle.std.proofs.Common.{◌≡◌, ℕ, ◌+◌, ◌-◌, ◌*◌, ◌%◌, ◌^◌, ◌<◌, ◌≤◌, true, false, List, drop, refl, sym, ◌∙◌, ap, arith}
use Rattle.std.proofs.lemmas.Slice.Eq.{bytes_eq-Decides}
use Rattle.std.proofs.lemmas.Nat.{from_be_bytes-to_be_bytes_4}
use Rattle.ccr_model.specs.Leaders.{history_of_term}

-- the last four bytes of 128 bits are those of the number in 32 bits
last-four : (n : ℕ) → drop 12 (to_be_bytes w128 n) ≡ to_be_bytes w32 n
last-four n = refl

-- and they tell the number up to 2^32
four-tell : (n : ℕ) → to_be_bytes w32 n ≡ to_be_bytes w32 (n % 2 ^ 32)
four-tell n =
    let zero_is : byte_at 0 n ≡ byte_at 0 (n % 2 ^ 32) = omega arith in
    let one_is : byte_at 1 n ≡ byte_at 1 (n % 2 ^ 32) = omega arith in
    let two_is : byte_at 2 n ≡ byte_at 2 (n % 2 ^ 32) = omega arith in
    let three_is : byte_at 3 n ≡ byte_at 3 (n % 2 ^ 32) = omega arith in
    rw (zero_is, one_is, two_is, three_is) refl

pub same-low : (a b : ℕ) → to_be_bytes w128 a ≡ to_be_bytes w128 b → a % 2 ^ 32 ≡ b % 2 ^ 32
same-low a b same =
    let low : to_be_bytes w32 (a % 2 ^ 32) ≡ to_be_bytes w32 (b % 2 ^ 32) = sym (four-tell a) ∙ (sym (last-four a) ∙ (ap (drop 12) same ∙ (last-four b ∙ four-tell b))) in
    let fits_a : a % 2 ^ 32 < 2 ^ 32 = omega arith in
    let fits_b : b % 2 ^ 32 < 2 ^ 32 = omega arith in
    sym (from_be_bytes-to_be_bytes_4 (a % 2 ^ 32) fits_a) ∙ (ap (from_be_bytes w32) low ∙ from_be_bytes-to_be_bytes_4 (b % 2 ^ 32) fits_b)

-- the histories that begin with two terms up to 2^32 are two
pub begun-apart : (first : List ℕ) (a b : ℕ) → 1 ≤ a → a < b → b ≤ 2 ^ 32 → bytes_eq (history_of_term first a) (history_of_term first b) ≡ false
begun-apart first a b some less few =
    (elim (bytes_eq (history_of_term first a) (history_of_term first b)) as (λ t. bytes_eq (history_of_term first a) (history_of_term first b) ≡ t → t ≡ false) [
      | true ↦ λ is.
          let same : history_of_term first a ≡ history_of_term first b = (bytes_eq-Decides (history_of_term first a) (history_of_term first b)).0 is in
          let low : (from_be_bytes w128 first + (a - 1)) % 2 ^ 32 ≡ (from_be_bytes w128 first + (b - 1)) % 2 ^ 32 = same-low _ _ same in
          absurd (apart (from_be_bytes w128 first) (a - 1) (b - 1) (omega arith) (omega arith) low)
      | false ↦ λ isnt. refl
    ]) refl
  where
    apart : (n x y : ℕ) → x < y → y < 2 ^ 32 → (n + x) % 2 ^ 32 ≡ (n + y) % 2 ^ 32 → ⊥
    apart n x y less few same = absurd (omega arith)

-- the number that 16 bytes tell, where these spell a number, agrees with it up to 2^32
again-low : (m : ℕ) → from_be_bytes w128 (to_be_bytes w128 m) % 2 ^ 32 ≡ m % 2 ^ 32
again-low m = sums (byte_at 15 m) (byte_at 14 m) (byte_at 13 m) (byte_at 12 m) (byte_at 11 m) (byte_at 10 m) (byte_at 9 m) (byte_at 8 m) (byte_at 7 m) (byte_at 6 m) (byte_at 5 m) (byte_at 4 m) m
  where
    sums : (p o n l k j i h g f e d m : ℕ)
        → (p * 256 ^ 15 + o * 256 ^ 14 + n * 256 ^ 13 + l * 256 ^ 12 + k * 256 ^ 11 + j * 256 ^ 10 + i * 256 ^ 9 + h * 256 ^ 8 + g * 256 ^ 7 + f * 256 ^ 6 + e * 256 ^ 5 + d * 256 ^ 4
        + byte_at 3 m * 256 ^ 3 + byte_at 2 m * 256 ^ 2 + byte_at 1 m * 256 ^ 1 + byte_at 0 m) % 2 ^ 32 ≡ m % 2 ^ 32
    sums p o n l k j i h g f e d m = omega arith

-- the first history is none of those that begin later, whatever its UUID
pub first-apart : (first : List ℕ) (b : ℕ) → 2 ≤ b → b ≤ 2 ^ 32 → bytes_eq first (history_of_term first b) ≡ false
first-apart first b later few =
    (elim (bytes_eq first (history_of_term first b)) as (λ t. bytes_eq first (history_of_term first b) ≡ t → t ≡ false) [
      | true ↦ λ is.
          let same : first ≡ history_of_term first b = (bytes_eq-Decides first (history_of_term first b)).0 is in
          let low : from_be_bytes w128 first % 2 ^ 32 ≡ (from_be_bytes w128 first + (b - 1)) % 2 ^ 32
          = ap (λ (bytes : List ℕ). from_be_bytes w128 bytes % 2 ^ 32) same ∙ again-low (from_be_bytes w128 first + (b - 1)) in
          absurd (moved (from_be_bytes w128 first) (b - 1) (omega arith) (omega arith) low)
      | false ↦ λ isnt. refl
    ]) refl
  where
    moved : (n x : ℕ) → 1 ≤ x → x < 2 ^ 32 → n % 2 ^ 32 ≡ (n + x) % 2 ^ 32 → ⊥
    moved n x some few same = absurd (omega arith)
