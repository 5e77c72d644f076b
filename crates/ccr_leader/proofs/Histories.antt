-- A UUID as a number of 128 bits wraps at the end.
use Rattle.std.specs.Int.{w128, byte_at, to_be_bytes, from_be_bytes}
use Rattle.std.proofs.Common.{◌≡◌, ℕ, ◌+◌, ◌-◌, ◌*◌, ◌/◌, ◌%◌, ◌^◌, List, refl, sym, ◌∙◌, ap, arith}
use Rattle.std.proofs.Math.Nat.{mul-add-mod_self_right, mod-mod}
use Rattle.std.proofs.lemmas.Nat.{mod-pow-add, field_of}
use Rattle.ccr_model.specs.Leaders.{history_of_term}

-- the low 8 bits of the low bits are the low 8 bits
low-low : (n j : ℕ) → n % 2 ^ (j + 8) % 2 ^ 8 ≡ n % 2 ^ 8
low-low n j =
    ap (λ m. m % 2 ^ 8) (mod-pow-add n j 8)
    ∙ (mul-add-mod_self_right (n / 2 ^ 8 % 2 ^ j) (2 ^ 8) (n % 2 ^ 8) ∙ mod-mod n (2 ^ 8))

-- and so are 8 bits further up
high-low : (n j k : ℕ) → n % 2 ^ (j + 8 + k) / 2 ^ k % 2 ^ 8 ≡ n / 2 ^ k % 2 ^ 8
high-low n j k = ap (λ m. m % 2 ^ 8) (field_of n (j + 8) k) ∙ low-low (n / 2 ^ k) j

wrapped : (n : ℕ) → to_be_bytes w128 (n % 2 ^ 128) ≡ to_be_bytes w128 n
wrapped n =
    let at_15 : byte_at 15 (n % 2 ^ 128) ≡ byte_at 15 n = high-low n 0 120 in
    let at_14 : byte_at 14 (n % 2 ^ 128) ≡ byte_at 14 n = high-low n 8 112 in
    let at_13 : byte_at 13 (n % 2 ^ 128) ≡ byte_at 13 n = high-low n 16 104 in
    let at_12 : byte_at 12 (n % 2 ^ 128) ≡ byte_at 12 n = high-low n 24 96 in
    let at_11 : byte_at 11 (n % 2 ^ 128) ≡ byte_at 11 n = high-low n 32 88 in
    let at_10 : byte_at 10 (n % 2 ^ 128) ≡ byte_at 10 n = high-low n 40 80 in
    let at_9 : byte_at 9 (n % 2 ^ 128) ≡ byte_at 9 n = high-low n 48 72 in
    let at_8 : byte_at 8 (n % 2 ^ 128) ≡ byte_at 8 n = high-low n 56 64 in
    let at_7 : byte_at 7 (n % 2 ^ 128) ≡ byte_at 7 n = high-low n 64 56 in
    let at_6 : byte_at 6 (n % 2 ^ 128) ≡ byte_at 6 n = high-low n 72 48 in
    let at_5 : byte_at 5 (n % 2 ^ 128) ≡ byte_at 5 n = high-low n 80 40 in
    let at_4 : byte_at 4 (n % 2 ^ 128) ≡ byte_at 4 n = high-low n 88 32 in
    let at_3 : byte_at 3 (n % 2 ^ 128) ≡ byte_at 3 n = high-low n 96 24 in
    let at_2 : byte_at 2 (n % 2 ^ 128) ≡ byte_at 2 n = high-low n 104 16 in
    let at_1 : byte_at 1 (n % 2 ^ 128) ≡ byte_at 1 n = high-low n 112 8 in
    let at_0 : byte_at 0 (n % 2 ^ 128) ≡ byte_at 0 n = low-low n 120 in
    rw (at_15, at_14, at_13, at_12, at_11, at_10, at_9, at_8, at_7, at_6, at_5, at_4, at_3, at_2, at_1, at_0) refl

wrapped-history : (first : List ℕ) (term sum : ℕ) → sum ≡ (from_be_bytes w128 first + term) % 2 ^ 128 → to_be_bytes w128 sum ≡ history_of_term first (term + 1)
wrapped-history first term sum is =
    let before : term ≡ term + 1 - 1 = omega arith in
    ap (λ m. to_be_bytes w128 m) is
    ∙ (wrapped (from_be_bytes w128 first + term) ∙ ap (λ t. to_be_bytes w128 (from_be_bytes w128 first + t)) before)

-- the same, step by step
pub next-history : (first bytes : List ℕ) (term a b : ℕ) (spelled told : List ℕ) → bytes ≡ first → a ≡ from_be_bytes w128 bytes → b ≡ term → spelled ≡ to_be_bytes w128 ((a + b) % 2 ^ 128) → told ≡ spelled
    → told ≡ history_of_term first (term + 1)
next-history first bytes term a b spelled told same read own is out =
    let sum : (a + b) % 2 ^ 128 ≡ (from_be_bytes w128 first + term) % 2 ^ 128
    = ap (λ n. (n + b) % 2 ^ 128) (read ∙ ap (from_be_bytes w128) same) ∙ ap (λ n. (from_be_bytes w128 first + n) % 2 ^ 128) own in
    out ∙ (is ∙ wrapped-history first term ((a + b) % 2 ^ 128) sum)
