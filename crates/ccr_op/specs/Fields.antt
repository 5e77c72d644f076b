-- The fields that the byte formats are made of: each one's spelling, and its reading from the front of bytes. All numbers are big-endian.
-- A reading answers the field's value with the bytes after it, or the fault of the field. Which faults those are, each format says.
use Rattle.std.specs.Prelude.{ℕ, List, [], ◌∷◌, ◌++◌, length, take, drop, nat_lt, ◌||◌, Result, Ok, Err, if◌then◌else◌}
use Rattle.std.specs.Str.{is_utf8}
use Rattle.std.specs.Int.{Width, byte_len, to_be_bytes, from_be_bytes}

-- the first fault ends a reading
infixl 10 ◌>>=◌
abbrev pub ◌>>=◌ : {E A B : Type 0} → Result A E → (A → Result B E) → Result B E
(Ok x) >>= f = f x
(Err e) >>= f = Err e

-- a list of bytes behind its length
abbrev pub counted : Width → List ℕ → List ℕ
counted w bytes = to_be_bytes w (length bytes) ++ bytes

-- one byte
abbrev pub byte_at : {E : Type 0} → E → List ℕ → Result (ℕ × List ℕ) E
byte_at short [] = Err short
byte_at short (b ∷ rest) = Ok (b, rest)

-- a whole number
abbrev pub number_at : {E : Type 0} → E → Width → List ℕ → Result (ℕ × List ℕ) E
number_at short w bytes = if nat_lt (length bytes) (byte_len w) then Err short else Ok (from_be_bytes w (take (byte_len w) bytes), drop (byte_len w) bytes)

-- a whole number from least to most
unfoldable pub bounded_at : {E : Type 0} → E → E → Width → ℕ → ℕ → List ℕ → Result (ℕ × List ℕ) E
bounded_at short range w least most bytes = do
  n ← number_at short w bytes
  if nat_lt n.0 least || nat_lt most n.0 then Err range else Ok n

-- that many bytes
abbrev pub bytes_at : {E : Type 0} → E → ℕ → List ℕ → Result (List ℕ × List ℕ) E
bytes_at short n bytes = if nat_lt (length bytes) n then Err short else Ok (take n bytes, drop n bytes)

-- that many bytes of UTF-8
unfoldable pub text_at : {E : Type 0} → E → E → ℕ → List ℕ → Result (List ℕ × List ℕ) E
text_at short utf8 n bytes = do
  text ← bytes_at short n bytes
  if is_utf8 text.0 then Ok text else Err utf8

-- a length from least to most, and then that many bytes of UTF-8
unfoldable pub bounded_text_at : {E : Type 0} → E → E → E → Width → ℕ → ℕ → List ℕ → Result (List ℕ × List ℕ) E
bounded_text_at short range utf8 w least most bytes = do
  n ← bounded_at short range w least most bytes
  text_at short utf8 n.0 n.1
