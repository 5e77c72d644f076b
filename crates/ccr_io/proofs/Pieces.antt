-- Bytes that go or come piece by piece.
use Rattle.std.proofs.Common.{ℕ, ◌+◌, ◌≤◌, List, [], ◌++◌, IfSome, length, Option, take, drop, arith, length-take, take-add, take-take}
use Rattle.std.specs.Io.KnownBytes.{Appends, Consumes, IsAtEnd}
use Rattle.std.proofs.KnownBytes.{Appends-nil, Appends-trans, Consumes-nil, Consumes-trans, Consumes-whole}

-- the first i bytes of xs were appended, and then n of those that follow
pub appends_next : (a b c : Option (List ℕ)) (xs : List ℕ) (i n room : ℕ) → Appends a b (take i xs) → n ≤ length (take room (drop i xs))
    → Appends b c (take n (take room (drop i xs))) → Appends a c (take (i + n) xs)
appends_next a b c xs i n room first fits next =
    let small : n ≤ room = omega (arith, length-take room (drop i xs)) in
    rw take-add (Appends-trans a b c (take i xs) (take n (drop i xs)) first (rw take-take at next))

-- the bytes that a source gave are those that a sink took
pub record Moves (left left' taken taken' : Option (List ℕ)) : Type 0 where
  pub bytes : List ℕ
  pub given : Consumes left left' bytes
  pub put : Appends taken taken' bytes

pub Moves-none : (left taken : Option (List ℕ)) → Moves left left taken taken
Moves-none left taken = record { bytes = []; given = Consumes-nil left; put = Appends-nil taken }

pub Moves-next : (left left' left'' taken taken' taken'' : Option (List ℕ)) (bs : List ℕ) → Moves left left' taken taken'
    → Consumes left' left'' bs → Appends taken' taken'' bs → Moves left left'' taken taken''
Moves-next left left' left'' taken taken' taken'' bs moved given put = record {
  bytes = moved.bytes ++ bs;
  given = Consumes-trans left left' left'' moved.bytes bs moved.given given;
  put = Appends-trans taken taken' taken'' moved.bytes bs moved.put put;
}

-- where nothing is left, all were moved
pub Moves-all : (left left' taken taken' : Option (List ℕ)) → Moves left left' taken taken' → IsAtEnd left' → IfSome left (Appends taken taken')
Moves-all left left' taken taken' moved end = Consumes-whole left left' moved.bytes (Appends taken taken') moved.given end moved.put
