-- The test of a pattern is its relation, and finds it piece by piece.
use Rattle.std.proofs.Common.{◌≡◌, ◌≢◌, ℕ, ◌-◌, Bool, true, false, ◌&&◌, ◌||◌, ◌==◌, ◌↔◌, IsTrue, cond, List, [], ◌∷◌, ◌++◌, length, take, drop, Option, Some, None, ◌⊎◌, inl, inr, refl, sym, ◌∙◌, ap, arith, nat_eq, zero, suc, if◌then◌else◌}
use Rattle.std.specs.Str.{bytes_eq}
use Rattle.std.specs.List.{ends_with}
use Rattle.std.proofs.lemmas.Bool.{or_cases, and_parts, and_from, or_left, or_right, eqb-true, eq-eqb, ne_eqb, cond-true, cond-false}
use Rattle.std.proofs.lemmas.Bool.Decides.{Decides-eqb}
use Rattle.std.proofs.lemmas.Slice.Eq.{bytes_eq-Decides, ends_is}
use Rattle.std.proofs.lemmas.List.Elements.{All-head, All-tail}
use Rattle.ccr_auto.specs.Patterns.{Matches, some_end, is_match, HasNoStar, has_front, after_piece}

-- two tests that pass alike are equal
same_test : (a b : Bool) → (a ≡ true → b ≡ true) → (b ≡ true → a ≡ true) → a ≡ b
same_test true b f g = sym (f refl)
same_test false true f g = g refl
same_test false false f g = refl

-- some end passes exactly where the name has a front and an end that passes
some_end-back : (test : List ℕ → Bool) (n : List ℕ) → some_end test n ≡ true → (front : List ℕ) × (rest : List ℕ) × (n ≡ front ++ rest) × (test rest ≡ true)
some_end-back test [] h = ([], [], refl, h)
some_end-back test (x ∷ n) h =
    elim (or_cases (test (x ∷ n)) (some_end test n) h) [
      | inl now ↦ ([], x ∷ n, refl, now)
      | inr later ↦ let ih = some_end-back test n later in (x ∷ ih.0, ih.1, ap (λ ys. x ∷ ys) ih.2, ih.3)
    ]

some_end-front : (test : List ℕ → Bool) (front rest : List ℕ) → test rest ≡ true → some_end test (front ++ rest) ≡ true
some_end-front test [] [] h = h
some_end-front test [] (x ∷ rest) h = or_left _ _ h
some_end-front test (x ∷ front) rest h = or_right _ _ (some_end-front test front rest h)

-- the test is the relation
is_match-Matches : (p n : List ℕ) → is_match p n ≡ true → Matches p n
is_match-Matches [] [] h = refl
is_match-Matches [] (x ∷ n) h = cc
is_match-Matches (c ∷ p) [] h =
    elim (or_cases false ((c == 42) && some_end (is_match p) []) h) [
      | inl never ↦ cc
      | inr passes ↦
          let parts = and_parts (c == 42) (some_end (is_match p) []) passes in
          inr (eqb-true c 42 parts.0, [], [], refl, is_match-Matches p [] parts.1)
    ]
is_match-Matches (c ∷ p) (x ∷ n) h =
    elim (or_cases ((x == c) && is_match p n) ((c == 42) && some_end (is_match p) (x ∷ n)) h) [
      | inl passes ↦
          let parts = and_parts (x == c) (is_match p n) passes in
          inl (n, ap (λ y. y ∷ n) (eqb-true x c parts.0), is_match-Matches p n parts.1)
      | inr passes ↦
          let parts = and_parts (c == 42) (some_end (is_match p) (x ∷ n)) passes in
          let cut = some_end-back (is_match p) (x ∷ n) parts.1 in
          inr (eqb-true c 42 parts.0, cut.0, cut.1, cut.2, is_match-Matches p cut.1 cut.3)
    ]

Matches-is_match : (p n : List ℕ) → Matches p n → is_match p n ≡ true
Matches-is_match [] n h = rw h refl
Matches-is_match (c ∷ p) n (inl h) =
    let e : n ≡ c ∷ h.0 = h.1 in
    rw e (or_left _ _ (and_from (c == c) (is_match p h.0) (eq-eqb c c refl) (Matches-is_match p h.0 h.2)))
Matches-is_match (c ∷ p) n (inr h) =
    let e : n ≡ h.1 ++ h.2 = h.3 in
    or_right _ _ (and_from (c == 42) (some_end (is_match p) n) (eq-eqb c 42 h.0) (rw e (some_end-front (is_match p) h.1 h.2 (Matches-is_match p h.2 h.4))))

pub relation_from_test : (p n : List ℕ) (r : Bool) → r ≡ is_match p n → IsTrue r ↔ Matches p n
relation_from_test p n r e = (λ h. is_match-Matches p n (sym e ∙ h), λ m. e ∙ Matches-is_match p n m)

or_false : (b : Bool) → (b || false) ≡ b
or_false true = refl
or_false false = refl

-- what implies one side of an `or` leaves only that side
or_right_only : (a b : Bool) → (a ≡ true → b ≡ true) → (a || b) ≡ b
or_right_only true b f = sym (f refl)
or_right_only false b f = refl

or_left_only : (a b : Bool) → (b ≡ true → a ≡ true) → (a || b) ≡ a
or_left_only true b f = refl
or_left_only false true f = sym (f refl)
or_left_only false false f = refl

and_cond : (a b e : Bool) → (a && cond b e false) ≡ cond (a && b) e false
and_cond true b e = refl
and_cond false b e = refl

cond_passes : (b e : Bool) → cond b e false ≡ true → e ≡ true
cond_passes true e h = h
cond_passes false e h = cc

-- a pattern with no star is the name
pub plain_test : (p n : List ℕ) → HasNoStar p → is_match p n ≡ bytes_eq n p
plain_test [] [] h = refl
plain_test [] (x ∷ n) h = refl
plain_test (c ∷ p) [] h =
    let off : (c == 42) ≡ false = ne_eqb c 42 (All-head (λ y. y ≢ 42) c p h) in
    rw off refl
plain_test (c ∷ p) (x ∷ n) h =
    let off : (c == 42) ≡ false = ne_eqb c 42 (All-head (λ y. y ≢ 42) c p h) in
    let ih = plain_test p n (All-tail (λ y. y ≢ 42) c p h) in
    rw off (or_false ((x == c) && is_match p n) ∙ ap (λ t. (x == c) && t) ih)

-- a piece before a star is a front of the name, and the rest matches some end of what is left
is_match-piece : (piece q n : List ℕ) → HasNoStar piece
    → is_match (piece ++ 42 ∷ q) n ≡ (if has_front piece n then some_end (is_match q) (drop (length piece) n) else false)
is_match-piece [] q [] h = refl
is_match-piece [] q (x ∷ n) h =
    or_right_only ((x == 42) && is_match q n) (some_end (is_match q) (x ∷ n))
    (λ passes. or_right (is_match q (x ∷ n)) (some_end (is_match q) n) (some_end-front (is_match q) [] n (and_parts (x == 42) (is_match q n) passes).1))
is_match-piece (c ∷ p) q [] h =
    let off : (c == 42) ≡ false = ne_eqb c 42 (All-head (λ y. y ≢ 42) c p h) in
    rw off refl
is_match-piece (c ∷ p) q (x ∷ n) h =
    let off : (c == 42) ≡ false = ne_eqb c 42 (All-head (λ y. y ≢ 42) c p h) in
    let ih = is_match-piece p q n (All-tail (λ y. y ≢ 42) c p h) in
    rw off (or_false ((x == c) && is_match (p ++ 42 ∷ q) n) ∙ (ap (λ t. (x == c) && t) ih ∙ and_cond (x == c) (has_front p n) (some_end (is_match q) (drop (length p) n))))

-- what passes at an end of a name passes at one of a longer name
some_end-longer : (test : List ℕ → Bool) (k : ℕ) (n : List ℕ) → some_end test (drop (suc k) n) ≡ true → some_end test (drop k n) ≡ true
some_end-longer test zero [] h = h
some_end-longer test (suc k) [] h = h
some_end-longer test zero (x ∷ n) h = or_right (test (x ∷ n)) (some_end test n) h
some_end-longer test (suc k) (x ∷ n) h = some_end-longer test k n h

-- a test that asks for a piece and then for an end that passes
abbrev pub IsPieceTest : List ℕ → (List ℕ → Bool) → (List ℕ → Bool) → Type 0
IsPieceTest piece whole next = (n : List ℕ) → whole n ≡ (if has_front piece n then some_end next (drop (length piece) n) else false)

piece_passes : (piece : List ℕ) (whole next : List ℕ → Bool) → IsPieceTest piece whole next → (n : List ℕ) → whole n ≡ true → some_end next (drop (length piece) n) ≡ true
piece_passes piece whole next is n h = cond_passes (has_front piece n) (some_end next (drop (length piece) n)) (sym (is n) ∙ h)

later : (piece : List ℕ) (whole next : List ℕ → Bool) → IsPieceTest piece whole next → (n : List ℕ) → some_end whole n ≡ true → some_end next (drop (length piece) n) ≡ true
later piece whole next is [] h = piece_passes piece whole next is [] h
later piece whole next is (x ∷ n) h =
    elim (or_cases (whole (x ∷ n)) (some_end whole n) h) [
      | inl now ↦ piece_passes piece whole next is (x ∷ n) now
      | inr after ↦ some_end-longer next (length piece) (x ∷ n) (later piece whole next is n after)
    ]

none_or : (b : Bool) (r : List ℕ) (o : Option (List ℕ)) → (if b then Some r else o) ≡ None → (b ≡ false) × (o ≡ None)
none_or true r o h = cc
none_or false r o h = (refl, h)

some_or : (b : Bool) (r rest : List ℕ) (o : Option (List ℕ)) → (if b then Some r else o) ≡ Some rest → ((b ≡ true) × (r ≡ rest)) ⊎ ((b ≡ false) × (o ≡ Some rest))
some_or true r rest o h = inl (refl, cc)
some_or false r rest o h = inr (refl, h)

-- the leftmost place of a piece serves for all
after_piece-None : (piece : List ℕ) (whole next : List ℕ → Bool) → IsPieceTest piece whole next → (n : List ℕ) → after_piece piece n ≡ None → some_end whole n ≡ false
after_piece-None piece whole next is [] h =
    is [] ∙ cond-false (has_front piece []) (some_end next (drop (length piece) [])) false (none_or (has_front piece []) (drop (length piece) []) None h).0
after_piece-None piece whole next is (x ∷ n) h =
    let parts = none_or (has_front piece (x ∷ n)) (drop (length piece) (x ∷ n)) (after_piece piece n) h in
    let off : whole (x ∷ n) ≡ false = is (x ∷ n) ∙ cond-false (has_front piece (x ∷ n)) (some_end next (drop (length piece) (x ∷ n))) false parts.0 in
    rw off (after_piece-None piece whole next is n parts.1)

after_piece-Some : (piece : List ℕ) (whole next : List ℕ → Bool) → IsPieceTest piece whole next → (n rest : List ℕ) → after_piece piece n ≡ Some rest → some_end whole n ≡ some_end next rest
after_piece-Some piece whole next is [] rest h =
    elim (some_or (has_front piece []) (drop (length piece) []) rest None h) [
      | inl parts ↦ is [] ∙ (cond-true (has_front piece []) (some_end next (drop (length piece) [])) false parts.0 ∙ ap (some_end next) parts.1)
      | inr parts ↦ let no : None ≡ Some rest = parts.1 in cc
    ]
after_piece-Some piece whole next is (x ∷ n) rest h =
    let here = drop (length piece) (x ∷ n) in
    elim (some_or (has_front piece (x ∷ n)) here rest (after_piece piece n) h) [
      | inl parts ↦
          let same : whole (x ∷ n) ≡ some_end next here = is (x ∷ n) ∙ cond-true (has_front piece (x ∷ n)) (some_end next here) false parts.0 in
          or_left_only (whole (x ∷ n)) (some_end whole n) (λ passes. same ∙ some_end-longer next (length piece) (x ∷ n) (later piece whole next is n passes))
          ∙ (same ∙ ap (some_end next) parts.1)
      | inr parts ↦
          let off : whole (x ∷ n) ≡ false = is (x ∷ n) ∙ cond-false (has_front piece (x ∷ n)) (some_end next here) false parts.0 in
          rw off (after_piece-Some piece whole next is n rest parts.1)
    ]

-- a pattern with no star matches some end exactly where the name ends with it
pub plain_end : (p n : List ℕ) → HasNoStar p → some_end (is_match p) n ≡ ends_with nat_eq n p
plain_end p n h =
    let ends = ends_is Decides-eqb n p (ends_with nat_eq n p) refl in
    same_test (some_end (is_match p) n) (ends_with nat_eq n p)
    (λ passes.
    let cut = some_end-back (is_match p) n passes in
    let is : cut.1 ≡ p = (bytes_eq-Decides cut.1 p).0 (sym (plain_test p cut.1 h) ∙ cut.3) in
    ends.1 cut.0 (cut.2 ∙ ap (λ r. cut.0 ++ r) is))
    (λ passes.
    let front = take (length n - length p) n in
    let e : n ≡ front ++ p = ends.0 passes in
    let whole : is_match p p ≡ true = plain_test p p h ∙ (bytes_eq-Decides p p).1 refl in
    ap (some_end (is_match p)) e ∙ some_end-front (is_match p) front p whole)

-- the same of a pattern that is parted at its first star
pub front_missing : (pattern piece q n : List ℕ) → pattern ≡ piece ++ 42 ∷ q → HasNoStar piece → bytes_eq (take (length piece) n) piece ≡ false → is_match pattern n ≡ false
front_missing pattern piece q n e plain h =
    ap (λ p. is_match p n) e ∙ (is_match-piece piece q n plain ∙ cond-false (has_front piece n) (some_end (is_match q) (drop (length piece) n)) false h)

pub front_taken : (pattern piece q n : List ℕ) → pattern ≡ piece ++ 42 ∷ q → HasNoStar piece → bytes_eq (take (length piece) n) piece ≡ true → is_match pattern n ≡ some_end (is_match q) (drop (length piece) n)
front_taken pattern piece q n e plain h =
    ap (λ p. is_match p n) e ∙ (is_match-piece piece q n plain ∙ cond-true (has_front piece n) (some_end (is_match q) (drop (length piece) n)) false h)

pub end_missing : (pattern piece q n : List ℕ) → pattern ≡ piece ++ 42 ∷ q → HasNoStar piece → after_piece piece n ≡ None → some_end (is_match pattern) n ≡ false
end_missing pattern piece q n e plain h =
    ap (λ p. some_end (is_match p) n) e ∙ after_piece-None piece (is_match (piece ++ 42 ∷ q)) (is_match q) (λ m. is_match-piece piece q m plain) n h

pub end_taken : (pattern piece q n rest : List ℕ) → pattern ≡ piece ++ 42 ∷ q → HasNoStar piece → after_piece piece n ≡ Some rest → some_end (is_match pattern) n ≡ some_end (is_match q) rest
end_taken pattern piece q n rest e plain h =
    ap (λ p. some_end (is_match p) n) e ∙ after_piece-Some piece (is_match (piece ++ 42 ∷ q)) (is_match q) (λ m. is_match-piece piece q m plain) n rest h

-- the search for a piece, place by place
pub piece_here : (piece n : List ℕ) → has_front piece n ≡ true → after_piece piece n ≡ Some (drop (length piece) n)
piece_here piece [] h = cond-true (has_front piece []) (Some (drop (length piece) [])) None h
piece_here piece (x ∷ n) h = cond-true (has_front piece (x ∷ n)) (Some (drop (length piece) (x ∷ n))) (after_piece piece n) h

pub piece_nowhere : (piece n : List ℕ) → length n ≡ 0 → has_front piece n ≡ false → after_piece piece n ≡ None
piece_nowhere piece [] e h = cond-false (has_front piece []) (Some (drop (length piece) [])) None h
piece_nowhere piece (x ∷ n) e h = absurd (omega arith)

pub piece_later : (piece n rest : List ℕ) (x : ℕ) → n ≡ x ∷ rest → has_front piece n ≡ false → after_piece piece n ≡ after_piece piece rest
piece_later piece n rest x e h =
    let h' : has_front piece (x ∷ rest) ≡ false = ap (has_front piece) (sym e) ∙ h in
    ap (after_piece piece) e ∙ cond-false (has_front piece (x ∷ rest)) (Some (drop (length piece) (x ∷ rest))) (after_piece piece rest) h'
