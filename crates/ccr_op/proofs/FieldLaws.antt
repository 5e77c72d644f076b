-- A field that is read is the field that was written, and what was written is read again.
use Rattle.std.proofs.Common.{◌≡◌, ℕ, suc, ◌+◌, ◌^◌, ◌<◌, ◌≤◌, Bool, true, false, cond, ltb, ◌||◌, List, [], ◌∷◌, ◌++◌, length, get_or, take, drop, Result, Ok, Err, refl, sym, ap, subst, ◌∙◌, append_assoc, arith, ◌⊎◌, inl, inr}
use Rattle.std.specs.Str.{IsUtf8, is_utf8}
use Rattle.std.specs.Int.{Width, w16, w32, w64, byte_len, from_be_bytes, to_be_bytes}
use Rattle.std.proofs.lemmas.Bool.{cases_lt, ltb-false, le-ltb}
use Rattle.std.proofs.lemmas.List.{take_at, drop_at, take-append-drop, length-append, length-take, get_or-drop, get_or-take, get_or_past}
use Rattle.std.proofs.lemmas.Nat.{be_bytes_2, be_bytes_4, be_bytes_8, from_be_bytes-to_be_bytes_2, from_be_bytes-to_be_bytes_4, from_be_bytes-to_be_bytes_8}
use Rattle.std.proofs.lemmas.Str.{is_utf8-from_IsUtf8, IsUtf8-from_is_utf8}
use Rattle.ccr_op.specs.Fields.{◌>>=◌, counted, byte_at, number_at, bounded_at, bytes_at, text_at, bounded_text_at}

abbrev pub IsBytes : List ℕ → Type 0
IsBytes bytes = (i : ℕ) → get_or bytes i 0 < 256

pub IsBytes-drop : (n : ℕ) (bytes : List ℕ) → IsBytes bytes → IsBytes (drop n bytes)
IsBytes-drop n bytes h i = rw get_or-drop (h (n + i))

pub IsBytes-take : (n : ℕ) (bytes : List ℕ) → IsBytes bytes → IsBytes (take n bytes)
IsBytes-take n bytes h i =
    elim (cases_lt i n) [
      | inl lt ↦ rw (get_or-take n bytes i 0 lt) (h i)
      | inr le ↦ rw (get_or_past (take n bytes) i 0 (omega (arith, length-take n bytes))) (omega arith)
    ]

-- the value of a step that did not fail
pub bind_ok : {E A B : Type 0} (r : Result A E) (f : A → Result B E) (y : B) → (r >>= f) ≡ Ok y → (x : A) × (r ≡ Ok x) × (f x ≡ Ok y)
bind_ok (Ok x) f y e = (x, refl, e)
bind_ok (Err d) f y e = absurd cc

-- a test that did not fail
pub guard_ok : {E A : Type 0} (b : Bool) (d : E) (r : Result A E) (y : A) → cond b (Err d) r ≡ Ok y → (b ≡ false) × (r ≡ Ok y)
guard_ok true d r y e = absurd cc
guard_ok false d r y e = (refl, e)

-- the same, where the test must hold
pub guard_holds : {E A : Type 0} (b : Bool) (d : E) (r : Result A E) (y : A) → cond b r (Err d) ≡ Ok y → (b ≡ true) × (r ≡ Ok y)
guard_holds true d r y e = (refl, e)
guard_holds false d r y e = absurd cc

-- which way a test went
pub chosen : {X : Type 0} (b : Bool) (x y z : X) → cond b x y ≡ z → ((b ≡ true) × (x ≡ z)) ⊎ ((b ≡ false) × (y ≡ z))
chosen true x y z e = inl (refl, e)
chosen false x y z e = inr (refl, e)

pub neither : (a b : Bool) → (a || b) ≡ false → (a ≡ false) × (b ≡ false)
neither true b e = absurd cc
neither false b e = (refl, e)

pub ok_is : {E A : Type 0} (x y : A) → (let r : Result A E = Ok x in r) ≡ Ok y → x ≡ y
ok_is x y e = cc

-- what a reader took from the front
pub record Takes (bytes text rest : List ℕ) : Type 0 where
  pub parts : bytes ≡ text ++ rest
  pub rest_fits : IsBytes rest

pub Takes-then : (a x b y c : List ℕ) → Takes a x b → Takes b y c → Takes a (x ++ y) c
Takes-then a x b y c p q = record { parts = p.parts ∙ ap (λ (t : List ℕ). x ++ t) q.parts ∙ sym (append_assoc x y c); rest_fits = q.rest_fits }

-- ---- reading step by step

-- where reading these bytes succeeds, it took a part from the front, and the value and the part are related so
pub record Reads {E C : Type 0} (bytes : List ℕ) (r : Result (C × List ℕ) E) (R : C → List ℕ → Type 0) : Type 0 where
  pub at : (x : C × List ℕ) → r ≡ Ok x → (part : List ℕ) × Takes bytes part x.1 × R x.0 part

-- a field: the part is the value's spelling, and the value is within its bounds
pub record IsField {E A : Type 0} (bytes : List ℕ) (r : Result (A × List ℕ) E) (spell : A → List ℕ) (Fits : A → Type 0) : Type 0 where
  pub at : (x : A × List ℕ) → r ≡ Ok x → Takes bytes (spell x.0) x.1 × Fits x.0

pub reads_then : {E A C : Type 0} {bytes : List ℕ} {r : Result (A × List ℕ) E} (k : A × List ℕ → Result (C × List ℕ) E) {spell : A → List ℕ} {Fits : A → Type 0} {R : C → List ℕ → Type 0}
    → IsField bytes r spell Fits
    → ((a : A) (rest : List ℕ) → IsBytes rest → Fits a → Reads rest (k (a, rest)) (λ c part. R c (spell a ++ part)))
    → Reads bytes (r >>= k) R
reads_then {bytes = bytes} {r = r} k {spell = spell} field others = record {
  at = λ y e.
      let b = bind_ok r k y e in
      let first = field.at b.0 b.1 in
      let second = (others b.0.0 b.0.1 first.0.rest_fits first.1).at y b.2 in
      (spell b.0.0 ++ second.0, Takes-then bytes (spell b.0.0) b.0.1 second.0 y.1 first.0 second.1, second.2);
}

pub reads_ok : {E C : Type 0} {c : C} {rest : List ℕ} {R : C → List ℕ → Type 0} → IsBytes rest → R c [] → Reads {E = E} rest (Ok (c, rest)) R
reads_ok {E = E} {C = C} {c = c} {rest = rest} {R = R} fits holds = record {
  at = λ y e. let same : (c, rest) ≡ y = ok_is {E = E} (c, rest) y e in
      subst (λ (x : C × List ℕ). (part : List ℕ) × Takes rest part x.1 × R x.0 part) same ([], record { parts = refl; rest_fits = fits }, holds);
}

-- ---- numbers

pub record IsWide (w : Width) (limit : ℕ) : Type 0 where
  pub len : (n : ℕ) → length (to_be_bytes w n) ≡ byte_len w
  pub back : (bytes : List ℕ) → length bytes ≡ byte_len w → IsBytes bytes → to_be_bytes w (from_be_bytes w bytes) ≡ bytes
  pub again : (n : ℕ) → n < limit → from_be_bytes w (to_be_bytes w n) ≡ n
  pub below : (bytes : List ℕ) → IsBytes bytes → from_be_bytes w bytes < limit

pub wide16 : IsWide w16 (2 ^ 16)
wide16 = record {
  len = λ n. refl;
  back = λ bytes len fits. be_bytes_2 bytes _ len fits refl;
  again = λ n lt. from_be_bytes-to_be_bytes_2 n lt;
  below = λ bytes fits. omega (arith, fits 0, fits 1);
}

pub wide32 : IsWide w32 (2 ^ 32)
wide32 = record {
  len = λ n. refl;
  back = λ bytes len fits. be_bytes_4 bytes _ len fits refl;
  again = λ n lt. from_be_bytes-to_be_bytes_4 n lt;
  below = λ bytes fits. omega (arith, fits 0, fits 1, fits 2, fits 3);
}

pub wide64 : IsWide w64 (2 ^ 64)
wide64 = record {
  len = λ n. refl;
  back = λ bytes len fits. be_bytes_8 bytes _ len fits refl;
  again = λ n lt. from_be_bytes-to_be_bytes_8 n lt;
  below = λ bytes fits. omega (arith, fits 0, fits 1, fits 2, fits 3, fits 4, fits 5, fits 6, fits 7);
}

pub number_field : {E : Type 0} (short : E) (w : Width) (limit : ℕ) → IsWide w limit → (bytes : List ℕ) → IsBytes bytes
    → IsField bytes (number_at short w bytes) (λ n. to_be_bytes w n) (λ n. n < limit)
number_field {E = E} short w limit wide bytes fits = record {
  at = λ x e.
      let g = guard_ok (ltb (length bytes) (byte_len w)) short (Ok (from_be_bytes w (take (byte_len w) bytes), drop (byte_len w) bytes)) x e in
      let same : (from_be_bytes w (take (byte_len w) bytes), drop (byte_len w) bytes) ≡ x = ok_is {E = E} (from_be_bytes w (take (byte_len w) bytes), drop (byte_len w) bytes) x g.1 in
      let long : byte_len w ≤ length bytes = ltb-false _ _ g.0 in
      let n-is : from_be_bytes w (take (byte_len w) bytes) ≡ x.0 = ap (λ (p : ℕ × List ℕ). p.0) same in
      let rest-is : drop (byte_len w) bytes ≡ x.1 = ap (λ (p : ℕ × List ℕ). p.1) same in
      let front : to_be_bytes w x.0 ≡ take (byte_len w) bytes = rw (← n-is) (wide.back (take (byte_len w) bytes) (omega (arith, length-take (byte_len w) bytes)) (IsBytes-take (byte_len w) bytes fits)) in
      (record { parts = rw (front, ← rest-is) (sym (take-append-drop (byte_len w) bytes)); rest_fits = rw (← rest-is) (IsBytes-drop (byte_len w) bytes fits) }, rw (← n-is) (wide.below (take (byte_len w) bytes) (IsBytes-take (byte_len w) bytes fits)));
}

pub number_again : {E : Type 0} (short : E) (w : Width) (limit : ℕ) (wide : IsWide w limit) (n : ℕ) (rest : List ℕ) → n < limit → number_at short w (to_be_bytes w n ++ rest) ≡ Ok (n, rest)
number_again short w limit wide n rest lt =
    let len = wide.len n in
    let long : ltb (length (to_be_bytes w n ++ rest)) (byte_len w) ≡ false = le-ltb _ _ (omega (arith, length-append (to_be_bytes w n) rest)) in
    rw (long, take_at (to_be_bytes w n) rest (byte_len w) len, drop_at (to_be_bytes w n) rest (byte_len w) len, wide.again n lt) refl

-- ---- one byte

pub byte_field : {E : Type 0} (short : E) (bytes : List ℕ) → IsBytes bytes → IsField bytes (byte_at short bytes) (λ b. b ∷ []) (λ b. b < 256)
byte_field {E = E} short [] fits = record { at = λ x e. absurd cc }
byte_field {E = E} short (b ∷ bytes) fits = record {
  at = λ x e.
      let same : (b, bytes) ≡ x = ok_is {E = E} (b, bytes) x e in
      subst (λ (y : ℕ × List ℕ). Takes (b ∷ bytes) (y.0 ∷ []) y.1 × (y.0 < 256)) same (record { parts = refl; rest_fits = λ i. fits (suc i) }, fits 0);
}

-- ---- numbers within bounds

pub record IsWithin (limit least most n : ℕ) : Type 0 where
  pub fits : n < limit
  pub some : least ≤ n
  pub few : n ≤ most

pub bounded_field : {E : Type 0} (short range : E) (w : Width) (limit least most : ℕ) → IsWide w limit → (bytes : List ℕ) → IsBytes bytes
    → IsField bytes (bounded_at short range w least most bytes) (λ n. to_be_bytes w n) (λ n. IsWithin limit least most n)
unfolding bounded_at
bounded_field {E = E} short range w limit least most wide bytes fits = record {
  at = λ x e.
      let b = bind_ok (number_at short w bytes) (λ n. cond (ltb n.0 least || ltb most n.0) (Err range) (Ok n)) x e in
      let t = (number_field short w limit wide bytes fits).at b.0 b.1 in
      let g = guard_ok (ltb b.0.0 least || ltb most b.0.0) range (Ok b.0) x b.2 in
      let both = neither _ _ g.0 in
      let some : least ≤ b.0.0 = ltb-false _ _ both.0 in
      let few : b.0.0 ≤ most = ltb-false _ _ both.1 in
      subst (λ (y : ℕ × List ℕ). Takes bytes (to_be_bytes w y.0) y.1 × IsWithin limit least most y.0) (ok_is {E = E} b.0 x g.1) (t.0, record { fits = t.1; some = some; few = few });
}

pub bounded_again : {E : Type 0} (short range : E) (w : Width) (limit least most : ℕ) → IsWide w limit → (n : ℕ) (rest : List ℕ) → IsWithin limit least most n
    → bounded_at short range w least most (to_be_bytes w n ++ rest) ≡ Ok (n, rest)
unfolding bounded_at
bounded_again short range w limit least most wide n rest h =
    let some : ltb n least ≡ false = le-ltb _ _ h.some in
    let few : ltb most n ≡ false = le-ltb _ _ h.few in
    rw (number_again short w limit wide n rest h.fits, some, few) refl

-- ---- that many bytes

pub bytes_field : {E : Type 0} (short : E) (n : ℕ) (bytes : List ℕ) → IsBytes bytes → IsField bytes (bytes_at short n bytes) (λ text. text) (λ text. length text ≡ n)
bytes_field {E = E} short n bytes fits = record {
  at = λ x e.
      let g = guard_ok (ltb (length bytes) n) short (Ok (take n bytes, drop n bytes)) x e in
      let long : n ≤ length bytes = ltb-false _ _ g.0 in
      let len : length (take n bytes) ≡ n = omega (arith, length-take n bytes) in
      subst (λ (y : List ℕ × List ℕ). Takes bytes y.0 y.1 × (length y.0 ≡ n)) (ok_is {E = E} (take n bytes, drop n bytes) x g.1) (record { parts = sym (take-append-drop n bytes); rest_fits = IsBytes-drop n bytes fits }, len);
}

pub bytes_again : {E : Type 0} (short : E) (n : ℕ) (text rest : List ℕ) → length text ≡ n → bytes_at short n (text ++ rest) ≡ Ok (text, rest)
bytes_again short n text rest len =
    let long : ltb (length (text ++ rest)) n ≡ false = le-ltb _ _ (omega (arith, length-append text rest)) in
    rw (long, take_at text rest n len, drop_at text rest n len) refl

-- ---- texts

pub record IsTextOf (n : ℕ) (text : List ℕ) : Type 0 where
  pub size : length text ≡ n
  pub utf8 : IsUtf8 text

pub text_field : {E : Type 0} (short utf8 : E) (n : ℕ) (bytes : List ℕ) → IsBytes bytes → IsField bytes (text_at short utf8 n bytes) (λ text. text) (IsTextOf n)
unfolding text_at
text_field {E = E} short utf8 n bytes fits = record {
  at = λ x e.
      let b = bind_ok (bytes_at short n bytes) (λ text. cond (is_utf8 text.0) (Ok text) (Err utf8)) x e in
      let t = (bytes_field short n bytes fits).at b.0 b.1 in
      let g = guard_holds (is_utf8 b.0.0) utf8 (Ok b.0) x b.2 in
      subst (λ (y : List ℕ × List ℕ). Takes bytes y.0 y.1 × IsTextOf n y.0) (ok_is {E = E} b.0 x g.1) (t.0, record { size = t.1; utf8 = IsUtf8-from_is_utf8 b.0.0 g.0 });
}

pub text_again : {E : Type 0} (short utf8 : E) (n : ℕ) (text rest : List ℕ) → length text ≡ n → IsUtf8 text → text_at short utf8 n (text ++ rest) ≡ Ok (text, rest)
unfolding text_at
text_again short utf8 n text rest len utf = rw (bytes_again short n text rest len, is_utf8-from_IsUtf8 text utf) refl

-- ---- texts behind their length

pub record IsBoundedText (limit least most : ℕ) (text : List ℕ) : Type 0 where
  pub size : IsWithin limit least most (length text)
  pub utf8 : IsUtf8 text

pub bounded_text_field : {E : Type 0} (short range utf8 : E) (w : Width) (limit least most : ℕ) → IsWide w limit → (bytes : List ℕ) → IsBytes bytes
    → IsField bytes (bounded_text_at short range utf8 w least most bytes) (counted w) (IsBoundedText limit least most)
unfolding bounded_text_at
bounded_text_field short range utf8 w limit least most wide bytes fits = record {
  at = λ x e.
      let b = bind_ok (bounded_at short range w least most bytes) (λ n. text_at short utf8 n.0 n.1) x e in
      let t = (bounded_field short range w limit least most wide bytes fits).at b.0 b.1 in
      let u = (text_field short utf8 b.0.0 b.0.1 t.0.rest_fits).at x b.2 in
      let both = Takes-then bytes (to_be_bytes w b.0.0) b.0.1 x.0 x.1 t.0 u.0 in
      let size : b.0.0 ≡ length x.0 = sym u.1.size in
      (subst (λ (k : ℕ). Takes bytes (to_be_bytes w k ++ x.0) x.1) size both, record { size = subst (IsWithin limit least most) size t.1; utf8 = u.1.utf8 });
}

pub bounded_text_again : {E : Type 0} (short range utf8 : E) (w : Width) (limit least most : ℕ) → IsWide w limit → (text rest : List ℕ) → IsBoundedText limit least most text
    → bounded_text_at short range utf8 w least most (counted w text ++ rest) ≡ Ok (text, rest)
unfolding bounded_text_at
bounded_text_again short range utf8 w limit least most wide text rest h =
    let regrouped : counted w text ++ rest ≡ to_be_bytes w (length text) ++ (text ++ rest) = append_assoc (to_be_bytes w (length text)) text rest in
    rw (regrouped, bounded_again short range w limit least most wide (length text) (text ++ rest) h.size) (text_again short utf8 (length text) text rest refl h.utf8)
