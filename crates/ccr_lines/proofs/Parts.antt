-- parts of a chunk, and the lines of a text
use Rattle.std.proofs.Common.{◌≡◌, ℕ, ◌+◌, ◌<◌, ◌≤◌, Bool, true, false, List, [], ◌∷◌, ◌++◌, length, take, refl, ap, subst, sym, ◌∙◌, arith, length-drop, length-append, append_assoc}
use Rattle.std.specs.Prelude.{◌≢◌, is_some, ◌==◌, Option, Some, None, if◌then◌else◌}
use Rattle.std.proofs.lemmas.List.{length-take-le}
use Rattle.std.specs.Io.KnownBytes.{Consumes, IsAtEnd}
use Rattle.ccr_lines.specs.Lines.{before_lines, ended_lines, lines_of, rest_of, IsPlain, BreaksOff, EndsLine, GoesOn, GoesOver, GivesEnded, GivesLine, FirstLineIsOver, HasLine}
use Rattle.ccr_lines.specs.Reader.{part_of}

nil_from_length : (xs : List ℕ) → length xs ≡ 0 → xs ≡ []
nil_from_length [] h = refl
nil_from_length (x ∷ xs) h = absurd (omega arith)

length-part : (bytes : List ℕ) (start end : ℕ) → start ≤ end → end ≤ length bytes → length (part_of bytes start end) + start ≡ end
length-part bytes start end o w =
    let a : length (take end bytes) ≡ end = length-take-le end bytes w in
    let b = length-drop start (take end bytes) in
    omega (arith, a, b)

pub part-empty : (bytes : List ℕ) (start end : ℕ) → start ≤ end → end ≤ length bytes → start ≡ end → part_of bytes start end ≡ []
part-empty bytes start end o w e = let l = length-part bytes start end o w in nil_from_length (part_of bytes start end) (omega (arith, l))

pub empty-part : (bytes : List ℕ) (start end : ℕ) → start ≤ end → end ≤ length bytes → part_of bytes start end ≡ [] → start ≡ end
empty-part bytes start end o w e =
    let l = length-part bytes start end o w in
    let z : length (part_of bytes start end) ≡ 0 = ap (λ (xs : List ℕ). length xs) e in
    omega (arith, l, z)

-- ---- the lines of a text

pub lines-ended : (piece rest : List ℕ) → IsPlain piece → lines_of (piece ++ 10 ∷ rest) ≡ piece ∷ lines_of rest
lines-ended [] rest plain = refl
lines-ended (b ∷ piece) rest plain = rw (plain.0, lines-ended piece rest plain.1) refl

pub lines-last : (b : ℕ) (piece : List ℕ) → IsPlain (b ∷ piece) → lines_of (b ∷ piece) ≡ (b ∷ piece) ∷ []
lines-last b [] plain = rw plain.0 refl
lines-last b (x ∷ piece) plain = rw (plain.0, lines-last x piece plain.1) refl

-- a text that begins with bytes that are no line feeds has a line that begins with them
pub lines-begin : (b : ℕ) (piece rest : List ℕ) → IsPlain (b ∷ piece)
    → (back : List ℕ) × (lines : List (List ℕ)) × (lines_of ((b ∷ piece) ++ rest) ≡ ((b ∷ piece) ++ back) ∷ lines)
lines-begin b [] rest plain = rw plain.0 (begin_with b (lines_of rest))
  where
    begin_with : (b : ℕ) (lines : List (List ℕ)) → (back : List ℕ) × (more : List (List ℕ)) × (before_lines b lines ≡ (b ∷ back) ∷ more)
    begin_with b [] = ([], [], refl)
    begin_with b (line ∷ lines) = (line, lines, refl)
lines-begin b (x ∷ piece) rest plain =
    let more = lines-begin x piece rest plain.1 in
    (more.0, more.1, rw (plain.0, more.2) refl)

-- ---- a line that a reader gives

append-nil : (xs : List ℕ) → xs ++ [] ≡ xs
append-nil [] = refl
append-nil (x ∷ xs) = ap (λ ys. x ∷ ys) (append-nil xs)

pub IsPlain-append : (xs ys : List ℕ) → IsPlain xs → IsPlain ys → IsPlain (xs ++ ys)
IsPlain-append [] ys p q = q
IsPlain-append (x ∷ xs) ys p q = (p.0, IsPlain-append xs ys p.1 q)

-- the line so far goes on over all bytes at hand
pub goes-on : (all : Option (List ℕ)) (left : Option (List ℕ)) (old new before after : List ℕ) → IsPlain before → Consumes all (rest_of old left) before
    → GoesOn old new before after → IsPlain after × Consumes all (rest_of new left) after
goes-on all left old new before after plain taken g = (rw g.taken (IsPlain-append before old plain g.plain), consumed all left taken)
  where
    consumed : (all : Option (List ℕ)) (left : Option (List ℕ)) → Consumes all (rest_of old left) before → Consumes all (rest_of new left) after
    consumed None left t = tt
    consumed (Some whole) None t = t
    consumed (Some whole) (Some rest) t =
        let e : whole ≡ before ++ (old ++ rest) = t in
        rw (g.taken, g.rest) (e ∙ sym (append_assoc before old rest))

-- the line ends at a line feed
pub line-ends : (all : Option (List ℕ)) (left : Option (List ℕ)) (old new before after : List ℕ) → IsPlain before → Consumes all (rest_of old left) before
    → EndsLine old new before after → GivesLine all (rest_of new left) after
line-ends None left old new before after plain taken g = tt
line-ends (Some whole) None old new before after plain taken g = taken
line-ends (Some whole) (Some rest) old new before after plain taken g =
    let e : whole ≡ before ++ (old ++ rest) = taken in
    let plain_after : IsPlain (before ++ g.piece) = IsPlain-append before g.piece plain g.plain in
    let whole_is : whole ≡ (before ++ g.piece) ++ 10 ∷ (new ++ rest) =
    (e ∙ ap (λ xs. before ++ (xs ++ rest)) g.rest) ∙ (ap (λ xs. before ++ xs) (append_assoc g.piece (10 ∷ new) rest) ∙ sym (append_assoc before g.piece (10 ∷ (new ++ rest)))) in
    (ap lines_of whole_is ∙ lines-ended (before ++ g.piece) (new ++ rest) plain_after) ∙ ap (λ xs. xs ∷ lines_of (new ++ rest)) (sym g.taken)

-- the line ended at a line feed
pub line-ended : (all : Option (List ℕ)) (left : Option (List ℕ)) (old new before after : List ℕ) → IsPlain before → Consumes all (rest_of old left) before
    → EndsLine old new before after → GivesEnded all (rest_of new left) after
line-ended None left old new before after plain taken g = tt
line-ended (Some whole) None old new before after plain taken g = taken
line-ended (Some whole) (Some rest) old new before after plain taken g =
    let e : whole ≡ before ++ (old ++ rest) = taken in
    let plain_after : IsPlain (before ++ g.piece) = IsPlain-append before g.piece plain g.plain in
    let whole_is : whole ≡ (before ++ g.piece) ++ 10 ∷ (new ++ rest) =
    (e ∙ ap (λ xs. before ++ (xs ++ rest)) g.rest) ∙ (ap (λ xs. before ++ xs) (append_assoc g.piece (10 ∷ new) rest) ∙ sym (append_assoc before g.piece (10 ∷ (new ++ rest)))) in
    subst (λ xs. IsPlain xs × (whole ≡ xs ++ 10 ∷ (new ++ rest))) (sym g.taken) (plain_after, whole_is)

-- a line that goes over all bytes at hand breaks off where no more come
pub breaks-off : (all left left' : Option (List ℕ)) (old mid new before after : List ℕ) → IsPlain before → Consumes all (rest_of old left) before
    → GoesOn old mid before after → rest_of new left' ≡ rest_of mid left → new ≡ [] → BreaksOff all left'
breaks-off all left left' old mid new before after plain taken g same none =
    let on = goes-on all left old mid before after plain taken g in
    let taken_all : Consumes all (rest_of new left') after = subst (λ rest. Consumes all rest after) (sym same) on.1 in
    let taken_none : Consumes all (rest_of [] left') after = subst (λ xs. Consumes all (rest_of xs left') after) none taken_all in
    broken all left' on.0 taken_none
  where
    broken : (all left : Option (List ℕ)) → IsPlain after → Consumes all (rest_of [] left) after → BreaksOff all left
    broken None left p t = tt
    broken (Some whole) None p t = t
    broken (Some whole) (Some rest) p t = (after, p, t)

-- so does one that has no byte yet
pub breaks-before : (left left' : Option (List ℕ)) (old new : List ℕ) → rest_of new left' ≡ rest_of old left → new ≡ [] → BreaksOff (rest_of old left) left'
breaks-before left left' old new same none = subst (λ rest. BreaksOff rest left') same (subst (λ xs. BreaksOff (rest_of xs left') left') (sym none) (broken left'))
  where
    broken : (left : Option (List ℕ)) → BreaksOff (rest_of [] left) left
    broken None = tt
    broken (Some rest) = ([], tt, refl)

-- ---- the lines that end in a text

pub ended-feed : (line rest : List ℕ) → IsPlain line → ended_lines (line ++ 10 ∷ rest) ≡ line ∷ ended_lines rest
ended-feed [] rest plain = refl
ended-feed (b ∷ line) rest plain = rw (plain.0, ended-feed line rest plain.1) refl

pub ended-plain : (piece : List ℕ) → IsPlain piece → ended_lines piece ≡ []
ended-plain [] plain = refl
ended-plain (b ∷ piece) plain = rw (plain.0, ended-plain piece plain.1) refl

-- the line ends at the end
pub line-last : (all : Option (List ℕ)) (left : Option (List ℕ)) (bytes : List ℕ) → IsPlain bytes → bytes ≢ [] → Consumes all (rest_of [] left) bytes → IsAtEnd left
    → GivesLine all (rest_of [] left) bytes
line-last None left bytes plain some taken end = tt
line-last (Some whole) None bytes plain some taken end = taken
line-last (Some whole) (Some rest) [] plain some taken end = absurd (some refl)
line-last (Some whole) (Some rest) (b ∷ bytes) plain some taken end =
    let e : whole ≡ (b ∷ bytes) ++ rest = taken in
    let none : rest ≡ [] = end in
    let whole_is : whole ≡ b ∷ bytes = (e ∙ ap (λ xs. (b ∷ bytes) ++ xs) none) ∙ append-nil (b ∷ bytes) in
    (ap lines_of whole_is ∙ lines-last b bytes plain) ∙ ap (λ xs. (b ∷ bytes) ∷ lines_of xs) (sym none)

-- the line goes past what a line may have
pub line-over : (all : Option (List ℕ)) (rest : Option (List ℕ)) (bytes : List ℕ) (most : ℕ) → IsPlain bytes → most < length bytes → Consumes all rest bytes
    → FirstLineIsOver all most
line-over None rest bytes most plain long taken = tt
line-over (Some whole) None bytes most plain long taken = absurd taken
line-over (Some whole) (Some rest) [] most plain long taken = absurd (omega arith)
line-over (Some whole) (Some rest) (b ∷ bytes) most plain long taken =
    let begun = lines-begin b bytes rest plain in
    let e : whole ≡ (b ∷ bytes) ++ rest = taken in
    let more = length-append (b ∷ bytes) begun.0 in
    ((b ∷ bytes) ++ begun.0, begun.1, omega (arith, more), ap lines_of e ∙ begun.2)

-- a line that would go past it
pub over : (all left : Option (List ℕ)) (old before : List ℕ) (most : ℕ) → IsPlain before → Consumes all (rest_of old left) before → GoesOver old before most
    → FirstLineIsOver all most
over None left old before most plain taken g = tt
over (Some whole) None old before most plain taken g = absurd taken
over (Some whole) (Some rest) old before most plain taken g =
    let e : whole ≡ before ++ (old ++ rest) = taken in
    let more = length-append before g.piece in
    let whole_is : whole ≡ (before ++ g.piece) ++ (g.back ++ rest) =
    (e ∙ ap (λ xs. before ++ (xs ++ rest)) g.front) ∙ (ap (λ xs. before ++ xs) (append_assoc g.piece g.back rest) ∙ sym (append_assoc before g.piece (g.back ++ rest))) in
    let long = g.long in
    line-over (Some whole) (Some (g.back ++ rest)) (before ++ g.piece) most (IsPlain-append before g.piece plain g.plain) (omega (arith, more, long)) whole_is

some_line : (t : Bool) (x : ℕ) (lines : List (List ℕ)) → (line : List ℕ) × (more : List (List ℕ)) × ((if t then [] ∷ lines else before_lines x lines) ≡ line ∷ more)
some_line true x lines = ([], lines, refl)
some_line false x [] = (x ∷ [], [], refl)
some_line false x (line ∷ lines) = (x ∷ line, lines, refl)

-- what begins with a byte has a line
pub has-line : (old : List ℕ) (left : Option (List ℕ)) → old ≢ [] → HasLine (rest_of old left)
has-line old None some = tt
has-line [] (Some rest) some = absurd (some refl)
has-line (b ∷ old) (Some rest) some = some_line (b == 10) b (lines_of (old ++ rest))

pub rest-same : (old new : List ℕ) (left0 left : Option (List ℕ)) → old ≡ [] → Consumes left0 left new → is_some left ≡ is_some left0 → rest_of new left ≡ rest_of old left0
rest-same old new None None e taken told = refl
rest-same old new None (Some rest) e taken told = absurd (cc)
rest-same old new (Some whole) None e taken told = absurd taken
rest-same old new (Some whole) (Some rest) e taken told = let t : whole ≡ new ++ rest = taken in ap (λ xs. Some xs) (sym t ∙ ap (λ xs. xs ++ whole) (sym e))

pub consumes-none : (old : List ℕ) (left : Option (List ℕ)) → Consumes (rest_of old left) (rest_of old left) []
consumes-none old None = tt
consumes-none old (Some rest) = refl

pub at-end : (left : Option (List ℕ)) → IsAtEnd left → IsAtEnd (rest_of [] left)
at-end None h = tt
at-end (Some rest) h = h

not-nil : (before old after : List ℕ) → old ≢ [] → after ≡ before ++ old → after ≢ []
not-nil [] old after some e none = some (sym e ∙ none)
not-nil (x ∷ before) old after some e none = absurd (let h : x ∷ (before ++ old) ≡ [] = sym e ∙ none in cc)

-- the line is what was left
pub line-finishes : (all left left' : Option (List ℕ)) (old mid new before after : List ℕ) → IsPlain before → Consumes all (rest_of old left) before → old ≢ []
    → GoesOn old mid before after → rest_of new left' ≡ rest_of mid left → new ≡ [] → IsAtEnd left' → GivesLine all (rest_of new left') after
line-finishes all left left' old mid new before after plain taken some g same none end =
    let on = goes-on all left old mid before after plain taken g in
    let taken_all : Consumes all (rest_of new left') after = subst (λ rest. Consumes all rest after) (sym same) on.1 in
    let taken_none : Consumes all (rest_of [] left') after = subst (λ xs. Consumes all (rest_of xs left') after) none taken_all in
    subst (λ xs. GivesLine all (rest_of xs left') after) (sym none)
    (line-last all left' after on.0 (not-nil before old after some g.taken) taken_none end)

pub ruleset reading = (goes-on, line-ends, line-ended, breaks-before, line-last, over, has-line, rest-same, consumes-none, at-end)
