use Rattle.std.proofs.Common.{◌≡◌, ◌≢◌, ◌<◌, ◌≤◌, ℕ, ◌+◌, List, [], ◌∷◌, ◌++◌, length, get_or, set, remove, arith, refl, ap, sym, ◌∙◌, ⊎_elim, length-append, length-set, get_or-set_other, get_or-set_same}
use Rattle.std.proofs.lemmas.Bool.{cases_lt}
use Rattle.std.proofs.lemmas.List.{get_or_read_under, length_push}
use Rattle.std.proofs.lemmas.List.Edits.{length-remove, get_or-remove_below, get_or-remove_above}
use Rattle.ccr_net.specs.Joined.{FitsWithNext, AreApart, AreApartBeside, AreApartBefore}

-- away from the chunk that is put at i, neighbours are as before
untouched : {A : Type 0} (chunks : List (List A)) (i : ℕ) (chunk : List A) (j : ℕ) → j ≢ i → j + 1 ≢ i → FitsWithNext (set chunks i chunk) j → FitsWithNext chunks j
untouched {A = A} chunks i chunk j here next fits =
    let one : get_or (set chunks i chunk) j [] ≡ get_or chunks j [] = get_or-set_other chunks i j chunk [] here in
    let two : get_or (set chunks i chunk) (j + 1) [] ≡ get_or chunks (j + 1) [] = get_or-set_other chunks i (j + 1) chunk [] next in
    (omega (arith, fits.0, length-set chunks i chunk), omega (arith, fits.1, ap length one, ap length two))

-- a chunk and its next one are joined
pub apart_joined : {A : Type 0} (chunks : List (List A)) (i : ℕ) (first next : List A) → i + 1 < length chunks → next ≡ get_or chunks (i + 1) next → first ≡ get_or (remove chunks (i + 1)) i first → AreApartBeside i chunks → AreApartBefore i chunks (set (remove chunks (i + 1)) i (first ++ next))
apart_joined {A = A} chunks i first next lt next_is first_is beside j fits =
    let rest : List (List A) = remove chunks (i + 1) in
    let both : List (List A) = set rest i (first ++ next) in
    let less : length rest + 1 ≡ length chunks = length-remove chunks (i + 1) lt in
    let as_many : length both ≡ length rest = length-set rest i (first ++ next) in
    let there : i < length rest = omega arith in
    let sum : length (first ++ next) ≡ length first + length next = length-append first next in
    let first_here : first ≡ get_or chunks i [] = get_or_read_under rest i (length rest) first [] first_is there refl ∙ get_or-remove_below chunks (i + 1) [] i (omega arith) lt in
    let next_here : next ≡ get_or chunks (i + 1) [] = get_or_read_under chunks (i + 1) (length chunks) next [] next_is lt refl in
    let at_i : get_or both i [] ≡ first ++ next = get_or-set_same rest i (first ++ next) [] there in
    let count : j + 1 < length both = fits.0 in
    let few : length (get_or both j []) + length (get_or both (j + 1) []) ≤ 256 = fits.1 in
    let away : j ≢ i → j + 1 ≢ i → FitsWithNext rest j = λ (here : j ≢ i) (before : j + 1 ≢ i). untouched rest i (first ++ next) j here before fits in
    ⊎_elim
    (λ (below : j + 1 < i).
    let old = away (λ (e : j ≡ i). omega arith) (λ (e : j + 1 ≡ i). omega arith) in
    let one : get_or rest j [] ≡ get_or chunks j [] = get_or-remove_below chunks (i + 1) [] j (omega arith) lt in
    let two : get_or rest (j + 1) [] ≡ get_or chunks (j + 1) [] = get_or-remove_below chunks (i + 1) [] (j + 1) (omega arith) lt in
    let near : (j ≤ i) × (i ≤ j + 1) = beside j (omega arith, omega (arith, old.1, ap length one, ap length two)) in
    absurd (omega arith))
    (λ (from : i ≤ j + 1). ⊎_elim
    (λ (before : j < i).
    let is : j + 1 ≡ i = omega arith in
    let one : get_or both j [] ≡ get_or chunks j [] = get_or-set_other rest i j (first ++ next) [] (λ (e : j ≡ i). omega arith) ∙ get_or-remove_below chunks (i + 1) [] j (omega arith) lt in
    let two : get_or both (j + 1) [] ≡ first ++ next = ap (λ (k : ℕ). get_or both k []) is ∙ at_i in
    let old : first ≡ get_or chunks (j + 1) [] = first_here ∙ ap (λ (k : ℕ). get_or chunks k []) (sym is) in
    (is, (omega arith, omega (arith, ap length one, ap length two, ap length old))))
    (λ (upto : i ≤ j). ⊎_elim
    (λ (above : i < j).
    let old = away (λ (e : j ≡ i). omega arith) (λ (e : j + 1 ≡ i). omega arith) in
    let one : get_or rest j [] ≡ get_or chunks (j + 1) [] = get_or-remove_above chunks (i + 1) [] j (omega arith) lt in
    let two : get_or rest (j + 1) [] ≡ get_or chunks (j + 1 + 1) [] = get_or-remove_above chunks (i + 1) [] (j + 1) (omega arith) lt in
    let near : (j + 1 ≤ i) × (i ≤ j + 1 + 1) = beside (j + 1) (omega arith, omega (arith, old.1, ap length one, ap length two)) in
    absurd (omega arith))
    (λ (down : j ≤ i).
    let is : j ≡ i = omega arith in
    let one : get_or both j [] ≡ first ++ next = ap (λ (k : ℕ). get_or both k []) is ∙ at_i in
    let two : get_or both (j + 1) [] ≡ get_or chunks (j + 1 + 1) [] = get_or-set_other rest i (j + 1) (first ++ next) [] (λ (e : j + 1 ≡ i). omega arith) ∙ get_or-remove_above chunks (i + 1) [] (j + 1) (omega arith) lt in
    let old : next ≡ get_or chunks (j + 1) [] = next_here ∙ ap (λ (k : ℕ). get_or chunks (k + 1) []) (sym is) in
    let near : (j + 1 ≤ i) × (i ≤ j + 1 + 1) = beside (j + 1) (omega arith, omega (arith, ap length one, ap length two, ap length old)) in
    absurd (omega arith))
    (cases_lt i j))
    (cases_lt j i))
    (cases_lt (j + 1) i)

-- one frame more in the last chunk
pub apart_pushed : {A : Type 0} (chunks : List (List A)) (last : ℕ) (chunk : List A) (frame : A) → last + 1 ≡ length chunks → chunk ≡ get_or chunks last chunk → AreApart chunks → AreApart (set chunks last (chunk ++ frame ∷ []))
apart_pushed {A = A} chunks last chunk frame ends is apart j fits =
    let more : List (List A) = set chunks last (chunk ++ frame ∷ []) in
    let as_many : length more ≡ length chunks = length-set chunks last (chunk ++ frame ∷ []) in
    let there : last < length chunks = omega arith in
    let count : j + 1 < length more = fits.0 in
    let few : length (get_or more j []) + length (get_or more (j + 1) []) ≤ 256 = fits.1 in
    let here : chunk ≡ get_or chunks last [] = get_or_read_under chunks last (length chunks) chunk [] is there refl in
    let longer : length (chunk ++ frame ∷ []) ≡ length chunk + 1 = length_push chunk frame in
    ⊎_elim
    (λ (below : j + 1 < last). apart j (untouched chunks last (chunk ++ frame ∷ []) j (λ (e : j ≡ last). omega arith) (λ (e : j + 1 ≡ last). omega arith) fits))
    (λ (from : last ≤ j + 1).
    let next : j + 1 ≡ last = omega arith in
    let one : get_or more j [] ≡ get_or chunks j [] = get_or-set_other chunks last j (chunk ++ frame ∷ []) [] (λ (e : j ≡ last). omega arith) in
    let two : get_or more (j + 1) [] ≡ chunk ++ frame ∷ [] = ap (λ (k : ℕ). get_or more k []) next ∙ get_or-set_same chunks last (chunk ++ frame ∷ []) [] there in
    let old : chunk ≡ get_or chunks (j + 1) [] = here ∙ ap (λ (k : ℕ). get_or chunks k []) (sym next) in
    apart j (omega arith, omega (arith, ap length one, ap length two, ap length old)))
    (cases_lt (j + 1) last)
