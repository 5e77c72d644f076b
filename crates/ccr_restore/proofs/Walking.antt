-- The walk over the parts of the files.
use Rattle.std.proofs.Common.{◌≡◌, ℕ, zero, suc, ◌+◌, ◌-◌, ◌*◌, ◌/◌, ◌<◌, ◌≤◌, ◌==◌, Bool, true, false, Option, Some, None, List, [], ◌∷◌, ◌++◌, map, length, take, drop, get_or, refl, sym, ◌∙◌, ap, subst, arith}
use Rattle.std.specs.Prelude.{flat_map, slice_get}
use Rattle.std.specs.List.{range_with_len, enumerate_from}
use Rattle.std.proofs.lemmas.Bool.Decides.{nat_tests}
use Rattle.std.proofs.lemmas.List.{drop_all, drop_more}
use Rattle.std.proofs.lemmas.List.Concat.{flat_map-cons}
use Rattle.std.proofs.lemmas.Option.{same_Some, slice_get_within, slice_get-get_or, get_or_from_slice_get}
use Rattle.ccr_model.specs.Restores.{offsets_of, places_of}
use Rattle.ccr_restore.specs.Places.{Walk, all_places, places_left, parts_in, parts_from, places_from, left_from, IsAt}
use Rattle.ccr_restore.proofs.Steps.{drop_none, drop_tail, drop_within, drop_past}

-- ---- how many parts

enough_parts : (chunk_size size : ℕ) → 1 ≤ chunk_size → size ≤ ((size + chunk_size - 1) / chunk_size) * chunk_size
enough_parts chunk_size size some = omega arith

some_of : (q chunk_size size : ℕ) → size ≤ q * chunk_size → 0 < size → 0 < q
some_of zero chunk_size size le some = let none : zero * chunk_size ≡ 0 = omega arith in absurd (omega arith)
some_of (suc q) chunk_size size le some = omega arith

-- a file that isn't empty has a part
pub some_part : (chunk_size size : ℕ) → 1 ≤ chunk_size → 0 < size → 0 < parts_in chunk_size size
some_part chunk_size size some more = some_of ((size + chunk_size - 1) / chunk_size) chunk_size size (enough_parts chunk_size size some) more

none_of : (q n chunk_size : ℕ) → q * chunk_size ≤ n → n < chunk_size → q ≡ 0
none_of zero n chunk_size le lt = refl
none_of (suc q) n chunk_size le lt = absurd (omega arith)

whole_parts : (n chunk_size : ℕ) → (n / chunk_size) * chunk_size ≤ n
whole_parts n chunk_size = omega arith

no_parts : (chunk_size : ℕ) → 1 ≤ chunk_size → parts_in chunk_size 0 ≡ 0
no_parts chunk_size some = none_of ((0 + chunk_size - 1) / chunk_size) (0 + chunk_size - 1) chunk_size (whole_parts (0 + chunk_size - 1) chunk_size) (omega arith)

-- ---- what is left

pub left_start : (chunk_size file : ℕ) (sizes : List ℕ) → left_from chunk_size file 0 sizes ≡ places_from chunk_size file sizes
left_start chunk_size file [] = refl
left_start chunk_size file (size ∷ sizes) =
    ap (λ (n : ℕ). map {A = ℕ} {B = ℕ × ℕ} (λ offset. (file, offset)) (map {A = ℕ} {B = ℕ} (λ k. k * chunk_size) (range_with_len 0 n)) ++ places_from chunk_size (file + 1) sizes) all
    ∙ sym (flat_map-cons {X = ℕ × ℕ} {A = ℕ × ℕ} (λ at. map {A = ℕ} {B = ℕ × ℕ} (λ offset. (at.0, offset)) (offsets_of chunk_size at.1)) (file, size) (enumerate_from (file + 1) sizes))
  where
    all : parts_in chunk_size size - 0 ≡ parts_in chunk_size size
    all = omega arith

pub left-next : (chunk_size file part size : ℕ) (sizes : List ℕ) → part < parts_in chunk_size size
    → left_from chunk_size file part (size ∷ sizes) ≡ (file, part * chunk_size) ∷ left_from chunk_size file (part + 1) (size ∷ sizes)
left-next chunk_size file part size sizes lt =
    ap (λ (n : ℕ). map {A = ℕ} {B = ℕ × ℕ} (λ offset. (file, offset)) (map {A = ℕ} {B = ℕ} (λ k. k * chunk_size) (range_with_len part n)) ++ places_from chunk_size (file + 1) sizes) one_more
  where
    one_more : parts_in chunk_size size - part ≡ suc (parts_in chunk_size size - (part + 1))
    one_more = omega arith

pub left-over : (chunk_size file part size : ℕ) (sizes : List ℕ) → parts_in chunk_size size ≤ part
    → left_from chunk_size file part (size ∷ sizes) ≡ left_from chunk_size (file + 1) 0 sizes
left-over chunk_size file part size sizes le =
    ap (λ (n : ℕ). map {A = ℕ} {B = ℕ × ℕ} (λ offset. (file, offset)) (map {A = ℕ} {B = ℕ} (λ k. k * chunk_size) (range_with_len part n)) ++ places_from chunk_size (file + 1) sizes) none
    ∙ sym (left_start chunk_size (file + 1) sizes)
  where
    none : parts_in chunk_size size - part ≡ 0
    none = omega arith

-- an empty file is passed over
pub left-empty : (chunk_size file : ℕ) (sizes : List ℕ) (total : List (ℕ × ℕ)) → 1 ≤ chunk_size → file < length sizes → get_or sizes file 0 ≤ 0
    → left_from chunk_size file 0 (drop file sizes) ≡ total → left_from chunk_size (file + 1) 0 (drop (file + 1) sizes) ≡ total
left-empty chunk_size file sizes total some lt none before =
    sym (ap (left_from chunk_size file 0) (drop_more sizes file 0 lt ∙ ap (λ (n : ℕ). n ∷ drop (file + 1) sizes) no_bytes)
    ∙ left-over chunk_size file 0 0 (drop (file + 1) sizes) (few)) ∙ before
  where
    no_bytes : get_or sizes file 0 ≡ 0
    no_bytes = omega arith

    few : parts_in chunk_size 0 ≤ 0
    few = let e : parts_in chunk_size 0 ≡ 0 = no_parts chunk_size some in omega arith

-- ---- the next part

sized : (chunk_size file part size : ℕ) (sizes : List ℕ) → slice_get sizes file ≡ Some size → drop file sizes ≡ size ∷ drop (file + 1) sizes
sized chunk_size file part size sizes there =
    drop_more sizes file size (slice_get_within sizes file size there) ∙ ap (λ (n : ℕ). n ∷ drop (file + 1) sizes) (get_or_from_slice_get sizes file size size there)

-- the next part, and what is left behind it
pub record IsNext (chunk_size : ℕ) (sizes : List ℕ) (asked file part : ℕ) : Type 0 where
  pub here : drop asked (places_of chunk_size sizes) ≡ (file, part * chunk_size) ∷ drop (asked + 1) (places_of chunk_size sizes)
  pub passed : asked + 1 ≤ length (places_of chunk_size sizes)
  pub left : left_from chunk_size file (part + 1) (drop file sizes) ≡ drop (asked + 1) (places_of chunk_size sizes)

pub next-is : (chunk_size : ℕ) (sizes : List ℕ) (asked file part size : ℕ) → IsAt chunk_size sizes asked file part → slice_get sizes file ≡ Some size → IsNext chunk_size sizes asked file part
next-is chunk_size sizes asked file part size at there = record {
  here = front ∙ ap (λ (rest : List (ℕ × ℕ)). (file, part * chunk_size) ∷ rest) (sym tail);
  passed = let lt : asked < length (places_of chunk_size sizes) = drop_within (places_of chunk_size sizes) asked (file, part * chunk_size) (left_from chunk_size file (part + 1) (size ∷ drop (file + 1) sizes)) front in omega arith;
  left = ap (left_from chunk_size file (part + 1)) (sized chunk_size file part size sizes there) ∙ sym tail;
}
  where
    front : drop asked (places_of chunk_size sizes) ≡ (file, part * chunk_size) ∷ left_from chunk_size file (part + 1) (size ∷ drop (file + 1) sizes)
    front = sym at.left ∙ (ap (left_from chunk_size file part) (sized chunk_size file part size sizes there) ∙ left-next chunk_size file part size (drop (file + 1) sizes) (at.there size there))

    tail : drop (asked + 1) (places_of chunk_size sizes) ≡ left_from chunk_size file (part + 1) (size ∷ drop (file + 1) sizes)
    tail = drop_tail (places_of chunk_size sizes) asked (file, part * chunk_size) (left_from chunk_size file (part + 1) (size ∷ drop (file + 1) sizes)) front

-- the file has another part
pub at-part : (chunk_size : ℕ) (sizes : List ℕ) (asked file part size later : ℕ) → IsAt chunk_size sizes asked file part → slice_get sizes file ≡ Some size → part + 1 < parts_in chunk_size size → later ≡ asked + 1
    → IsAt chunk_size sizes later file (part + 1)
at-part chunk_size sizes asked file part size later at there more one =
    let next = next-is chunk_size sizes asked file part size at there in
    let P : ℕ → Type 0 = λ n. IsAt chunk_size sizes n file (part + 1) in
    subst P (sym one) (record {
      chunk = at.chunk;
      few = at.few;
      within = at.within;
      there = λ n own. let same : n ≡ size = same_Some n size (sym own ∙ there) in omega (arith, ap (parts_in chunk_size) same);
      passed = next.passed;
      left = next.left;
    })

-- the next part is the first of another file
pub at-file : (chunk_size : ℕ) (sizes shown : List ℕ) (asked file part size later next_file : ℕ) → IsAt chunk_size sizes asked file part → slice_get sizes file ≡ Some size → parts_in chunk_size size ≤ part + 1 → later ≡ asked + 1
    → shown ≡ sizes → next_file ≤ length shown → ((n : ℕ) → slice_get shown next_file ≡ Some n → 0 < parts_in chunk_size n)
    → left_from chunk_size next_file 0 (drop next_file shown) ≡ left_from chunk_size (file + 1) 0 (drop (file + 1) shown)
    → IsAt chunk_size sizes later next_file 0
at-file chunk_size sizes shown asked file part size later next_file at there over one is within some same =
    let next = next-is chunk_size sizes asked file part size at there in
    let P : ℕ → Type 0 = λ n. IsAt chunk_size sizes n next_file 0 in
    let long : length shown ≡ length sizes = ap length is in
    subst P (sym one) (record {
      chunk = at.chunk;
      few = at.few;
      within = omega arith;
      there = λ n own. some n (ap (λ (xs : List ℕ). slice_get xs next_file) is ∙ own);
      passed = next.passed;
      left = ap (λ (xs : List ℕ). left_from chunk_size next_file 0 (drop next_file xs)) (sym is) ∙ (same ∙ (ap (λ (xs : List ℕ). left_from chunk_size (file + 1) 0 (drop (file + 1) xs)) is
          ∙ (sym (ap (left_from chunk_size file (part + 1)) (sized chunk_size file part size sizes there) ∙ left-over chunk_size file (part + 1) size (drop (file + 1) sizes) over) ∙ next.left)));
    })

-- the place that is passed
pub place-is : (w : Walk) (file part size offset : ℕ) → IsAt w.chunk_size w.sizes w.asked file part → slice_get w.sizes file ≡ Some size → offset ≡ part * w.chunk_size
    → places_left w ≡ (file, offset) ∷ drop (w.asked + 1) (all_places w)
place-is w file part size offset at there is =
    (next-is w.chunk_size w.sizes w.asked file part size at there).here ∙ ap (λ (n : ℕ). (file, n) ∷ drop (w.asked + 1) (all_places w)) (sym is)

-- ---- the end

ends : (chunk_size : ℕ) (sizes : List ℕ) (asked file part : ℕ) → IsAt chunk_size sizes asked file part → file ≡ length sizes → asked ≡ length (places_of chunk_size sizes)
ends chunk_size sizes asked file part at end =
    let none : drop file sizes ≡ [] = drop_all file sizes (omega arith) in
    let over : length (places_of chunk_size sizes) ≤ asked = drop_past (places_of chunk_size sizes) asked (sym at.left ∙ ap (left_from chunk_size file part) none) in
    omega (arith, at.passed)

pub goes-on : (chunk_size : ℕ) (sizes : List ℕ) (asked file part : ℕ) → IsAt chunk_size sizes asked file part → file < length sizes → asked < length (places_of chunk_size sizes)
goes-on chunk_size sizes asked file part at lt =
    let next = next-is chunk_size sizes asked file part (get_or sizes file 0) at (slice_get-get_or sizes file 0 lt) in
    omega (arith, next.passed)

-- all parts were passed exactly at the end of the files
pub done-is : (chunk_size : ℕ) (sizes : List ℕ) (asked file part : ℕ) → IsAt chunk_size sizes asked file part → (file == length sizes) ≡ (asked == length (places_of chunk_size sizes))
done-is chunk_size sizes asked file part at = by_test (file == length sizes) refl
  where
    by_test : (b : Bool) → (file == length sizes) ≡ b → b ≡ (asked == length (places_of chunk_size sizes))
    by_test true is =
        let end : file ≡ length sizes = grind (arith, nat_tests) in
        let all : asked ≡ length (places_of chunk_size sizes) = ends chunk_size sizes asked file part at end in
        grind (arith, nat_tests)
    by_test false isnt =
        let lt : file < length sizes = let le : file ≤ length sizes = at.within in grind (arith, nat_tests) in
        let more : asked < length (places_of chunk_size sizes) = goes-on chunk_size sizes asked file part at lt in
        grind (arith, nat_tests)

-- there is a file where not all parts were passed
pub file-there : (w : Walk) (file part : ℕ) → IsAt w.chunk_size w.sizes w.asked file part → (w.asked == length (all_places w)) ≡ false → file < length w.sizes
file-there w file part at more =
    let isnt : (file == length w.sizes) ≡ false = done-is w.chunk_size w.sizes w.asked file part at ∙ more in
    let le : file ≤ length w.sizes = at.within in
    grind (arith, nat_tests)
