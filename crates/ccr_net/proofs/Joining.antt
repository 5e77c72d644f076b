use Rattle.std.proofs.Common.{◌≡◌, ◌<◌, ◌≤◌, ℕ, ◌+◌, ◌-◌, suc, List, [], ◌∷◌, ◌++◌, length, take, drop, get_or, set, slice_get, remove, Some, arith, refl, ap, sym, ◌∙◌, length-append}
use Rattle.std.proofs.lemmas.List.{append_assoc, append-nil, take_all, take_more, get_or_read_under, set_split, set-get_or, drop_all, get_or-append-add, get_or_append_left, length-take-le, set-append_left}
use Rattle.std.proofs.lemmas.Option.{slice_get-get_or}
use Rattle.std.proofs.lemmas.List.Edits.{remove-append_left, remove-append_right}
use Rattle.ccr_net.specs.Joined.{joined, IsPlace}

pub joined-append : {A : Type 0} (front back : List (List A)) → joined (front ++ back) ≡ joined front ++ joined back
joined-append [] back = refl
joined-append (chunk ∷ front) back = ap (λ rest. chunk ++ rest) (joined-append front back) ∙ sym (append_assoc chunk (joined front) (joined back))

-- one chunk more, at any name for that chunk
pub joined_more : {A : Type 0} (chunks : List (List A)) (i : ℕ) (chunk : List A) → i < length chunks → chunk ≡ get_or chunks i chunk → length (joined (take (i + 1) chunks)) ≡ length (joined (take i chunks)) + length chunk
joined_more {A = A} chunks i chunk lt is =
    let split : take (i + 1) chunks ≡ take i chunks ++ get_or chunks i chunk ∷ [] = take_more chunks i chunk lt in
    let named : take (i + 1) chunks ≡ take i chunks ++ chunk ∷ [] = cc in
    let parts : joined (take i chunks ++ chunk ∷ []) ≡ joined (take i chunks) ++ (chunk ++ []) = joined-append (take i chunks) (chunk ∷ []) in
    let sum : length (joined (take (i + 1) chunks)) ≡ length (joined (take i chunks) ++ (chunk ++ [])) = ap (λ (l : List (List A)). length (joined l)) named ∙ ap length parts in
    omega (arith, sum, length-append (joined (take i chunks)) (chunk ++ []), ap length (append-nil chunk))

pub joined_all : {A : Type 0} (chunks : List (List A)) (i : ℕ) → length chunks ≤ i → length (joined (take i chunks)) ≡ length (joined chunks)
joined_all {A = A} chunks i le = ap (λ (l : List (List A)). length (joined l)) (take_all i chunks le)

-- a chunk that holds the frame is its place
pub placed : {A : Type 0} (chunks : List (List A)) (at index offset : ℕ) (chunk : List A) → index < length chunks → chunk ≡ get_or chunks index chunk → offset < length chunk → length (joined (take index chunks)) + offset ≡ at → IsPlace chunks at index offset
placed {A = A} chunks at index offset chunk lt is within counts =
    let here : chunk ≡ get_or chunks index [] = get_or_read_under chunks index (length chunks) chunk [] is lt refl in
    record {
      is_there = lt;
      within = omega (arith, ap length here);
      counts = counts;
    }

-- one chunk less
pub joined_less : {A : Type 0} (chunks : List (List A)) (end : ℕ) (chunk : List A) → 0 < end → end ≤ length chunks → chunk ≡ get_or chunks (end - 1) chunk → length (joined (take end chunks)) ≡ length (joined (take (end - 1) chunks)) + length chunk
joined_less {A = A} chunks end chunk some within is =
    let same : end - 1 + 1 ≡ end = omega arith in
    let more = joined_more chunks (end - 1) chunk (omega arith) is in
    ap (λ (n : ℕ). length (joined (take n chunks))) (sym same) ∙ more

-- the chunks with another one in place of the one at i
pub joined-set : {A : Type 0} (chunks : List (List A)) (i : ℕ) (chunk : List A) → i < length chunks → joined (set chunks i chunk) ≡ joined (take i chunks) ++ (chunk ++ joined (drop (suc i) chunks))
joined-set {A = A} chunks i chunk lt =
    ap (λ (l : List (List A)). joined l) (set_split chunks i chunk lt) ∙ joined-append (take i chunks) (chunk ∷ drop (suc i) chunks)

pub joined_split : {A : Type 0} (chunks : List (List A)) (i : ℕ) (chunk : List A) → i < length chunks → chunk ≡ get_or chunks i chunk → joined chunks ≡ joined (take i chunks) ++ (chunk ++ joined (drop (suc i) chunks))
joined_split {A = A} chunks i chunk lt is =
    let same : set chunks i chunk ≡ chunks = ap (λ (l : List A). set chunks i l) is ∙ set-get_or chunks i chunk in
    ap (λ (l : List (List A)). joined l) (sym same) ∙ joined-set chunks i chunk lt

same_frame : {A : Type 0} (xs ys : List A) (i j : ℕ) → i < length xs → j < length ys → ((d : A) → get_or xs i d ≡ get_or ys j d) → slice_get xs i ≡ slice_get ys j
same_frame xs [] i j lt none same = absurd (omega (arith, none))
same_frame xs (y ∷ ys) i j lt within same = slice_get-get_or xs i y lt ∙ (ap Some (same y) ∙ sym (slice_get-get_or (y ∷ ys) j y within))

-- the frame at a place
pub frame_there : {A : Type 0} (chunks : List (List A)) (at i offset : ℕ) (chunk : List A) → IsPlace chunks at i offset → chunk ≡ get_or chunks i chunk → slice_get (joined chunks) at ≡ slice_get chunk offset
frame_there {A = A} chunks at i offset chunk place is =
    let here : chunk ≡ get_or chunks i [] = get_or_read_under chunks i (length chunks) chunk [] is place.is_there refl in
    let within : offset < length chunk = omega (arith, place.within, ap length here) in
    let front : List A = joined (take i chunks) in
    let back : List A = joined (drop (suc i) chunks) in
    let split : joined chunks ≡ front ++ (chunk ++ back) = joined_split chunks i chunk place.is_there is in
    let counts : length front + offset ≡ at = place.counts in
    let sum : length (joined chunks) ≡ length front + (length chunk + length back) = ap length split ∙ (length-append front (chunk ++ back) ∙ ap (λ (n : ℕ). length front + n) (length-append chunk back)) in
    same_frame (joined chunks) chunk at offset (omega arith) within
    (λ d. ap (λ (l : List A). get_or l at d) split ∙ (ap (λ (n : ℕ). get_or (front ++ (chunk ++ back)) n d) (sym counts) ∙ (get_or-append-add front (chunk ++ back) offset d ∙ get_or_append_left chunk back d offset within)))

-- what is left without it
pub taken_there : {A : Type 0} (chunks : List (List A)) (at i offset : ℕ) (chunk : List A) → IsPlace chunks at i offset → chunk ≡ get_or chunks i chunk → joined (set chunks i (remove chunk offset)) ≡ remove (joined chunks) at
taken_there {A = A} chunks at i offset chunk place is =
    let here : chunk ≡ get_or chunks i [] = get_or_read_under chunks i (length chunks) chunk [] is place.is_there refl in
    let within : offset < length chunk = omega (arith, place.within, ap length here) in
    let front : List A = joined (take i chunks) in
    let back : List A = joined (drop (suc i) chunks) in
    let split : joined chunks ≡ front ++ (chunk ++ back) = joined_split chunks i chunk place.is_there is in
    let counts : length front + offset ≡ at = place.counts in
    let left : at - length front ≡ offset = omega arith in
    let first : remove (front ++ (chunk ++ back)) at ≡ front ++ remove (chunk ++ back) (at - length front) = remove-append_right front (chunk ++ back) (length front) at refl (omega arith) in
    let second : remove (chunk ++ back) offset ≡ remove chunk offset ++ back = remove-append_left chunk back offset within in
    let whole : remove (joined chunks) at ≡ front ++ (remove chunk offset ++ back) = ap (λ (l : List A). remove l at) split ∙ (first ∙ (ap (λ (n : ℕ). front ++ remove (chunk ++ back) n) left ∙ ap (λ (l : List A). front ++ l) second)) in
    joined-set chunks i (remove chunk offset) place.is_there ∙ sym whole

-- more frames in the last chunk
pub joined_extend_last : {A : Type 0} (chunks : List (List A)) (last : ℕ) (chunk more : List A) → last + 1 ≡ length chunks → chunk ≡ get_or chunks last chunk → joined (set chunks last (chunk ++ more)) ≡ joined chunks ++ more
joined_extend_last {A = A} chunks last chunk more ends is =
    let lt : last < length chunks = omega arith in
    let front : List A = joined (take last chunks) in
    let past : drop (suc last) chunks ≡ [] = drop_all (suc last) chunks (omega arith) in
    let none : joined (drop (suc last) chunks) ≡ [] = ap (λ (l : List (List A)). joined l) past in
    let before : joined chunks ≡ front ++ chunk = joined_split chunks last chunk lt is ∙ (ap (λ (l : List A). front ++ (chunk ++ l)) none ∙ ap (λ (l : List A). front ++ l) (append-nil chunk)) in
    let after : joined (set chunks last (chunk ++ more)) ≡ front ++ (chunk ++ more) = joined-set chunks last (chunk ++ more) lt ∙ (ap (λ (l : List A). front ++ ((chunk ++ more) ++ l)) none ∙ ap (λ (l : List A). front ++ l) (append-nil (chunk ++ more))) in
    after ∙ (sym (append_assoc front chunk more) ∙ ap (λ (l : List A). l ++ more) (sym before))

-- a new chunk with one frame
pub joined_push_new : {A : Type 0} (chunks : List (List A)) (frame : A) → joined (chunks ++ (frame ∷ []) ∷ []) ≡ joined chunks ++ frame ∷ []
joined_push_new chunks frame = joined-append chunks ((frame ∷ []) ∷ [])

-- the next chunk's frames behind those of the one at i
pub joined_with_next : {A : Type 0} (chunks : List (List A)) (i : ℕ) (first next : List A) → i + 1 < length chunks → next ≡ get_or chunks (i + 1) next → first ≡ get_or (remove chunks (i + 1)) i first → joined (set (remove chunks (i + 1)) i (first ++ next)) ≡ joined chunks
joined_with_next {A = A} chunks i first next lt next_is first_is =
    let front : List (List A) = take (i + 1) chunks in
    let back : List (List A) = drop (suc (i + 1)) chunks in
    let ends : length front ≡ i + 1 = length-take-le (i + 1) chunks (omega arith) in
    let here : first ≡ get_or front i first = first_is ∙ get_or_append_left front back first i (omega arith) in
    let apart : set (front ++ back) i (first ++ next) ≡ set front i (first ++ next) ++ back = set-append_left front back i (first ++ next) (omega arith) in
    let more : joined (set front i (first ++ next)) ≡ joined front ++ next = joined_extend_last front i first next (omega arith) here in
    let whole : joined chunks ≡ joined front ++ (next ++ joined back) = joined_split chunks (i + 1) next lt next_is in
    ap (λ (l : List (List A)). joined l) apart ∙ (joined-append (set front i (first ++ next)) back ∙ (ap (λ (l : List A). l ++ joined back) more ∙ (append_assoc (joined front) next (joined back) ∙ sym whole)))
