-- A piece stands in a text exactly once.
use Rattle.std.proofs.Common.{◌≡◌, ℕ, zero, suc, ◌+◌, ◌<◌, ◌≤◌, Bool, true, false, List, [], ◌∷◌, ◌++◌, length, take, drop, refl, sym, subst, ◌∙◌, ap, arith, cond, inl, inr}
use Rattle.std.specs.Str.Pattern.{LacksTextAt}
use Rattle.std.proofs.lemmas.Bool.{cases_Bool, false_from_ne_true, both_ways}
use Rattle.std.proofs.lemmas.Slice.Eq.{bytes_eq-Decides}
use Rattle.std.proofs.Math.ListN.{take-append-drop}
use Rattle.std.proofs.Math.Seq.{drop-drop, take-append_seam, drop-append_seam}
use Rattle.ccr_auto.specs.Patterns.{has_front}
use Rattle.ccr_auto.specs.Follow.{HasMarker, MarksOnce, marker}
use Rattle.ccr_plans.specs.Patterns.{occurrences}

-- ---- a text begins with a piece

front_is : (piece s : List ℕ) → has_front piece s ≡ true → s ≡ piece ++ drop (length piece) s
front_is piece s h =
    let front : take (length piece) s ≡ piece = (bytes_eq-Decides (take (length piece) s) piece).0 h in
    sym (take-append-drop (length piece) s) ∙ ap (λ t. t ++ drop (length piece) s) front

front_there : (piece back : List ℕ) → has_front piece (piece ++ back) ≡ true
front_there piece back = (bytes_eq-Decides (take (length piece) (piece ++ back)) piece).1 (take-append_seam piece back)

front_lacks : (piece s : List ℕ) → has_front piece s ≡ false → LacksTextAt piece s 0
front_lacks piece s h rest e =
    let there : has_front piece s ≡ true = subst (λ t. has_front piece t ≡ true) (sym e) (front_there piece rest) in
    both_ways (has_front piece s) h there

lacks_front : (piece s : List ℕ) → LacksTextAt piece s 0 → has_front piece s ≡ false
lacks_front piece s lacks = false_from_ne_true (has_front piece s) (λ h. lacks (drop (length piece) s) (front_is piece s h))

-- ---- it stands nowhere

-- one that doesn't stand at the front of a text stands in the rest as often
step_none : (piece : List ℕ) (c : ℕ) (s : List ℕ) → has_front piece (c ∷ s) ≡ false → occurrences piece (c ∷ s) ≡ occurrences piece s
step_none piece c s h = let e : occurrences piece (c ∷ s) ≡ cond false 1 0 + occurrences piece s = ap (λ b. cond b 1 0 + occurrences piece s) h in omega (arith, e)

step_one : (piece : List ℕ) (c : ℕ) (s : List ℕ) → has_front piece (c ∷ s) ≡ true → occurrences piece (c ∷ s) ≡ 1 + occurrences piece s
step_one piece c s h = ap (λ b. cond b 1 0 + occurrences piece s) h

front_none : (piece : List ℕ) (c : ℕ) (s : List ℕ) → occurrences piece (c ∷ s) ≡ 0 → has_front piece (c ∷ s) ≡ false
front_none piece c s e = false_from_ne_true (has_front piece (c ∷ s)) (λ h. let one = step_one piece c s h in omega arith)

lacks_in : (p : ℕ) (ps s : List ℕ) → occurrences (p ∷ ps) s ≡ 0 → (i : ℕ) → LacksTextAt (p ∷ ps) s i
lacks_in p ps [] e zero rest is = cc
lacks_in p ps [] e (suc i) rest is = cc
lacks_in p ps (c ∷ s) e zero rest is = front_lacks (p ∷ ps) (c ∷ s) (front_none (p ∷ ps) c s e) rest is
lacks_in p ps (c ∷ s) e (suc i) rest is =
    lacks_in p ps s (let same = step_none (p ∷ ps) c s (front_none (p ∷ ps) c s e) in omega arith) i rest is

none_in : (piece s : List ℕ) → ((i : ℕ) → i ≤ length s → LacksTextAt piece s i) → occurrences piece s ≡ 0
none_in piece [] lacks = refl
none_in piece (c ∷ s) lacks =
    step_none piece c s (lacks_front piece (c ∷ s) (lacks 0 (omega arith))) ∙ none_in piece s (λ i le. lacks (suc i) (omega arith))

-- ---- it stands there once

record OnceIn (piece s front back : List ℕ) : Type 0 where
  is : s ≡ front ++ (piece ++ back)
  first : (i : ℕ) → i < length front → LacksTextAt piece s i
  only : (i : ℕ) → i ≤ length back → LacksTextAt piece back i

lacks_behind : (p : ℕ) (ps s : List ℕ) (c : ℕ) → occurrences (p ∷ ps) s ≡ 0 → (i : ℕ) → LacksTextAt (p ∷ ps) (drop (length (p ∷ ps)) (c ∷ s)) i
lacks_behind p ps s c e i = λ rest is. lacks_in p ps s e (length ps + i) rest (sym (drop-drop i (length ps) s) ∙ is)

abbrev Once : List ℕ → List ℕ → Type 0
Once piece s = (front : List ℕ) × (back : List ℕ) × OnceIn piece s front back

once_here : (p : ℕ) (ps : List ℕ) (c : ℕ) (s : List ℕ) → has_front (p ∷ ps) (c ∷ s) ≡ true → occurrences (p ∷ ps) (c ∷ s) ≡ 1 → Once (p ∷ ps) (c ∷ s)
once_here p ps c s h e =
    let one = step_one (p ∷ ps) c s h in
    let none : occurrences (p ∷ ps) s ≡ 0 = omega arith in (
      [],
      drop (length (p ∷ ps)) (c ∷ s),
      record {
        is = front_is (p ∷ ps) (c ∷ s) h;
        first = λ i lt. absurd (omega arith);
        only = λ i le. lacks_behind p ps s c none i;
      },
    )

first_behind : (piece : List ℕ) (c : ℕ) (s front : List ℕ) → has_front piece (c ∷ s) ≡ false → ((i : ℕ) → i < length front → LacksTextAt piece s i)
    → (i : ℕ) → i < length (c ∷ front) → LacksTextAt piece (c ∷ s) i
first_behind piece c s front h first zero lt = front_lacks piece (c ∷ s) h
first_behind piece c s front h first (suc i) lt = first i (omega arith)

once_later : (piece : List ℕ) (c : ℕ) (s : List ℕ) → has_front piece (c ∷ s) ≡ false → Once piece s → Once piece (c ∷ s)
once_later piece c s h rest =
    let once : OnceIn piece s rest.0 rest.1 = rest.2 in (
      c ∷ rest.0,
      rest.1,
      record {
        is = ap (λ (t : List ℕ). c ∷ t) once.is;
        first = first_behind piece c s rest.0 h once.first;
        only = once.only;
      },
    )

once_in : (p : ℕ) (ps s : List ℕ) → occurrences (p ∷ ps) s ≡ 1 → Once (p ∷ ps) s
once_in p ps [] e = absurd (omega arith)
once_in p ps (c ∷ s) e = elim (cases_Bool (has_front (p ∷ ps) (c ∷ s))) [
  | inl h ↦ once_here p ps c s h e
  | inr h ↦ once_later (p ∷ ps) c s h (once_in p ps s (let same = step_none (p ∷ ps) c s h in omega arith))
]

pub marked_once : (follow : List ℕ) → occurrences marker follow ≡ 1 → HasMarker follow
marked_once follow e =
    let found = once_in 123 (drop 1 marker) follow e in
    let once : OnceIn marker follow found.0 found.1 = found.2 in
    (found.0, found.1, record { is = once.is; first = once.first; only = once.only })

-- ---- one marker is counted once

-- none begins within the marker, since it has no byte twice at its front but one
within_marker : (back : List ℕ) → occurrences marker (drop 1 marker ++ back) ≡ occurrences marker back
within_marker back = omega arith

count_here : (back : List ℕ) → occurrences marker back ≡ 0 → occurrences marker (marker ++ back) ≡ 1
count_here back e =
    let one : occurrences marker (marker ++ back) ≡ 1 + occurrences marker (drop 1 marker ++ back) = step_one marker 123 (drop 1 marker ++ back) (front_there marker back) in
    let same = within_marker back in
    omega arith

count_behind : (front back : List ℕ) → ((i : ℕ) → i < length front → LacksTextAt marker (front ++ (marker ++ back)) i) → occurrences marker back ≡ 0
    → occurrences marker (front ++ (marker ++ back)) ≡ 1
count_behind [] back first e = count_here back e
count_behind (c ∷ front) back first e =
    step_none marker c (front ++ (marker ++ back)) (lacks_front marker (c ∷ front ++ (marker ++ back)) (first 0 (omega arith)))
    ∙ count_behind front back (λ i lt. first (suc i) (omega arith)) e

pub counted_once : (follow : List ℕ) → HasMarker follow → occurrences marker follow ≡ 1
counted_once follow has =
    let once : MarksOnce follow has.0 has.1 = has.2 in
    ap (occurrences marker) once.is
    ∙ count_behind has.0 has.1 (λ i lt. subst (λ (s : List ℕ). LacksTextAt marker s i) once.is (once.first i lt)) (none_in marker has.1 once.only)
