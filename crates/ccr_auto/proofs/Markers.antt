-- Where the marker stands in a follow name.
use Rattle.std.proofs.Common.{◌≡◌, ℕ, suc, ◌<◌, ◌≤◌, true, false, List, [], ◌∷◌, ◌++◌, length, take, drop, None, inl, inr, sym, subst, ◌∙◌, ap, arith}
use Rattle.std.specs.Str.Pattern.{FindsText, HasTextAt, LacksTextAt, HasMatch, SplitsAroundMatch}
use Rattle.std.proofs.lemmas.Bool.{cases_order, cond-true, cond-false, false_from_ne_true}
use Rattle.std.proofs.lemmas.List.{length-take}
use Rattle.std.proofs.lemmas.List.Prefix.{front_fits}
use Rattle.std.proofs.Math.ListN.{take-append-drop}
use Rattle.std.proofs.Math.Seq.{drop-append_seam, take-append_seam}
use Rattle.std.proofs.lemmas.Slice.Eq.{bytes_eq-Decides}
use Rattle.ccr_auto.specs.Patterns.{has_front}
use Rattle.ccr_auto.specs.Follow.{marker, MarksOnce, HasMarker, with_first_replaced, name_for}

-- the marker stands after the first part
at_mark : (s front back : List ℕ) → s ≡ front ++ (marker ++ back) → drop (length front) s ≡ marker ++ back
at_mark s front back e = ap (drop (length front)) e ∙ drop-append_seam front (marker ++ back)

-- with no marker anywhere there is no place for it
pub none_marked : (s : List ℕ) → FindsText marker s None → HasMarker s → ⊥
none_marked s none h =
    let once : MarksOnce s h.0 h.1 = h.2 in
    none (length h.0) (front_fits s h.0 (marker ++ h.1) once.is) h.1 (at_mark s h.0 h.1 once.is)

-- the leftmost marker parts the text
parts_are : (s front back : List ℕ) → SplitsAroundMatch (FindsText marker) s front back → s ≡ front ++ (marker ++ back)
parts_are s front back h =
    let i : ℕ = h.0 in
    let j : ℕ = h.1 in
    let text : HasTextAt marker s i j = h.2.1 in
    let e : s ≡ take i s ++ (marker ++ drop j s) = sym (take-append-drop i s) ∙ ap (λ t. take i s ++ t) text.split in
    let a : front ≡ take i s = h.3 in
    let b : back ≡ drop j s = h.4 in
    e ∙ ap (λ t. t ++ (marker ++ drop j s)) (sym a) ∙ ap (λ t. front ++ (marker ++ t)) (sym b)

none_earlier : (s front back : List ℕ) → SplitsAroundMatch (FindsText marker) s front back → (k : ℕ) → k < length front → LacksTextAt marker s k
none_earlier s front back h k lt =
    let i : ℕ = h.0 in
    let a : front ≡ take i s = h.3 in
    h.2.0 k (omega (arith, ap length a, length-take i s))

-- the parts round the leftmost marker, where the second has none
pub once_marked : (s front back : List ℕ) → SplitsAroundMatch (FindsText marker) s front back → FindsText marker back None → MarksOnce s front back
once_marked s front back h none = record { is = parts_are s front back h; first = none_earlier s front back h; only = none }

-- a second marker in the second part leaves no place for the first
pub twice_marked : (s front back : List ℕ) → SplitsAroundMatch (FindsText marker) s front back → HasMatch (FindsText marker) back → HasMarker s → ⊥
twice_marked s front back h more has =
    let f : List ℕ = has.0 in
    let b : List ℕ = has.1 in
    let once : MarksOnce s f b = has.2 in
    let mine : drop (length front) s ≡ marker ++ back = at_mark s front back (parts_are s front back h) in
    let other : drop (length f) s ≡ marker ++ b = at_mark s f b once.is in
    elim (cases_order (length front) (length f)) [
      | inl same ↦
          let both : marker ++ back ≡ marker ++ b = sym mine ∙ (ap (λ n. drop n s) same ∙ other) in
          let e : back ≡ b = sym (drop-append_seam marker back) ∙ (ap (drop (length marker)) both ∙ drop-append_seam marker b) in
          let i : ℕ = more.0 in
          let j : ℕ = more.1 in
          let text : HasTextAt marker back i j = more.2.1 in
          let low : i ≤ length b = let l : i ≤ j = more.3 in let m : j ≤ length back = more.4 in omega (arith, ap length e) in
          once.only i low (drop j back) (ap (drop i) (sym e) ∙ text.split)
      | inr apart ↦ elim apart [
        | inl below ↦ once.first (length front) below back mine
        | inr above ↦ none_earlier s front back h (length f) above b other
      ]
    ]

-- a text begins with a piece that stands at its front, and with none that is lacking there
has_front-piece : (piece back : List ℕ) → has_front piece (piece ++ back) ≡ true
has_front-piece piece back = (bytes_eq-Decides (take (length piece) (piece ++ back)) piece).1 (take-append_seam piece back)

has_front-lacks : (piece s : List ℕ) → LacksTextAt piece s 0 → has_front piece s ≡ false
has_front-lacks piece s lacks =
    false_from_ne_true (has_front piece s) (λ h.
    let front : take (length piece) s ≡ piece = (bytes_eq-Decides (take (length piece) s) piece).0 h in
    lacks (drop (length piece) s) (sym (take-append-drop (length piece) s) ∙ ap (λ t. t ++ drop (length piece) s) front))

-- a piece that stands nowhere earlier is the one that is replaced
with_first_replaced-at : (p : ℕ) (ps other front back : List ℕ) → ((k : ℕ) → k < length front → LacksTextAt (p ∷ ps) (front ++ ((p ∷ ps) ++ back)) k)
    → with_first_replaced (p ∷ ps) other (front ++ ((p ∷ ps) ++ back)) ≡ front ++ (other ++ back)
with_first_replaced-at p ps other [] back first =
    let piece : List ℕ = p ∷ ps in
    cond-true (has_front piece (piece ++ back)) (other ++ drop (length piece) (piece ++ back)) (p ∷ with_first_replaced piece other (ps ++ back)) (has_front-piece piece back)
    ∙ ap (λ t. other ++ t) (drop-append_seam piece back)
with_first_replaced-at p ps other (c ∷ front) back first =
    let piece : List ℕ = p ∷ ps in
    let rest : List ℕ = front ++ (piece ++ back) in
    cond-false (has_front piece (c ∷ rest)) (other ++ drop (length piece) (c ∷ rest)) (c ∷ with_first_replaced piece other rest)
    (has_front-lacks piece (c ∷ rest) (first 0 (omega arith)))
    ∙ ap (λ t. c ∷ t) (with_first_replaced-at p ps other front back (λ k lt. first (suc k) (omega arith)))

pub name_for-marked : (index follow front back name : List ℕ) → MarksOnce follow front back → name ≡ front ++ (index ++ back) → name ≡ name_for index follow
name_for-marked index follow front back name once e =
    e ∙ (sym (with_first_replaced-at 123 (drop 1 marker) index front back (λ k lt. subst (λ s. LacksTextAt marker s k) once.is (once.first k lt)))
    ∙ ap (name_for index) (sym once.is))

-- parts that are copied are parts of what they make
pub MarksOnce-copied : (follow front back front' back' : List ℕ) → MarksOnce follow front back → front' ≡ front → back' ≡ back
    → MarksOnce (front' ++ (marker ++ back')) front' back'
MarksOnce-copied follow front back front' back' once f b = rw f (rw b (subst (λ t. MarksOnce t front back) once.is once))
