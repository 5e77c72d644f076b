-- The least of several numbers and times.
use Rattle.std.proofs.Common.{◌≡◌, ℕ, min, List, [], ◌∷◌, ◌++◌, filter_map, Option, Some, None, refl, sym, ◌∙◌, ap, arith}
use Rattle.std.specs.Option.{option_map_or}
use Rattle.std.specs.List.{cons_option}
use Rattle.ccr_model.specs.Requests.{Progress}
use Rattle.ccr_model.specs.Settling.{time_of, least_of}
use Rattle.ccr_model.specs.Tasks.{Read, least_from}
use Rattle.ccr_task.specs.Ordering.{earlier}

-- ---- the least number that is read

pub least-turn : (least : ℕ) (r : Read) (reads : List Read) → min (min least r.from) (least_from (min least r.from) reads) ≡ min least (least_from least (r ∷ reads))
least-turn least r [] = omega arith
least-turn least r (x ∷ reads) = omega arith

pub least-first : (next : ℕ) (r : Read) (reads : List Read) → min r.from (least_from r.from (r ∷ reads)) ≡ least_from next (r ∷ reads)
least-first next r reads = omega arith

-- ---- the earliest time

earlier_min : (a b c : ℕ) → min (min a b) c ≡ min a (min b c)
earlier_min a b c = omega arith

pub earlier-assoc : (a b c : Option ℕ) → earlier (earlier a b) c ≡ earlier a (earlier b c)
earlier-assoc None b c = refl
earlier-assoc (Some x) None c = refl
earlier-assoc (Some x) (Some y) None = refl
earlier-assoc (Some x) (Some y) (Some z) = ap (λ (n : ℕ). Some n) (earlier_min x y z)

pub earlier-none : (a : Option ℕ) → earlier a None ≡ a
earlier-none None = refl
earlier-none (Some x) = refl

min_swap : (a b : ℕ) → min a b ≡ min b a
min_swap a b = omega arith

pub earlier-swap : (a b : Option ℕ) → earlier a b ≡ earlier b a
earlier-swap None None = refl
earlier-swap None (Some y) = refl
earlier-swap (Some x) None = refl
earlier-swap (Some x) (Some y) = ap (λ (n : ℕ). Some n) (min_swap x y)

least-more : (n : ℕ) (ns : List ℕ) → least_of (n ∷ ns) ≡ earlier (Some n) (least_of ns)
least-more n ns = by (least_of ns)
  where
    by : (o : Option ℕ) → Some (option_map_or (λ m. min n m) o n) ≡ earlier (Some n) o
    by None = refl
    by (Some m) = refl

abbrev pub least_time : List Progress → Option ℕ
least_time ps = least_of (filter_map time_of ps)

pub least-time_more : (p : Progress) (ps : List Progress) → least_time (p ∷ ps) ≡ earlier (time_of p) (least_time ps)
least-time_more p ps =
    (elim (time_of p) as (λ o. least_of (cons_option o (filter_map time_of ps)) ≡ earlier o (least_time ps)) [
      | None ↦ refl
      | Some n ↦ least-more n (filter_map time_of ps)
    ])

pub least-time_both : (ps qs : List Progress) → least_time (ps ++ qs) ≡ earlier (least_time ps) (least_time qs)
least-time_both [] qs = refl
least-time_both (p ∷ ps) qs =
    least-time_more p (ps ++ qs) ∙ (ap (earlier (time_of p)) (least-time_both ps qs)
    ∙ (sym (earlier-assoc (time_of p) (least_time ps) (least_time qs)) ∙ ap (λ o. earlier o (least_time qs)) (sym (least-time_more p ps))))

-- one more time
pub time-turn : (p : Progress) (ps : List Progress) (least : Option ℕ) → earlier (least_time ps) (earlier least (time_of p)) ≡ earlier (least_time (p ∷ ps)) least
time-turn p ps least =
    ap (earlier (least_time ps)) (earlier-swap least (time_of p))
    ∙ (sym (earlier-assoc (least_time ps) (time_of p) least)
    ∙ (ap (λ o. earlier o least) (earlier-swap (least_time ps) (time_of p)) ∙ ap (λ o. earlier o least) (sym (least-time_more p ps))))
