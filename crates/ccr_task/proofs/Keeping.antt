-- What is kept beside the reads, over each change of them.
use Rattle.std.proofs.Common.{◌≡◌, ℕ, ◌<◌, ◌-◌, ◌&&◌, Bool, true, List, [], ◌∷◌, ◌++◌, length, get_or, set, slice_get, Option, Some, None, refl, sym, ◌∙◌, ap, subst}
use Rattle.std.specs.List.{remove}
use Rattle.std.specs.Option.{is_none}
use Rattle.std.proofs.lemmas.Bool.{and_parts}
use Rattle.ccr_model.specs.Requests.{on_its_way}
use Rattle.ccr_model.specs.Settling.{time_of}
use Rattle.ccr_model.specs.Tasks.{Read}
use Rattle.ccr_task.specs.Indexed.{AreAscending, begins_by, fits_at, soonest_of}
use Rattle.ccr_task.specs.Ordering.{earlier}
use Rattle.ccr_task.proofs.Froms.{ascending-push, ascending-remove, ascending-set}
use Rattle.ccr_task.proofs.Soonest.{soonest-push, soonest-remove, soonest-set}
use Rattle.ccr_task.proofs.Times.{earlier-none}

pub still-ascending : (reads xs now : List Read) (i from : ℕ) (y : Read) (known b : Bool) → xs ≡ reads → now ≡ set reads i y → from ≡ y.from → b ≡ (known && fits_at xs i from) → (known ≡ true → AreAscending reads) → b ≡ true → AreAscending now
still-ascending reads xs now i from y known b same is_set number is up holds =
    let parts = and_parts known (fits_at xs i from) (sym is ∙ holds) in
    let fits : fits_at reads i y.from ≡ true = ap (λ (n : ℕ). fits_at reads i n) (sym number) ∙ (ap (λ (rs : List Read). fits_at rs i from) (sym same) ∙ parts.1) in
    subst AreAscending (sym is_set) (ascending-set reads i y (up parts.0) fits)

pub goes-on-ascending : (reads xs now : List Read) (from : ℕ) (y : Read) (known b : Bool) → xs ≡ reads → now ≡ reads ++ y ∷ [] → from ≡ y.from → b ≡ (known && begins_by from (slice_get xs (length xs - 1)))
    → (known ≡ true → AreAscending reads) → b ≡ true → AreAscending now
goes-on-ascending reads xs now from y known b same pushed number is up holds =
    let parts = and_parts known (begins_by from (slice_get xs (length xs - 1))) (sym is ∙ holds) in
    let by : begins_by y.from (slice_get reads (length reads - 1)) ≡ true =
    ap (λ (n : ℕ). begins_by n (slice_get reads (length reads - 1))) (sym number) ∙ (ap (λ (rs : List Read). begins_by from (slice_get rs (length rs - 1))) (sym same) ∙ parts.1) in
    subst AreAscending (sym pushed) (ascending-push reads y (up parts.0) by)

pub shorter-ascending : (reads now : List Read) (i : ℕ) (known : Bool) → now ≡ remove reads i → (known ≡ true → AreAscending reads) → known ≡ true → AreAscending now
shorter-ascending reads now i known removed up holds = subst AreAscending (sym removed) (ascending-remove reads i (up holds))

none_is : (o : Option ℕ) → is_none o ≡ true → o ≡ None
none_is None is = refl
none_is (Some n) is = absurd (cc)

pub still-timed : (reads now : List Read) (i : ℕ) (x y : Read) (known b : Bool) (soonest after was : Option ℕ) → now ≡ set reads i y → i < length reads → x ≡ get_or reads i x → was ≡ time_of x.progress → b ≡ (known && is_none was)
    → after ≡ earlier soonest (time_of y.progress) → (known ≡ true → soonest ≡ soonest_of reads) → b ≡ true → after ≡ soonest_of now
still-timed reads now i x y known b soonest after was is_set within at waited is later told holds =
    let parts = and_parts known (is_none was) (sym is ∙ holds) in
    let none : time_of x.progress ≡ None = sym waited ∙ none_is was parts.1 in
    later ∙ (ap (λ o. earlier o (time_of y.progress)) (told parts.0) ∙ (sym (soonest-set reads i x y within at none) ∙ ap soonest_of (sym is_set)))

pub unchanged-timed : (soonest : Option ℕ) (y : Read) → y.progress ≡ on_its_way → soonest ≡ earlier soonest (time_of y.progress)
unchanged-timed soonest y is = sym (ap (λ p. earlier soonest (time_of p)) is ∙ earlier-none soonest)

pub shorter-timed : (reads now : List Read) (i : ℕ) (x : Read) (known b : Bool) (soonest was : Option ℕ) → now ≡ remove reads i → i < length reads → x ≡ get_or reads i x → was ≡ time_of x.progress → b ≡ (known && is_none was)
    → (known ≡ true → soonest ≡ soonest_of reads) → b ≡ true → soonest ≡ soonest_of now
shorter-timed reads now i x known b soonest was removed within at waited is told holds =
    let parts = and_parts known (is_none was) (sym is ∙ holds) in
    let none : time_of x.progress ≡ None = sym waited ∙ none_is was parts.1 in
    told parts.0 ∙ (sym (soonest-remove reads i x within at none) ∙ ap soonest_of (sym removed))

pub goes-on-timed : (reads now : List Read) (y : Read) (known : Bool) (soonest : Option ℕ) → now ≡ reads ++ y ∷ [] → y.progress ≡ on_its_way → (known ≡ true → soonest ≡ soonest_of reads) → known ≡ true → soonest ≡ soonest_of now
goes-on-timed reads now y known soonest pushed is told holds = told holds ∙ (sym (soonest-push reads y (ap time_of is)) ∙ ap soonest_of (sym pushed))

-- another name of the read that stands at a place
pub copied-at : (reads : List Read) (i : ℕ) (x copy : Read) → copy ≡ x → x ≡ get_or reads i x → copy ≡ get_or reads i copy
copied-at reads i x copy same at = subst (λ (r : Read). r ≡ get_or reads i r) (sym same) at
