-- A list whose items are read from the front.
use Rattle.std.proofs.Common.{◌≡◌, ℕ, ◌+◌, ◌<◌, ◌≤◌, List, [], ◌∷◌, ◌++◌, length, get_or, drop, refl, sym, ap, ◌∙◌, append_assoc}
use Rattle.std.specs.Prelude.{Option, Some, None, option_map, option_and_then}
use Rattle.std.proofs.lemmas.List.{drop_more, drop_all, append-nil}
use Rattle.serde_json.specs.Data.{Data}
use Rattle.serde_json.specs.View.{view, items_view}
use Rattle.serde_json.specs.declared.value.Value.{Value}
use Rattle.ccr_query.specs.Keys.{each_of}

-- what was read, before what the rest is
abbrev pub read_before : {A : Type 0} → (Data → Option A) → List A → List Value → Option (List A)
read_before f done rest = option_map (λ more. done ++ more) (each_of f (items_view rest))

first_of_rest : {A : Type 0} (f : Data → Option A) (xs : List Value) (i : ℕ) (x : Value) → i < length xs → x ≡ get_or xs i x
    → each_of f (items_view (drop i xs)) ≡ option_and_then (λ a. option_map (λ rest. a ∷ rest) (each_of f (items_view (drop (i + 1) xs)))) (f (view x))
first_of_rest f xs i x h is = ap (λ ys. each_of f (items_view ys)) (drop_more xs i x h ∙ ap (λ y. y ∷ drop (i + 1) xs) (sym is))

moved : {A : Type 0} (done : List A) (a : A) (o : Option (List A))
    → option_map (λ more. done ++ more) (option_map (λ rest. a ∷ rest) o) ≡ option_map (λ more. (done ++ a ∷ []) ++ more) o
moved done a None = refl
moved done a (Some more) = ap Some (sym (append_assoc done (a ∷ []) more))

-- one item more was read
pub one_more : {A : Type 0} (f : Data → Option A) (all : Option (List A)) (done : List A) (a : A) (xs : List Value) (i : ℕ) (x : Value)
    → all ≡ read_before f done (drop i xs) → i < length xs → x ≡ get_or xs i x → f (view x) ≡ Some a → all ≡ read_before f (done ++ a ∷ []) (drop (i + 1) xs)
one_more f all done a xs i x e h is some =
    e ∙ ap (option_map (λ more. done ++ more)) (first_of_rest f xs i x h is)
    ∙ ap (λ o. option_map (λ more. done ++ more) (option_and_then (λ b. option_map (λ rest. b ∷ rest) (each_of f (items_view (drop (i + 1) xs)))) o)) some
    ∙ moved done a (each_of f (items_view (drop (i + 1) xs)))

-- an item is nothing
pub one_bad : {A : Type 0} (f : Data → Option A) (all : Option (List A)) (done : List A) (xs : List Value) (i : ℕ) (x : Value)
    → all ≡ read_before f done (drop i xs) → i < length xs → x ≡ get_or xs i x → f (view x) ≡ None → all ≡ None
one_bad f all done xs i x e h is none =
    e ∙ ap (option_map (λ more. done ++ more)) (first_of_rest f xs i x h is)
    ∙ ap (λ o. option_map (λ more. done ++ more) (option_and_then (λ b. option_map (λ rest. b ∷ rest) (each_of f (items_view (drop (i + 1) xs)))) o)) none

-- all were read
pub no_more : {A : Type 0} (f : Data → Option A) (all : Option (List A)) (done : List A) (xs : List Value) (i : ℕ)
    → all ≡ read_before f done (drop i xs) → length xs ≤ i → all ≡ Some done
no_more f all done xs i e h = e ∙ ap (read_before f done) (drop_all i xs h) ∙ ap Some (append-nil done)

-- none was read
pub none_read : {A : Type 0} (f : Data → Option A) (xs : List Value) → each_of f (items_view xs) ≡ read_before f [] (drop 0 xs)
none_read f xs = same (each_of f (items_view xs))
  where
    same : {A : Type 0} (o : Option (List A)) → o ≡ option_map (λ more. [] ++ more) o
    same None = refl
    same (Some more) = refl

pub ruleset each_rules = (one_more, one_bad, no_more, none_read)
