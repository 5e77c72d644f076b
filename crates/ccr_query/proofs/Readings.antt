-- A list of queries that is read from the front.
use Rattle.std.proofs.Common.{◌≡◌, ℕ, zero, suc, ◌+◌, ◌<◌, ◌≤◌, arith, unwrap_or, Some, true, false, cond, codes, List, [], ◌∷◌, ◌++◌, length, get_or, drop, Result, Ok, Err, refl, sym, ap, ◌∙◌}
use Rattle.std.proofs.lemmas.List.{drop_more, drop_all}
use Rattle.std.specs.Str.{bytes_eq}
use Rattle.serde_json.specs.Data.{Data, null, boolean, number, string, array, object, item, no_members, member, depth, items_depth}
use Rattle.serde_json.specs.Events.{members_len}
use Rattle.serde_json.specs.View.{view, items_view, members_view}
use Rattle.serde_json.proofs.Views.{Entry, members_len-members_view}
use Rattle.serde_json.specs.declared.value.Value.{Value}
use Rattle.ccr_query.specs.declared.reading.BadQuery.{BadQuery}
use Rattle.ccr_query.specs.Queries.{Tree, condition, Trees, no_trees, tree, trees_of}
use Rattle.ccr_query.specs.Bools.{after, query_of, bool_of, queries_of}
use Rattle.ccr_query.specs.Reading.{only, condition_of}

abbrev pub trees_onto : List Tree → Trees → Trees
trees_onto [] qs = qs
trees_onto (t ∷ ts) qs = tree t (trees_onto ts qs)

trees_onto_push : (ts : List Tree) (t : Tree) (qs : Trees) → trees_onto (ts ++ t ∷ []) qs ≡ trees_onto ts (tree t qs)
trees_onto_push [] t qs = refl
trees_onto_push (s ∷ ts) t qs = ap (tree s) (trees_onto_push ts t qs)

trees_onto_none : (ts : List Tree) → trees_onto ts no_trees ≡ trees_of ts
trees_onto_none [] = refl
trees_onto_none (t ∷ ts) = ap (tree t) (trees_onto_none ts)

items_at : (xs : List Value) (i : ℕ) (x : Value) → i < length xs → x ≡ get_or xs i x → items_view (drop i xs) ≡ item (view x) (items_view (drop (i + 1) xs))
items_at xs i x h is = ap items_view (drop_more xs i x h ∙ ap (λ y. y ∷ drop (i + 1) xs) (sym is))

push_at : (r : Result Trees BadQuery) (ts : List Tree) (t : Tree)
    → after (after r (λ qs. Ok (tree t qs))) (λ qs. Ok (trees_onto ts qs)) ≡ after r (λ qs. Ok (trees_onto (ts ++ t ∷ []) qs))
push_at (Ok qs) ts t = ap Ok (sym (trees_onto_push ts t qs))
push_at (Err e) ts t = refl

-- one query more was read
pub read_one : (levels : ℕ) (all : Result Trees BadQuery) (xs : List Value) (i : ℕ) (x : Value) (ts : List Tree) (t : Tree) → i < length xs → x ≡ get_or xs i x
    → all ≡ after (queries_of levels (items_view (drop i xs))) (λ qs. Ok (trees_onto ts qs)) → query_of levels (view x) ≡ Ok t
    → all ≡ after (queries_of levels (items_view (drop (i + 1) xs))) (λ qs. Ok (trees_onto (ts ++ t ∷ []) qs))
read_one levels all xs i x ts t h is e q =
    e ∙ ap (λ items. after (queries_of levels items) (λ qs. Ok (trees_onto ts qs))) (items_at xs i x h is)
    ∙ ap (λ r. after (after r (λ s. after (queries_of levels (items_view (drop (i + 1) xs))) (λ qs. Ok (tree s qs)))) (λ qs. Ok (trees_onto ts qs))) q
    ∙ push_at (queries_of levels (items_view (drop (i + 1) xs))) ts t

-- a query was refused
pub refuse_one : (levels : ℕ) (all : Result Trees BadQuery) (xs : List Value) (i : ℕ) (x : Value) (ts : List Tree) (e : BadQuery) → i < length xs → x ≡ get_or xs i x
    → all ≡ after (queries_of levels (items_view (drop i xs))) (λ qs. Ok (trees_onto ts qs)) → query_of levels (view x) ≡ Err e → all ≡ Err e
refuse_one levels all xs i x ts b h is e q =
    e ∙ ap (λ items. after (queries_of levels items) (λ qs. Ok (trees_onto ts qs))) (items_at xs i x h is)
    ∙ ap (λ r. after (after r (λ s. after (queries_of levels (items_view (drop (i + 1) xs))) (λ qs. Ok (tree s qs)))) (λ qs. Ok (trees_onto ts qs))) q

-- all were read
pub read_all : (levels : ℕ) (all : Result Trees BadQuery) (xs : List Value) (i : ℕ) (ts : List Tree) → length xs ≤ i
    → all ≡ after (queries_of levels (items_view (drop i xs))) (λ qs. Ok (trees_onto ts qs)) → all ≡ Ok (trees_of ts)
read_all levels all xs i ts h e =
    e ∙ ap (λ rest. after (queries_of levels (items_view rest)) (λ qs. Ok (trees_onto ts qs))) (drop_all i xs h) ∙ ap Ok (trees_onto_none ts)

-- an object with one member is that member
member_of_only : (d : Data) (k : List ℕ) (m : Data) → only d ≡ Some (k, m) → d ≡ object (member k m no_members)
member_of_only null k m e = cc
member_of_only (boolean b) k m e = cc
member_of_only (number n) k m e = cc
member_of_only (string s) k m e = cc
member_of_only (array ds) k m e = cc
member_of_only (object no_members) k m e = cc
member_of_only (object (member l f no_members)) k m e =
    let name : l ≡ k = ap (λ o. (unwrap_or {T = List ℕ × Data} o (l, f)).0) e in
    let value : f ≡ m = ap (λ o. (unwrap_or {T = List ℕ × Data} o (l, f)).1) e in
    λ i. object (member (name i) (value i) no_members)
member_of_only (object (member l f (member n g ms))) k m e = cc

-- it nests less deep than the object
pub only_depth : (d : Data) (k : List ℕ) (m : Data) → only d ≡ Some (k, m) → depth m < depth d
only_depth d k m e = omega (arith, ap depth (member_of_only d k m e))

pub query_of_bool : (levels : ℕ) (d : Data) (k : List ℕ) (m : Data) → only d ≡ Some (k, m) → bytes_eq k (codes "bool") ≡ true → query_of levels d ≡ bool_of levels m
query_of_bool levels d k m e b =
    ap (query_of levels) (member_of_only d k m e) ∙ ap (λ is. cond is (bool_of levels m) (after (condition_of k m) (λ c. Ok (condition c)))) b

pub query_of_condition : (levels : ℕ) (d : Data) (k : List ℕ) (m : Data) → only d ≡ Some (k, m) → bytes_eq k (codes "bool") ≡ false
    → query_of levels d ≡ after (condition_of k m) (λ c. Ok (condition c))
query_of_condition levels d k m e b =
    ap (query_of levels) (member_of_only d k m e) ∙ ap (λ is. cond is (bool_of levels m) (after (condition_of k m) (λ c. Ok (condition c)))) b

-- each value of a list nests no deeper than the list's values
pub items_depth_at : (xs : List Value) (i : ℕ) (x : Value) → i < length xs → x ≡ get_or xs i x → depth (view x) ≤ items_depth (items_view xs)
items_depth_at [] i x h is = absurd (omega arith)
items_depth_at (y ∷ xs) zero x h is = omega (arith, ap (λ v. depth (view v)) is)
items_depth_at (y ∷ xs) (suc i) x h is = omega (arith, items_depth_at xs i x (omega arith) is)

pub members_len_view : (es : List Entry) → members_len (members_view es) ≡ length es
members_len_view es = members_len-members_view es
