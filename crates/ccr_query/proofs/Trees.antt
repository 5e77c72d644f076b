-- The queries of a list, one by one.
use Rattle.std.proofs.Common.{◌≡◌, ℕ, ◌+◌, zero, suc, ◌<◌, ◌≤◌, List, [], ◌∷◌, eqb, length, get_or, drop, refl, sym, ap, ◌∙◌, arith}
use Rattle.std.proofs.lemmas.List.{drop_more}
use Rattle.std.proofs.Math.Dec.{eqb-suc-zero}
use Rattle.ccr_query.specs.Codes.{tree_size, trees_size}
use Rattle.ccr_query.specs.Queries.{Tree, tree, trees_of, is_empty}

-- the queries from a place on are the one there and those after it
pub trees_of_drop : (ts : List Tree) (i : ℕ) (t : Tree) → i < length ts → t ≡ get_or ts i t → trees_of (drop i ts) ≡ tree t (trees_of (drop (i + 1) ts))
trees_of_drop ts i t h is = ap trees_of (drop_more ts i t h ∙ ap (λ y. y ∷ drop (i + 1) ts) (sym is))

pub is_empty_trees : (ts : List Tree) → is_empty (trees_of ts) ≡ eqb (length ts) 0
is_empty_trees [] = refl
is_empty_trees (t ∷ ts) = sym (eqb-suc-zero (length ts))

-- each query of a list is smaller than the list
pub trees_size_at : (ts : List Tree) (i : ℕ) (t : Tree) → i < length ts → t ≡ get_or ts i t → tree_size t + 1 ≤ trees_size (trees_of ts)
trees_size_at [] i t h is = absurd (omega arith)
trees_size_at (s ∷ ts) zero t h is = omega (arith, ap tree_size is)
trees_size_at (s ∷ ts) (suc i) t h is = omega (arith, trees_size_at ts i t (omega arith) is)
