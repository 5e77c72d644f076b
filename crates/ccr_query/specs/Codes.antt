-- Trees of queries as numbers, by which a proof tells two of them apart, and their sizes.
use Rattle.std.specs.Prelude.{◌≡◌, ℕ, ◌+◌}
use Rattle.std.proofs.Common.{ap, sym, subst}
use Rattle.std.specs.Coded.{Coded}
use base.Stored.{Gv, gnil, gnum, gcons}
use Rattle.ccr_query.specs.declared.conditions.Condition.{Condition}
use Rattle.ccr_query.specs.contracts.conditions.Condition as row
use Rattle.ccr_query.specs.Queries.{Tree, condition, bool, Trees, no_trees, tree}

abbrev first : Gv → Gv
first gnil = gnil
first (gnum n) = gnil
first (gcons a b) = a

abbrev rest : Gv → Gv
rest gnil = gnil
rest (gnum n) = gnil
rest (gcons a b) = b

abbrev IsPair : Gv → Type 0
IsPair gnil = ⊥
IsPair (gnum n) = ⊥
IsPair (gcons a b) = Unit {0}

abbrev conditions : Coded Condition
conditions = (row.the_row).coded

mutual
  code_of : Tree → Gv
  code_of (condition c) = gcons gnil (conditions.code c)
  code_of (bool a b c d) = gcons (gcons gnil gnil) (gcons (codes_of a) (gcons (codes_of b) (gcons (codes_of c) (codes_of d))))

  codes_of : Trees → Gv
  codes_of no_trees = gnil
  codes_of (tree t ts) = gcons (code_of t) (codes_of ts)

mutual
  unfolding code_of codes_of

  same_tree : (s t : Tree) → code_of s ≡ code_of t → s ≡ t
  same_tree (condition c) (condition d) e = ap condition (conditions.inj c d (ap rest e))
  same_tree (condition c) (bool a b p q) e = absurd (subst (λ g. IsPair (first g)) (sym e) tt)
  same_tree (bool a b p q) (condition c) e = absurd (subst (λ g. IsPair (first g)) e tt)
  same_tree (bool a b p q) (bool c d r s) e = λ i. bool
      (same_trees a c (ap (λ g. first (rest g)) e) i)
      (same_trees b d (ap (λ g. first (rest (rest g))) e) i)
      (same_trees p r (ap (λ g. first (rest (rest (rest g)))) e) i)
      (same_trees q s (ap (λ g. rest (rest (rest (rest g)))) e) i)

  same_trees : (ss ts : Trees) → codes_of ss ≡ codes_of ts → ss ≡ ts
  same_trees no_trees no_trees e = λ i. no_trees
  same_trees no_trees (tree t ts) e = absurd (subst IsPair (sym e) tt)
  same_trees (tree s ss) no_trees e = absurd (subst IsPair e tt)
  same_trees (tree s ss) (tree t ts) e = λ i. tree (same_tree s t (ap first e) i) (same_trees ss ts (ap rest e) i)

pub tree_code : Coded Tree
tree_code = record { code = code_of; inj = same_tree }

-- one for each query inside
abbrev mutual
  pub tree_size : Tree → ℕ
  tree_size (condition c) = 0
  tree_size (bool a b c d) = trees_size a + trees_size b + trees_size c + trees_size d

  pub trees_size : Trees → ℕ
  trees_size no_trees = 0
  trees_size (tree t ts) = tree_size t + 1 + trees_size ts
