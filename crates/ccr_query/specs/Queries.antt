-- A query as a tree, and when it holds on a document.
use Rattle.std.specs.Prelude.{List, [], ◌∷◌, Bool, true, false, not, ◌&&◌, ◌||◌}
use Rattle.ccr_doc.specs.declared.documents.Field.{Field}
use Rattle.ccr_query.specs.declared.conditions.Condition.{Condition}
use Rattle.ccr_query.specs.Conditions.{meets}

mutual
  -- `bool` has the lists `must`, `filter`, `should` and `must_not`
  pub data Tree : Type 0 where
    condition : Condition → Tree
    bool : Trees → Trees → Trees → Trees → Tree

  pub data Trees : Type 0 where
    no_trees : Trees
    tree : Tree → Trees → Trees

abbrev pub trees_of : List Tree → Trees
trees_of [] = no_trees
trees_of (t ∷ ts) = tree t (trees_of ts)

abbrev pub is_empty : Trees → Bool
is_empty no_trees = true
is_empty (tree t ts) = false

-- All of `must` and `filter` hold and none of `must_not`; and one of `should`, where that list is not empty and the first
-- two are.
abbrev mutual
  pub holds : Tree → List Field → Bool
  holds (condition c) document = meets c document
  holds (bool must filter should must_not) document =
      ((all_hold must document && all_hold filter document) && not (any_holds must_not document))
      && (((not (is_empty must) || not (is_empty filter)) || is_empty should) || any_holds should document)

  pub all_hold : Trees → List Field → Bool
  all_hold no_trees document = true
  all_hold (tree t ts) document = holds t document && all_hold ts document

  pub any_holds : Trees → List Field → Bool
  any_holds no_trees document = false
  any_holds (tree t ts) document = holds t document || any_holds ts document
