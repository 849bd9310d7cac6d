-- The parts of an All and of an And, by their numbers.
use Rattle.std.specs.Prelude.{◌≡◌, ℕ, ◌<◌, ◌++◌, List, [], ◌∷◌, length, false, Option, Some, None, ◌⊎◌}
use Rattle.slang_values.specs.Tree.{Tree, quantified, binary}
use Rattle.slang_values.specs.declared.operators.Binary.{Binary}
use Rattle.slang_values.specs.declared.operators.Quantifier.{Quantifier}
use Rattle.instance_rules.specs.Instances.{conjuncts}
use Rattle.instance_rules.specs.Laws.{is_all}
use Rattle.term_nodes.specs.declared.node.Node.{Node}
use Rattle.term_nodes.specs.declared.node.NodeShape.{NodeShape}
use Rattle.term_nodes.specs.Node.{shape_tree}
use Rattle.term_store.specs.Store.{tree_at}
use Rattle.store_openings.specs.declared.opening.Range.{Range}
use Rattle.store_openings.specs.declared.conjuncts.Sides.{Sides}

-- the parts of an All that the shape is, or it is none
abbrev pub IsAllOf : NodeShape → Option Range → Type 0
IsAllOf s None = (ts : List (Tree ℕ)) → is_all (shape_tree ts s) ≡ false
IsAllOf s (Some r) = s ≡ NodeShape.Quantified Quantifier.All r.low r.high r.body

-- numbers of a store, of which the term is the All
pub record HasRange (store : List Node) (id : ℕ) (r : Range) : Type 0 where
  pub low : r.low < length store
  pub high : r.high < length store
  pub body : r.body < length store
  pub tree : tree_at store id ≡ quantified Quantifier.All (tree_at store r.low) (tree_at store r.high) (tree_at store r.body)

abbrev pub IsRangeOf : List Node → ℕ → Option Range → Type 0
IsRangeOf store id None = is_all (tree_at store id) ≡ false
IsRangeOf store id (Some r) = HasRange store id r

-- the sides of an And that the shape is, or it is none
abbrev pub IsAndOf : NodeShape → Option Sides → Type 0
IsAndOf s None = (ts : List (Tree ℕ)) → conjuncts (shape_tree ts s) ≡ shape_tree ts s ∷ []
IsAndOf s (Some p) = s ≡ NodeShape.Binary Binary.And p.left p.right

pub record HasSides (id : ℕ) (store : List Node) (p : Sides) : Type 0 where
  pub left : p.left < id
  pub right : p.right < id
  pub tree : tree_at store id ≡ binary Binary.And (tree_at store p.left) (tree_at store p.right)

abbrev pub AreSidesOf : List Node → ℕ → Option Sides → Type 0
AreSidesOf store id None = conjuncts (tree_at store id) ≡ tree_at store id ∷ []
AreSidesOf store id (Some p) = HasSides id store p
