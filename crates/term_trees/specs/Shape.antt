-- What `shape` and the functions that make a term say.
use Rattle.std.specs.Prelude.{◌≡◌, ℕ, ◌<◌, max, List, [], ◌∷◌}
use Rattle.slang_values.specs.Tree.{literal, truth_literal, name, bound, unary, binary, update, quantified, listed, sequence_of, record_of}
use Rattle.term_trees.specs.declared.term.Term.{Term, size-Term}
use Rattle.term_trees.specs.declared.shape.Shape.{Shape}
use Rattle.term_trees.specs.Term.{sort_type, tree, trees}

-- the depth of the deepest of the terms
abbrev pub deepest : List Term → ℕ
deepest [] = 0
deepest (t ∷ ts) = max (size-Term t) (deepest ts)

-- the shape is that of the term, whose parts are less deep
abbrev pub IsShapeOf : Term → Shape → Type 0
IsShapeOf t (Shape.Literal z) = tree t ≡ literal z
IsShapeOf t (Shape.Truth b) = tree t ≡ truth_literal b
IsShapeOf t (Shape.Symbol n) = tree t ≡ name n
IsShapeOf t (Shape.Bound n) = tree t ≡ bound n
IsShapeOf t (Shape.Unary op a) = (tree t ≡ unary op (tree a.now)) × (size-Term a.now < size-Term t)
IsShapeOf t (Shape.Binary op a b) =
    (tree t ≡ binary op (tree a.now) (tree b.now)) × (size-Term a.now < size-Term t) × (size-Term b.now < size-Term t)
IsShapeOf t (Shape.Update a i x) =
    (tree t ≡ update (tree a.now) (tree i.now) (tree x.now)) × (size-Term a.now < size-Term t) × (size-Term i.now < size-Term t) × (size-Term x.now < size-Term t)
IsShapeOf t (Shape.Quantified q low high body) =
    (tree t ≡ quantified q (tree low.now) (tree high.now) (tree body.now)) × (size-Term low.now < size-Term t) × (size-Term high.now < size-Term t) × (size-Term body.now < size-Term t)
IsShapeOf t (Shape.Sequence s ts) = (tree t ≡ listed (sequence_of (sort_type s.now)) (trees ts.now)) × (deepest ts.now < size-Term t)
IsShapeOf t (Shape.Record n ts) = (tree t ≡ listed (record_of n) (trees ts.now)) × (deepest ts.now < size-Term t)
