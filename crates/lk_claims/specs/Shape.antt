-- What `shape` and the functions that make a claim say.
use Rattle.std.specs.Prelude.{◌≡◌, ℕ, ◌<◌, max, List, [], ◌∷◌}
use Rattle.slang_values.specs.Tree.{literal, truth_literal, name, bound, unary, binary, update, quantified, listed, sequence_of, record_of}
use Rattle.program_trees.specs.Claims.{variable, old_variable, let_symbol}
use Rattle.lk_claims.specs.declared.claim.Claim.{Claim, size-Claim}
use Rattle.lk_claims.specs.declared.shape.Shape.{Shape}
use Rattle.lk_claims.specs.Claim.{value_type, claim_tree, claim_trees}

-- the depth of the deepest of the claims
abbrev pub deepest : List Claim → ℕ
deepest [] = 0
deepest (t ∷ ts) = max (size-Claim t) (deepest ts)

-- the shape is that of the claim, whose parts are less deep
abbrev pub IsShapeOf : Claim → Shape → Type 0
IsShapeOf t (Shape.Literal z) = claim_tree t ≡ literal z
IsShapeOf t (Shape.Truth b) = claim_tree t ≡ truth_literal b
IsShapeOf t (Shape.Variable n) = claim_tree t ≡ name (variable n)
IsShapeOf t (Shape.Bound n) = claim_tree t ≡ bound n
IsShapeOf t (Shape.OldVariable n) = claim_tree t ≡ name (old_variable n)
IsShapeOf t (Shape.LetSymbol label) = claim_tree t ≡ name (let_symbol label)
IsShapeOf t (Shape.Unary op a) = (claim_tree t ≡ unary op (claim_tree a.now)) × (size-Claim a.now < size-Claim t)
IsShapeOf t (Shape.Binary op a b) =
    (claim_tree t ≡ binary op (claim_tree a.now) (claim_tree b.now)) × (size-Claim a.now < size-Claim t) × (size-Claim b.now < size-Claim t)
IsShapeOf t (Shape.Update a i x) =
    (claim_tree t ≡ update (claim_tree a.now) (claim_tree i.now) (claim_tree x.now)) × (size-Claim a.now < size-Claim t)
    × (size-Claim i.now < size-Claim t) × (size-Claim x.now < size-Claim t)
IsShapeOf t (Shape.Quantified q low high body) =
    (claim_tree t ≡ quantified q (claim_tree low.now) (claim_tree high.now) (claim_tree body.now)) × (size-Claim low.now < size-Claim t)
    × (size-Claim high.now < size-Claim t) × (size-Claim body.now < size-Claim t)
IsShapeOf t (Shape.Sequence s ts) = (claim_tree t ≡ listed (sequence_of (value_type s.now)) (claim_trees ts.now)) × (deepest ts.now < size-Claim t)
IsShapeOf t (Shape.Record n ts) = (claim_tree t ≡ listed (record_of n) (claim_trees ts.now)) × (deepest ts.now < size-Claim t)
