-- What a type and a claim are, as plain data.
use Rattle.std.specs.Prelude.{ℕ, List, [], ◌∷◌, map, true, false}
use Rattle.slang_values.specs.Value.{ValueType, unit_type, number_type, truth_type, sequence_type, record_type}
use Rattle.slang_values.specs.Tree.{Tree, literal, truth_literal, name, bound, unary, binary, update, quantified, listed, Trees, no_trees, tree_then, sequence_of, record_of}
use Rattle.slang_values.specs.declared.operators.Unary.{Unary}
use Rattle.slang_values.specs.declared.operators.Binary.{Binary}
use Rattle.slang_values.specs.declared.operators.Quantifier.{Quantifier}
use Rattle.program_trees.specs.Claims.{ClaimName, ClaimTree, variable, old_variable, let_symbol}
use Rattle.lk_claims.specs.declared.ty.Ty.{Ty}
use Rattle.lk_claims.specs.declared.ty.Ty.TheOpen.{Ty-F}
use Rattle.lk_claims.specs.declared.ty.Ty.TheFolds.{fold-Ty}
use Rattle.lk_claims.specs.declared.claim.Claim.{Claim}
use Rattle.lk_claims.specs.declared.claim.Claim.TheOpen.{Claim-F}
use Rattle.lk_claims.specs.declared.claim.Claim.TheFolds.{fold-Claim}

-- one level of a type, with the type of its elements already as plain data
abbrev pub type_level : Ty-F ValueType → ValueType
type_level Ty-F.Unit = unit_type
type_level Ty-F.Z = number_type
type_level Ty-F.B = truth_type
type_level (Ty-F.Seq s) = sequence_type s
type_level (Ty-F.Rec n) = record_type n

unfoldable pub value_type : Ty → ValueType
value_type = fold-Ty ValueType type_level

abbrev pub trees_of : List (ClaimTree ℕ) → Trees (ClaimName ℕ)
trees_of [] = no_trees
trees_of (t ∷ ts) = tree_then t (trees_of ts)

-- one level of a claim, with its parts already as trees
abbrev pub claim_level : Claim-F (ClaimTree ℕ) → Tree (ClaimName ℕ)
claim_level (Claim-F.Lit z) = literal z
claim_level Claim-F.True = truth_literal true
claim_level Claim-F.False = truth_literal false
claim_level (Claim-F.Var n) = name (variable n)
claim_level (Claim-F.Bound n) = bound n
claim_level (Claim-F.OldVar n) = name (old_variable n)
claim_level (Claim-F.Neg a) = unary Unary.Neg a
claim_level (Claim-F.Not a) = unary Unary.Not a
claim_level (Claim-F.Add a b) = binary Binary.Add a b
claim_level (Claim-F.Sub a b) = binary Binary.Sub a b
claim_level (Claim-F.Mul a b) = binary Binary.Mul a b
claim_level (Claim-F.Div a b) = binary Binary.Div a b
claim_level (Claim-F.Rem a b) = binary Binary.Rem a b
claim_level (Claim-F.And a b) = binary Binary.And a b
claim_level (Claim-F.Or a b) = binary Binary.Or a b
claim_level (Claim-F.Imply a b) = binary Binary.Imply a b
claim_level (Claim-F.Eq a b) = binary Binary.Eq a b
claim_level (Claim-F.Lt a b) = binary Binary.Lt a b
claim_level (Claim-F.Le a b) = binary Binary.Le a b
claim_level (Claim-F.Size a) = unary Unary.Size a
claim_level (Claim-F.Read a b) = binary Binary.Read a b
claim_level (Claim-F.Update a i x) = update a i x
claim_level (Claim-F.Append a b) = binary Binary.Append a b
claim_level (Claim-F.SeqLit s ts) = listed (sequence_of (value_type s)) (trees_of ts)
claim_level (Claim-F.Rec n ts) = listed (record_of n) (trees_of ts)
claim_level (Claim-F.Field a k) = unary (Unary.Field k) a
claim_level (Claim-F.All low high body) = quantified Quantifier.All low high body
claim_level (Claim-F.Exists low high body) = quantified Quantifier.Exists low high body
claim_level (Claim-F.LetSym label) = name (let_symbol label)

unfoldable pub claim_tree : Claim → Tree (ClaimName ℕ)
claim_tree = fold-Claim (ClaimTree ℕ) claim_level

abbrev pub claim_trees : List Claim → Trees (ClaimName ℕ)
claim_trees ts = trees_of (map claim_tree ts)
