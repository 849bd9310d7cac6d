-- Claims of the typed program, as those of the text that they are made from.
use Rattle.std.specs.Prelude.{◌≡◌, ℕ, pos, List, [], ◌∷◌, map}
use Rattle.slang_values.specs.Tree.{literal, binary, listed, record_of}
use Rattle.slang_values.specs.declared.operators.Binary.{Binary}
use Rattle.slang_tree.specs.declared.expression.Expr.{Expr}
use Rattle.slang_tree.specs.ExprTree.{expr_tree}
use Rattle.program_trees.specs.Claims.{ClaimTree, renamed_claim}
use Rattle.program_trees.specs.Variables.{Variable}
use Rattle.lk_claims.specs.declared.claim.Claim.{Claim}
use Rattle.lk_claims.specs.Claim.{claim_tree, trees_of}
use Rattle.lk_programs.specs.declared.program.RecordTy.{RecordTy}
use Rattle.type_rules.specs.Meanings.{Scope}
use Rattle.type_rules.specs.Expressions.{Context}
use Rattle.typed_texts.specs.Claims.{claim_of_tree}
use Rattle.name_scopes.specs.declared.scope.NameScope.{NameScope}
use Rattle.name_scopes.specs.Fits.{Fits}
use Rattle.typed_parts.specs.declared.heads.Head.{Head}
use Rattle.typed_parts.specs.declared.heads.Head.TheVariants as h
use Rattle.typed_names.specs.declared.variables.Numbering.{Numbering}
use Rattle.typed_names.specs.Variables.{number_in}
use Rattle.typed_names.specs.Fields.{HasFields}

-- over the numbers of variables
abbrev pub numbered : Numbering → ClaimTree Variable → ClaimTree ℕ
numbered numbers claim = renamed_claim (number_in numbers) claim

-- The claim is this one at each place of the text that the scope fits.
pub record IsClaim (records : List RecordTy) (numbers : Numbering) (known : NameScope) (it : Scope → ClaimTree Variable) (claim : Claim) : Type 0 where
  pub is : (at : Scope) → Fits known at → HasFields records at → claim_tree claim ≡ numbered numbers (it at)

-- The claims are those of these expressions, one by one.
pub record AreClaims (records : List RecordTy) (numbers : Numbering) (known : NameScope) (context : Context) (exprs : List Expr) (claims : List Claim) :
    Type 0 where
  pub are : (at : Scope) → Fits known at → HasFields records at →
      map claim_tree claims ≡ map (λ (e : Expr). numbered numbers (claim_of_tree at context (expr_tree e))) exprs

-- ---- a head that is applied to arguments

abbrev pub first_tree : List (ClaimTree ℕ) → ClaimTree ℕ
first_tree [] = literal (pos 0)
first_tree (tree ∷ trees) = tree

abbrev pub applied_tree : Head → ClaimTree ℕ → List (ClaimTree ℕ) → ClaimTree ℕ
applied_tree h.Value head parts = binary Binary.Read head (first_tree parts)
applied_tree (h.Record number) head parts = listed (record_of number) (trees_of parts)
applied_tree (h.Method number) head parts = literal (pos 0)
