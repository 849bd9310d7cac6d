-- The claim of an expression, by the shapes of both.
use Rattle.std.proofs.Common.{◌≡◌, ℕ, List, [], ◌∷◌, map, refl, ap, ap₂, sym, ◌∙◌}
use Rattle.slang_values.specs.Tree.{Trees, no_trees, tree_then}
use Rattle.program_trees.specs.Claims.{ClaimName}
use Rattle.program_trees.specs.Programs.{claim_of, claims_of}
use Rattle.lk_claims.specs.declared.claim.Claim.{Claim}
use Rattle.lk_claims.specs.Claim.{claim_tree, claim_trees, trees_of}
use Rattle.lk_claims.proofs.Trees.{claim_tree-Lit, claim_tree-Var, claim_tree-SeqLit, claim_tree-Rec}
use Rattle.lk_programs.specs.declared.expression.Expr.{Expr}
use Rattle.lk_programs.specs.Expr.{typed_expr, typed_exprs, exprs_of}

-- claims that are those of the expressions, one after the other, are the claims of the list
pub claims_of_list : (es : List Expr) → trees_of (map (λ e. claim_of (typed_expr e)) es) ≡ claims_of (typed_exprs es)
claims_of_list [] = refl
claims_of_list (e ∷ es) = ap (tree_then (claim_of (typed_expr e))) (claims_of_list es)

pub claims_told : (cs : List Claim) (es : List Expr) → map claim_tree cs ≡ map (λ e. claim_of (typed_expr e)) es → claim_trees cs ≡ claims_of (typed_exprs es)
claims_told cs es e = ap trees_of e ∙ claims_of_list es

pub ruleset claim_lines = (claim_tree-Lit, claim_tree-Var, claim_tree-SeqLit, claim_tree-Rec, claims_told)
