use Rattle.std.proofs.Common.{◌≡◌, map, take}
use Rattle.slang_tree.specs.ExprTree.{expr_tree}
use Rattle.type_rules.specs.Meanings.{Scope}
use Rattle.type_rules.specs.Statements.{claims_faults}
use Rattle.type_faults.specs.FirstFault.{with_first}
use Rattle.name_scopes.specs.Fits.{Fits}
use Rattle.expression_forms.specs.Context.{context_seen}
use Rattle.claim_judging.proofs.claiming.claims.Given as goal

-- The claims so far were judged, and the scope is the one before them.
abbrev pub invariant-loop-expr : goal.invariant-loop-expr
invariant-loop-expr l =
    ((at : Scope) → Fits l.fn.scope at → l.told.found ≡ with_first l.fn.told.found (claims_faults at (context_seen l.context) (map expr_tree (take l.expr-index l.exprs))))
    × (l.scope ≡ l.fn.scope)
