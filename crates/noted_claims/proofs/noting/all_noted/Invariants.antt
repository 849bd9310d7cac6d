use Rattle.std.proofs.Common.{◌≡◌, map, take}
use Rattle.slang_tree.specs.ExprTree.{expr_tree}
use Rattle.expression_forms.specs.Context.{context_seen}
use Rattle.typed_texts.specs.Code.{all_noted}
use Rattle.noted_claims.specs.Noted.{AreNoted}
use Rattle.noted_claims.proofs.noting.all_noted.Given as goal

-- The claims so far are noted, and the scope is the one before them.
abbrev pub invariant-loop-expr : goal.invariant-loop-expr
invariant-loop-expr l =
    AreNoted l.records l.numbers l.fn.scope l.fn.nodes l.nodes (λ at. all_noted at (context_seen l.context) (map expr_tree (take l.expr-index l.exprs)))
    l.made
    × (l.scope ≡ l.fn.scope)
