use Rattle.std.proofs.Common.{◌≡◌, ◌++◌, map, take}
use Rattle.lk_programs.specs.Expr.{typed_expr}
use Rattle.program_trees.specs.Programs.{renamed_expr}
use Rattle.leg_rules.specs.Checks.{argument_demands}
use Rattle.leg_rules.specs.Legs.{demanded}
use Rattle.leg_items.specs.Drafts.{items_of}
use Rattle.leg_items.specs.Names.{kind_of}
use Rattle.call_items.proofs.call.add_all_demanded.Given as goal

abbrev pub invariant-loop-expr : goal.invariant-loop-expr
invariant-loop-expr l =
    items_of l.out ≡ items_of l.fn.out
    ++ demanded (argument_demands (map (λ expr. renamed_expr (kind_of l.scope) (typed_expr expr)) (take l.expr-index l.exprs)))
