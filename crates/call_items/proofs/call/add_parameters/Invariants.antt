use Rattle.std.proofs.Common.{◌≡◌, ◌++◌, map, take}
use Rattle.lk_programs.specs.Expr.{typed_expr}
use Rattle.program_trees.specs.Programs.{renamed_expr}
use Rattle.leg_rules.specs.Legs.{parameter_items}
use Rattle.leg_items.specs.Drafts.{items_of}
use Rattle.leg_items.specs.Names.{kind_of}
use Rattle.call_items.proofs.call.add_parameters.Given as goal

abbrev pub invariant-loop-place : goal.invariant-loop-place
invariant-loop-place l =
    items_of l.out ≡ items_of l.fn.out
    ++ parameter_items l.call.node.0 l.call.method 0 (map (λ expr. renamed_expr (kind_of l.call.caller) (typed_expr expr)) (take l.place l.arguments))
