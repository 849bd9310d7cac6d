-- Trees without places: each place is the same.
use Rattle.std.specs.Option.{option_map}
use Rattle.slang_tree.specs.declared.place.Place.{Place}
use Rattle.slang_tree.specs.declared.expression.Name.{Name}
use Rattle.slang_tree.specs.TypeTree.{TypeTree, z_name, b_name, unit_name, sequence_name, record_name}
use Rattle.slang_tree.specs.ExprTree.{ExprTree, ExprTrees, no_exprs, expr_then}
use Rattle.slang_tree.specs.ExprTree as e

-- the place of every part of a tree without places
abbrev pub nowhere : Place
nowhere = record { line = 0; col = 0 }

abbrev pub bare_name : Name → Name
bare_name written = record { text = written.text; place = nowhere }

abbrev pub bare_type : TypeTree → TypeTree
bare_type (z_name place) = z_name nowhere
bare_type (b_name place) = b_name nowhere
bare_type (unit_name place) = unit_name nowhere
bare_type (sequence_name place element) = sequence_name nowhere (bare_type element)
bare_type (record_name written) = record_name (bare_name written)

abbrev mutual
  pub bare_expr : ExprTree → ExprTree
  bare_expr (e.number place z) = e.number nowhere z
  bare_expr (e.truth place) = e.truth nowhere
  bare_expr (e.falsity place) = e.falsity nowhere
  bare_expr (e.name text place) = e.name text nowhere
  bare_expr (e.result place ty) = e.result nowhere (option_map bare_type ty)
  bare_expr (e.entry_value place written) = e.entry_value nowhere (bare_name written)
  bare_expr (e.old_value place written) = e.old_value nowhere (bare_name written)
  bare_expr (e.minus place operand) = e.minus nowhere (bare_expr operand)
  bare_expr (e.negation place operand) = e.negation nowhere (bare_expr operand)
  bare_expr (e.binary place operator left right) = e.binary nowhere operator (bare_expr left) (bare_expr right)
  bare_expr (e.application place head arguments) = e.application nowhere (bare_expr head) (bare_exprs arguments)
  bare_expr (e.update place head index element) = e.update nowhere (bare_expr head) (bare_expr index) (bare_expr element)
  bare_expr (e.field place head written) = e.field nowhere (bare_expr head) (bare_name written)
  bare_expr (e.sequence place ty elements) = e.sequence nowhere (option_map bare_type ty) (bare_exprs elements)
  bare_expr (e.quantified place quantifier low high variable body) =
      e.quantified nowhere quantifier (bare_expr low) (bare_expr high) (bare_name variable) (bare_expr body)
  bare_expr (e.quantified_indices place quantifier head variable body) =
      e.quantified_indices nowhere quantifier (bare_expr head) (bare_name variable) (bare_expr body)

  pub bare_exprs : ExprTrees → ExprTrees
  bare_exprs no_exprs = no_exprs
  bare_exprs (expr_then tree trees) = expr_then (bare_expr tree) (bare_exprs trees)
