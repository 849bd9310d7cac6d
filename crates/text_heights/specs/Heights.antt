-- How high the expressions and the constants of a text are.
use Rattle.std.specs.Prelude.{ℕ, ◌+◌, max}
use Rattle.slang_tree.specs.ExprTree.{ExprTree, ExprTrees, no_exprs, expr_then}
use Rattle.slang_tree.specs.ExprTree as e
use Rattle.slang_tree.specs.DeclTree.{ConstTree, const_number, const_minus, const_truth, const_falsity, const_sequence, const_record, ConstTrees, no_consts, const_then}

abbrev mutual
  -- 1 where the expression has no parts, and else one more than the highest part
  pub text_height : ExprTree → ℕ
  text_height (e.number place z) = 1
  text_height (e.truth place) = 1
  text_height (e.falsity place) = 1
  text_height (e.name text place) = 1
  text_height (e.result place ty) = 1
  text_height (e.entry_value place written) = 1
  text_height (e.old_value place written) = 1
  text_height (e.minus place operand) = text_height operand + 1
  text_height (e.negation place operand) = text_height operand + 1
  text_height (e.binary place operator left right) = max (text_height left) (text_height right) + 1
  text_height (e.application place head arguments) = max (text_height head) (greatest_height arguments) + 1
  text_height (e.update place head index element) = max (max (text_height head) (text_height index)) (text_height element) + 1
  text_height (e.field place head written) = text_height head + 1
  text_height (e.sequence place ty elements) = greatest_height elements + 1
  text_height (e.quantified place quantifier low high named body) = max (max (text_height low) (text_height high)) (text_height body) + 1
  text_height (e.quantified_indices place quantifier head named body) = max (text_height head) (text_height body) + 1

  pub greatest_height : ExprTrees → ℕ
  greatest_height no_exprs = 0
  greatest_height (expr_then tree trees) = max (text_height tree) (greatest_height trees)

abbrev mutual
  -- the same of a constant; a minus stands in front of a part
  pub const_height : ConstTree → ℕ
  const_height (const_number place z) = 1
  const_height (const_minus place digits z) = 2
  const_height (const_truth place) = 1
  const_height (const_falsity place) = 1
  const_height (const_sequence place ty elements) = greatest_const elements + 1
  const_height (const_record written fields) = greatest_const fields + 1

  pub greatest_const : ConstTrees → ℕ
  greatest_const no_consts = 0
  greatest_const (const_then tree trees) = max (const_height tree) (greatest_const trees)
