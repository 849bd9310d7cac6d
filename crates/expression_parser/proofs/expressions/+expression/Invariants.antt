use Rattle.std.proofs.Common.{◌+◌, ◌*◌, ◌<◌, ◌≤◌, ◌≡◌, true, false, cond, List, map, length}
use Rattle.slang_tree.specs.ExprTree.{expr_tree}
use Rattle.slang_machine.specs.Open.{Around, held}
use Rattle.slang_machine.specs.States.{whole, want, have}
use Rattle.token_cursor.specs.Outcome.{outcome}
use Rattle.token_cursor.specs.Gives.{ahead}
use Rattle.expression_parser.specs.Below.{ends_operand}
use Rattle.expression_parser.specs.Expects.{ExprList, ReadsExprs}
use Rattle.expression_parser.specs.Forms.{operand_form}
use Rattle.expression_parser.proofs.expressions.+expression.Given as goal

-- The tokens that are left, and among calls that begin at one token, which calls which.

abbrev pub decreases-operand : goal.decreases-operand
decreases-operand l = 4 * length (ahead l.tokens.now)

abbrev pub decreases-operators : goal.decreases-operators
decreases-operators l = 4 * length (ahead l.tokens.now)

abbrev pub decreases-post : goal.decreases-post
decreases-post l = 4 * length (ahead l.tokens.now)

abbrev pub decreases-quantified : goal.decreases-quantified
decreases-quantified l = 4 * length (ahead l.tokens.now)

abbrev pub decreases-sequence_value : goal.decreases-sequence_value
decreases-sequence_value l = 4 * length (ahead l.tokens.now)

abbrev pub decreases-add_arguments : goal.decreases-add_arguments
decreases-add_arguments l = 4 * length (ahead l.tokens.now)

abbrev pub decreases-upper_bound : goal.decreases-upper_bound
decreases-upper_bound l = 4 * length (ahead l.tokens.now)

abbrev pub decreases-expression : goal.decreases-expression
decreases-expression l = 4 * length (ahead l.tokens.now) + 1

abbrev pub decreases-bounds : goal.decreases-bounds
decreases-bounds l = 4 * length (ahead l.tokens.now) + 1

abbrev pub decreases-range : goal.decreases-range
decreases-range l = 4 * length (ahead l.tokens.now) + 1

abbrev pub decreases-bound_range : goal.decreases-bound_range
decreases-bound_range l = 4 * length (ahead l.tokens.now) + 2

abbrev pub decreases-closed_expression : goal.decreases-closed_expression
decreases-closed_expression l = 4 * length (ahead l.tokens.now) + 2

abbrev pub decreases-brackets : goal.decreases-brackets
decreases-brackets l = 4 * length (ahead l.tokens.now) + 2

abbrev pub decreases-add_exprs : goal.decreases-add_exprs
decreases-add_exprs l = 4 * length (ahead l.tokens.now) + 2

abbrev pub decreases-head_expr : goal.decreases-head_expr
decreases-head_expr l = 4 * length (ahead l.tokens.now) + 3

abbrev pub decreases-exprs : goal.decreases-exprs
decreases-exprs l = 4 * length (ahead l.tokens.now) + 3

-- the operands and operators so far are one operand
abbrev pub invariant-operators-operators : goal.invariant-operators-operators
invariant-operators-operators l = record {
  reads : (around : Around) → held around ≡ l.before → outcome (have (whole (expr_tree l.fn.left)) around) (ahead l.fn.tokens)
      ≡ outcome (have (whole (expr_tree l.left)) around) (ahead l.tokens);
  ends : ends_operand (ahead l.tokens) ≡ true;
  no_longer : length (ahead l.tokens) ≤ length (ahead l.fn.tokens);
}

abbrev pub decreases-operators-operators : goal.decreases-operators-operators
decreases-operators-operators l = length (ahead l.tokens)

-- so are a head and what stands behind it so far
abbrev pub invariant-operand-posts : goal.invariant-operand-posts
invariant-operand-posts l = record {
  reads : (around : Around) → outcome (want around) (ahead l.fn.tokens) ≡ outcome (have (operand_form l.operand) around) (ahead l.tokens);
  shorter : length (ahead l.tokens) < length (ahead l.fn.tokens);
}

abbrev pub decreases-operand-posts : goal.decreases-operand-posts
decreases-operand-posts l = length (ahead l.tokens)

-- the expressions so far are read, and the list goes on or is over
abbrev pub invariant-add_exprs-members : goal.invariant-add_exprs-members
invariant-add_exprs-members l = record {
  reads : (all : ExprList) → ReadsExprs all (length l.fn.list) → outcome (all.member_or_end (map expr_tree l.fn.list)) (ahead l.fn.tokens)
      ≡ outcome (cond l.more (want (all.member (map expr_tree l.list))) (all.over (map expr_tree l.list))) (ahead l.tokens);
  grown : length l.fn.list ≤ length l.list;
  no_longer : length (ahead l.tokens) ≤ length (ahead l.fn.tokens);
  shorter : l.more ≡ false → length (ahead l.tokens) < length (ahead l.fn.tokens);
}

abbrev pub decreases-add_exprs-members : goal.decreases-add_exprs-members
decreases-add_exprs-members l = length (ahead l.tokens)
