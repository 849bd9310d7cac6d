use Rattle.std.proofs.Common.{◌≡◌, ◌≤◌, true, cond, length}
use Rattle.slang_tree.specs.declared.expression.Name.{Name}
use Rattle.slang_tree.specs.ExprTree.{ExprTree}
use Rattle.slang_machine.specs.Open.{Labelled}
use Rattle.slang_machine.specs.States.{cite_due, step_end}
use Rattle.slang_machine.specs.Statements.{with_line}
use Rattle.token_cursor.specs.Outcome.{outcome}
use Rattle.token_cursor.specs.Gives.{ahead}
use Rattle.statement_parser.specs.Expects.{NoEnd}
use Rattle.statement_parser.proofs.Lists.{cite_state}
use Rattle.statement_parser.proofs.labels.add_labels.Given as goal

-- the members so far are read, and the list goes on or is over
abbrev pub invariant-members : goal.invariant-members
invariant-members l = record {
  reads : (claim : ExprTree) (rule : Name) (at : Labelled) → outcome (cite_due claim rule at) (ahead l.fn.tokens) ≡ outcome (cond l.more (cite_state claim rule l.list at) (step_end (with_line claim rule l.list at) at.around)) (ahead l.tokens);
  due : l.more ≡ true → NoEnd l.list (ahead l.tokens);
  no_longer : length (ahead l.tokens) ≤ length (ahead l.fn.tokens);
}

abbrev pub decreases-members : goal.decreases-members
decreases-members l = length (ahead l.tokens)
