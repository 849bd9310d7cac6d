use Rattle.std.proofs.Common.{◌≡◌, ◌≤◌, true, cond, length}
use Rattle.slang_machine.specs.States.{NamesOf, first_name}
use Rattle.slang_machine.specs.Statements.{end_names}
use Rattle.token_cursor.specs.Outcome.{outcome}
use Rattle.token_cursor.specs.Gives.{ahead}
use Rattle.statement_parser.specs.Expects.{NoEnd}
use Rattle.statement_parser.proofs.Lists.{name_state}
use Rattle.statement_parser.proofs.clauses.add_names.Given as goal

-- the members so far are read, and the list goes on or is over
abbrev pub invariant-members : goal.invariant-members
invariant-members l = record {
  reads : (of : NamesOf) → outcome (first_name of) (ahead l.fn.tokens) ≡ outcome (cond l.more (name_state l.list of) (end_names l.list of)) (ahead l.tokens);
  due : l.more ≡ true → NoEnd l.list (ahead l.tokens);
  no_longer : length (ahead l.tokens) ≤ length (ahead l.fn.tokens);
}

abbrev pub decreases-members : goal.decreases-members
decreases-members l = length (ahead l.tokens)
