use Rattle.std.proofs.Common.{List, ap, ◌∙◌}
use Rattle.slang_grammar.specs.declared.operator.Infix.{Infix}
use Rattle.slang_grammar.specs.Operators.{infix_in}
use Rattle.expression_parser.proofs.Table.{rows_are, small_row}
use Rattle.expression_parser.proofs.operators.infix_of.Goals as goal

pub returns-clause-value : goal.returns-clause-value
returns-clause-value c = c.infix_in.ensures ∙ ap (λ (rows : List Infix). infix_in rows c.args.kind) rows_are

pub returns-clause-small : goal.returns-clause-small
returns-clause-small c =
    small_row c.args.kind c.infix_in.result (c.infix_in.ensures ∙ ap (λ (rows : List Infix). infix_in rows c.args.kind) rows_are)
