use Rattle.std.proofs.Common.{ap, ◌∙◌, sym}
use Rattle.slang_tree.proofs.Lines.{expr_tree-In}
use Rattle.slang_machine.specs.States.{whole, have, entry_word}
use Rattle.token_cursor.specs.Outcome.{outcome}
use Rattle.token_cursor.specs.Gives.{ahead}
use Rattle.token_cursor.proofs.Exits.{passed_on}
use Rattle.expression_parser.proofs.expressions.entry_value.Goals as goal

pub returns-in_err-name-clause-refused : goal.returns-in_err-name-clause-refused
returns-in_err-name-clause-refused c =
    passed_on c.from_residual.result _ _ _ c.from_residual.ensures.1 c.in_err-name.ensures.refused (λ due none around. none entry_word c.args.place around)

pub returns-clause-reads : goal.returns-clause-reads
returns-clause-reads c = λ around.
    let more = ahead c.bracketed_name.new.tokens in
    c.in_ok-name.ensures.reads entry_word c.args.place around
    ∙ ap (λ x. outcome (have (whole x) around) more) (sym (expr_tree-In c.args.place c.in_ok-name.name))
