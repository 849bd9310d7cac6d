use Rattle.std.proofs.Common.{◌≡◌, map, refl, ap, ◌∙◌, sym}
use Rattle.std.specs.Option.{option_map}
use Rattle.slang_tree.specs.TypeTree.{type_tree}
use Rattle.slang_tree.specs.ExprTree.{expr_tree}
use Rattle.slang_tree.specs.StmtTree as s
use Rattle.slang_tree.specs.StmtTree.{stmt_tree}
use Rattle.slang_tokens.specs.Tok.{tok}
use Rattle.slang_grammar.specs.Statements.{value_tree}
use Rattle.slang_machine.specs.Open.{alone, value_of, with_stmt}
use Rattle.slang_machine.specs.Statements.{after_stmt}
use Rattle.token_cursor.specs.Outcome.{outcome}
use Rattle.token_cursor.specs.Gives.{ahead}
use Rattle.token_cursor.proofs.Exits.{passed_on, built, refused_by}
use Rattle.statement_parser.proofs.Reading.{with_end}
use Rattle.statement_parser.proofs.ReadStmts.{ends_stmt}
use Rattle.statement_parser.proofs.statements.value.Goals as goal

pub returns-in_err-name-clause-refused : goal.returns-in_err-name-clause-refused
returns-in_err-name-clause-refused c =
    passed_on c.from_residual.result _ _ _ c.from_residual.ensures.1 c.in_err-name.ensures.refused (λ due none at. none c.args.fixed c.args.place at)

pub returns-clause-reads : goal.returns-clause-reads
returns-clause-reads c =
    let fixed = c.args.fixed in
    let place = c.args.place in
    let name = c.in_ok-name.name in
    let ty = option_map type_tree c.in_ok-name.ty in
    built c.value_of.result c.expression.result (λ made read. stmt_tree made ≡ value_tree fixed place name ty (expr_tree read)) _ _ c.value_of.ensures.made (with_end c.expression.result _ _ c.expression.ensures.reads c.expression.ensures.stops) (λ made read reads same at.
    c.in_ok-name.ensures.reads fixed place at
    ∙ reads.0 (alone (value_of fixed place name ty at)) refl refl
    ∙ ends_stmt (expr_tree read) (value_of fixed place name ty at) (with_stmt at (value_tree fixed place name ty (expr_tree read))) _ reads.1 (λ token. refl)
    ∙ ap (λ tree. outcome (after_stmt (with_stmt at tree)) (ahead c.expression.new.tokens)) (sym same))

pub returns-clause-refused : goal.returns-clause-refused
returns-clause-refused c =
    let fixed = c.args.fixed in
    let place = c.args.place in
    let name = c.in_ok-name.name in
    let ty = option_map type_tree c.in_ok-name.ty in
    refused_by c.value_of.result c.expression.result _ _ c.value_of.ensures.refused c.expression.ensures.refused (λ due none at.
    c.in_ok-name.ensures.reads fixed place at
    ∙ none (alone (value_of fixed place name ty at)) refl refl)
