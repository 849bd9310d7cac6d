use Rattle.std.proofs.Common.{◌≡◌, map, refl, ap, ◌∙◌, sym}
use Rattle.slang_lexer.specs.declared.token.TokenKind.TheVariants as kind
use Rattle.slang_tree.specs.ExprTree.{expr_tree, exprs_of}
use Rattle.slang_tree.specs.StmtTree as s
use Rattle.slang_tree.specs.StmtTree.{stmt_tree}
use Rattle.slang_tokens.specs.Tok.{tok}
use Rattle.slang_machine.specs.Open.{alone, assigned_to, with_stmt}
use Rattle.slang_machine.specs.States.{want, name_seen}
use Rattle.slang_machine.specs.Statements.{after_stmt}
use Rattle.token_cursor.specs.Outcome.{outcome}
use Rattle.token_cursor.specs.Gives.{ahead}
use Rattle.token_cursor.specs.Lists.{begins}
use Rattle.token_cursor.proofs.Exits.{built, refused_by}
use Rattle.statement_parser.proofs.Reading.{with_end}
use Rattle.statement_parser.proofs.ReadStmts.{ends_stmt, assigns}
use Rattle.statement_parser.proofs.statements.named.Goals as goal

pub returns-then-take-clause-reads : goal.returns-then-take-clause-reads
returns-then-take-clause-reads c =
    built c.assignment_of.result c.expression.result (λ made read. stmt_tree made ≡ s.assignment c.args.name (expr_tree read)) _ _ c.assignment_of.ensures.made (with_end c.expression.result _ _ c.expression.ensures.reads c.expression.ensures.stops) (λ made read reads same at.
    assigns c.args.name at (ahead c.args.tokens.now) (sym c.take.ensures.found ∙ c.if-take.true)
    ∙ ap (outcome (want (alone (assigned_to c.args.name at)))) (sym c.if-take.ensures.moved)
    ∙ reads.0 (alone (assigned_to c.args.name at)) refl refl
    ∙ ends_stmt (expr_tree read) (assigned_to c.args.name at) (with_stmt at (s.assignment c.args.name (expr_tree read))) _ reads.1 (λ token. refl)
    ∙ ap (λ tree. outcome (after_stmt (with_stmt at tree)) (ahead c.expression.new.tokens)) (sym same))

pub returns-then-take-clause-refused : goal.returns-then-take-clause-refused
returns-then-take-clause-refused c =
    refused_by c.assignment_of.result c.expression.result _ _ c.assignment_of.ensures.refused c.expression.ensures.refused (λ due none at.
    assigns c.args.name at (ahead c.args.tokens.now) (sym c.take.ensures.found ∙ c.if-take.true)
    ∙ ap (outcome (want (alone (assigned_to c.args.name at)))) (sym c.if-take.ensures.moved)
    ∙ none (alone (assigned_to c.args.name at)) refl refl)

pub returns-clause-reads : goal.returns-clause-reads
returns-clause-reads c =
    built c.call_of.result c.arguments.result (λ made read. stmt_tree made ≡ s.call c.args.name (exprs_of (map expr_tree read))) _ _ c.call_of.ensures.made c.arguments.ensures.reads (λ made read reads same at.
    ap (outcome (name_seen c.args.name at)) (sym c.if-take.ensures.moved)
    ∙ reads c.args.name at (ap (begins kind.Equals) c.if-take.ensures.moved ∙ sym c.take.ensures.found ∙ c.if-take.false)
    ∙ ap (λ tree. outcome (after_stmt (with_stmt at tree)) (ahead c.arguments.new.tokens)) (sym same))

pub returns-clause-refused : goal.returns-clause-refused
returns-clause-refused c =
    refused_by c.call_of.result c.arguments.result _ _ c.call_of.ensures.refused c.arguments.ensures.refused (λ due none at.
    ap (outcome (name_seen c.args.name at)) (sym c.if-take.ensures.moved)
    ∙ none c.args.name at (ap (begins kind.Equals) c.if-take.ensures.moved ∙ sym c.take.ensures.found ∙ c.if-take.false))
