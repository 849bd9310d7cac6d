use Rattle.std.proofs.Common.{Some, map, ap, ◌∙◌, sym}
use Rattle.std.specs.Option.{option_map}
use Rattle.slang_tree.specs.StmtTree as s
use Rattle.slang_tokens.specs.Tok.{tok}
use Rattle.token_cursor.specs.Outcome.{outcome, stuck}
use Rattle.token_cursor.specs.Gives.{ahead}
use Rattle.token_cursor.specs.Lists.{begins, behind}
use Rattle.token_cursor.proofs.Steps.{goes}
use Rattle.statement_parser.specs.Heads.{behind_stmt_head}
use Rattle.token_cursor.proofs.Steps.{stays}
use Rattle.statement_parser.proofs.ReadStmts.{stmt_begins}
use Rattle.statement_parser.proofs.statements.begin_stmt.Goals as goal

pub returns-clause-reads : goal.returns-clause-reads
returns-clause-reads c = λ from at x.
    let all = ahead c.args.tokens.now in
    let token = tok c.in-Some.token.now in
    let to = behind_stmt_head at token c.in-Some-stmt_head_of.head in
    goes from to token (behind all) all c.in-Some.ensures
    (x.step token (behind all) c.in-Some.ensures ∙ stmt_begins at token ∙ ap (λ o. option_map (behind_stmt_head at token) o) (sym c.in-Some-stmt_head_of.ensures))
    ∙ ap (outcome to) (sym c.advance.ensures)

pub returns-in_default-stmt_head_of-clause-refused : goal.returns-in_default-stmt_head_of-clause-refused
returns-in_default-stmt_head_of-clause-refused c = λ from at x.
    let all = ahead c.args.tokens.now in
    let token = tok c.in-Some.token.now in
    stays from token (behind all) all c.in-Some.ensures
    (x.step token (behind all) c.in-Some.ensures ∙ stmt_begins at token
    ∙ ap (λ o. option_map (behind_stmt_head at token) o) (sym c.stmt_head_of.ensures ∙ c.in_default-stmt_head_of.is))
    ∙ ap (stuck all) x.no_other
