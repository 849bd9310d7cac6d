use Rattle.std.proofs.Common.{ap, ◌∙◌, sym}
use Rattle.slang_tree.specs.declared.expression.Name.{Name}
use Rattle.slang_tokens.specs.Tok.{Tok, tok}
use Rattle.slang_machine.specs.Expressions.{name_of}
use Rattle.token_cursor.specs.Outcome.{outcome}
use Rattle.token_cursor.specs.Gives.{ahead}
use Rattle.token_cursor.specs.Lists.{behind}
use Rattle.token_cursor.proofs.Steps.{named}
use Rattle.token_cursor.proofs.words.name.Goals as goal

pub returns-clause-reads : goal.returns-clause-reads
returns-clause-reads c = λ from to x.
    let all = ahead c.args.tokens.now in
    let token = tok c.in-Some.token.now in
    named from to token (behind all) all x c.in-Some.ensures (sym c.is_name.ensures ∙ c.if-not-is_name.false)
    ∙ ap (outcome (to (name_of token))) (sym c.advance.ensures)
    ∙ ap (λ (n : Name). outcome (to n) (ahead c.advance.new.self)) (sym c.in_ok-name_of.ensures)
