use Rattle.std.proofs.Common.{◌≡◌, refl, ap, ◌∙◌, sym}
use Rattle.slang_tree.specs.ExprTree.{expr_tree}
use Rattle.slang_tree.specs.DeclTree.{return_tree}
use Rattle.slang_tokens.specs.Tok.{tok}
use Rattle.slang_machine.specs.Open.{alone, returned}
use Rattle.slang_machine.specs.States.{want, part_end}
use Rattle.token_cursor.specs.Outcome.{outcome}
use Rattle.token_cursor.specs.Gives.{ahead}
use Rattle.token_cursor.specs.Lists.{behind}
use Rattle.token_cursor.proofs.Exits.{built, refused_by}
use Rattle.statement_parser.proofs.Reading.{with_end}
use Rattle.method_parser.specs.Bodies.{returned_to}
use Rattle.method_parser.proofs.ReadBodies.{return_comes, ends_return}
use Rattle.method_parser.proofs.bodies.return_value.Goals as goal

pub returns-clause-reads : goal.returns-clause-reads
returns-clause-reads c =
    let place = c.in-Some.token.now.place in
    built c.return_of.result c.expression.result (λ made read. return_tree made ≡ record { place = place; value = expr_tree read }) _ _ c.return_of.ensures.made (with_end c.expression.result _ _ c.expression.ensures.reads c.expression.ensures.stops) (λ made read reads same least draft o h.
    return_comes least draft (tok c.in-Some.token.now) (behind (ahead c.args.tokens.now)) (ahead c.args.tokens.now) c.in-Some.ensures o h
    ∙ ap (outcome (want (alone (returned place draft)))) (sym c.advance.ensures)
    ∙ reads.0 (alone (returned place draft)) refl refl
    ∙ ends_return (expr_tree read) place draft _ reads.1
    ∙ ap (λ r. outcome (part_end 3 (returned_to draft r)) (ahead c.expression.new.tokens)) (sym same))

pub returns-clause-refused : goal.returns-clause-refused
returns-clause-refused c =
    let place = c.in-Some.token.now.place in
    refused_by c.return_of.result c.expression.result _ _ c.return_of.ensures.refused c.expression.ensures.refused (λ due none least draft o h.
    return_comes least draft (tok c.in-Some.token.now) (behind (ahead c.args.tokens.now)) (ahead c.args.tokens.now) c.in-Some.ensures o h
    ∙ ap (outcome (want (alone (returned place draft)))) (sym c.advance.ensures)
    ∙ none (alone (returned place draft)) refl refl)
