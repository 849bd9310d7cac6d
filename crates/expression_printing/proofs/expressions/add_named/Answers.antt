use Rattle.std.proofs.Common.{codes, refl}
use Rattle.std.proofs.lemmas.Result.{on_ok_weaker}
use Rattle.slang_lexer.specs.declared.token.TokenKind.TheVariants as kind
use Rattle.slang_lexer.specs.Spelling.{signs, words}
use Rattle.print_expressions.specs.Bare.{nowhere}
use Rattle.print_layout.specs.Pieces.{none}
use Rattle.expression_printing.proofs.Adds.{adds_then, adds_text, adds_name}
use Rattle.expression_printing.proofs.expressions.add_named.Goals as goal

pub returns : goal.returns
unfolding signs words
returns c =
    on_ok_weaker c.add_text-2.result
    (λ h. adds_then (adds_text kind.LeftParen nowhere (codes "(") refl c.in_ok-add_text.ensures)
    (adds_then (adds_name none c.args.name.now c.in_ok-add_name.ensures) (adds_text kind.RightParen nowhere (codes ")") refl h))) c.add_text-2.ensures
