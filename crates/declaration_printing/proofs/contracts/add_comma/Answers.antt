use Rattle.std.proofs.Common.{codes, refl, sym, subst}
use Rattle.std.proofs.lemmas.Result.{on_ok_weaker}
use Rattle.slang_lexer.specs.declared.token.TokenKind.TheVariants as kind
use Rattle.slang_lexer.specs.Spelling.{signs, words}
use Rattle.print_expressions.specs.Bare.{nowhere}
use Rattle.expression_printing.specs.Printed.{Adds}
use Rattle.expression_printing.proofs.Adds.{adds_none, adds_text}
use Rattle.declaration_printing.specs.Printed.{comma_unless}
use Rattle.declaration_printing.proofs.contracts.add_comma.Goals as goal

pub returns-then-first : goal.returns-then-first
returns-then-first c = subst (λ f. Adds c.args.text.now.items c.args.text.now.items (comma_unless f)) (sym c.if-first.true) adds_none

pub returns-else-first : goal.returns-else-first
unfolding signs words
returns-else-first c =
    on_ok_weaker c.add_text.result
    (λ h. subst (λ f. Adds c.args.text.now.items c.add_text.new.text.items (comma_unless f)) (sym c.if-first.false)
    (adds_text kind.Comma nowhere (codes ",") refl h)) c.add_text.ensures
