use Rattle.std.proofs.Common.{[], ◌∷◌, codes, refl, sym, subst}
use Rattle.std.proofs.lemmas.Result.{on_ok_weaker}
use Rattle.slang_lexer.specs.declared.token.TokenKind.TheVariants as kind
use Rattle.slang_lexer.specs.Spelling.{signs, words}
use Rattle.slang_grammar.specs.Statements.{value_word}
use Rattle.print_expressions.specs.Bare.{nowhere}
use Rattle.print_layout.specs.Pieces.{mark}
use Rattle.token_printing.specs.Gaps.{gap_seen}
use Rattle.expression_printing.specs.Printed.{Adds}
use Rattle.expression_printing.proofs.Adds.{adds_word}
use Rattle.statement_printing.proofs.parts.add_value_word.Goals as goal

pub returns-then-fixed : goal.returns-then-fixed
unfolding signs words
returns-then-fixed c =
    on_ok_weaker c.add_word.result
    (λ h. subst (λ f. Adds c.args.text.now.items c.add_word.new.text.items (mark (gap_seen c.args.gap) (value_word f) nowhere ∷ []))
    (sym c.if-fixed.true)
    (adds_word (gap_seen c.args.gap) kind.Val nowhere (codes "val") refl h)) c.add_word.ensures

pub returns-else-fixed : goal.returns-else-fixed
unfolding signs words
returns-else-fixed c =
    on_ok_weaker c.add_word-else-fixed.result
    (λ h. subst (λ f. Adds c.args.text.now.items c.add_word-else-fixed.new.text.items (mark (gap_seen c.args.gap) (value_word f) nowhere ∷ []))
    (sym c.if-fixed.false)
    (adds_word (gap_seen c.args.gap) kind.Var nowhere (codes "var") refl h)) c.add_word-else-fixed.ensures
