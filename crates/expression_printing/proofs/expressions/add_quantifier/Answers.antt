use Rattle.std.proofs.Common.{[], ◌∷◌, codes, refl, sym, subst}
use Rattle.std.proofs.lemmas.Result.{on_ok_weaker}
use Rattle.slang_lexer.specs.declared.token.TokenKind.TheVariants as kind
use Rattle.slang_lexer.specs.Spelling.{signs, words}
use Rattle.slang_grammar.specs.Expressions.{quantifier_kind}
use Rattle.print_expressions.specs.Bare.{nowhere}
use Rattle.print_expressions.specs.Accounts.{word_of}
use Rattle.print_layout.specs.Pieces.{mark}
use Rattle.token_printing.specs.Gaps.{gap_seen}
use Rattle.expression_printing.specs.Printed.{Adds}
use Rattle.expression_printing.proofs.Adds.{adds_word}
use Rattle.expression_printing.proofs.expressions.add_quantifier.Goals as goal

pub returns-in-All : goal.returns-in-All
unfolding signs words
returns-in-All c =
    on_ok_weaker c.add_word.result
    (λ h. subst (λ q. Adds c.args.text.now.items c.add_word.new.text.items (mark (gap_seen c.args.gap) (quantifier_kind (word_of q)) nowhere ∷ [])) (sym c.in-All.is)
    (adds_word (gap_seen c.args.gap) kind.All nowhere (codes "All") refl h)) c.add_word.ensures

pub returns-in-Exists : goal.returns-in-Exists
unfolding signs words
returns-in-Exists c =
    on_ok_weaker c.add_word-in-Exists.result
    (λ h. subst (λ q. Adds c.args.text.now.items c.add_word-in-Exists.new.text.items (mark (gap_seen c.args.gap) (quantifier_kind (word_of q)) nowhere ∷ [])) (sym c.in-Exists.is)
    (adds_word (gap_seen c.args.gap) kind.Exists nowhere (codes "Exists") refl h)) c.add_word-in-Exists.ensures
