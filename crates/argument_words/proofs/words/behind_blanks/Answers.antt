use Rattle.std.proofs.Common.{sym, subst, ap, ◌∙◌}
use Rattle.std.specs.List.{prefix_len}
use Rattle.argument_rules.specs.Words.{is_blank}
use Rattle.argument_words.specs.Words.{IsBehindBlanks}
use Rattle.argument_words.proofs.Blanks.{blanks_cut, behind_there}
use Rattle.argument_words.proofs.words.behind_blanks.Goals as goal

pub range_from-requires : goal.range_from-requires
range_from-requires c = λ some.
    blanks_cut c.args.text.now c.blanks_len.result c.utf8.text (c.blanks_len.ensures ∙ ap (prefix_len is_blank) c.as_bytes.ensures.value)

pub returns : goal.returns
returns c =
    subst (IsBehindBlanks c.args.text.now) (sym c.range_from.ensures.value)
    (behind_there c.args.text.now c.blanks_len.result (c.blanks_len.ensures ∙ ap (prefix_len is_blank) c.as_bytes.ensures.value))
