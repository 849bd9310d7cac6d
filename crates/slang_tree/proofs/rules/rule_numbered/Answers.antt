use Rattle.std.proofs.Common.{List, ap, ◌∙◌}
use Rattle.slang_tree.specs.Rules.{NamedRule, numbered_in}
use Rattle.slang_tree.proofs.Rows.{rows_are}
use Rattle.slang_tree.proofs.rules.rule_numbered.Goals as goal

pub returns : goal.returns
returns c = c.numbered_in.ensures ∙ ap (λ (rows : List NamedRule). numbered_in rows c.args.number) rows_are
