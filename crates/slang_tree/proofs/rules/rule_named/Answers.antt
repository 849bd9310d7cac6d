use Rattle.std.proofs.Common.{List, ap, ◌∙◌}
use Rattle.slang_tree.specs.Rules.{NamedRule, named_in}
use Rattle.slang_tree.proofs.Rows.{rows_are}
use Rattle.slang_tree.proofs.rules.rule_named.Goals as goal

pub returns : goal.returns
returns c = c.named_in.ensures ∙ ap (λ (rows : List NamedRule). named_in rows c.args.name.now) rows_are
