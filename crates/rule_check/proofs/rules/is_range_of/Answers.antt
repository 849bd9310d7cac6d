use Rattle.std.proofs.Common.{sym, ap, ◌∙◌}
use Rattle.slang_values.specs.Tree.{name}
use Rattle.term_trees.specs.Term.{tree}
use Rattle.term_trees.proofs.Trees.{tree-Symbol}
use Rattle.deduction_rules.specs.Replacement.{same_tree}
use Rattle.rule_check.proofs.rules.is_range_of.Goals as goal

pub returns-in-Some : goal.returns-in-Some
returns-in-Some c =
    c.same.ensures ∙ ap (λ s. same_tree s (tree c.in-Some.t.now)) (tree-Symbol c.args.symbol) ∙ sym (c.in-Some.ensures (same_tree (name c.args.symbol)))
