use Rattle.std.proofs.Common.{◌&&◌, ◌∙◌}
use Rattle.slang_values.specs.declared.operators.Binary.{Binary}
use Rattle.term_trees.specs.Term.{tree}
use Rattle.deduction_rules.specs.Replacement.{same_tree}
use Rattle.deduction_rules.specs.Rules as rule
use Rattle.rule_check.proofs.forms.between.Goals as goal

pub returns-then-is_below : goal.returns-then-is_below
returns-then-is_below c = λ test.
    c.in-Some.ensures (λ l t. rule.is_joined Binary.Lt (λ u h. same_tree (tree c.args.low.now) l && same_tree t u && same_tree (tree c.args.high.now) h && test t) (tree c.args.below.now)) ∙
    c.if-is_below.ensures (test (tree c.in-Some.t.now))

pub returns-else-is_below : goal.returns-else-is_below
returns-else-is_below c = λ test.
    c.in-Some.ensures (λ l t. rule.is_joined Binary.Lt (λ u h. same_tree (tree c.args.low.now) l && same_tree t u && same_tree (tree c.args.high.now) h && test t) (tree c.args.below.now)) ∙
    c.if-is_below.ensures (test (tree c.in-Some.t.now))
