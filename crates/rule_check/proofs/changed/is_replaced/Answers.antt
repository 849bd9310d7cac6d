use Rattle.std.proofs.Common.{refl}
use Rattle.term_trees.specs.Term.{tree}
use Rattle.deduction_rules.specs.Replacement.{replaced}
use Rattle.rule_check.proofs.changed.is_replaced.Goals as goal

pub returns : goal.returns
returns c = c.is_changed.ensures (replaced (tree c.args.old.now) (tree c.args.by.now)) (λ t. refl)
