use Rattle.std.proofs.Common.{refl}
use Rattle.term_trees.specs.Term.{tree}
use Rattle.substitution.specs.Substitution.{substituted}
use Rattle.rule_check.proofs.changed.is_instance.Goals as goal

pub returns : goal.returns
returns c = c.is_changed.ensures (substituted 0 (tree c.args.by.now)) (0, refl, λ t. refl)
