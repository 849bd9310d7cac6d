use Rattle.std.proofs.Common.{refl}
use Rattle.std.proofs.lemmas.Result.{IfOk-weaker}
use Rattle.term_trees.specs.Term.{tree}
use Rattle.lk_terms.proofs.SubstitutionKeepsValues.{KeepsValues-substituted}
use Rattle.lk_terms.proofs.substitution.substitute.Goals as goal

pub returns-clause-tree : goal.returns-clause-tree
returns-clause-tree c = IfOk-weaker c.substitute_at.result _ _ (λ t h. h.at c.args.bound refl) c.substitute_at.ensures

pub returns-clause-keeps_values : goal.returns-clause-keeps_values
returns-clause-keeps_values c = IfOk-weaker c.substitute_at.result _ _
    (λ t h. KeepsValues-substituted c.args.bound (tree c.args.by.now) (tree c.args.term.now) (tree t) c.requires (h.at c.args.bound refl))
    c.substitute_at.ensures
