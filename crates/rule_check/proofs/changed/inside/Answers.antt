use Rattle.term_trees.specs.Term.{tree}
use Rattle.rule_check.proofs.Changing.{descends_bound_as, descends_each_as}
use Rattle.rule_check.proofs.changed.inside.Goals as goal

pub returns-in-Bound : goal.returns-in-Bound
returns-in-Bound c = λ elsewhere f makes.
    descends_bound_as c.args.change c.in-Bound.place c.place_inside.result c.in-Bound.by f (tree c.args.term.now) c.args.part c.in-Bound.is elsewhere makes c.place_inside.ensures

pub returns-in-Each : goal.returns-in-Each
returns-in-Each c = λ elsewhere f makes.
    descends_each_as c.args.change c.in-Each.old c.in-Each.by f (tree c.args.term.now) c.args.part c.in-Each.is elsewhere makes
