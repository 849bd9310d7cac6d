use Rattle.type_rules.specs.Meanings.{meaning_of}
use Rattle.typed_names.specs.Variables.{kind_seen}
use Rattle.target_making.proofs.Named.{none_meant, some_meant}
use Rattle.target_making.proofs.targets.variable_meant.Goals as goal

pub returns-in-None : goal.returns-in-None
returns-in-None c = λ at fits. none_meant (meaning_of at c.args.name.now) (c.in-None.ensures at fits)

pub returns-in-Some : goal.returns-in-Some
returns-in-Some c = λ at fits. some_meant (meaning_of at c.args.name.now) (kind_seen c.in-Some.variable) (c.in-Some.ensures at fits)
